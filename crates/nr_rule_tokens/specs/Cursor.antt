-- What a cursor over tokens shows.
use Rattle.std.specs.Prelude.{◌+◌, List, [], ◌∷◌, length, if◌then◌else◌}
use Rattle.nr_spec_rules.specs.Tokens.{Token, goes_on, tokens_at}
use Rattle.nr_rule_tokens.specs.declared.tokens.Tokens.TheInside.{Inside}

abbrev pub tokens_in : Inside → List Token
tokens_in t =
    record { kind = t.kind; from = t.from; text = t.text.now }
    ∷ (if goes_on t.kind then tokens_at (t.from + length t.text.now) t.behind.now else [])
