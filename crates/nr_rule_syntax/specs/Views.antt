-- What a parser of the code answers.
use Rattle.std.specs.Prelude.{◌≡◌, ◌≤◌, ℕ, List, length, Result, Ok, Err}
use Rattle.nr_spec_rules.specs.Tokens.{Token}
use Rattle.nr_spec_rules.specs.Parsing.{Outcome}
use Rattle.nr_rule_syntax.specs.declared.fault.ParseError.{ParseError}
use Rattle.nr_rule_syntax.specs.declared.fault.ParseError.TheVariants.{At, Memory}

-- A result is what reading gives, and the tokens after it, or the place of its refusal. Want of memory says
-- nothing.
abbrev pub Fails : {A : Type 0} → ParseError → Result A ℕ → Type 0
Fails (At place) read = read ≡ Err place.0
Fails Memory read = Unit {0}

abbrev pub Reads : {A : Type 0} → Result A ParseError → List Token → Outcome A → Type 0
Reads (Ok x) new read = read ≡ Ok (x, new)
Reads (Err e) new read = Fails e read

-- The same for what reads the whole text.
abbrev pub Answers : {A : Type 0} → Result A ParseError → Result A ℕ → Type 0
Answers (Ok x) read = read ≡ Ok x
Answers (Err e) read = Fails e read

-- No more tokens are left than before.
abbrev pub AreNoMore : List Token → List Token → Type 0
AreNoMore old new = length new ≤ length old
