-- What words ask for is what their values give.
use Rattle.std.proofs.Common.{◌≡◌, ℕ, List, Option, Some, ap}
use Rattle.nr_words.specs.Grammar.{Grammar, Values, values_in}
use Rattle.nr_spec_wire.specs.Optional.{◌>>=◌}
use Rattle.nr_spec_commands.specs.Words.{Request}

abbrev pub asked_for : {X : Type 0} → (X → Request) → Option X → Option Request
asked_for request found = found >>= λ asked. Some (request asked)

pub is_asked : {X : Type 0} (request : X → Request) (taken : Values → Option X) (grammar : Grammar) (given : Option Values) (words : List (List ℕ)) → given ≡ values_in grammar words
    → (given >>= λ values. asked_for request (taken values)) ≡ (values_in grammar words >>= λ values. asked_for request (taken values))
is_asked request taken grammar given words is = ap (λ (v : Option Values). v >>= λ values. asked_for request (taken values)) is
