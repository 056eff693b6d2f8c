-- What is demanded of a text, in the order of its tokens, and the first demand that isn't met.
use Rattle.std.specs.Prelude.{ℕ, Bool, List, [], ◌∷◌, Option, Some, None, if◌then◌else◌}
use Rattle.nr_spec_rules.specs.declared.span.Span.{Span}

-- a test, and the token at which the text is refused where it fails
pub record Demand : Type 0 where
  pub met : Bool
  pub at : Span

-- the place, where the test fails
abbrev pub unless : Bool → ℕ → Option ℕ
unless met place = if met then None else Some place

-- the first of two places, where there is one
abbrev pub or_else : Option ℕ → Option ℕ → Option ℕ
or_else (Some place) other = Some place
or_else None other = other

-- the place of the first demand that isn't met
abbrev pub first_unmet : List Demand → Option ℕ
first_unmet [] = None
first_unmet (d ∷ demands) = or_else (unless d.met d.at.from) (first_unmet demands)
