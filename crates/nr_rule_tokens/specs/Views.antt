-- What this crate's values stand for in the definitions.
use Rattle.std.specs.Prelude.{ℕ, List, Option}
use Rattle.std.specs.Borrow.{Bor}
use Rattle.std.specs.Option.{option_map}

-- two parts of a text
abbrev pub parts_of : Option (Bor (List ℕ) × Bor (List ℕ)) → Option (List ℕ × List ℕ)
parts_of = option_map (λ parts. (parts.0.now, parts.1.now))
