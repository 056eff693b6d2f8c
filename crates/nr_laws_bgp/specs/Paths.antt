-- What is asked of a path and of communities, in words of lists.
use Rattle.std.specs.Prelude.{◌≡◌, ℕ, true, false, List, [], ◌∷◌, ◌++◌, map, Any}
use Rattle.nr_spec_bgp.specs.Paths.{Segment, Hop, hops}

-- the first number of a segment of this type, and a later one
abbrev pub first_hop : ℕ → ℕ → Hop
first_hop kind n = record { segment = kind; starts = true; asn = n }

abbrev pub later_hop : ℕ → ℕ → Hop
later_hop kind n = record { segment = kind; starts = false; asn = n }

-- The numbers of a path in order, segment by segment, each with the type of its segment.
pub record AreInOrder : Type 0 where
  pub none : hops [] ≡ []
  pub segment : (kind n : ℕ) (numbers : List ℕ) (path : List Segment)
      → hops (record { kind = kind; numbers = n ∷ numbers } ∷ path)
      ≡ first_hop kind n ∷ (map (later_hop kind) numbers ++ hops path)

-- the number stands in some segment of the path
abbrev pub IsCrossed : ℕ → List Segment → Type 0
IsCrossed asn path = Any (λ s. Any (λ n. n ≡ asn) s.numbers) path
