-- Prefixes without repetition.
use Rattle.std.specs.Prelude.{Bool, false, ◌==◌, ◌&&◌, List, [], ◌∷◌, Option, None, Some, if◌then◌else◌, ℕ, map}
use Rattle.std.specs.Map.{keys_of}
use Rattle.nr_spec_bgp.specs.Prefixes.{Cidr}
use Rattle.nr_spec_routes.specs.Keys.{Key}

-- whether a prefix is the last one that was given
abbrev pub is_last : Option Cidr → Cidr → Bool
is_last None p = false
is_last (Some last) p = last.addr == p.addr && last.len == p.len

-- prefixes in order, without those that repeat the one before them
abbrev pub others : Option Cidr → List Cidr → List Cidr
others last [] = []
others last (p ∷ prefixes) = if is_last last p then others last prefixes else p ∷ others (Some p) prefixes

-- the prefixes of rows that name places
abbrev pub prefixes_of : List (Key × ℕ) → List Cidr
prefixes_of rows = map (λ (key : Key). key.prefix) (keys_of rows)
