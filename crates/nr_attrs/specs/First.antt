-- The first value of each type, which is what a view keeps of a block.
use Rattle.std.specs.Prelude.{◌≡◌, ℕ, ◌<◌, ◌^◌, Bool, true, List, length, Option, Some, None, IfSome, ◌==◌, if◌then◌else◌}
use Rattle.nr_spec_bgp.specs.Attributes.{Attribute, is_origin, is_path, is_word, is_words, first_of}

pub record FirstValues : Type 0 where
  pub origin : Option (List ℕ)
  pub path : Option (List ℕ)
  pub next_hop : Option (List ℕ)
  pub med : Option (List ℕ)
  pub pref : Option (List ℕ)
  pub communities : Option (List ℕ)

abbrev pub none_yet : FirstValues
none_yet = record { origin = None; path = None; next_hop = None; med = None; pref = None; communities = None }

-- the first stays; a value becomes the first only where it is one of its type
abbrev pub first_after : Bool → Option (List ℕ) → List ℕ → Option (Option (List ℕ))
first_after fine None value = if fine then Some (Some value) else None
first_after fine (Some old) value = Some (Some old)

abbrev pub put : (FirstValues → Option (List ℕ) → FirstValues)
    → FirstValues → Option (Option (List ℕ)) → Option FirstValues
put set v None = None
put set v (Some w) = Some (set v w)

abbrev pub set_origin : FirstValues → Option (List ℕ) → FirstValues
set_origin v w = record v { origin = w }

abbrev pub set_path : FirstValues → Option (List ℕ) → FirstValues
set_path v w = record v { path = w }

abbrev pub set_next_hop : FirstValues → Option (List ℕ) → FirstValues
set_next_hop v w = record v { next_hop = w }

abbrev pub set_med : FirstValues → Option (List ℕ) → FirstValues
set_med v w = record v { med = w }

abbrev pub set_pref : FirstValues → Option (List ℕ) → FirstValues
set_pref v w = record v { pref = w }

abbrev pub set_communities : FirstValues → Option (List ℕ) → FirstValues
set_communities v w = record v { communities = w }

-- with one more attribute, unless it is the first of its type and has no value of that type
abbrev pub seen_after : Bool → FirstValues → Attribute → Option FirstValues
seen_after as4 v a =
    if a.kind == 1 then put set_origin v (first_after (is_origin a.value) v.origin a.value) else
    (if a.kind == 2 then put set_path v (first_after (is_path as4 a.value) v.path a.value) else
    (if a.kind == 3 then put set_next_hop v (first_after (is_word a.value) v.next_hop a.value) else
    (if a.kind == 4 then put set_med v (first_after (is_word a.value) v.med a.value) else
    (if a.kind == 5 then put set_pref v (first_after (is_word a.value) v.pref a.value) else
    (if a.kind == 8 then put set_communities v (first_after (is_words a.value) v.communities a.value) else Some v)))))

-- what is kept of a list of attributes
pub record StandsFor (v : FirstValues) (list : List Attribute) : Type 0 where
  pub origin : v.origin ≡ first_of 1 list
  pub path : v.path ≡ first_of 2 list
  pub next_hop : v.next_hop ≡ first_of 3 list
  pub med : v.med ≡ first_of 4 list
  pub pref : v.pref ≡ first_of 5 list
  pub communities : v.communities ≡ first_of 8 list

-- each is a value of its type, and the path is short enough to be counted
pub record IsInRange (as4 : Bool) (v : FirstValues) : Type 0 where
  pub origin : IfSome v.origin (λ b. is_origin b ≡ true)
  pub path : IfSome v.path (λ b. (is_path as4 b ≡ true) × (length b < 2 ^ 16))
  pub next_hop : IfSome v.next_hop (λ b. is_word b ≡ true)
  pub med : IfSome v.med (λ b. is_word b ≡ true)
  pub pref : IfSome v.pref (λ b. is_word b ≡ true)
  pub communities : IfSome v.communities (λ b. is_words b ≡ true)
