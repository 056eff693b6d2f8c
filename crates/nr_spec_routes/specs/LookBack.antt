-- Looking back over entries, from the last to the first.
use Rattle.std.specs.Prelude.{[], if◌then◌else◌, ◌∷◌, Bool, List, None, Option, Some}

-- the later word counts, where there is one
abbrev pub later_or : {A : Type 0} → Option A → Option A → Option A
later_or (Some later) earlier = Some later
later_or None earlier = earlier

module _ {E A : Type 0} where
  -- what f says of the last entry of which it says something
  abbrev pub last_of : (E → Option A) → List E → Option A
  last_of f [] = None
  last_of f (e ∷ later) = later_or (last_of f later) (f e)

  -- what f says of the first entry of which it says something
  abbrev pub first_of : (E → Option A) → List E → Option A
  first_of f [] = None
  first_of f (e ∷ later) = later_or (f e) (first_of f later)

module _ {E : Type 0} where
  -- the entries after the last that passes, where one passes
  abbrev pub after_last : (E → Bool) → List E → Option (List E)
  after_last test [] = None
  after_last test (e ∷ later) = later_or (after_last test later) (if test e then Some later else None)
