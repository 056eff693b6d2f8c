-- What is kept of the promises so far.
use Rattle.std.specs.Prelude.{ℕ, Bool, List, Option}

pub record Seen : Type 0 where
  -- the digest of the promise in force before the period
  pub before : Option (List ℕ)
  -- whether there is a PROMISE in the period
  pub any : Bool
  -- the first digest in the period that is of no promise file
  pub strange : Option (List ℕ)
