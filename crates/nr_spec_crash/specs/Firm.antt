-- Bytes that are written and then put on the disk.
use Rattle.std.specs.Prelude.{ℕ, List}
use Rattle.nr_spec_plans.specs.Plans.{Plan, act, Write, Sync, ◌>>=◌}

-- writes these bytes from a place on and syncs the file
unfoldable pub firm : {E : Type 0} (name : List ℕ) (at : ℕ) (bytes : List ℕ) → Plan E (Unit {0})
firm name at bytes = do
  wrote ← act (Write name at bytes)
  act (Sync name)
