-- Steps of this program's plans.
use Rattle.std.proofs.Common.{◌≡◌, ℕ, ◌≤◌, length, List, Bool, true, false, Some, None, Result, Ok, Err, refl, inl, inr, ap, arith}
use Rattle.std.specs.Prelude.{nat_le, if◌then◌else◌}
use Rattle.std.proofs.lemmas.Bool.{leb-true}
use Rattle.nr_spec_plans.specs.Disk.{Disk}
use Rattle.nr_spec_plans.specs.Plans.{Done, Room, Refuse, Runs, act, Read, ◌>>=◌, followed_by}
use Rattle.nr_spec_plans.proofs.PlanLemmas.{done, refused}
use Rattle.nr_spec_program.specs.Command.{Work, Input, Limit, input_limit, load}
use Rattle.nr_command_parts.specs.Views.{Judges, Does}
use Rattle.nr_command_parts.specs.declared.refusal.Stop.{Stop}
use Rattle.nr_command_parts.specs.declared.refusal.Stop.TheVariants as stop

-- what is read of a file is within its limit
within : (fits : Bool) (input : Input) (found : ℕ) (name : List ℕ) (old new : Disk) (bytes : List ℕ) → nat_le found (input_limit input) ≡ fits
    → Runs ((if fits then Done found else Refuse (Limit input found)) >>= λ size. act (Read name size)) old new (Ok bytes) → length bytes ≤ input_limit input
unfolding Runs followed_by
within true input found name old new bytes fits (mid, Ok read, (came, said), (same, is)) =
    let whole : bytes ≡ read = cc in
    omega (arith, leb-true found (input_limit input) fits, ap length whole, came.within)
within true input found name old new bytes fits (mid, Err fault, acts, (same, is)) = absurd cc
within false input found name old new bytes fits (same, is) = absurd cc

pub load_within : (input : Input) (name : List ℕ) (old new : Disk) (bytes : List ℕ) → Runs (load input name) old new (Ok bytes) → length bytes ≤ input_limit input
unfolding load Runs followed_by
load_within input name old new bytes (mid, Ok None, asks, (same, is)) = absurd cc
load_within input name old new bytes (mid, Ok (Some found), asks, runs) = within (nat_le found (input_limit input)) input found name mid new bytes refl runs
load_within input name old new bytes (mid, Err fault, asks, (same, is)) = absurd cc

-- a last step that may want memory
pub settling : {X Y : Type 0} (view : X → Y) (plan : Work Y) (old : Disk) (result : Result X Stop) → Judges view result plan → Does view (Room plan) old old result
unfolding Runs
settling view plan old (Ok x) is = inr (rw is (done _ (view x) old))
settling view plan old (Err (stop.Refused r)) is = inr (rw is (refused _ _ old))
settling view plan old (Err stop.ReadFault) is = absurd is
settling view plan old (Err stop.WriteFault) is = absurd is
settling view plan old (Err stop.Memory) is = inl (refl, refl)
