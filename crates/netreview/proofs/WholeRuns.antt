-- Whole runs that end before a request is worked on.
use Rattle.std.proofs.Common.{◌≡◌, ℕ, Option, None, Ok, Err, refl, sym, subst, inl, inr}
use Rattle.nr_spec_plans.specs.Disk.{Disk, Tape, Memory}
use Rattle.nr_spec_plans.specs.Plans.{Room, Faulted, Runs}
use Rattle.nr_spec_commands.specs.Words.{Request}
use Rattle.nr_spec_program.specs.Command.{Work, Ending, usage_ending, fault_ending}
use Rattle.nr_spec_program.specs.Table.{plan_in}
use Rattle.nr_spec_program.specs.Running.{RunsTo, Delivers}

-- memory ran out before anything else
pub out_of_room : (plan : Work Ending) (old : Disk) (before after : Tape) (status : ℕ) (e : Ending) → e ≡ fault_ending Memory → Delivers e before after status → RunsTo (Room plan) old old before after status
unfolding Runs
out_of_room plan old before after status e is delivers = record { result = Err (Faulted Memory); runs = inl (refl, refl); ending = e; concludes = is; delivers = delivers }

-- the words aren't taken
pub says_usage : (request : Option Request) (old : Disk) (before after : Tape) (status : ℕ) (e : Ending) → request ≡ None → e ≡ usage_ending → Delivers e before after status → RunsTo (Room (plan_in request)) old old before after status
unfolding Runs
says_usage request old before after status e none is delivers =
    record { result = Ok usage_ending; runs = inr (subst (λ (r : Option Request). Runs (plan_in r) old old (Ok usage_ending)) (sym none) (refl, refl)); ending = e; concludes = is; delivers = delivers }
