-- A whole run: its plan, its ending, and what the sink has of that.
use Rattle.std.specs.Prelude.{◌≡◌, ◌⊎◌, ℕ, Result, Ok, Err}
use Rattle.nr_spec_plans.specs.Disk.{Disk, Tape, Fault, ReadFault, WriteFault, Memory, Offers}
use Rattle.nr_spec_plans.specs.Plans.{Halt, Refused, Faulted, Runs}
use Rattle.nr_spec_program.specs.Command.{Ending, Refusal, Work, refusal_ending, fault_ending}

-- The ending of what a plan gave, which is not the ending of a refusal where memory is wanted for its line.
abbrev pub Concludes : Result Ending (Halt Refusal) → Ending → Type 0
Concludes (Ok ending) e = e ≡ ending
Concludes (Err (Refused refusal)) e = (e ≡ refusal_ending refusal) ⊎ (e ≡ fault_ending Memory)
Concludes (Err (Faulted fault)) e = e ≡ fault_ending fault

-- the status of an ending that was offered, by what the sink answered
abbrev pub Answers : Ending → Result (Unit {0}) Fault → ℕ → Type 0
Answers e (Ok x) status = status ≡ e.status
Answers e (Err ReadFault) status = ⊥
Answers e (Err WriteFault) status = status ≡ 5
Answers e (Err Memory) status = status ≡ 6

-- An ending is offered to the sink, once, and the status is its own, or 5 or 6 where the sink failed or found no
-- memory.
pub record Delivers (e : Ending) (before after : Tape) (status : ℕ) : Type 0 where
  pub got : Result (Unit {0}) Fault
  pub offers : Offers e.text before after got
  pub answers : Answers e got status

-- A whole run: what the plan gives is concluded by an ending, and after the plan that ending is delivered.
pub record RunsTo (plan : Work Ending) (old new : Disk) (before after : Tape) (status : ℕ) : Type 0 where
  pub result : Result Ending (Halt Refusal)
  pub runs : Runs plan old new result
  pub ending : Ending
  pub concludes : Concludes result ending
  pub delivers : Delivers ending before after status
