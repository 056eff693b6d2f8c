-- What a run of a plan did, step by step.
use Rattle.std.specs.Prelude.{◌≡◌, List, [], ◌∷◌, Result, Ok, Err}
use Rattle.nr_spec_plans.specs.Disk.{Disk, Fault, ReadFault, WriteFault, Memory}
use Rattle.nr_spec_plans.specs.Plans.{Action, Answer, Acts}

-- a step that was done, and what came of it
pub record Step : Type 0 where
  pub action : Action
  pub got : Result (Answer action) Fault

-- The steps lead, one after another, from one disk to the other.
abbrev pub Lead : List Step → Disk → Disk → Type 0
Lead [] old new = new ≡ old
Lead (step ∷ others) old new = (mid : Disk) × Acts step.action old mid step.got × Lead others mid new

-- each step is of this kind
abbrev pub AreOf : (Action → Type 0) → List Step → Type 0
AreOf kind [] = Unit {0}
AreOf kind (step ∷ others) = kind step.action × AreOf kind others

-- no call of the files has failed
abbrev pub NoneFailed : Result (Unit {0}) Fault → Type 0
NoneFailed (Ok x) = Unit {0}
NoneFailed (Err ReadFault) = ⊥
NoneFailed (Err WriteFault) = ⊥
NoneFailed (Err Memory) = Unit {0}

-- After a step that went well the others come; after one that failed there is none, and its fault is the end.
abbrev pub After : {A : Type 0} → Result A Fault → (rest : Type 0) → List Step → Result (Unit {0}) Fault → Type 0
After (Ok answer) rest others end = rest
After (Err fault) rest others end = (others ≡ []) × (end ≡ Err fault)

-- Only the last step failed, if any did.
abbrev pub Stop : List Step → Result (Unit {0}) Fault → Type 0
Stop [] end = NoneFailed end
Stop (step ∷ others) end = After step.got (Stop others end) others end

-- Steps of this kind alone were done between the two disks.
pub record OnlyBy (kind : Action → Type 0) (old new : Disk) : Type 0 where
  pub steps : List Step
  pub lead : Lead steps old new
  pub each : AreOf kind steps

-- The same, and nothing was done behind a step that failed; the fault that ended the work is that step's, or want of
-- memory.
pub record DoneBy (kind : Action → Type 0) (end : Result (Unit {0}) Fault) (old new : Disk) : Type 0 where
  pub only : OnlyBy kind old new
  pub stop : Stop only.steps end
