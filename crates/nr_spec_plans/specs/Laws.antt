-- What holds of every plan, or of every plan of a kind.
use Rattle.std.specs.Prelude.{◌≡◌, ◌≢◌, ◌⊎◌, ℕ, List, [], ◌∷◌, Option, Some, Result, Ok, Err, option_map, take, length}
use Rattle.nr_spec_plans.specs.Disk.{Contents, Disk, Told, Fault, more, bytes_of, ReadFault, WriteFault, Memory, Torn, TornCut, TornWrite, settled}
use Rattle.nr_spec_plans.specs.Plans.{Action, Answer, Ask, Read, Cut, Write, Sync, Plan, Done, Refuse, Room, Act, Halt, Refused, Faulted}

-- ---- causes

-- the counts after a step
abbrev pub reads_after : {A : Type 0} → Result A Fault → ℕ → ℕ
reads_after (Ok answer) count = count
reads_after (Err ReadFault) count = more 1 count
reads_after (Err WriteFault) count = count
reads_after (Err Memory) count = count

abbrev pub writes_after : {A : Type 0} → Result A Fault → ℕ → ℕ
writes_after (Ok answer) count = count
writes_after (Err ReadFault) count = count
writes_after (Err WriteFault) count = more 1 count
writes_after (Err Memory) count = count

-- what ended a plan, where a fault did
abbrev pub fault_in : {E A : Type 0} → Result A (Halt E) → Result (Unit {0}) Fault
fault_in (Ok value) = Ok tt
fault_in (Err (Refused refusal)) = Ok tt
fault_in (Err (Faulted fault)) = Err fault

-- A count rose by exactly one where the fault that ended the plan is of its kind, and stands as it was otherwise.
pub record CountsOne {E A : Type 0} (old new : Disk) (result : Result A (Halt E)) : Type 0 where
  pub reads : new.read_faults ≡ reads_after (fault_in result) old.read_faults
  pub writes : new.write_faults ≡ writes_after (fault_in result) old.write_faults

-- ---- plans that write nothing

abbrev pub IsRead : Action → Type 0
IsRead (Ask name) = Unit {0}
IsRead (Read name size) = Unit {0}
IsRead (Cut name len) = ⊥
IsRead (Write name at bytes) = ⊥
IsRead (Sync name) = ⊥

-- each step of a plan is of this kind
abbrev pub Each : {E A : Type 0} → (Action → Type 0) → Plan E A → Type 0
Each kind (Done value) = Unit {0}
Each kind (Refuse refusal) = Unit {0}
Each kind (Room next) = Each kind next
Each kind (Act action next) = kind action × ((answer : Answer action) → Each kind (next answer))

-- what the files hold, and what a crash may change of it, is as before
pub record Unchanged (old new : Option Told) : Type 0 where
  pub holds : option_map (λ t. t.holds) new ≡ option_map (λ t. t.holds) old
  pub loose : option_map (λ t. t.loose) new ≡ option_map (λ t. t.loose) old
  pub past : option_map (λ t. t.past) new ≡ option_map (λ t. t.past) old

-- what the contents give by a plan that writes nothing
abbrev pub answer_of : Contents → (action : Action) → Answer action
answer_of held (Ask name) = option_map length (held name)
answer_of held (Read name size) = take size (bytes_of (held name))
answer_of held (Cut name len) = tt
answer_of held (Write name at bytes) = tt
answer_of held (Sync name) = tt

abbrev pub outcome : {E A : Type 0} → Contents → Plan E A → Result A E
outcome held (Done value) = Ok value
outcome held (Refuse refusal) = Err refusal
outcome held (Room next) = outcome held next
outcome held (Act action next) = outcome held (next (answer_of held action))

-- it gave that, or ended by a fault or for want of memory
abbrev pub Gives : {E A : Type 0} → Result A (Halt E) → Result A E → Type 0
Gives (Ok value) decided = decided ≡ Ok value
Gives (Err (Refused refusal)) decided = decided ≡ Err refusal
Gives (Err (Faulted fault)) decided = Unit {0}

-- ---- a file that is written in whole

-- The file holds these bytes, and a crash leaves them; every other name holds what it held.
pub record Saved (name bytes : List ℕ) (t u : Told) : Type 0 where
  pub holds : u.holds name ≡ Some bytes
  pub synced : u.loose name ≡ settled bytes
  pub others : (other : List ℕ) → other ≢ name → u.holds other ≡ t.holds other

-- ---- files that a plan leaves alone

-- the step writes nothing under this name
abbrev pub Spares : List ℕ → Action → Type 0
Spares other (Ask name) = Unit {0}
Spares other (Read name size) = Unit {0}
Spares other (Cut name len) = other ≢ name
Spares other (Write name at bytes) = other ≢ name
Spares other (Sync name) = other ≢ name

-- what is told of one name is as before
pub record Kept (other : List ℕ) (old new : Option Told) : Type 0 where
  pub holds : option_map (λ t. t.holds other) new ≡ option_map (λ t. t.holds other) old
  pub loose : option_map (λ t. t.loose other) new ≡ option_map (λ t. t.loose other) old

-- ---- endings

-- each value that a plan may give has P
abbrev pub Ends : {E A : Type 0} → (A → Type 0) → Plan E A → Type 0
Ends P (Done value) = P value
Ends P (Refuse refusal) = Unit {0}
Ends P (Room next) = Ends P next
Ends P (Act action next) = (answer : Answer action) → Ends P (next answer)

-- What writing these bytes to a file in whole may leave of it, whatever stopped that: what was there, what a cut to
-- nothing that failed leaves, what a write to an empty file that failed leaves, or the bytes.
abbrev pub IsLeftBy : (bytes : List ℕ) (old new : Option (List ℕ)) → Type 0
IsLeftBy bytes old new =
    (new ≡ old) ⊎ (Torn (TornCut 0) old new ⊎ (Torn (TornWrite 0 (length bytes)) (Some []) new ⊎ (new ≡ Some bytes)))

-- ---- names

-- The name is one of these.
abbrev pub IsAmong : List ℕ → List (List ℕ) → Type 0
IsAmong name [] = ⊥
IsAmong name (other ∷ others) = (name ≡ other) ⊎ IsAmong name others

-- The step asks for, or reads, a file of the first names, or writes one of the second.
abbrev pub Touches : (read written : List (List ℕ)) → Action → Type 0
Touches read written (Ask name) = IsAmong name read
Touches read written (Read name size) = IsAmong name read
Touches read written (Cut name len) = IsAmong name written
Touches read written (Write name at bytes) = IsAmong name written
Touches read written (Sync name) = IsAmong name written
