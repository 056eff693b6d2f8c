-- What a command does with files, as a tree of steps.
use Rattle.std.specs.Prelude.{◌≡◌, ◌⊎◌, ℕ, ◌+◌, ◌-◌, ◌≤◌, ◌<◌, min, IsTrue, List, take, length, Option, Some, Result, Ok, Err}
use Rattle.nr_spec_plans.specs.Disk.{Disk, Told, Fault, ReadFault, Memory, Asks, Cuts, Writes, Syncs, read, ticked, ticking, is_listed, counting, bytes_of}

-- a step outside
pub data Action : Type 0 where
  -- asks for the size of a file
  Ask : (name : List ℕ) → Action
  -- reads a file of a counted size in whole, or what it has up to there
  Read : (name : List ℕ) (size : ℕ) → Action
  -- cuts a file to a length
  Cut : (name : List ℕ) (len : ℕ) → Action
  -- writes bytes from a place on
  Write : (name : List ℕ) (at : ℕ) (bytes : List ℕ) → Action
  -- puts on the disk what a file holds
  Sync : (name : List ℕ) → Action

-- what it answers
abbrev pub Answer : Action → Type 0
Answer (Ask name) = Option ℕ
Answer (Read name size) = List ℕ
Answer (Cut name len) = Unit {0}
Answer (Write name at bytes) = Unit {0}
Answer (Sync name) = Unit {0}

-- how many calls it takes to read a file of a length up to a size: none for nothing, one that gives all that fits, and
-- one more that finds the end where this is something, and less than the size
abbrev pub calls_for : (size found : ℕ) → ℕ
calls_for size found = min 1 size + min 1 (min found (size - found))

-- None of the next calls is one that is to fail.
abbrev pub NoneListed : (calls : ℕ) → Told → Type 0
NoneListed calls t = (k : ℕ) → k < calls → IsTrue (is_listed (ticking k t)) → ⊥

-- So many calls read a file up to a size, all of this name and no more than it takes.
pub record WholeBy (name : List ℕ) (size calls : ℕ) (t : Told) : Type 0 where
  pub number : calls ≡ calls_for size (length (bytes_of (t.holds name)))
  pub listed : NoneListed calls t

-- The last of so many calls failed: the first, or the second, which found the end where the first gave all that there
-- is.
pub record StoppedBy (name : List ℕ) (n calls : ℕ) (t : Told) : Type 0 where
  pub number : calls ≡ 1 + min 1 n
  pub given : 0 < n → n ≡ length (bytes_of (t.holds name))
  pub listed : NoneListed (calls - 1) t

-- Calls that read failed at last, after n bytes.
pub record StopsReading (name : List ℕ) (size : ℕ) (old new : Disk) (fault : Fault) : Type 0 where
  pub cause : fault ≡ ReadFault
  pub n : ℕ
  pub calls : ℕ
  pub within : n < size
  pub told : (t : Told) → old.told ≡ Some t → StoppedBy name n calls t
  pub after : new ≡ counting {A = List ℕ} (Err ReadFault) (read n (ticked calls old))

-- Calls that read gave n bytes in all, as many as there are up to the size.
pub record ReadsUpTo (name : List ℕ) (size n : ℕ) (old new : Disk) : Type 0 where
  pub calls : ℕ
  pub within : n ≤ size
  pub told : (t : Told) → old.told ≡ Some t → WholeBy name size calls t
  pub after : new ≡ read n (ticked calls old)

-- The bytes of a file up to a size; or want of memory, before anything is read; or a fault after some bytes.
abbrev pub Reads : (name : List ℕ) (size : ℕ) → Disk → Disk → Result (List ℕ) Fault → Type 0
Reads name size old new (Ok bytes) =
    ReadsUpTo name size (length bytes) old new
    × ((t : Told) → old.told ≡ Some t → bytes ≡ take size (bytes_of (t.holds name)))
Reads name size old new (Err fault) = ((fault ≡ Memory) × (new ≡ old)) ⊎ StopsReading name size old new fault

-- The same into a buffer, whose first n bytes are those of the file then.
abbrev pub Fills : (name : List ℕ) (size : ℕ) (buffer : List ℕ) → Disk → Disk → Result ℕ Fault → Type 0
Fills name size buffer old new (Ok n) =
    ReadsUpTo name size n old new
    × ((t : Told) → old.told ≡ Some t → take n buffer ≡ take size (bytes_of (t.holds name)))
Fills name size buffer old new (Err fault) = StopsReading name size old new fault

-- what a step does
abbrev pub Acts : (a : Action) → Disk → Disk → Result (Answer a) Fault → Type 0
Acts (Ask name) = Asks name
Acts (Read name size) = Reads name size
Acts (Cut name len) = Cuts name len
Acts (Write name at bytes) = Writes name at bytes
Acts (Sync name) = Syncs name

-- A plan gives a value, or is refused, or wants memory and goes on, or does a step and goes on with its answer.
pub data Plan (E A : Type 0) : Type 0 where
  Done : (value : A) → Plan E A
  Refuse : (refusal : E) → Plan E A
  Room : (next : Plan E A) → Plan E A
  Act : (action : Action) (next : Answer action → Plan E A) → Plan E A

-- why a plan gave no value
pub data Halt (E : Type 0) : Type 0 where
  Refused : (refusal : E) → Halt E
  Faulted : (fault : Fault) → Halt E

-- one plan after another
unfoldable pub followed_by : {E A B : Type 0} → Plan E A → (A → Plan E B) → Plan E B
followed_by (Done value) f = f value
followed_by (Refuse refusal) f = Refuse refusal
followed_by (Room next) f = Room (followed_by next f)
followed_by (Act action next) f = Act action (λ answer. followed_by (next answer) f)

infixl 10 ◌>>=◌
abbrev pub ◌>>=◌ : {E A B : Type 0} → Plan E A → (A → Plan E B) → Plan E B
p >>= f = followed_by p f

-- A step that went well leads on. The first that doesn't ends the work at once.
abbrev pub Goes : {E A B : Type 0} → Result A Fault → (A → Disk → Disk → Result B (Halt E) → Type 0) → Disk → Disk
    → Result B (Halt E) → Type 0
Goes (Ok answer) next mid new result = next answer mid new result
Goes (Err fault) next mid new result = (new ≡ mid) × (result ≡ Err (Faulted fault))

-- what a plan does to the files, and what it gives
unfoldable pub Runs : {E A : Type 0} → Plan E A → Disk → Disk → Result A (Halt E) → Type 0
Runs (Done value) old new result = (new ≡ old) × (result ≡ Ok value)
Runs (Refuse refusal) old new result = (new ≡ old) × (result ≡ Err (Refused refusal))
Runs (Room next) old new result = ((new ≡ old) × (result ≡ Err (Faulted Memory))) ⊎ Runs next old new result
Runs (Act action next) old new result =
    (mid : Disk) × (got : Result (Answer action) Fault) × Acts action old mid got
    × Goes got (λ answer. Runs (next answer)) mid new result

-- a step by itself
abbrev pub act : {E : Type 0} (action : Action) → Plan E (Answer action)
act action = Act action (λ answer. Done answer)

-- memory may be wanted here: where none is found, nothing has happened
abbrev pub want : {E : Type 0} → Plan E (Unit {0})
want = Room (Done tt)

-- ---- plans of several steps

-- cuts a file to nothing, writes these bytes and syncs it
unfoldable pub save : {E : Type 0} (name bytes : List ℕ) → Plan E (Unit {0})
save name bytes = do
  cut ← act (Cut name 0)
  wrote ← act (Write name 0 bytes)
  act (Sync name)

-- ---- refusals of another kind

-- what a plan gave, with its refusal told in other words
abbrev pub halting : {E F A : Type 0} → (E → F) → Result A (Halt E) → Result A (Halt F)
halting as_said (Ok value) = Ok value
halting as_said (Err (Refused refusal)) = Err (Refused (as_said refusal))
halting as_said (Err (Faulted fault)) = Err (Faulted fault)

-- a plan whose refusals are told in other words
unfoldable pub refusing : {E F A : Type 0} → (E → F) → Plan E A → Plan F A
refusing as_said (Done value) = Done value
refusing as_said (Refuse refusal) = Refuse (as_said refusal)
refusing as_said (Room next) = Room (refusing as_said next)
refusing as_said (Act action next) = Act action (λ answer. refusing as_said (next answer))
