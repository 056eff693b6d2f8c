-- What a crash may leave: now, at any moment of a plan, and since a moment of the past.
use Rattle.std.specs.Prelude.{◌≡◌, ◌⊎◌, ℕ, ◌-◌, ◌≤◌, List, [], ◌∷◌, length, take, Some, Result, Ok, Err}
use Rattle.nr_spec_plans.specs.Disk.{Disk, Told, Moment, Fault, moment_of, bytes_of, size_of, settled}
use Rattle.nr_spec_plans.specs.Plans.{Answer, Acts, Plan, Done, Refuse, Room, Act}
use Rattle.nr_spec_crash.specs.Images.{IsImage}

-- Files tell what they hold, and that moment has Q.
abbrev pub Now : Disk → (Moment → Type 0) → Type 0
Now d Q = (t : Told) × (d.told ≡ Some t) × Q (moment_of t)

-- of what follows a step that went well, and of what one leaves that failed
abbrev pub SometimeAfter : {A : Type 0} → Result A Fault → (A → Disk → (Moment → Type 0) → Type 0) → Disk
    → (Moment → Type 0) → Type 0
SometimeAfter (Ok answer) next mid Q = next answer mid Q
SometimeAfter (Err fault) next mid Q = Now mid Q

-- Some moment of a plan has Q: one before its first step, or after it, or of what follows, whatever the step answered.
-- A moment within a step is as one after the same step where it failed.
unfoldable pub Sometime : {E A : Type 0} → Plan E A → Disk → (Moment → Type 0) → Type 0
Sometime (Done value) old Q = Now old Q
Sometime (Refuse refusal) old Q = Now old Q
Sometime (Room next) old Q = Sometime next old Q
Sometime (Act action next) old Q =
    Now old Q
    ⊎ ((mid : Disk) × (got : Result (Answer action) Fault) × Acts action old mid got
    × SometimeAfter got (λ answer. Sometime (next answer)) mid Q)

-- A crash now may leave these bytes under a name.
abbrev pub MayLeave : Disk → (name image : List ℕ) → Type 0
MayLeave d name image = Now d (λ m. IsImage m name image)

-- A crash at some moment of a plan may leave these bytes under a name.
abbrev pub Crashes : {E A : Type 0} → Plan E A → Disk → (name image : List ℕ) → Type 0
Crashes p old name image = Sometime p old (λ m. IsImage m name image)

-- The same of two names at one moment.
abbrev pub CrashesBoth : {E A : Type 0} → Plan E A → Disk → (name image other left : List ℕ) → Type 0
CrashesBoth p old name image other left = Sometime p old (λ m. IsImage m name image × IsImage m other left)

-- ---- since a moment of the past

abbrev pub Any : List Moment → (Moment → Type 0) → Type 0
Any [] Q = ⊥
Any (moment ∷ others) Q = Q moment ⊎ Any others Q

-- Some moment has Q, now or since there were so many moments in the past.
abbrev pub Since : ℕ → Told → (Moment → Type 0) → Type 0
Since clock t Q =
    Q (moment_of t) ⊎ ((past : List Moment) × (t.past ≡ Some past) × Any (take (length past - clock) past) Q)

-- ---- files that rest

-- These bytes are under this name, and a crash leaves them and nothing else.
pub record Rests (d : Disk) (name file : List ℕ) : Type 0 where
  pub now : Told
  pub told : d.told ≡ Some now
  pub bytes : bytes_of (now.holds name) ≡ file
  pub loose : now.loose name ≡ settled file

-- Neither a read nor a crash gives more bytes under this name.
pub record IsWithin (name : List ℕ) (most : ℕ) (d : Disk) : Type 0 where
  pub now : Told
  pub told : d.told ≡ Some now
  pub size : size_of now name ≤ most
  pub greatest : (now.loose name).greatest ≤ most

-- The length that a read gives lies between the least and the greatest.
pub record IsSound (name : List ℕ) (d : Disk) : Type 0 where
  pub now : Told
  pub told : d.told ≡ Some now
  pub least : (now.loose name).least ≤ size_of now name
  pub greatest : size_of now name ≤ (now.loose name).greatest
