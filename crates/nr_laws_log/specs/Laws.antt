-- What it means that a form of values has one spelling, which is what its reading takes.
use Rattle.std.specs.Prelude.{◌≡◌, ℕ, ◌+◌, ◌≤◌, Bool, true, List, ◌++◌, length, Option, None, Some, Ok}
use Rattle.nr_spec_wire.specs.Reading.{Spot, Read, IsBytes}
use Rattle.nr_spec_log.specs.Chain.{LogEntry}
use Rattle.nr_spec_log.specs.Authenticator.{Authenticator, IsAuthenticator, Head, digest_size}
use Rattle.nr_spec_log.specs.Answer.{IsEntry, AreEntriesFrom, IsCheckpointFirst, checkpoint_kind}

-- from the one spot to the other there stands this text
pub record Takes (s : Spot) (text : List ℕ) (new : Spot) : Type 0 where
  pub parts : s.rest ≡ text ++ new.rest
  pub place : new.at ≡ s.at + length text
  pub rest_fits : IsBytes new.rest

-- What is read from bytes is a value that fits, and what was taken is its spelling.
abbrev pub ReadsSpelled : {A : Type 0} → (Spot → Read A) → (A → Type 0) → (A → List ℕ) → Type 0
ReadsSpelled {A = A} item Fits spell =
    (s : Spot) (v : A) (new : Spot) → IsBytes s.rest → item s ≡ Ok (v, new) → Fits v × Takes s (spell v) new

-- The spelling of a value that fits is read as that value, whatever stands after it.
abbrev pub SpelledReads : {A : Type 0} → (Spot → Read A) → (A → Type 0) → (A → List ℕ) → Type 0
SpelledReads {A = A} item Fits spell =
    (v : A) (at : ℕ) (rest : List ℕ) → Fits v
    → item (record { at = at; rest = spell v ++ rest }) ≡ Ok (v, record { at = at + length (spell v); rest = rest })

-- No spelling goes on as another does: where two stand at the start of the same bytes, they are of one value.
abbrev pub IsPrefixFree : {A : Type 0} → (A → Type 0) → (A → List ℕ) → Type 0
IsPrefixFree {A = A} Fits spell =
    (v w : A) (x y : List ℕ) → Fits v → Fits w → spell v ++ x ≡ spell w ++ y → (v ≡ w) × (x ≡ y)

-- ---- what is asked of a value besides

-- It speaks of the wanted entry, where one is wanted.
abbrev pub SpeaksOf : Option Head → Authenticator → Type 0
SpeaksOf None a = Unit {0}
SpeaksOf (Some head) a = (a.asn ≡ head.asn) × (a.seq ≡ head.seq) × (a.time ≡ head.time)

pub record IsWanted (head : Option Head) (a : Authenticator) : Type 0 where
  pub is_one : IsAuthenticator a
  pub speaks : SpeaksOf head a

-- an entry not before the last time, and where that is asked a checkpoint's
pub record IsNext (checkpoint : Bool) (last : ℕ) (e : LogEntry) : Type 0 where
  pub is_one : IsEntry e
  pub not_before : last ≤ e.time
  pub kind_is : checkpoint ≡ true → e.kind ≡ checkpoint_kind
  pub size_is : checkpoint ≡ true → length e.content ≡ digest_size

-- so many entries, whose times don't run back, the first of them a checkpoint's where that is asked
pub record AreNext (checkpoint : Bool) (last count : ℕ) (es : List LogEntry) : Type 0 where
  pub entries : AreEntriesFrom last es
  pub as_many : length es ≡ count
  pub first_is : checkpoint ≡ true → IsCheckpointFirst es
