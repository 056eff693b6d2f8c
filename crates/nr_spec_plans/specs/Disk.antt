-- What files and a sink stand for, and what each call does to that.
use Rattle.std.specs.Prelude.{◌≡◌, ◌≢◌, ℕ, ◌+◌, ◌-◌, ◌^◌, ◌≤◌, ◌<◌, ◌==◌, min, max, Bool, if◌then◌else◌, IsTrue}
use Rattle.std.specs.Prelude.{List, [], ◌∷◌, ◌++◌, length, take, drop, Option, None, Some, IsSome, unwrap_or, option_map, Result, Ok, Err, IfOk, IsErr}
use Rattle.std.specs.List.{list_any}

-- what each name holds, or None where no file has it
abbrev pub Contents : Type 0
Contents = List ℕ → Option (List ℕ)

-- the bytes of a file; an absent one has none
abbrev pub bytes_of : Option (List ℕ) → List ℕ
bytes_of file = unwrap_or file []

-- some more, up to the greatest u64; a count never falls
abbrev pub more : ℕ → ℕ → ℕ
more n count = max count (min (count + n) (2 ^ 64 - 1))

-- ---- files

-- places of a file, from one on and up to another
pub record Range : Type 0 where
  pub from : ℕ
  pub to : ℕ

-- what isn't settled of a file, by what was done to it since its last sync that went well
pub record Loose : Type 0 where
  -- the least and the greatest length
  pub least : ℕ
  pub greatest : ℕ
  -- what was written
  pub written : List Range

-- what files hold at a moment, and what isn't settled of it
pub record Moment : Type 0 where
  pub holds : Contents
  pub loose : List ℕ → Loose

-- what files tell of themselves
pub record Told : Type 0 where
  -- what each name holds
  pub holds : Contents
  -- what a crash may change of it
  pub loose : List ℕ → Loose
  -- the moments before each call that changed something, the last one first, where a record of them is kept
  pub past : Option (List Moment)
  -- how often a size was asked for
  pub asks : ℕ
  -- how many bytes were given
  pub reads : ℕ
  -- how many calls there were
  pub calls : ℕ
  -- the numbers, from 1 on, of the calls that are to fail
  pub listed : List ℕ

-- all that files stand for
pub record Disk : Type 0 where
  -- what they tell; real files tell nothing
  pub told : Option Told
  -- how often a call that reads has failed
  pub read_faults : ℕ
  -- how often a call that writes has failed
  pub write_faults : ℕ

-- why a call of the outside gave nothing
pub data Fault : Type 0 where
  ReadFault : Fault
  WriteFault : Fault
  Memory : Fault

-- each fault is counted once
abbrev pub counting : {A : Type 0} → Result A Fault → Disk → Disk
counting (Ok x) d = d
counting (Err ReadFault) d = record { told = d.told; read_faults = more 1 d.read_faults; write_faults = d.write_faults }
counting (Err WriteFault) d =
    record { told = d.told; read_faults = d.read_faults; write_faults = more 1 d.write_faults }
counting (Err Memory) d = d

-- other things told
abbrev pub telling : Option Told → Disk → Disk
telling told d = record { told = told; read_faults = d.read_faults; write_faults = d.write_faults }

-- whether the next call is to fail
abbrev pub is_listed : Told → Bool
is_listed t = list_any (λ number. number == more 1 t.calls) t.listed

-- A call that is to fail does, or finds no memory.
abbrev pub FailsListed : {A : Type 0} → Disk → Result A Fault → Type 0
FailsListed old got = (t : Told) → old.told ≡ Some t → IsTrue (is_listed t) → IsErr got

-- some calls later
abbrev pub ticking : ℕ → Told → Told
ticking calls t =
    record {
      holds = t.holds;
      loose = t.loose;
      past = t.past;
      asks = t.asks;
      reads = t.reads;
      calls = more calls t.calls;
      listed = t.listed;
    }

abbrev pub ticked : ℕ → Disk → Disk
ticked calls d = telling (option_map (ticking calls) d.told) d

-- ---- calls that read

-- a size was asked for once more
abbrev pub asking : Told → Told
asking t =
    record {
      holds = t.holds;
      loose = t.loose;
      past = t.past;
      asks = more 1 t.asks;
      reads = t.reads;
      calls = more 1 t.calls;
      listed = t.listed;
    }

abbrev pub asked : Disk → Disk
asked d = telling (option_map asking d.told) d

-- n bytes more were given
abbrev pub reading : ℕ → Told → Told
reading n t =
    record {
      holds = t.holds;
      loose = t.loose;
      past = t.past;
      asks = t.asks;
      reads = more n t.reads;
      calls = t.calls;
      listed = t.listed;
    }

abbrev pub read : ℕ → Disk → Disk
read n d = telling (option_map (reading n) d.told) d

-- as many bytes more as a call that reads answered
abbrev pub given : Result ℕ Fault → Disk → Disk
given (Ok n) d = read n d
given (Err fault) d = d

-- A call that reads fails by a read fault alone.
abbrev pub IsReading : {A : Type 0} → Result A Fault → Type 0
IsReading (Ok x) = Unit {0}
IsReading (Err ReadFault) = Unit {0}
IsReading (Err WriteFault) = ⊥
IsReading (Err Memory) = ⊥

-- Asks for the size of a file, which is None exactly where the name is absent.
pub record Asks (name : List ℕ) (old new : Disk) (got : Result (Option ℕ) Fault) : Type 0 where
  pub size : (t : Told) → old.told ≡ Some t → IfOk got (λ size. size ≡ option_map length (t.holds name))
  pub after : new ≡ counting got (asked old)
  pub cause : IsReading got
  pub listed : FailsListed old got

-- a buffer with the first n bytes from a place on in front, else as it was
abbrev pub filled : List ℕ → ℕ → ℕ → List ℕ → List ℕ
filled bytes at n buffer = take n (drop at bytes) ++ drop n buffer

-- Reads as many bytes as fit from a place on into the front of a buffer.
pub record GivesAt (name : List ℕ) (at : ℕ) (before after : List ℕ) (old new : Disk) (got : Result ℕ Fault) : Type 0
  where
    pub count : (t : Told) → old.told ≡ Some t
        → IfOk got (λ n. n ≡ min (length before) (length (bytes_of (t.holds name)) - at))
    pub bytes : (t : Told) → old.told ≡ Some t → IfOk got (λ n. after ≡ filled (bytes_of (t.holds name)) at n before)
    pub within : IfOk got (λ n. n ≤ length before)
    pub leaves : new ≡ counting got (given got (ticked 1 old))
    pub cause : IsReading got
    pub listed : FailsListed old got

-- ---- calls that write

-- no byte of a file but from a place on, and up to another, has changed
pub record TornWrite (at n : ℕ) (old new : List ℕ) : Type 0 where
  pub before : take at new ≡ take at old
  pub rest : drop (at + n) new ≡ drop (at + n) old
  pub no_shorter : length old ≤ length new
  pub no_longer : length new ≤ max (length old) (at + n)

-- after a cut that failed: any bytes from its length on, and no more than before
pub record TornCut (len : ℕ) (old new : List ℕ) : Type 0 where
  pub before : take len new ≡ take len old
  pub no_longer : length new ≤ length old

-- A file that was there is still there, and its bytes have gone that step; an absent one counts as empty.
pub record Torn (step : List ℕ → List ℕ → Type 0) (old new : Option (List ℕ)) : Type 0 where
  pub there : IsSome old → IsSome new
  pub bytes : step (bytes_of old) (bytes_of new)

-- these bytes from a place on, over what is there and past the end
abbrev pub written : ℕ → List ℕ → List ℕ → List ℕ
written at from bytes = take at bytes ++ from ++ drop (at + length from) bytes

-- no more than len bytes. A cut to 0 makes an absent file empty; to more it leaves it absent.
abbrev pub cut_to : ℕ → Option (List ℕ) → Option (List ℕ)
cut_to len (Some bytes) = Some (take len bytes)
cut_to len None = if len == 0 then Some [] else None

-- what is told at a moment
abbrev pub moment_of : Told → Moment
moment_of t = record { holds = t.holds; loose = t.loose }

-- The past has one moment more.
abbrev pub later : Told → Option (List Moment)
later t = option_map (λ past. moment_of t ∷ past) t.past

-- Nothing has changed but under one name, which holds what has P and is as loose as this.
pub record ChangesOnly (name : List ℕ) (P : Option (List ℕ) → Type 0) (now : Loose) (t u : Told) : Type 0 where
  pub named : P (u.holds name)
  pub loose : u.loose name ≡ now
  pub others : (other : List ℕ) → other ≢ name → u.holds other ≡ t.holds other
  pub others_loose : (other : List ℕ) → other ≢ name → u.loose other ≡ t.loose other
  pub past : u.past ≡ later t
  pub asks : u.asks ≡ t.asks
  pub reads : u.reads ≡ t.reads
  pub calls : u.calls ≡ more 1 t.calls
  pub listed : u.listed ≡ t.listed

-- ---- what a crash may change

-- All is on the disk.
abbrev pub settled : List ℕ → Loose
settled bytes = record { least = length bytes; greatest = length bytes; written = [] }

-- A length was reached.
abbrev pub reached : ℕ → Loose → Loose
reached len l = record { least = min l.least len; greatest = max l.greatest len; written = l.written }

-- Bytes were written from a place on into a file of this length, or may have been: a write that failed counts as one
-- that went well.
abbrev pub loose_by_write : (at n len : ℕ) → Loose → Loose
loose_by_write at n len l =
    reached (max len (at + n)) (record {
      least = l.least;
      greatest = l.greatest;
      written = l.written ++ record { from = at; to = at + n } ∷ [];
    })

-- A file of this length was cut, or may have been.
abbrev pub loose_by_cut : (to len : ℕ) → Loose → Loose
loose_by_cut to len l = reached (min len to) l

-- the length of what a name holds
abbrev pub size_of : Told → List ℕ → ℕ
size_of t name = length (bytes_of (t.holds name))

-- ---- what calls that write leave

-- What a call leaves of what is told: all that the call is to do, or any part of that where it failed, or what was
-- where it found no memory.
abbrev pub Leaves : Result (Unit {0}) Fault → (done torn : Told → Told → Type 0) → Told → Told → Type 0
Leaves (Ok x) done torn t u = done t u
Leaves (Err ReadFault) done torn t u = ⊥
Leaves (Err WriteFault) done torn t u = torn t u
Leaves (Err Memory) done torn t u = u ≡ ticking 1 t

-- a call that writes
pub record Writing (done torn : Told → Told → Type 0) (old new : Disk) (got : Result (Unit {0}) Fault) : Type 0 where
  pub untold : old.told ≡ None → new.told ≡ None
  pub told : (t : Told) → old.told ≡ Some t → (u : Told) × (new.told ≡ Some u) × Leaves got done torn t u
  pub after : new ≡ counting got (telling new.told old)
  pub cause : got ≢ Err ReadFault
  pub listed : FailsListed old got

abbrev pub Writes : (name : List ℕ) (at : ℕ) (from : List ℕ) (old new : Disk) → Result (Unit {0}) Fault → Type 0
Writes name at from =
    Writing (λ t u. ChangesOnly name (λ file. file ≡ Some (written at from (bytes_of (t.holds name))))
    (loose_by_write at (length from) (size_of t name) (t.loose name)) t u)
    (λ t u. ChangesOnly name (Torn (TornWrite at (length from)) (t.holds name))
    (loose_by_write at (length from) (size_of t name) (t.loose name)) t u)

abbrev pub Cuts : (name : List ℕ) (len : ℕ) (old new : Disk) → Result (Unit {0}) Fault → Type 0
Cuts name len =
    Writing (λ t u. ChangesOnly name (λ file. file ≡ cut_to len (t.holds name))
    (loose_by_cut len (size_of t name) (t.loose name)) t u)
    (λ t u. ChangesOnly name (Torn (TornCut len) (t.holds name)) (loose_by_cut len (size_of t name) (t.loose name)) t u)

-- A sync that went well leaves what a read gives, and all of that is on the disk.
abbrev pub IsSynced : (name : List ℕ) (t u : Told) → Type 0
IsSynced name t u = ChangesOnly name (λ file. file ≡ t.holds name) (settled (bytes_of (t.holds name))) t u

abbrev pub Syncs : (name : List ℕ) (old new : Disk) → Result (Unit {0}) Fault → Type 0
Syncs name = Writing (λ t u. IsSynced name t u) (λ t u. u ≡ ticking 1 t)

-- ---- a sink

-- what a sink tells of itself
pub record Heard : Type 0 where
  -- the bytes taken so far
  pub taken : List ℕ
  -- how often no byte was offered
  pub idle : ℕ

-- all that a sink stands for
pub record Tape : Type 0 where
  -- what it tells; the real output tells nothing
  pub told : Option Heard
  -- how often a call has failed
  pub faults : ℕ

-- a piece was offered: one without bytes is counted
abbrev pub idle_after : List ℕ → ℕ → ℕ
idle_after [] idle = more 1 idle
idle_after (first ∷ others) idle = idle

abbrev pub hearing : List ℕ → Heard → Heard
hearing piece h = record { taken = h.taken; idle = idle_after piece h.idle }

abbrev pub offered : List ℕ → Tape → Tape
offered piece t = record { told = option_map (hearing piece) t.told; faults = t.faults }

-- these bytes more were taken
abbrev pub taking_in : List ℕ → Heard → Heard
taking_in piece h = record { taken = h.taken ++ piece; idle = h.idle }

abbrev pub taking : List ℕ → Tape → Tape
taking piece t = record { told = option_map (taking_in piece) t.told; faults = t.faults }

-- a call more has failed
abbrev pub failing : Tape → Tape
failing t = record { told = t.told; faults = more 1 t.faults }

-- A sink was offered a piece. It took its first n bytes, one at least where it isn't empty; some first bytes where it
-- failed; and none where it found no memory.
abbrev pub Takes : List ℕ → Tape → Tape → Result ℕ Fault → Type 0
Takes piece old new (Ok n) =
    (n ≤ length piece) × (0 < length piece → 0 < n) × (new ≡ taking (take n piece) (offered piece old))
Takes piece old new (Err ReadFault) = ⊥
Takes piece old new (Err WriteFault) = (n : ℕ) × (new ≡ failing (taking (take n piece) (offered piece old)))
Takes piece old new (Err Memory) = new ≡ offered piece old

-- A sink was offered a text, piece after piece and none of them empty: it took it whole; or it failed, or found no
-- memory, and took some first bytes, in the last case not all. Nothing more was offered then, and a text without bytes
-- was not offered.
abbrev pub Offers : List ℕ → Tape → Tape → Result (Unit {0}) Fault → Type 0
Offers text old new (Ok x) = new ≡ taking text old
Offers text old new (Err ReadFault) = ⊥
Offers text old new (Err WriteFault) = (0 < length text) × ((n : ℕ) × (new ≡ failing (taking (take n text) old)))
Offers text old new (Err Memory) = (n : ℕ) × (n < length text) × (new ≡ taking (take n text) old)
