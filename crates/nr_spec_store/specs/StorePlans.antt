-- The calls by which a log's file is loaded, born and appended to.
use Rattle.std.specs.Prelude.{ℕ, ◌-◌, List, [], ◌∷◌, ◌++◌, length, drop, Option, None, Some, Result, Ok, Err, unwrap_or, if◌then◌else◌, nat_lt}
use Rattle.nr_spec_plans.specs.Plans.{Plan, Done, Refuse, act, want, Ask, Read, Sync, ◌>>=◌}
use Rattle.nr_spec_crash.specs.Firm.{firm}
use Rattle.nr_spec_log.specs.Chain.{LogEntry}
use Rattle.nr_spec_store.specs.LogFile.{LogFile, log_of, most_log, birth_size, batch, born, with_batch}

-- why a log isn't loaded, born or appended to, where no call fails and memory suffices
pub data Refusal : Type 0 where
  -- The file is longer than it may be, or would be.
  Limit : (size : ℕ) → Refusal
  -- The file is malformed at this offset.
  At : (place : ℕ) → Refusal

abbrev pub Work : Type 0 → Type 0
Work A = Plan Refusal A

-- A file of this size is within the limit.
unfoldable pub within_limit : ℕ → Work (Unit {0})
within_limit size = if nat_lt most_log size then Refuse (Limit size) else Done tt

-- ---- loading

abbrev pub understood : {A : Type 0} → Result A ℕ → Work A
understood (Ok value) = Done value
understood (Err place) = Refuse (At place)

-- A file that is there is synced and read, if it is within the limit.
unfoldable pub found_plan : (name : List ℕ) → Option ℕ → Work (Option LogFile)
found_plan name None = Done None
found_plan name (Some size) = do
  fits ← within_limit size
  synced ← act (Sync name)
  bytes ← act (Read name size)
  understood (log_of bytes)

unfoldable pub load_plan : (name : List ℕ) → Work (Option LogFile)
load_plan name = do
  size ← act (Ask name)
  found_plan name size

-- what loading a file of these bytes gives
abbrev pub refused_at : {A : Type 0} → Result A ℕ → Result A Refusal
refused_at (Ok value) = Ok value
refused_at (Err place) = Err (At place)

abbrev pub loading : List ℕ → Result (Option LogFile) Refusal
loading bytes = if nat_lt most_log (length bytes) then Err (Limit (length bytes)) else refused_at (log_of bytes)

-- ---- writing

-- A body is written where the front ends, and once that is on the disk the gate at the front's end is opened.
unfoldable pub gate_plan : (name : List ℕ) (end : ℕ) (body : List ℕ) → Work (Unit {0})
gate_plan name end body = do
  put ← firm name end body
  firm name (end - 1) (1 ∷ [])

-- A closed birth gate is put into a file that has no room for a birth.
unfoldable pub close_plan : (name : List ℕ) (size : ℕ) → Work (Unit {0})
close_plan name size = if nat_lt size birth_size then firm name 0 (0 ∷ []) else Done tt

-- The bytes after the birth gate are written, and once they are on the disk that gate is opened.
unfoldable pub birth_plan : (name : List ℕ) (asn : ℕ) (root : List ℕ) → Work LogFile
birth_plan name asn root = do
  room ← want
  size ← act (Ask name)
  fits ← within_limit (unwrap_or size 0)
  closed ← close_plan name (unwrap_or size 0)
  opened ← gate_plan name 1 (drop 1 (born asn root).front)
  Done (born asn root)

-- The batch is written after the closed gate, with another closed gate after it, and once that is on the disk the gate
-- before it is opened.
unfoldable pub append_plan : (name : List ℕ) → LogFile → List LogEntry → Work LogFile
append_plan name log entries = do
  spelled ← want
  fits ← within_limit (length (with_batch log entries).front)
  room ← want
  opened ← gate_plan name (length log.front) (batch entries ++ 0 ∷ [])
  Done (with_batch log entries)
