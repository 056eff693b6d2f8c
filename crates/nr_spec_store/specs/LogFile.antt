-- The log file: a birth, and batches of entries, each after a gate of one byte. A gate is opened by the byte 1 and
-- closed by every other byte; what stands after a closed gate is ignored.
use Rattle.std.specs.Prelude.{ℕ, zero, suc, ◌-◌, ◌^◌, ◌<◌, ◌≤◌, ◌≡◌, Bool, false, ◌&&◌, ◌==◌, nat_lt, nat_le, if◌then◌else◌, List, [], ◌∷◌, ◌++◌, length, take, get_or, Option, None, Some, Result, Ok, Err, codes}
use Rattle.std.specs.List.{flat_map}
use Rattle.std.specs.Str.{bytes_eq}
use Rattle.byteorder.specs.Endian.{big_bytes}
use Rattle.nr_spec_wire.specs.Reading.{Spot, Read, ◌>>=◌, start_of, number_at, bytes_at, part_at, wants, between}
use Rattle.nr_spec_log.specs.Chain.{LogEntry}
use Rattle.nr_spec_log.specs.Authenticator.{digest_size}
use Rattle.nr_spec_log.specs.Answer.{AreEntriesFrom, entry, entry_at, last_time}

-- a log as its file holds it
pub record LogFile : Type 0 where
  pub asn : ℕ
  pub root : List ℕ  -- of the key with which it is signed
  pub entries : List LogEntry
  pub front : List ℕ  -- the file's bytes to the end of the closed gate after the last batch

abbrev pub log_magic : List ℕ
log_magic = codes "NRLOG1"

-- the greatest size of the file, and how many bytes a log without batches has
abbrev pub most_log : ℕ
most_log = 2147483647

abbrev pub birth_size : ℕ
birth_size = 44

-- Only this byte opens a gate.
abbrev pub is_open : ℕ → Bool
is_open gate = gate == 1

-- the entries of batches one after another
abbrev pub entries_of : List (List LogEntry) → List LogEntry
entries_of batches = flat_map (λ batch. batch) batches

-- ---- spelling

-- entries one after another
abbrev pub spelled : List LogEntry → List ℕ
spelled entries = flat_map entry entries

-- a length, and so many bytes of entries
abbrev pub batch : List LogEntry → List ℕ
batch entries = big_bytes 4 (length (spelled entries)) ++ spelled entries

abbrev pub open_batch : List LogEntry → List ℕ
open_batch entries = 1 ∷ batch entries

-- the open birth gate, the magic, the AS and the root
abbrev pub birth : ℕ → List ℕ → List ℕ
birth asn root = 1 ∷ (log_magic ++ (big_bytes 4 asn ++ root))

abbrev pub log_front : ℕ → List ℕ → List (List LogEntry) → ℕ → List ℕ
log_front asn root batches gate = birth asn root ++ (flat_map open_batch batches ++ gate ∷ [])

-- batches that fit, each of an entry at least, whose times don't run back after this one
abbrev pub AreBatchesFrom : ℕ → List (List LogEntry) → Type 0
AreBatchesFrom last [] = Unit {0}
AreBatchesFrom last (es ∷ batches) =
    AreEntriesFrom last es × (1 ≤ length es) × (length (spelled es) < 2 ^ 32)
    × AreBatchesFrom (last_time last es) batches

-- ---- reading

-- entries to the end of their bytes, whose times don't run back
unfoldable pub entries_to_end : ℕ → ℕ → Spot → Read (List LogEntry)
entries_to_end last zero s = Ok ([], s)
entries_to_end last (suc fuel) s = if length s.rest == 0 then Ok ([], s) else (do
  first ← entry_at false last s
  others ← entries_to_end first.0.time fuel first.1
  Ok (first.0 ∷ others.0, others.1))

-- The entries of a batch after its open gate, as a part. Where its bytes and one more, the next gate, aren't all there,
-- the fault is at the length.
unfoldable pub part_of_batch : Spot → Read Spot
part_of_batch s = do
  any ← number_at 4 s
  size ← wants (nat_le 1 any.0 && nat_lt any.0 (length any.1.rest)) s.at any
  part_at size.0 size.1

unfoldable pub batch_at : ℕ → Spot → Read (List LogEntry)
batch_at last s = do
  part ← part_of_batch s
  entries ← entries_to_end last (length part.0.rest) part.0
  Ok (entries.0, part.1)

-- the batches up to the first closed gate, and where that gate ends
unfoldable pub batches_at : ℕ → ℕ → Spot → Read (List (List LogEntry))
batches_at last zero s = Err s.at
batches_at last (suc fuel) s = do
  gate ← number_at 1 s
  if is_open gate.0 then (do
    first ← batch_at last gate.1
    others ← batches_at (last_time last first.0) fuel first.1
    Ok (first.0 ∷ others.0, others.1)) else Ok ([], gate.1)

-- what stands before the gate of the first batch
pub record Birth : Type 0 where
  pub asn : ℕ
  pub root : List ℕ

unfoldable pub birth_at : Spot → Read Birth
birth_at s = do
  gate ← number_at 1 s
  any ← bytes_at 6 gate.1
  magic ← wants (bytes_eq any.0 log_magic) gate.1.at any
  asn ← number_at 4 magic.1
  root ← bytes_at digest_size asn.1
  Ok (record { asn = asn.0; root = root.0 }, root.1)

-- The log was born: the file has the bytes of a birth, and its birth gate is open.
abbrev pub is_born : List ℕ → Bool
is_born bytes = nat_le birth_size (length bytes) && is_open (get_or bytes 0 0)

unfoldable pub born_log : Spot → Result LogFile ℕ
born_log s = do
  birth ← birth_at s
  batches ← batches_at 0 (length birth.1.rest) birth.1
  Ok (record { asn = birth.0.asn; root = birth.0.root; entries = entries_of batches.0; front = between s batches.1 })

-- the log that a file holds, none where it isn't born, or the first malformed field
unfoldable pub log_of : List ℕ → Result (Option LogFile) ℕ
log_of bytes = if is_born bytes then (born_log (start_of bytes) >>= λ log. Ok (Some log)) else Ok None

-- ---- birth and appending

-- a log without entries
abbrev pub born : ℕ → List ℕ → LogFile
born asn root = record { asn = asn; root = root; entries = []; front = log_front asn root [] 0 }

-- the gate at the end is opened
abbrev pub opened : List ℕ → List ℕ
opened front = take (length front - 1) front ++ 1 ∷ []

-- the log with one batch more
unfoldable pub with_batch : LogFile → List LogEntry → LogFile
with_batch log entries = record {
  asn = log.asn;
  root = log.root;
  entries = log.entries ++ entries;
  front = opened log.front ++ (batch entries ++ 0 ∷ []);
}

-- A batch may follow this time: it has an entry at least, its entries fit, and their times don't run back, nor below
-- that one.
pub record MayFollow (last : ℕ) (es : List LogEntry) : Type 0 where
  pub fit : AreEntriesFrom last es
  pub some : 1 ≤ length es

-- what has a spelling: batches that fit after a birth, and a closed gate after them
pub record IsLog (log : LogFile) : Type 0 where
  pub batches : List (List LogEntry)
  pub gate : ℕ
  pub closed : is_open gate ≡ false
  pub fit : AreBatchesFrom 0 batches
  pub asn : log.asn < 2 ^ 32
  pub root : length log.root ≡ digest_size
  pub entries : log.entries ≡ entries_of batches
  pub front : log.front ≡ log_front log.asn log.root batches gate
