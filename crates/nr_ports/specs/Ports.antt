-- What files and a sink in memory stand for.
use Rattle.std.specs.Prelude.{◌≡◌, ◌≢◌, ◌==◌, ℕ, Bool, true, false, List, [], ◌∷◌, ◌++◌, length, take, get_or, replicate, Option, None, Some, if◌then◌else◌, nat_lt, nat_le, ◌+◌, ◌-◌, ◌||◌}
use Rattle.std.specs.List.{list_any}
use Rattle.std.specs.Str.{bytes_eq}
use Rattle.nr_spec_plans.specs.Disk.{Contents, Disk, Told, Tape, Loose, Range, more, moment_of, bytes_of, settled, written, cut_to, loose_by_write, loose_by_cut}
use Rattle.nr_spec_crash.specs.Images.{IsImage, IsImageOf, is_in}

-- numbered calls, from 1 on
pub record Numbering : Type 0 where
  pub failing : List ℕ  -- the numbers of the calls that are to fail
  pub made : ℕ  -- how many there were

-- whether the next call is to fail
abbrev pub fails_next : Numbering → Bool
fails_next calls = list_any (λ number. number == more 1 calls.made) calls.failing

-- one call later
abbrev pub counted : Numbering → Numbering
counted calls = record { failing = calls.failing; made = more 1 calls.made }

-- how many faults there are after the next call
abbrev pub faults_after : Numbering → ℕ → ℕ
faults_after calls faults = if fails_next calls then more 1 faults else faults

-- one number more that is to fail
abbrev pub listed : ℕ → Numbering → Numbering
listed number calls = record { failing = calls.failing ++ number ∷ []; made = calls.made }

-- what is stored under a name: what a read gives, None where it is absent, and what a crash may change of it
pub record Stored : Type 0 where
  pub file : Option (List ℕ)
  pub loose : Loose

abbrev pub absent : Stored
absent = record { file = None; loose = settled [] }

-- bytes that are all on the disk
abbrev pub at_rest : List ℕ → Stored
at_rest bytes = record { file = Some bytes; loose = settled bytes }

pub record Named : Type 0 where
  pub name : List ℕ
  pub stored : Stored

-- files in memory, in the order in which their names came
pub record MemoryFiles : Type 0 where
  pub files : List Named
  pub calls : Numbering
  pub read_faults : ℕ
  pub write_faults : ℕ
  pub asks : ℕ  -- how often a size was asked for
  pub reads : ℕ  -- how many bytes were given

-- what is stored under each name
abbrev pub stored_in : List Named → List ℕ → Stored
stored_in [] name = absent
stored_in (file ∷ others) name = if bytes_eq file.name name then file.stored else stored_in others name

-- what each name holds
abbrev pub held_in : List Named → Contents
held_in files name = (stored_in files name).file

-- This is stored under a name now, and under every other what was.
pub record Stores (name : List ℕ) (now : Stored) (old new : List Named) : Type 0 where
  pub named : stored_in new name ≡ now
  pub others : (other : List ℕ) → other ≢ name → stored_in new other ≡ stored_in old other

-- ---- what calls make of what is stored

-- Each of these by whether it is done: a write or a cut that isn't has only begun, and counts for a crash.
abbrev pub write_to : Bool → (at : ℕ) (from : List ℕ) → Stored → Stored
write_to true at from s =
    record {
      file = Some (written at from (bytes_of s.file));
      loose = loose_by_write at (length from) (length (bytes_of s.file)) s.loose;
    }
write_to false at from s =
    record { file = s.file; loose = loose_by_write at (length from) (length (bytes_of s.file)) s.loose }

abbrev pub cut_by : Bool → (to : ℕ) → Stored → Stored
cut_by true to s = record { file = cut_to to s.file; loose = loose_by_cut to (length (bytes_of s.file)) s.loose }
cut_by false to s = record { file = s.file; loose = loose_by_cut to (length (bytes_of s.file)) s.loose }

abbrev pub synced : Stored → Stored
synced s = record { file = s.file; loose = settled (bytes_of s.file) }

-- ---- what a crash makes of what is stored

-- the next place of a filling, which is taken round
abbrev pub following : (place len : ℕ) → ℕ
following place len = if nat_lt (place + 1) len then place + 1 else 0

-- A byte isn't determined: it stands past the least length, or was written.
abbrev pub is_free : Loose → ℕ → Bool
is_free l place = nat_le l.least place || is_in place l.written

-- bytes from a place on, of which each that isn't determined becomes the next one of a filling; and where the filling
-- goes on
unfoldable pub refilled : Loose → (fill : List ℕ) → (place turn : ℕ) → List ℕ → List ℕ × ℕ
refilled l fill place turn [] = ([], turn)
refilled l fill place turn (byte ∷ bytes) =
    if is_free l place
    then (let rest = refilled l fill (place + 1) (following turn (length fill)) bytes in
    (get_or fill turn 0 ∷ rest.0, rest.1))
    else (let rest = refilled l fill (place + 1) turn bytes in (byte ∷ rest.0, rest.1))

-- what a read gives, and any bytes up to the greatest length
abbrev pub reached_bytes : Stored → List ℕ
reached_bytes s = bytes_of s.file ++ replicate (s.loose.greatest - length (bytes_of s.file)) 0

-- The file is then so much longer than its least length, but not past its greatest.
abbrev pub crashed : (fill : List ℕ) (extra turn : ℕ) → Stored → List ℕ × ℕ
crashed fill extra turn s =
    let all = refilled s.loose fill 0 turn (reached_bytes s) in
    (take (s.loose.least + extra) all.0, all.1)

-- the files one after another
unfoldable pub crashed_files : (fill : List ℕ) (extra turn : ℕ) → List Named → List Named
crashed_files fill extra turn [] = []
crashed_files fill extra turn (file ∷ others) =
    let left = crashed fill extra turn file.stored in
    record { name = file.name; stored = at_rest left.0 } ∷ crashed_files fill extra left.1 others

-- A crash has left an image of what was stored, and that is all on the disk.
pub record IsCrashed (old new : Stored) : Type 0 where
  pub image : IsImageOf old.loose (bytes_of old.file) (bytes_of new.file)
  pub settled : new.loose ≡ settled (bytes_of new.file)

-- other files, and nothing else changed
abbrev pub holding : List Named → MemoryFiles → MemoryFiles
holding files m =
    record {
      files = files;
      calls = m.calls;
      read_faults = m.read_faults;
      write_faults = m.write_faults;
      asks = m.asks;
      reads = m.reads;
    }

-- other numbers of calls, and nothing else changed
abbrev pub calling : Numbering → MemoryFiles → MemoryFiles
calling calls m =
    record {
      files = m.files;
      calls = calls;
      read_faults = m.read_faults;
      write_faults = m.write_faults;
      asks = m.asks;
      reads = m.reads;
    }

-- a call that reads has been made: it is counted, and its fault if it failed
abbrev pub after_reading : MemoryFiles → MemoryFiles
after_reading m = record {
  files = m.files;
  calls = counted m.calls;
  read_faults = faults_after m.calls m.read_faults;
  write_faults = m.write_faults;
  asks = m.asks;
  reads = m.reads;
}

-- a sink in memory
pub record MemorySink : Type 0 where
  pub bytes : List ℕ
  pub calls : Numbering
  pub faults : ℕ
  pub idle : ℕ  -- how often no byte was offered

-- ---- what they tell

-- Files in memory tell all that they hold, and what a crash may change of it. They keep no record of the past.
abbrev pub told_of : MemoryFiles → Told
told_of m = record {
  holds = held_in m.files;
  loose = λ name. (stored_in m.files name).loose;
  past = None;
  asks = m.asks;
  reads = m.reads;
  calls = m.calls.made;
  listed = m.calls.failing;
}

abbrev pub disk_of : MemoryFiles → Disk
disk_of m = record { told = Some (told_of m); read_faults = m.read_faults; write_faults = m.write_faults }

abbrev pub tape_of : MemorySink → Tape
tape_of s = record { told = Some (record { taken = s.bytes; idle = s.idle }); faults = s.faults }

-- ---- a crash

-- A crash has left one of the images under each name, and all of it is on the disk.
pub record LeavesImages (old new : Told) : Type 0 where
  pub images : (name : List ℕ) → IsImage (moment_of old) name (bytes_of (new.holds name))
  pub settled : (name : List ℕ) → new.loose name ≡ settled (bytes_of (new.holds name))

-- ---- the fields of a stored file

-- what a read gives of the bytes that were reached: so many first ones, where the file is there
abbrev pub file_of : List ℕ → Bool → ℕ → Option (List ℕ)
file_of bytes true len = Some (take len bytes)
file_of bytes false len = None

abbrev pub stored_of : List ℕ → Bool → ℕ → ℕ → List Range → Stored
stored_of bytes there len least written =
    record {
      file = file_of bytes there len;
      loose = record { least = least; greatest = length bytes; written = written };
    }
