-- Files that are written in pieces, so that nobody holds their bytes in one.
use Rattle.std.specs.Prelude.{ℕ, ◌+◌, nat_lt, if◌then◌else◌, List, [], ◌∷◌, ◌++◌, length, Ok}
use Rattle.std.specs.List.{flat_map}
use Rattle.byteorder.specs.Endian.{big_bytes}
use Rattle.nr_spec_plans.specs.Disk.{Disk, Cuts, Writes, Syncs}
use Rattle.nr_spec_plans.specs.Plans.{Plan, Refuse, Room, Cut, Write, Sync, act, ◌>>=◌}
use Rattle.nr_spec_evidence.specs.Evidence.{EvidenceFile, claim_bytes, evidence_file, evidence_front, most_evidence, sized}

-- ---- pieces one behind another

-- writes each piece behind the one before, the first from a place on, and syncs the file
unfoldable pub write_parts : {E : Type 0} (name : List ℕ) (at : ℕ) → List (List ℕ) → Plan E (Unit {0})
write_parts name at [] = act (Sync name)
write_parts name at (part ∷ others) = do
  wrote ← act (Write name at part)
  write_parts name (at + length part) others

-- cuts a file to nothing, writes these pieces and syncs it
unfoldable pub save_parts : {E : Type 0} (name : List ℕ) → List (List ℕ) → Plan E (Unit {0})
save_parts name parts = do
  cut ← act (Cut name 0)
  write_parts name 0 parts

-- Each piece was written behind the one before and the file synced, and each of these went well.
abbrev pub PartsWritten : (name : List ℕ) (at : ℕ) → List (List ℕ) → Disk → Disk → Type 0
PartsWritten name at [] old new = Syncs name old new (Ok tt)
PartsWritten name at (part ∷ others) old new =
    (mid : Disk) × Writes name at part old mid (Ok tt) × PartsWritten name (at + length part) others mid new

-- The file was cut to nothing, written piece by piece and synced, and each of these went well.
abbrev pub PartsSaved : (name : List ℕ) → List (List ℕ) → Disk → Disk → Type 0
PartsSaved name parts old new = (cut : Disk) × Cuts name 0 old cut (Ok tt) × PartsWritten name 0 parts cut new

-- ---- evidence

-- what stands between the answer's bytes and the claims
abbrev pub evidence_middle : EvidenceFile → List ℕ
evidence_middle e =
    sized e.promise ++ (big_bytes 8 e.period.from ++ (big_bytes 8 e.period.to ++ big_bytes 4 (length e.claims)))

-- the pieces in which evidence is written, so that nobody holds the answer's bytes twice
unfoldable pub evidence_parts : EvidenceFile → List (List ℕ)
evidence_parts e = evidence_front e.answer ∷ e.answer ∷ evidence_middle e ∷ flat_map claim_bytes e.claims ∷ []

-- Evidence would have so many bytes, which is more than it may have.
pub record TooLong : Type 0 where
  pub found : ℕ

-- evidence that isn't too long is written
abbrev pub saving_evidence : (name : List ℕ) → EvidenceFile → Plan TooLong (Unit {0})
saving_evidence name e =
    if nat_lt most_evidence (length (evidence_file e))
    then Refuse (record { found = length (evidence_file e) }) else save_parts name (evidence_parts e)

-- the same, after all memory that it wants itself; a call on the file may want more
unfoldable pub save_evidence : (name : List ℕ) → EvidenceFile → Plan TooLong (Unit {0})
save_evidence name e = Room (saving_evidence name e)
