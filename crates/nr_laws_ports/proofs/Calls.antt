-- Each call keeps the length that a read gives between the least and the greatest.
use Rattle.std.proofs.Common.{◌≡◌, ◌≢◌, ℕ, ◌≤◌, true, false, List, [], length, Option, None, Some, Result, Ok, Err, refl, sym, ap, subst, ◌∙◌, inl, inr, ◌⊎◌, ⊎_elim, arith}
use Rattle.std.specs.Prelude.{option_map}
use Rattle.std.specs.Str.{bytes_eq}
use Rattle.std.proofs.lemmas.Bool.{cases_Bool}
use Rattle.std.proofs.lemmas.Slice.Eq.{bytes_eq-Decides}
use Rattle.nr_spec_plans.specs.Disk.{Disk, Told, Fault, ReadFault, WriteFault, Memory, GivesAt, bytes_of, reading, settled, ticking}
use Rattle.nr_spec_crash.specs.Crashes.{IsSound}
use Rattle.nr_ports.specs.Ports.{LeavesImages, MemoryFiles, Numbering, Stored, Stores, at_rest, calling, disk_of, stored_in, told_of}
use Rattle.nr_laws_ports.specs.Sound.{AreSound}

-- ---- reading

-- what is told is as before but for some counts
counted : (name : List ℕ) (old new : Disk) (s : IsSound name old) (f : Told → Told) → new.told ≡ option_map f old.told
    → (f s.now).holds ≡ s.now.holds → (f s.now).loose ≡ s.now.loose → IsSound name new
counted name old new s f told holds loose = record {
  now = f s.now;
  told = told ∙ ap (option_map f) s.told;
  least = rw (holds, loose) s.least;
  greatest = rw (holds, loose) s.greatest;
}

pub read_keeps : (name : List ℕ) (at : ℕ) (before after : List ℕ) (old new : Disk) (got : Result ℕ Fault) → AreSound old → GivesAt name at before after old new got → AreSound new
read_keeps name at before after old new (Ok n) sound gives other =
    counted other old new (sound other) (λ t. reading n (ticking 1 t)) (ap (λ (d : Disk). d.told) gives.leaves ∙ twice old.told) refl refl
  where
    twice : (told : Option Told) → option_map (reading n) (option_map (ticking 1) told) ≡ option_map (λ t. reading n (ticking 1 t)) told
    twice (Some t) = refl
    twice None = refl
read_keeps name at before after old new (Err ReadFault) sound gives other =
    counted other old new (sound other) (ticking 1) (ap (λ (d : Disk). d.told) gives.leaves) refl refl
read_keeps name at before after old new (Err WriteFault) sound gives other = absurd gives.cause
read_keeps name at before after old new (Err Memory) sound gives other = absurd gives.cause

-- ---- files in memory

-- What is stored under this name is sound.
record IsFit (s : Stored) : Type 0 where
  pub least : s.loose.least ≤ length (bytes_of s.file)
  pub greatest : length (bytes_of s.file) ≤ s.loose.greatest

fit_sound : (name : List ℕ) (m : MemoryFiles) → IsFit (stored_in m.files name) → IsSound name (disk_of m)
fit_sound name m fit = record { now = told_of m; told = refl; least = fit.least; greatest = fit.greatest }

told_is : (a b : Told) → Some a ≡ Some b → a ≡ b
told_is a b e = cc

sound_fit : (name : List ℕ) (m : MemoryFiles) → IsSound name (disk_of m) → IsFit (stored_in m.files name)
sound_fit name m s =
    let same : s.now ≡ told_of m = told_is s.now (told_of m) (sym s.told) in record {
      least = subst (λ (t : Told). (t.loose name).least ≤ length (bytes_of (t.holds name))) same s.least;
      greatest = subst (λ (t : Told). length (bytes_of (t.holds name)) ≤ (t.loose name).greatest) same s.greatest;
    }

settled_fit : (s : Stored) → s.loose ≡ settled (bytes_of s.file) → IsFit s
settled_fit s is = record { least = rw is (omega arith); greatest = rw is (omega arith) }

pub none_sound : (m : MemoryFiles) → m.files ≡ [] → AreSound (disk_of m)
none_sound m none name = fit_sound name m (rw none (settled_fit (stored_in [] name) refl))

which : (name other : List ℕ) → (other ≡ name) ⊎ (other ≢ name)
which name other = elim (cases_Bool (bytes_eq other name)) [
  | inl is ↦ inl ((bytes_eq-Decides other name).0 is)
  | inr is ↦ inr (λ same. let h : bytes_eq other name ≡ true = (bytes_eq-Decides other name).1 same in absurd (let e : true ≡ false = sym h ∙ is in cc))
]

pub put_sound : (name bytes : List ℕ) (old new : MemoryFiles) → AreSound (disk_of old) → Stores name (at_rest bytes) old.files new.files → AreSound (disk_of new)
put_sound name bytes old new sound stores other =
    ⊎_elim (λ (same : other ≡ name). fit_sound other new (rw (same, stores.named) (settled_fit (at_rest bytes) refl)))
    (λ (ne : other ≢ name). fit_sound other new (rw (stores.others other ne) (sound_fit other old (sound other)))) (which name other)

pub crash_sound : (old new : MemoryFiles) → LeavesImages (told_of old) (told_of new) → AreSound (disk_of new)
crash_sound old new leaves name = fit_sound name new (settled_fit (stored_in new.files name) (leaves.settled name))

pub listed_sound : (calls : Numbering) (m : MemoryFiles) → AreSound (disk_of m) → AreSound (disk_of (calling calls m))
listed_sound calls m sound name = fit_sound name (calling calls m) (sound_fit name m (sound name))
