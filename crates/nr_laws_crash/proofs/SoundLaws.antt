-- What a read gives goes on to be an image.
use Rattle.std.proofs.Common.{◌≡◌, ◌≢◌, ℕ, ◌+◌, ◌≤◌, min, true, false, List, ◌++◌, length, take, drop, Option, None, Some, Result, Ok, Err, sym, ap, subst, ◌∙◌, inl, inr, ◌⊎◌, ⊎_elim, arith}
use Rattle.std.specs.Prelude.{◌==◌}
use Rattle.std.specs.Str.{bytes_eq}
use Rattle.std.proofs.lemmas.Bool.{cases_Bool}
use Rattle.std.proofs.lemmas.Slice.Eq.{bytes_eq-Decides}
use Rattle.std.proofs.lemmas.List.{length-append, length-take, length-drop}
use Rattle.nr_spec_plans.specs.Disk.{Disk, Told, Loose, Fault, ReadFault, WriteFault, Memory, moment_of, ticking, settled, loose_by_write, loose_by_cut, bytes_of, size_of, written, cut_to, TornWrite, TornCut, Torn, ChangesOnly, Leaves}
use Rattle.nr_spec_plans.specs.Plans.{Action, Acts, Ask, Read, Cut, Write, Sync, Plan, Done, Refuse, Room, Act, Halt, Runs}
use Rattle.nr_spec_plans.specs.Laws.{Each, Kept}
use Rattle.nr_spec_crash.specs.Images.{IsImage}
use Rattle.nr_spec_crash.specs.Crashes.{MayLeave, IsSound}
use Rattle.nr_spec_plans.proofs.PlanLaws.{step_keeps}
use Rattle.nr_laws_crash.proofs.CrashLaws.{was_told, field_kept, KeepsBy, run_keeps}
use Rattle.nr_laws_crash.proofs.ImageLaws.{held_image}
use Rattle.nr_laws_crash.proofs.FirmLaws.{written_size}

sound_kept : (name : List ℕ) (old new : Disk) → Kept name old.told new.told → IsSound name old → IsSound name new
sound_kept name old new kept s =
    let u = was_told (λ (t : Told). t.holds name) new.told old.told s.now s.told (sym kept.holds) in
    let holds = field_kept (λ (t : Told). t.holds name) old.told new.told s.now u.0 s.told u.1 kept.holds in
    let loose = field_kept (λ (t : Told). t.loose name) old.told new.told s.now u.0 s.told u.1 kept.loose in
    record { now = u.0; told = u.1; least = rw (loose, holds) s.least; greatest = rw (loose, holds) s.greatest }

-- by the new length and what is loose
sound_by : (name : List ℕ) (new : Disk) (u : Told) (l : Loose) → new.told ≡ Some u → u.loose name ≡ l → l.least ≤ size_of u name → size_of u name ≤ l.greatest → IsSound name new
sound_by name new u l told is least greatest = record { now = u; told = told; least = rw is least; greatest = rw is greatest }

sound_same : (name : List ℕ) (old new : Disk) (u : Told) → (s : IsSound name old) → new.told ≡ Some u → u ≡ ticking 1 s.now → IsSound name new
sound_same name old new u s told same = record { now = ticking 1 s.now; told = told ∙ ap (λ (t : Told). Some t) same; least = s.least; greatest = s.greatest }

written_least : (at : ℕ) (from file : List ℕ) → length file ≤ length (written at from file)
written_least at from file = omega (arith, length-append (take at file ++ from) (drop (at + length from) file), length-append (take at file) from, length-take at file, length-drop (at + length from) file)

cut_size : (to : ℕ) (file : Option (List ℕ)) → length (bytes_of (cut_to to file)) ≡ min (length (bytes_of file)) to
cut_size to (Some bytes) = omega (arith, length-take to bytes)
cut_size to None = elim (cases_Bool (to == 0)) [
  | inl is ↦ rw is (omega arith)
  | inr is ↦ rw is (omega arith)
]

write_sound : (name : List ℕ) (at : ℕ) (from : List ℕ) (old mid : Disk) (got : Result (Unit {0}) Fault) → (s : IsSound name old) → (u : Told) → mid.told ≡ Some u
    → Leaves got (λ t u. ChangesOnly name (λ f. f ≡ Some (written at from (bytes_of (t.holds name)))) (loose_by_write at (length from) (size_of t name) (t.loose name)) t u)
    (λ t u. ChangesOnly name (Torn (TornWrite at (length from)) (t.holds name)) (loose_by_write at (length from) (size_of t name) (t.loose name)) t u) s.now u → IsSound name mid
write_sound name at from old mid (Ok x) s u told c =
    let size : size_of u name ≡ length (written at from (bytes_of (s.now.holds name))) = ap (λ (f : Option (List ℕ)). length (bytes_of f)) c.named in
    sound_by name mid u _ told c.loose (omega (arith, s.least, size, written_least at from (bytes_of (s.now.holds name)))) (omega (arith, s.greatest, size, written_size at from (bytes_of (s.now.holds name))))
write_sound name at from old mid (Err ReadFault) s u told c = absurd c
write_sound name at from old mid (Err WriteFault) s u told c = sound_by name mid u _ told c.loose (omega (arith, s.least, c.named.bytes.no_shorter)) (omega (arith, s.greatest, c.named.bytes.no_longer))
write_sound name at from old mid (Err Memory) s u told same = sound_same name old mid u s told same

cut_sound : (name : List ℕ) (to : ℕ) (old mid : Disk) (got : Result (Unit {0}) Fault) → (s : IsSound name old) → (u : Told) → mid.told ≡ Some u
    → Leaves got (λ t u. ChangesOnly name (λ f. f ≡ cut_to to (t.holds name)) (loose_by_cut to (size_of t name) (t.loose name)) t u)
    (λ t u. ChangesOnly name (Torn (TornCut to) (t.holds name)) (loose_by_cut to (size_of t name) (t.loose name)) t u) s.now u → IsSound name mid
cut_sound name to old mid (Ok x) s u told c =
    let size : size_of u name ≡ min (size_of s.now name) to = ap (λ (f : Option (List ℕ)). length (bytes_of f)) c.named ∙ cut_size to (s.now.holds name) in
    sound_by name mid u _ told c.loose (omega (arith, s.least, size)) (omega (arith, s.greatest, size))
cut_sound name to old mid (Err ReadFault) s u told c = absurd c
cut_sound name to old mid (Err WriteFault) s u told c =
    let front : min to (size_of u name) ≡ min to (size_of s.now name) = sym (length-take to (bytes_of (u.holds name))) ∙ ap length c.named.bytes.before ∙ length-take to (bytes_of (s.now.holds name)) in
    sound_by name mid u _ told c.loose (omega (arith, s.least, front)) (omega (arith, s.greatest, c.named.bytes.no_longer))
cut_sound name to old mid (Err Memory) s u told same = sound_same name old mid u s told same

sync_sound : (name : List ℕ) (old mid : Disk) (got : Result (Unit {0}) Fault) → (s : IsSound name old) → (u : Told) → mid.told ≡ Some u
    → Leaves got (λ t u. ChangesOnly name (λ file. file ≡ t.holds name) (settled (bytes_of (t.holds name))) t u) (λ t u. u ≡ ticking 1 t) s.now u → IsSound name mid
sync_sound name old mid (Ok x) s u told c =
    let size : size_of u name ≡ size_of s.now name = ap (λ (f : Option (List ℕ)). length (bytes_of f)) c.named in
    sound_by name mid u _ told c.loose (omega (arith, size)) (omega (arith, size))
sync_sound name old mid (Err ReadFault) s u told c = absurd c
sync_sound name old mid (Err WriteFault) s u told same = sound_same name old mid u s told same
sync_sound name old mid (Err Memory) s u told same = sound_same name old mid u s told same

-- the name of a step is this one or another
which : (name other : List ℕ) → (other ≡ name) ⊎ (name ≢ other)
which name other = elim (cases_Bool (bytes_eq other name)) [
  | inl is ↦ inl ((bytes_eq-Decides other name).0 is)
  | inr is ↦ inr (λ same. let h : bytes_eq other name ≡ true = (bytes_eq-Decides other name).1 (sym same) in absurd (let e : true ≡ false = sym h ∙ is in cc))
]

pub step_sound : (name : List ℕ) (action : Action) → KeepsBy (IsSound name) action
step_sound name (Ask other) = λ old mid got s acts. sound_kept name old mid (step_keeps name (Ask other) old mid got tt acts) s
step_sound name (Read other size) = λ old mid got s acts. sound_kept name old mid (step_keeps name (Read other size) old mid got tt acts) s
step_sound name (Cut other to) = λ old mid got s acts.
    ⊎_elim (λ same. let a = subst (λ (n : List ℕ). Acts (Cut n to) old mid got) same acts in let u = a.told s.now s.told in cut_sound name to old mid got s u.0 u.1 u.2)
    (λ ne. sound_kept name old mid (step_keeps name (Cut other to) old mid got ne acts) s) (which name other)
step_sound name (Write other at from) = λ old mid got s acts.
    ⊎_elim (λ same. let a = subst (λ (n : List ℕ). Acts (Write n at from) old mid got) same acts in let u = a.told s.now s.told in write_sound name at from old mid got s u.0 u.1 u.2)
    (λ ne. sound_kept name old mid (step_keeps name (Write other at from) old mid got ne acts) s) (which name other)
step_sound name (Sync other) = λ old mid got s acts.
    ⊎_elim (λ same. let a = subst (λ (n : List ℕ). Acts (Sync n) old mid got) same acts in let u = a.told s.now s.told in sync_sound name old mid got s u.0 u.1 u.2)
    (λ ne. sound_kept name old mid (step_keeps name (Sync other) old mid got ne acts) s) (which name other)

each_sound : {E A : Type 0} (name : List ℕ) (p : Plan E A) → Each (KeepsBy (IsSound name)) p
each_sound name (Done value) = tt
each_sound name (Refuse refusal) = tt
each_sound name (Room next) = each_sound name next
each_sound name (Act action next) = (step_sound name action, λ answer. each_sound name (next answer))

-- After every run of every plan what a read gives is itself an image, if it was before.
pub read_is_image : {E A : Type 0} (name : List ℕ) (p : Plan E A) (old new : Disk) (result : Result A (Halt E)) → IsSound name old → Runs p old new result → (u : Told) × (new.told ≡ Some u) × MayLeave new name (bytes_of (u.holds name))
read_is_image name p old new result sound runs =
    let s = run_keeps (IsSound name) p old new result (each_sound name p) sound runs in
    (s.now, s.told, (s.now, s.told, held_image (moment_of s.now) name s.least s.greatest))

-- What a read gives is an image.
pub sound_image : (name : List ℕ) (d : Disk) (t : Told) → IsSound name d → d.told ≡ Some t → IsImage (moment_of t) name (bytes_of (t.holds name))
sound_image name d t sound told =
    let both : Some t ≡ Some sound.now = sym told ∙ sound.told in
    let same : t ≡ sound.now = cc in
    subst (λ (u : Told). IsImage (moment_of u) name (bytes_of (u.holds name))) (sym same) (held_image (moment_of sound.now) name sound.least sound.greatest)
