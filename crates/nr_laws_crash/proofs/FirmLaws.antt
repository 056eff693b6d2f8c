-- Files that rest, and bytes that are written and synced.
use Rattle.std.proofs.Common.{◌≡◌, ℕ, ◌+◌, ◌≤◌, max, List, ◌++◌, length, take, drop, Option, None, Some, Result, Ok, Err, refl, sym, ap, subst, ◌∙◌, inl, inr, arith}
use Rattle.nr_spec_plans.specs.Disk.{Disk, Told, Moment, Loose, Fault, ReadFault, WriteFault, Memory, moment_of, ticking, settled, loose_by_write, bytes_of, size_of, written, TornWrite, Torn, ChangesOnly, Leaves}
use Rattle.nr_spec_plans.specs.Plans.{Acts, Write, Sync, Runs, followed_by, act}
use Rattle.nr_spec_plans.specs.Laws.{Each, Kept}
use Rattle.nr_spec_crash.specs.Images.{IsImage}
use Rattle.nr_spec_crash.specs.Crashes.{Now, MayLeave, Sometime, Crashes, Rests, IsWithin}
use Rattle.nr_spec_crash.specs.Firm.{firm}
use Rattle.std.proofs.lemmas.List.{length-append, length-take, length-drop}
use Rattle.nr_laws_crash.proofs.CrashLaws.{was_told, field_kept, KeepsBy}
use Rattle.nr_laws_crash.proofs.ImageLaws.{settled_image, settled_held, written_torn, torn_image, greatest_image}

pub some_told : (a : Option Told) (t u : Told) → a ≡ Some t → a ≡ Some u → u ≡ t
some_told a t u is at = let e : Some u ≡ Some t = sym at ∙ is in cc

-- What is told but for the number of calls decides what a crash may leave.
pub still_left : (old mid : Disk) (t : Told) (Q : Moment → Type 0) → old.told ≡ Some t → mid.told ≡ Some (ticking 1 t) → Now mid Q → Now old Q
still_left old mid t Q told is left = (t, told, subst (λ (v : Told). Q (moment_of v)) (some_told mid.told (ticking 1 t) left.0 is left.1) left.2)

-- A crash leaves a file that rests.
pub rests_image : (d : Disk) (name file image : List ℕ) → Rests d name file → MayLeave d name image → image ≡ file
rests_image d name file image rests left =
    let same : left.0 ≡ rests.now = some_told d.told rests.now left.0 rests.told left.1 in
    let is : IsImage (moment_of rests.now) name image = subst (λ (t : Told). IsImage (moment_of t) name image) same left.2 in
    settled_image (moment_of rests.now) name image (rests.loose ∙ ap settled (sym rests.bytes)) is ∙ rests.bytes

-- and it is one of those that a crash leaves
pub rests_left : (d : Disk) (name file : List ℕ) → Rests d name file → MayLeave d name file
rests_left d name file rests =
    (rests.now, rests.told, subst (λ (f : List ℕ). IsImage (moment_of rests.now) name f) rests.bytes (settled_held (moment_of rests.now) name (rests.loose ∙ ap settled (sym rests.bytes))))

-- A file under another name goes on to rest.
pub rests_kept : (old new : Disk) (name file : List ℕ) → Kept name old.told new.told → Rests old name file → Rests new name file
rests_kept old new name file kept rests =
    let u = was_told (λ (t : Told). t.holds name) new.told old.told rests.now rests.told (sym kept.holds) in
    let holds = field_kept (λ (t : Told). t.holds name) old.told new.told rests.now u.0 rests.told u.1 kept.holds in
    let loose = field_kept (λ (t : Told). t.loose name) old.told new.told rests.now u.0 rests.told u.1 kept.loose in
    record { now = u.0; told = u.1; bytes = ap bytes_of holds ∙ rests.bytes; loose = loose ∙ rests.loose }

pub written_size : (at : ℕ) (from file : List ℕ) → length (written at from file) ≤ max (length file) (at + length from)
written_size at from file =
    omega (arith, length-append (take at file ++ from) (drop (at + length from) file), length-append (take at file) from, length-take at file, length-drop (at + length from) file)

-- ---- a write into a file that rests

-- Under this name is a file that was written into, or may have been.
pub record IsTorn (d : Disk) (name : List ℕ) (at n : ℕ) (file : List ℕ) : Type 0 where
  pub now : Told
  pub told : d.told ≡ Some now
  pub torn : TornWrite at n file (bytes_of (now.holds name))
  pub loose : now.loose name ≡ loose_by_write at n (length file) (settled file)

torn_left : (d : Disk) (name : List ℕ) (at n : ℕ) (file image : List ℕ) → at ≤ length file → IsTorn d name at n file → MayLeave d name image → TornWrite at n file image
torn_left d name at n file image within is left =
    let same : left.0 ≡ is.now = some_told d.told is.now left.0 is.told left.1 in
    let image_is : IsImage (moment_of is.now) name image = subst (λ (t : Told). IsImage (moment_of t) name image) same left.2 in
    torn_image (moment_of is.now) name at n file image within is.loose is.torn image_is

pub whole_torn : (at n : ℕ) (file : List ℕ) → TornWrite at n file file
whole_torn at n file = record { before = refl; rest = refl; no_shorter = omega arith; no_longer = omega arith }

loose_in : (at n : ℕ) (t : Told) (name file : List ℕ) → bytes_of (t.holds name) ≡ file → t.loose name ≡ settled file → loose_by_write at n (size_of t name) (t.loose name) ≡ loose_by_write at n (length file) (settled file)
loose_in at n t name file bytes loose = rw (loose, bytes) refl

written_step : (name : List ℕ) (at : ℕ) (from file : List ℕ) (t u : Told) (mid : Disk) → at ≤ length file → bytes_of (t.holds name) ≡ file → t.loose name ≡ settled file → mid.told ≡ Some u
    → ChangesOnly name (λ f. f ≡ Some (written at from (bytes_of (t.holds name)))) (loose_by_write at (length from) (size_of t name) (t.loose name)) t u → IsTorn mid name at (length from) file
written_step name at from file t u mid within bytes loose told c =
    let now : bytes_of (u.holds name) ≡ written at from file = ap bytes_of c.named ∙ ap (written at from) bytes in
    record { now = u; told = told; torn = rw now (written_torn at from file within); loose = c.loose ∙ loose_in at (length from) t name file bytes loose }

torn_step : (name : List ℕ) (at n : ℕ) (file : List ℕ) (t u : Told) (mid : Disk) → bytes_of (t.holds name) ≡ file → t.loose name ≡ settled file → mid.told ≡ Some u
    → ChangesOnly name (Torn (TornWrite at n) (t.holds name)) (loose_by_write at n (size_of t name) (t.loose name)) t u → IsTorn mid name at n file
torn_step name at n file t u mid bytes loose told c =
    record { now = u; told = told; torn = subst (λ (f : List ℕ). TornWrite at n f (bytes_of (u.holds name))) bytes c.named.bytes; loose = c.loose ∙ loose_in at n t name file bytes loose }

-- what a write leaves to a crash, whatever it answered
write_left : (name : List ℕ) (at : ℕ) (from file image : List ℕ) (t u : Told) (mid : Disk) (got : Result (Unit {0}) Fault) → at ≤ length file → bytes_of (t.holds name) ≡ file → t.loose name ≡ settled file → mid.told ≡ Some u
    → Leaves got (λ t u. ChangesOnly name (λ f. f ≡ Some (written at from (bytes_of (t.holds name)))) (loose_by_write at (length from) (size_of t name) (t.loose name)) t u)
    (λ t u. ChangesOnly name (Torn (TornWrite at (length from)) (t.holds name)) (loose_by_write at (length from) (size_of t name) (t.loose name)) t u) t u
    → MayLeave mid name image → TornWrite at (length from) file image
write_left name at from file image t u mid (Ok x) within bytes loose told c left = torn_left mid name at (length from) file image within (written_step name at from file t u mid within bytes loose told c) left
write_left name at from file image t u mid (Err ReadFault) within bytes loose told c left = absurd c
write_left name at from file image t u mid (Err WriteFault) within bytes loose told c left = torn_left mid name at (length from) file image within (torn_step name at (length from) file t u mid bytes loose told c) left
write_left name at from file image t u mid (Err Memory) within bytes loose told same left =
    let rests : Rests mid name file = record { now = ticking 1 t; told = told ∙ ap (λ (v : Told). Some v) same; bytes = bytes; loose = loose } in
    let is = rests_image mid name file image rests left in
    subst (TornWrite at (length from) file) (sym is) (whole_torn at (length from) file)

-- what a sync leaves to a crash, whatever it answered: nothing more than before it
sync_left : (name image : List ℕ) (P : List ℕ → Type 0) (old mid : Disk) (t : Told) (got : Result (Unit {0}) Fault) → old.told ≡ Some t → Acts (Sync name) old mid got → P (bytes_of (t.holds name)) → ((image : List ℕ) → MayLeave old name image → P image) → MayLeave mid name image → P image
sync_left name image P old mid t got told acts now before left = let u = acts.told t told in by_answer got u.0 u.1 u.2
  where
    by_answer : (got : Result (Unit {0}) Fault) (u : Told) → mid.told ≡ Some u → Leaves got (λ t u. ChangesOnly name (λ file. file ≡ t.holds name) (settled (bytes_of (t.holds name))) t u) (λ t u. u ≡ ticking 1 t) t u → P image
    by_answer (Ok x) u is c =
        let rests : Rests mid name (bytes_of (t.holds name)) = record { now = u; told = is; bytes = ap bytes_of c.named; loose = c.loose } in
        subst P (sym (rests_image mid name _ image rests left)) now
    by_answer (Err ReadFault) u is c = absurd c
    by_answer (Err WriteFault) u is same = before image (still_left old mid t (λ m. IsImage m name image) told (is ∙ ap (λ (v : Told). Some v) same) left)
    by_answer (Err Memory) u is same = before image (still_left old mid t (λ m. IsImage m name image) told (is ∙ ap (λ (v : Told). Some v) same) left)

-- A crash while bytes are written and synced into a file that rests leaves any bytes in their range, and nothing else changed.
pub firm_crash : (E : Type 0) (name : List ℕ) (at : ℕ) (from file image : List ℕ) (old : Disk) → Rests old name file → at ≤ length file → Crashes {E = E} (firm name at from) old name image → TornWrite at (length from) file image
unfolding Sometime followed_by firm
firm_crash E name at from file image old rests within (inl left) = subst (TornWrite at (length from) file) (sym (rests_image old name file image rests left)) (whole_torn at (length from) file)
firm_crash E name at from file image old rests within (inr (mid, Err fault, acts, left)) = let u = acts.told rests.now rests.told in write_left name at from file image rests.now u.0 mid (Err fault) within rests.bytes rests.loose u.1 u.2 left
firm_crash E name at from file image old rests within (inr (mid, Ok x, acts, inl left)) = let u = acts.told rests.now rests.told in write_left name at from file image rests.now u.0 mid (Ok x) within rests.bytes rests.loose u.1 u.2 left
firm_crash E name at from file image old rests within (inr (mid, Ok x, acts, inr (m2, Err fault, syncs, left))) =
    let u = acts.told rests.now rests.told in
    let torn = written_step name at from file rests.now u.0 mid within rests.bytes rests.loose u.1 u.2 in
    sync_left name image (TornWrite at (length from) file) mid m2 torn.now (Err fault) torn.told syncs torn.torn (λ c l. write_left name at from file c rests.now u.0 mid (Ok x) within rests.bytes rests.loose u.1 u.2 l) left
firm_crash E name at from file image old rests within (inr (mid, Ok x, acts, inr (m2, Ok y, syncs, left))) =
    let u = acts.told rests.now rests.told in
    let torn = written_step name at from file rests.now u.0 mid within rests.bytes rests.loose u.1 u.2 in
    sync_left name image (TornWrite at (length from) file) mid m2 torn.now (Ok y) torn.told syncs torn.torn (λ c l. write_left name at from file c rests.now u.0 mid (Ok x) within rests.bytes rests.loose u.1 u.2 l) left

-- Where it went well, the file rests with the bytes in it, whatever might have been left before.
pub firm_rests : (E : Type 0) (name : List ℕ) (at : ℕ) (from : List ℕ) (old new : Disk) (t : Told) → old.told ≡ Some t → Runs {E = E} (firm name at from) old new (Ok tt) → Rests new name (written at from (bytes_of (t.holds name)))
unfolding Runs followed_by firm
firm_rests E name at from old new t told (mid, Ok x, acts, (m2, Ok y, syncs, (same, is))) =
    let u = acts.told t told in
    let v = syncs.told u.0 u.1 in
    let bytes : bytes_of (u.0.holds name) ≡ written at from (bytes_of (t.holds name)) = ap bytes_of u.2.named in
    record { now = v.0; told = ap (λ (d : Disk). d.told) same ∙ v.1; bytes = ap bytes_of v.2.named ∙ bytes; loose = v.2.loose ∙ ap settled bytes }
firm_rests E name at from old new t told (mid, Ok x, acts, (m2, Err f, syncs, (same, is))) = absurd cc
firm_rests E name at from old new t told (mid, Err f, acts, (same, is)) = absurd cc

pub firm_ok : (E : Type 0) (name : List ℕ) (at : ℕ) (from file : List ℕ) (old new : Disk) → Rests old name file → Runs {E = E} (firm name at from) old new (Ok tt) → Rests new name (written at from file)
firm_ok E name at from file old new rests runs =
    subst (λ (f : List ℕ). Rests new name (written at from f)) rests.bytes (firm_rests E name at from old new rests.now rests.told runs)

-- ---- lengths

pub within_left : (d : Disk) (name image : List ℕ) (most : ℕ) → IsWithin name most d → MayLeave d name image → length image ≤ most
within_left d name image most within left =
    let same : left.0 ≡ within.now = some_told d.told within.now left.0 within.told left.1 in
    let is : IsImage (moment_of within.now) name image = subst (λ (t : Told). IsImage (moment_of t) name image) same left.2 in
    omega (arith, is.no_longer, within.greatest)

pub within_kept : (name : List ℕ) (most : ℕ) (old new : Disk) → Kept name old.told new.told → IsWithin name most old → IsWithin name most new
within_kept name most old new kept within =
    let u = was_told (λ (t : Told). t.holds name) new.told old.told within.now within.told (sym kept.holds) in
    let holds = field_kept (λ (t : Told). t.holds name) old.told new.told within.now u.0 within.told u.1 kept.holds in
    let loose = field_kept (λ (t : Told). t.loose name) old.told new.told within.now u.0 within.told u.1 kept.loose in
    record { now = u.0; told = u.1; size = rw holds within.size; greatest = rw loose within.greatest }

within_same : (name : List ℕ) (most : ℕ) (mid : Disk) (t u : Told) → size_of t name ≤ most → (t.loose name).greatest ≤ most → mid.told ≡ Some u → u ≡ ticking 1 t → IsWithin name most mid
within_same name most mid t u size greatest told same = record { now = ticking 1 t; told = told ∙ ap (λ (v : Told). Some v) same; size = size; greatest = greatest }

write_within : (name : List ℕ) (at : ℕ) (from : List ℕ) (most : ℕ) → at + length from ≤ most → (old mid : Disk) (got : Result (Unit {0}) Fault) → IsWithin name most old → Acts (Write name at from) old mid got → IsWithin name most mid
write_within name at from most less old mid got within acts = let u = acts.told within.now within.told in by_answer got u.0 u.1 u.2
  where
    t : Told
    t = within.now

    now_loose : Loose
    now_loose = loose_by_write at (length from) (size_of t name) (t.loose name)

    greatest : now_loose.greatest ≤ most
    greatest = omega (arith, less, within.size, within.greatest)

    by_answer : (got : Result (Unit {0}) Fault) (u : Told) → mid.told ≡ Some u
        → Leaves got (λ t u. ChangesOnly name (λ f. f ≡ Some (written at from (bytes_of (t.holds name)))) (loose_by_write at (length from) (size_of t name) (t.loose name)) t u)
        (λ t u. ChangesOnly name (Torn (TornWrite at (length from)) (t.holds name)) (loose_by_write at (length from) (size_of t name) (t.loose name)) t u) t u → IsWithin name most mid
    by_answer (Ok x) u told c =
        let size : length (bytes_of (u.holds name)) ≡ length (written at from (bytes_of (t.holds name))) = ap (λ (f : Option (List ℕ)). length (bytes_of f)) c.named in
        record { now = u; told = told; size = omega (arith, size, written_size at from (bytes_of (t.holds name)), less, within.size); greatest = rw (c.loose) greatest }
    by_answer (Err ReadFault) u told c = absurd c
    by_answer (Err WriteFault) u told c = record { now = u; told = told; size = omega (arith, c.named.bytes.no_longer, less, within.size); greatest = rw (c.loose) greatest }
    by_answer (Err Memory) u told same = within_same name most mid t u within.size within.greatest told same

sync_within : (name : List ℕ) (most : ℕ) (old mid : Disk) (got : Result (Unit {0}) Fault) → IsWithin name most old → Acts (Sync name) old mid got → IsWithin name most mid
sync_within name most old mid got within acts = let u = acts.told within.now within.told in by_answer got u.0 u.1 u.2
  where
    t : Told
    t = within.now

    by_answer : (got : Result (Unit {0}) Fault) (u : Told) → mid.told ≡ Some u → Leaves got (λ t u. ChangesOnly name (λ file. file ≡ t.holds name) (settled (bytes_of (t.holds name))) t u) (λ t u. u ≡ ticking 1 t) t u → IsWithin name most mid
    by_answer (Ok x) u told c =
        let size : size_of u name ≡ size_of t name = ap (λ (f : Option (List ℕ)). length (bytes_of f)) c.named in
        record { now = u; told = told; size = omega (arith, size, within.size); greatest = rw (c.loose) within.size }
    by_answer (Err ReadFault) u told c = absurd c
    by_answer (Err WriteFault) u told same = within_same name most mid t u within.size within.greatest told same
    by_answer (Err Memory) u told same = within_same name most mid t u within.size within.greatest told same

pub firm_keeps_within : (E : Type 0) (name : List ℕ) (at : ℕ) (from : List ℕ) (most : ℕ) → at + length from ≤ most → Each {E = E} (KeepsBy (IsWithin name most)) (firm name at from)
unfolding firm followed_by
firm_keeps_within E name at from most less = (write_within name at from most less, λ x. (sync_within name most, λ y. tt))

pub write_keeps_within : (E : Type 0) (name : List ℕ) (at : ℕ) (from : List ℕ) (most : ℕ) → at + length from ≤ most → Each {E = E} (KeepsBy (IsWithin name most)) (act (Write name at from))
write_keeps_within E name at from most less = (write_within name at from most less, λ x. tt)

-- ---- for code: where the next write may begin

was_some : (name : List ℕ) (at : ℕ) (from : List ℕ) (old mid : Disk) (got : Result (Unit {0}) Fault) (u : Told) → Acts (Write name at from) old mid got → mid.told ≡ Some u → (t : Told) × (old.told ≡ Some t)
was_some name at from old mid got u acts told = found old.told refl
  where
    found : (was : Option Told) → old.told ≡ was → (t : Told) × (old.told ≡ Some t)
    found None none = absurd (let e : Some u ≡ None = sym told ∙ acts.untold none in cc)
    found (Some t) some = (t, some)

-- After a write that is on the disk the file is no shorter.
pub room_after : (E : Type 0) (name : List ℕ) (at : ℕ) (from : List ℕ) (old new : Disk) → ((t : Told) → old.told ≡ Some t → at ≤ size_of t name) → Runs {E = E} (firm name at from) old new (Ok tt) → (t : Told) → new.told ≡ Some t → at + length from ≤ size_of t name
unfolding Runs followed_by firm
room_after E name at from old new room (mid, Ok x, acts, (m2, Ok y, syncs, (same, is))) u told =
    let there = told_before mid.told refl in
    let t = was_some name at from old mid (Ok x) there.0 acts there.1 in
    let c = acts.told t.0 t.1 in
    let v = syncs.told c.0 c.1 in
    let last : u ≡ v.0 = some_told m2.told v.0 u v.1 (ap (λ (d : Disk). d.told) (sym same) ∙ told) in
    let bytes : bytes_of (u.holds name) ≡ written at from (bytes_of (t.0.holds name)) = ap (λ (t : Told). bytes_of (t.holds name)) last ∙ ap bytes_of v.2.named ∙ ap bytes_of c.2.named in
    let within : at ≤ length (bytes_of (t.0.holds name)) = room t.0 t.1 in
    let size : length (bytes_of (u.holds name)) ≡ length (written at from (bytes_of (t.0.holds name))) = ap length bytes in
    omega (arith, size, at_least at from (bytes_of (t.0.holds name)) within)
  where
    told_before : (was : Option Told) → mid.told ≡ was → (t : Told) × (mid.told ≡ Some t)
    told_before None none = absurd (let e : Some u ≡ None = sym told ∙ ap (λ (d : Disk). d.told) same ∙ syncs.untold none in cc)
    told_before (Some t) some = (t, some)

    at_least : (at : ℕ) (from file : List ℕ) → at ≤ length file → at + length from ≤ length (written at from file)
    at_least at from file within = omega (arith, within, length-append (take at file ++ from) (drop (at + length from) file), length-append (take at file) from, length-take at file)
room_after E name at from old new room (mid, Ok x, acts, (m2, Err f, syncs, (same, is))) u told = absurd cc
room_after E name at from old new room (mid, Err f, acts, (same, is)) u told = absurd cc

-- Where a read itself gives an image, and no image is longer, neither a read nor a crash gives more.
pub within_by_images : (d : Disk) (name : List ℕ) (most : ℕ) (t : Told) → d.told ≡ Some t → (t.loose name).least ≤ size_of t name → size_of t name ≤ (t.loose name).greatest → ((image : List ℕ) → MayLeave d name image → length image ≤ most) → IsWithin name most d
within_by_images d name most t told least greatest short =
    let g = greatest_image (moment_of t) name least greatest in
    let longest : length g.0 ≤ most = short g.0 (t, told, g.2) in
    record { now = t; told = told; size = omega (arith, greatest, longest, g.1); greatest = omega (arith, longest, g.1) }
