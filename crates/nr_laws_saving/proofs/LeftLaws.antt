-- What a file that is written in pieces may hold, whatever stopped the writing, and what a crash may leave of it.
use Rattle.std.proofs.Common.{◌≡◌, ℕ, ◌+◌, ◌≤◌, List, [], ◌∷◌, length, Option, None, Some, Result, Ok, Err, refl, sym, ap, subst, ◌∙◌, inl, inr, ◌⊎◌, ⊎_elim, arith}
use Rattle.std.specs.Prelude.{IsSome}
use Rattle.std.specs.List.{concat}
use Rattle.std.proofs.lemmas.List.{drop_all}
use Rattle.std.proofs.Math.Seq.{drop-nil}
use Rattle.nr_spec_plans.specs.Disk.{Disk, Told, Fault, ReadFault, WriteFault, Memory, ChangesOnly, Leaves, Loose, Torn, TornCut, TornWrite, Writing, bytes_of, cut_to, loose_by_cut, loose_by_write, settled, size_of, ticking, written}
use Rattle.nr_spec_plans.specs.Plans.{Cut, Write, Sync, Halt, Faulted, Runs, followed_by}
use Rattle.nr_spec_plans.specs.Laws.{Each, IsLeftBy}
use Rattle.nr_spec_crash.specs.Crashes.{Crashes, IsWithin, MayLeave}
use Rattle.nr_spec_crash.specs.Firm.{firm}
use Rattle.nr_laws_crash.proofs.CrashLaws.{KeepsBy, run_keeps, sometime_kept}
use Rattle.nr_laws_crash.proofs.FirmLaws.{firm_keeps_within, rests_image, within_left, write_keeps_within, written_size}
use Rattle.nr_spec_saving.specs.Saving.{save_parts, write_parts}
use Rattle.nr_laws_saving.proofs.PartLaws.{Goes, save_each, write_each}

-- ---- what stops it

writing_stops : (done torn : Told → Told → Type 0) (old new : Disk) (fault : Fault) → Writing done torn old new (Err fault) → (fault ≡ WriteFault) ⊎ (fault ≡ Memory)
writing_stops done torn old new ReadFault w = absurd (w.cause refl)
writing_stops done torn old new WriteFault w = inl refl
writing_stops done torn old new Memory w = inr refl

stopped : {E : Type 0} (halt : Halt E) (fault : Fault) → halt ≡ Faulted fault → (fault ≡ WriteFault) ⊎ (fault ≡ Memory) → (halt ≡ Faulted WriteFault) ⊎ (halt ≡ Faulted Memory)
stopped halt fault is by = ⊎_elim (λ w. inl (is ∙ ap Faulted w)) (λ w. inr (is ∙ ap Faulted w)) by

write_stops : (E : Type 0) (name : List ℕ) (at : ℕ) (parts : List (List ℕ)) (old new : Disk) (halt : Halt E) → Runs (write_parts name at parts) old new (Err halt) → (halt ≡ Faulted WriteFault) ⊎ (halt ≡ Faulted Memory)
unfolding Runs followed_by write_parts
write_stops E name at [] old new halt (mid, Ok x, syncs, (same, is)) = absurd cc
write_stops E name at [] old new halt (mid, Err f, syncs, (same, is)) = stopped halt f (let h : halt ≡ Faulted f = cc in h) (writing_stops _ _ old mid f syncs)
write_stops E name at (part ∷ others) old new halt (mid, Ok x, writes, rest) = write_stops E name (at + length part) others mid new halt rest
write_stops E name at (part ∷ others) old new halt (mid, Err f, writes, (same, is)) = stopped halt f (let h : halt ≡ Faulted f = cc in h) (writing_stops _ _ old mid f writes)

pub save_stops : (E : Type 0) (name : List ℕ) (parts : List (List ℕ)) (old new : Disk) (halt : Halt E) → Runs (save_parts name parts) old new (Err halt) → (halt ≡ Faulted WriteFault) ⊎ (halt ≡ Faulted Memory)
unfolding Runs followed_by save_parts
save_stops E name parts old new halt (mid, Ok x, cuts, rest) = write_stops E name 0 parts mid new halt rest
save_stops E name parts old new halt (mid, Err f, cuts, (same, is)) = stopped halt f (let h : halt ≡ Faulted f = cc in h) (writing_stops _ _ old mid f cuts)

-- ---- after the cut

-- A file is there, and has no more bytes than this.
pub record IsShort (name : List ℕ) (most : ℕ) (d : Disk) : Type 0 where
  pub now : Told
  pub told : d.told ≡ Some now
  pub there : IsSome (now.holds name)
  pub size : size_of now name ≤ most

is_there : (file : Option (List ℕ)) (bytes : List ℕ) → file ≡ Some bytes → IsSome file
is_there file bytes is = subst IsSome (sym is) refl

short_same : (name : List ℕ) (most : ℕ) (mid : Disk) (t u : Told) → IsSome (t.holds name) → size_of t name ≤ most → mid.told ≡ Some u → u ≡ ticking 1 t → IsShort name most mid
short_same name most mid t u there size told same = record { now = ticking 1 t; told = told ∙ ap (λ (v : Told). Some v) same; there = there; size = size }

write_short : (name : List ℕ) (most at : ℕ) (from : List ℕ) → at + length from ≤ most → KeepsBy (IsShort name most) (Write name at from)
write_short name most at from less = λ old mid got short acts. let u = acts.told short.now short.told in by_answer mid short.now short.there short.size got u.0 u.1 u.2
  where
    by_answer : (mid : Disk) (t : Told) → IsSome (t.holds name) → size_of t name ≤ most → (got : Result (Unit {0}) Fault) (u : Told) → mid.told ≡ Some u
        → Leaves got (λ t u. ChangesOnly name (λ f. f ≡ Some (written at from (bytes_of (t.holds name)))) (loose_by_write at (length from) (size_of t name) (t.loose name)) t u)
        (λ t u. ChangesOnly name (Torn (TornWrite at (length from)) (t.holds name)) (loose_by_write at (length from) (size_of t name) (t.loose name)) t u) t u → IsShort name most mid
    by_answer mid t there size (Ok x) u told c =
        let now : size_of u name ≡ length (written at from (bytes_of (t.holds name))) = ap (λ (f : Option (List ℕ)). length (bytes_of f)) c.named in
        record { now = u; told = told; there = is_there _ _ c.named; size = omega (arith, now, written_size at from (bytes_of (t.holds name)), less, size) }
    by_answer mid t there size (Err ReadFault) u told c = absurd c
    by_answer mid t there size (Err WriteFault) u told c = record { now = u; told = told; there = c.named.there there; size = omega (arith, c.named.bytes.no_longer, less, size) }
    by_answer mid t there size (Err Memory) u told same = short_same name most mid t u there size told same

sync_short : (name : List ℕ) (most : ℕ) → KeepsBy (IsShort name most) (Sync name)
sync_short name most = λ old mid got short acts. let u = acts.told short.now short.told in by_answer mid short.now short.there short.size got u.0 u.1 u.2
  where
    by_answer : (mid : Disk) (t : Told) → IsSome (t.holds name) → size_of t name ≤ most → (got : Result (Unit {0}) Fault) (u : Told) → mid.told ≡ Some u
        → Leaves got (λ t u. ChangesOnly name (λ file. file ≡ t.holds name) (settled (bytes_of (t.holds name))) t u) (λ t u. u ≡ ticking 1 t) t u → IsShort name most mid
    by_answer mid t there size (Ok x) u told c =
        let now : size_of u name ≡ size_of t name = ap (λ (f : Option (List ℕ)). length (bytes_of f)) c.named in
        record { now = u; told = told; there = subst IsSome (sym c.named) there; size = omega (arith, now, size) }
    by_answer mid t there size (Err ReadFault) u told c = absurd c
    by_answer mid t there size (Err WriteFault) u told same = short_same name most mid t u there size told same
    by_answer mid t there size (Err Memory) u told same = short_same name most mid t u there size told same

-- what is there and short is left by a write to an empty file
short_left : (whole : List ℕ) (file : Option (List ℕ)) → IsSome file → length (bytes_of file) ≤ length whole → Torn (TornWrite 0 (length whole)) (Some []) file
short_left whole file there size = record {
  there = λ is. there;
  bytes = record { before = refl; rest = drop_all (0 + length whole) (bytes_of file) (omega (arith, size)) ∙ sym (drop-nil (0 + length whole)); no_shorter = omega arith; no_longer = omega (arith, size) };
}

-- ---- whatever came of it

emptied : (file : Option (List ℕ)) → cut_to 0 file ≡ Some []
emptied None = refl
emptied (Some bytes) = refl

cut_left : (name bytes : List ℕ) (now : Told → Loose) (t u : Told) (fault : Fault)
    → Leaves (Err fault) (λ t u. ChangesOnly name (λ file. file ≡ cut_to 0 (t.holds name)) (now t) t u) (λ t u. ChangesOnly name (Torn (TornCut 0) (t.holds name)) (now t) t u) t u
    → IsLeftBy bytes (t.holds name) (u.holds name)
cut_left name bytes now t u ReadFault left = absurd left
cut_left name bytes now t u WriteFault left = inr (inl left.named)
cut_left name bytes now t u Memory left = inl (ap (λ (v : Told). v.holds name) left)

pub record IsLeft (name bytes : List ℕ) (t : Told) (d : Disk) : Type 0 where
  pub now : Told
  pub told : d.told ≡ Some now
  pub left : IsLeftBy bytes (t.holds name) (now.holds name)

pub save_leaves : (E : Type 0) (name : List ℕ) (parts : List (List ℕ)) (old new : Disk) (t : Told) (result : Result (Unit {0}) (Halt E)) → old.told ≡ Some t → Runs {E = E} (save_parts name parts) old new result → IsLeft name (concat parts) t new
unfolding Runs followed_by save_parts
save_leaves E name parts old new t result told (mid, Err f, cuts, (same, is)) =
    let u = cuts.told t told in
    record { now = u.0; told = ap (λ (d : Disk). d.told) same ∙ u.1; left = cut_left name (concat parts) _ t u.0 f u.2 }
save_leaves E name parts old new t result told (mid, Ok x, cuts, rest) =
    let u = cuts.told t told in
    let most = length (concat parts) in
    let empty : u.0.holds name ≡ Some [] = u.2.named ∙ emptied (t.holds name) in
    let none : size_of u.0 name ≡ 0 = ap (λ (f : Option (List ℕ)). length (bytes_of f)) empty in
    let short : IsShort name most mid = record { now = u.0; told = u.1; there = is_there _ _ empty; size = omega (arith, none) } in
    let each = write_each E (KeepsBy (IsShort name most)) name most (λ at part less. write_short name most at part less) (sync_short name most) 0 parts (omega arith) in
    let after = run_keeps (IsShort name most) (write_parts name 0 parts) mid new result each short rest in
    record { now = after.now; told = after.told; left = inr (inr (inl (short_left (concat parts) (after.now.holds name) after.there after.size))) }

-- ---- crashes

pub saved_rests : (name bytes image : List ℕ) (t : Told) (d : Disk) → Goes name bytes t d → MayLeave d name image → image ≡ bytes
saved_rests name bytes image t d goes left =
    rests_image d name bytes image (record { now = goes.now; told = goes.told; bytes = ap bytes_of goes.saved.holds; loose = goes.saved.synced }) left

cut_size : (file : Option (List ℕ)) → length (bytes_of (cut_to 0 file)) ≡ 0
cut_size None = refl
cut_size (Some bytes) = refl

cut_within : (name : List ℕ) (most : ℕ) → KeepsBy (IsWithin name most) (Cut name 0)
cut_within name most = λ old mid got within acts. let u = acts.told within.now within.told in by_answer mid within.now within.size within.greatest got u.0 u.1 u.2
  where
    by_answer : (mid : Disk) (t : Told) → size_of t name ≤ most → (t.loose name).greatest ≤ most → (got : Result (Unit {0}) Fault) (u : Told) → mid.told ≡ Some u
        → Leaves got (λ t u. ChangesOnly name (λ file. file ≡ cut_to 0 (t.holds name)) (loose_by_cut 0 (size_of t name) (t.loose name)) t u)
        (λ t u. ChangesOnly name (Torn (TornCut 0) (t.holds name)) (loose_by_cut 0 (size_of t name) (t.loose name)) t u) t u → IsWithin name most mid
    by_answer mid t size greatest (Ok x) u told c =
        let none : size_of u name ≡ 0 = ap (λ (f : Option (List ℕ)). length (bytes_of f)) c.named ∙ cut_size (t.holds name) in
        record { now = u; told = told; size = omega (arith, none); greatest = rw (c.loose) (omega (arith, greatest)) }
    by_answer mid t size greatest (Err ReadFault) u told c = absurd c
    by_answer mid t size greatest (Err WriteFault) u told c = record { now = u; told = told; size = omega (arith, size, c.named.bytes.no_longer); greatest = rw (c.loose) (omega (arith, greatest)) }
    by_answer mid t size greatest (Err Memory) u told same = record { now = ticking 1 t; told = told ∙ ap (λ (v : Told). Some v) same; size = size; greatest = greatest }

save_within : (E : Type 0) (name : List ℕ) (most : ℕ) (parts : List (List ℕ)) → length (concat parts) ≤ most → Each {E = E} (KeepsBy (IsWithin name most)) (save_parts name parts)
unfolding firm followed_by
save_within E name most parts less =
    save_each E (KeepsBy (IsWithin name most)) name parts (cut_within name most)
    (λ at part end. (write_keeps_within E name at part most (omega (arith, end, less))).0)
    ((firm_keeps_within E name 0 [] most (omega arith)).1 tt).0

pub save_crash : (E : Type 0) (name image : List ℕ) (most : ℕ) (parts : List (List ℕ)) (old : Disk) → length (concat parts) ≤ most → IsWithin name most old → Crashes {E = E} (save_parts name parts) old name image → length image ≤ most
save_crash E name image most parts old less within crash =
    let d = sometime_kept (IsWithin name most) _ (save_parts name parts) old (save_within E name most parts less) within crash in
    within_left d.0 name image most d.1 d.2
