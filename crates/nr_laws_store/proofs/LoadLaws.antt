-- What a load gives, and what a crash leaves after it.
use Rattle.std.proofs.Common.{◌≡◌, ℕ, ◌<◌, ◌≤◌, Bool, true, false, List, [], length, take, Option, None, Some, Result, Ok, Err, refl, sym, ap, subst, ◌∙◌, inl, inr, ⊎_elim, arith}
use Rattle.std.specs.Prelude.{option_map, nat_lt}
use Rattle.std.proofs.lemmas.List.{take_all}
use Rattle.nr_spec_plans.specs.Disk.{Disk, Told, Fault, ReadFault, WriteFault, Memory, Leaves, IsSynced, bytes_of, settled, size_of, ticking}
use Rattle.nr_spec_plans.specs.Plans.{Halt, Refused, Faulted, Runs, followed_by, act, Ask, Sync, Read, ◌>>=◌}
use Rattle.nr_spec_plans.specs.Laws.{Each, Kept, Gives}
use Rattle.nr_spec_plans.proofs.PlanLaws.{taken_apart, step_keeps}
use Rattle.nr_spec_crash.specs.Images.{IsImage}
use Rattle.nr_spec_crash.specs.Crashes.{Crashes, Rests, IsWithin}
use Rattle.nr_spec_crash.specs.Firm.{firm}
use Rattle.nr_laws_crash.proofs.CrashLaws.{KeepsBy, sometime_kept, was_told, field_kept}
use Rattle.nr_laws_crash.proofs.FirmLaws.{firm_keeps_within, rests_image, rests_kept, within_kept}
use Rattle.nr_spec_store.specs.LogFile.{LogFile, IsLog, log_of, most_log}
use Rattle.nr_spec_store.specs.StorePlans.{Refusal, Limit, Work, within_limit, understood, found_plan, load_plan, loading, refused_at}
use Rattle.nr_spec_store.specs.StoreCrashes.{AwaitsBirth, Keeps}
use Rattle.nr_laws_store.proofs.Loads.{loading_within, loading_past}
use Rattle.nr_laws_store.proofs.GateLaws.{limit_ok, limit_stops}
use Rattle.nr_laws_store.proofs.BirthLaws.{awaits_kept, awaits_loads}

-- How a load ended, of a file of these bytes: what it gave, and, where it read the file, that this rests.
pub record Loads (name file : List ℕ) (new : Disk) (result : Result (Option LogFile) (Halt Refusal)) : Type 0 where
  pub gives : Gives result (loading file)
  pub rests : (given : Option LogFile) → result ≡ Ok given → Rests new name file

-- ---- once the file was read

understood_gives : (read : Result (Option LogFile) ℕ) (old new : Disk) (result : Result (Option LogFile) (Halt Refusal)) → Runs (understood read) old new result → (new ≡ old) × Gives result (refused_at read)
unfolding Runs
understood_gives (Ok value) old new result (same, is) = (same, rw is refl)
understood_gives (Err place) old new result (same, is) = (same, rw is refl)

abbrev reading : (name : List ℕ) (size : ℕ) → Work (Option LogFile)
reading name size = act (Sync name) >>= (λ synced. act (Read name size) >>= (λ bytes. understood (log_of bytes)))

no_value : (name file : List ℕ) (new : Disk) (fault : Fault) (result : Result (Option LogFile) (Halt Refusal)) → result ≡ Err (Faulted fault) → Loads name file new result
no_value name file new fault result is = rw is (record { gives = tt; rests = λ given e. absurd cc })

read_loads : (name : List ℕ) (size : ℕ) (old new : Disk) (t : Told) (result : Result (Option LogFile) (Halt Refusal)) → old.told ≡ Some t → size ≡ size_of t name → size ≤ most_log → Runs (reading name size) old new result → Loads name (bytes_of (t.holds name)) new result
unfolding Runs followed_by
read_loads name size old new t result told at within (mid, Err fault, syncs, (same, is)) = no_value name (bytes_of (t.holds name)) new fault result is
read_loads name size old new t result told at within (mid, Ok x, syncs, (last, Err fault, reads, (same, is))) = no_value name (bytes_of (t.holds name)) new fault result is
read_loads name size old new t result told at within (mid, Ok x, syncs, (last, Ok given, reads, runs)) =
    let file = bytes_of (t.holds name) in
    let u = syncs.told t told in
    let holds : bytes_of (u.0.holds name) ≡ file = ap bytes_of u.2.named in
    let rests : Rests mid name file = record { now = u.0; told = u.1; bytes = holds; loose = u.2.loose } in
    let there : Rests last name file = rests_kept mid last name file (step_keeps name (Read name size) mid last (Ok given) tt reads) rests in
    let whole : given ≡ file = reads.1 u.0 u.1 ∙ ap (take size) holds ∙ take_all size file (omega (arith, at)) in
    let gave = understood_gives (log_of given) last new result runs in
    let is : loading file ≡ refused_at (log_of given) = loading_within file (omega (arith, at, within)) ∙ ap (λ (f : List ℕ). refused_at (log_of f)) (sym whole) in
    record {
      gives = subst (λ (r : Result (Option LogFile) Refusal). Gives result r) (sym is) gave.1;
      rests = λ value e. subst (λ (d : Disk). Rests d name file) (sym gave.0) there;
    }

limit_loads : (name file : List ℕ) (size : ℕ) (new : Disk) (halt : Halt Refusal) (result : Result (Option LogFile) (Halt Refusal)) → size ≡ length file → halt ≡ Refused (Limit size) → most_log < size → result ≡ Err halt → Loads name file new result
limit_loads name file size new halt result at is past ends =
    let e : result ≡ Err (Refused (Limit (length file))) = ends ∙ ap (λ (h : Halt Refusal). Err h) is ∙ ap (λ (n : ℕ). Err (Refused (Limit n))) at in
    rw e (record { gives = loading_past file (omega (arith, at, past)); rests = λ given none. absurd cc })

sized_loads : (name : List ℕ) (size : ℕ) (old new : Disk) (t : Told) (result : Result (Option LogFile) (Halt Refusal)) → old.told ≡ Some t → size ≡ size_of t name → Runs (within_limit size >>= (λ fits. reading name size)) old new result → Loads name (bytes_of (t.holds name)) new result
sized_loads name size old new t result told at runs =
    ⊎_elim
    (λ w. let fits = limit_ok size old w.0 w.1 w.2 in read_loads name size old new t result told at fits.1 (subst (λ (d : Disk). Runs (reading name size) d new result) fits.0 w.3))
    (λ w. let stops = limit_stops size old new w.0 w.1 in limit_loads name (bytes_of (t.holds name)) size new w.0 result at stops.1 stops.2 w.2)
    (taken_apart (within_limit size) (λ fits. reading name size) old new result runs)

-- ---- the whole load

pub record Found (name : List ℕ) (t : Told) (mid : Disk) : Type 0 where
  pub now : Told
  pub told : mid.told ≡ Some now
  pub holds : now.holds name ≡ t.holds name

kept_told : (name : List ℕ) (old mid : Disk) (t : Told) → old.told ≡ Some t → Kept name old.told mid.told → Found name t mid
kept_told name old mid t told kept =
    let u = was_told (λ (t : Told). t.holds name) mid.told old.told t told (sym kept.holds) in
    record { now = u.0; told = u.1; holds = field_kept (λ (t : Told). t.holds name) old.told mid.told t u.0 told u.1 kept.holds }

found_size : (h : Option (List ℕ)) (size : ℕ) → Some size ≡ option_map length h → size ≡ length (bytes_of h)
found_size None size is = absurd cc
found_size (Some bytes) size is = let e : size ≡ length bytes = cc in e

none_held : (h : Option (List ℕ)) → None ≡ option_map length h → h ≡ None
none_held None is = refl
none_held (Some bytes) is = absurd cc

-- where there is a file
pub load_found : (name : List ℕ) (size : ℕ) (old mid new : Disk) (t : Told) (result : Result (Option LogFile) (Halt Refusal)) → old.told ≡ Some t → Some size ≡ option_map length (t.holds name) → Kept name old.told mid.told
    → Runs (found_plan name (Some size)) mid new result → Loads name (bytes_of (t.holds name)) new result
unfolding found_plan
load_found name size old mid new t result told at kept runs =
    let u = kept_told name old mid t told kept in
    let size_is : size ≡ size_of u.now name = found_size (t.holds name) size at ∙ ap (λ (h : Option (List ℕ)). length (bytes_of h)) (sym u.holds) in
    subst (λ (h : Option (List ℕ)). Loads name (bytes_of h) new result) u.holds (sized_loads name size mid new u.now result u.told size_is runs)

absent_gives : (name : List ℕ) (mid new : Disk) (h : Option (List ℕ)) (result : Result (Option LogFile) (Halt Refusal)) → h ≡ None → Runs (found_plan name None) mid new result → (new ≡ mid) × Gives result (loading (bytes_of h))
unfolding found_plan Runs log_of
absent_gives name mid new h result none (same, is) = (same, rw (none, is) refl)

-- A load gives the log that the file holds.
pub load_gives : (name : List ℕ) (old new : Disk) (t : Told) (result : Result (Option LogFile) (Halt Refusal)) → old.told ≡ Some t → Runs (load_plan name) old new result → Gives result (loading (bytes_of (t.holds name)))
unfolding load_plan Runs followed_by
load_gives name old new t result told (mid, Ok None, acts, goes) = (absent_gives name mid new (t.holds name) result (none_held (t.holds name) (acts.size t told)) goes).1
load_gives name old new t result told (mid, Ok (Some size), acts, goes) = (load_found name size old mid new t result told (acts.size t told) (step_keeps name (Ask name) old mid (Ok (Some size)) tt acts) goes).gives
load_gives name old new t result told (mid, Err fault, acts, (same, is)) = rw is tt

no_log : (name : List ℕ) (mid new : Disk) (log : LogFile) → Runs (found_plan name None) mid new (Ok (Some log)) → ⊥
unfolding found_plan Runs
no_log name mid new log (same, is) = cc

-- After a load that gave a log the file rests, and loads as this log.
load_rests : (name : List ℕ) (old new : Disk) (t : Told) (log : LogFile) → old.told ≡ Some t → Runs (load_plan name) old new (Ok (Some log)) → Rests new name (bytes_of (t.holds name)) × (loading (bytes_of (t.holds name)) ≡ Ok (Some log))
unfolding load_plan Runs followed_by
load_rests name old new t log told (mid, Ok None, acts, goes) = absurd (no_log name mid new log goes)
load_rests name old new t log told (mid, Ok (Some size), acts, goes) =
    let loads = load_found name size old mid new t (Ok (Some log)) told (acts.size t told) (step_keeps name (Ask name) old mid (Ok (Some size)) tt acts) goes in
    (loads.rests (Some log) refl, loads.gives)
load_rests name old new t log told (mid, Err fault, acts, (same, is)) = absurd cc

pub load_keeps : (name : List ℕ) (old new : Disk) (t : Told) (log : LogFile) → old.told ≡ Some t → IsLog log → Runs (load_plan name) old new (Ok (Some log)) → Keeps new name log
load_keeps name old new t log told is runs =
    let l = load_rests name old new t log told runs in
    record { file = bytes_of (t.holds name); rests = l.0; is_log = is; loads = l.1 }

-- After a load that found no log the file awaits a birth, if no crash would have left one where the name is absent.
pub load_awaits : (name : List ℕ) (old new : Disk) (t : Told) → old.told ≡ Some t → (t.holds name ≡ None → IsWithin name 43 old) → Runs (load_plan name) old new (Ok None) → AwaitsBirth new name
unfolding load_plan Runs followed_by
load_awaits name old new t told short (mid, Ok None, acts, goes) =
    let absent = none_held (t.holds name) (acts.size t told) in
    let same = (absent_gives name mid new (t.holds name) (Ok None) absent goes).0 in
    inr (within_kept name 43 old new (subst (λ (d : Disk). Kept name old.told d.told) (sym same) (step_keeps name (Ask name) old mid (Ok None) tt acts)) (short absent))
load_awaits name old new t told short (mid, Ok (Some size), acts, goes) =
    let loads = load_found name size old mid new t (Ok None) told (acts.size t told) (step_keeps name (Ask name) old mid (Ok (Some size)) tt acts) goes in
    inl (bytes_of (t.holds name), loads.rests None refl, loads.gives)
load_awaits name old new t told short (mid, Err fault, acts, (same, is)) = absurd cc

-- ---- crashes of a load

-- a file that rests goes on to
step_rests : (name file : List ℕ) → KeepsBy (λ d. Rests d name file) (Sync name)
step_rests name file old mid got rests acts = let u = acts.told rests.now rests.told in by_answer got u.0 u.1 u.2
  where
    same_rests : (u : Told) → mid.told ≡ Some u → u ≡ ticking 1 rests.now → Rests mid name file
    same_rests u told same = record { now = ticking 1 rests.now; told = told ∙ ap (λ (v : Told). Some v) same; bytes = rests.bytes; loose = rests.loose }

    by_answer : (got : Result (Unit {0}) Fault) (u : Told) → mid.told ≡ Some u → Leaves got (λ t u. IsSynced name t u) (λ t u. u ≡ ticking 1 t) rests.now u → Rests mid name file
    by_answer (Ok x) u told c = record { now = u; told = told; bytes = ap bytes_of c.named ∙ rests.bytes; loose = c.loose ∙ ap settled rests.bytes }
    by_answer (Err ReadFault) u told c = absurd c
    by_answer (Err WriteFault) u told same = same_rests u told same
    by_answer (Err Memory) u told same = same_rests u told same

step_within : (name : List ℕ) → KeepsBy (IsWithin name 43) (Sync name)
unfolding firm followed_by
step_within name = ((firm_keeps_within Refusal name 0 [] 43 (omega arith)).1 tt).0

step_awaits : (name : List ℕ) → KeepsBy (λ d. AwaitsBirth d name) (Sync name)
step_awaits name old mid got (inl (file, rests, unborn)) acts = inl (file, step_rests name file old mid got rests acts, unborn)
step_awaits name old mid got (inr within) acts = inr (step_within name old mid got within acts)

understood_each : (I : Disk → Type 0) (read : Result (Option LogFile) ℕ) → Each (KeepsBy I) (understood read)
understood_each I (Ok value) = tt
understood_each I (Err place) = tt

found_by : (name : List ℕ) (I : Disk → Type 0) → ((size : ℕ) → KeepsBy I (Read name size)) → KeepsBy I (Sync name) → (size : ℕ) (b : Bool) → nat_lt most_log size ≡ b → Each (KeepsBy I) (found_plan name (Some size))
unfolding found_plan within_limit followed_by
found_by name I read sync size true is = rw is tt
found_by name I read sync size false is = rw is (sync, λ synced. (read size, λ bytes. understood_each I (log_of bytes)))

found_each : (name : List ℕ) (I : Disk → Type 0) → ((size : ℕ) → KeepsBy I (Read name size)) → KeepsBy I (Sync name) → (size : Option ℕ) → Each (KeepsBy I) (found_plan name size)
unfolding found_plan
found_each name I read sync None = tt
found_each name I read sync (Some size) = found_by name I read sync size (nat_lt most_log size) refl

-- Each step of a load keeps what is so, if a sync does and what leaves the name alone.
load_each : (name : List ℕ) (I : Disk → Type 0) → ((old new : Disk) → Kept name old.told new.told → I old → I new) → KeepsBy I (Sync name) → Each (KeepsBy I) (load_plan name)
unfolding load_plan followed_by
load_each name I kept sync = (
  λ old mid got is acts. kept old mid (step_keeps name (Ask name) old mid got tt acts) is,
  found_each name I (λ size. λ old mid got is acts. kept old mid (step_keeps name (Read name size) old mid got tt acts) is) sync,
)

-- A crash at any moment of a load leaves the log that every crash left before it.
pub load_leaves : (name image : List ℕ) (log : LogFile) (old : Disk) → Keeps old name log → Crashes (load_plan name) old name image → loading image ≡ Ok (Some log)
load_leaves name image log old keeps crash =
    let file = keeps.file in
    let d = sometime_kept (λ d. Rests d name file) (λ m. IsImage m name image) (load_plan name) old (load_each name (λ d. Rests d name file) (λ old new kept rests. rests_kept old new name file kept rests) (step_rests name file)) keeps.rests crash in
    ap loading (rests_image d.0 name file image d.1 d.2) ∙ keeps.loads

-- and none where a birth is awaited
pub load_leaves_none : (name image : List ℕ) (old : Disk) → AwaitsBirth old name → Crashes (load_plan name) old name image → loading image ≡ Ok None
load_leaves_none name image old awaits crash =
    let d = sometime_kept (λ d. AwaitsBirth d name) (λ m. IsImage m name image) (load_plan name) old (load_each name (λ d. AwaitsBirth d name) (λ old new kept awaits. awaits_kept name old new kept awaits) (step_awaits name)) awaits crash in
    awaits_loads name image d.0 d.1 d.2
