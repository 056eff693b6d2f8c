-- Crashes of `record`.
use Rattle.std.proofs.Common.{◌≡◌, ◌⊎◌, inl, inr, ⊎_elim, ℕ, ◌+◌, ◌^◌, ◌<◌, ◌≤◌, List, [], ◌∷◌, length, Option, Some, None, Result, Ok, Err, refl, ap, sym, subst, ◌∙◌, arith}
use Rattle.std.specs.Prelude.{nat_le, option_map}
use Rattle.std.proofs.lemmas.Bool.{cases_Bool}
use Rattle.nr_spec_bgp.specs.Records.{Item}
use Rattle.nr_spec_plans.specs.Disk.{Contents, Disk, Moment, Told, bytes_of, size_of}
use Rattle.nr_spec_plans.specs.Plans.{Act, Action, Ask, Cut, Done, Plan, Read, Refuse, Room, Runs, Sync, Write, followed_by, refusing, want, ◌>>=◌}
use Rattle.nr_spec_plans.specs.Laws.{Each, IsRead, Kept, Spares, outcome}
use Rattle.nr_spec_plans.proofs.PlanLaws.{each_followed, gives_outcome, spares_others, taken_apart, writes_nothing}
use Rattle.nr_spec_crash.specs.Images.{IsImage}
use Rattle.nr_spec_crash.specs.Crashes.{Crashes, IsWithin, MayLeave, Now, Sometime}
use Rattle.nr_laws_crash.proofs.CrashLaws.{crash_sequence, field_kept, spares_images, was_told}
use Rattle.nr_laws_crash.proofs.FirmLaws.{rests_kept, some_told}
use Rattle.std.proofs.lemmas.Nat.{pow_pos}
use Rattle.nr_spec_log.specs.Authenticator.{digest_size}
use Rattle.nr_spec_keys.specs.Trees.{tree_of}
use Rattle.nr_spec_keys.proofs.TreeLemmas.{length-node_at}
use Rattle.nr_spec_store.specs.LogFile.{LogFile, born}
use Rattle.nr_spec_store.specs.StorePlans.{birth_plan, load_plan, loading}
use Rattle.nr_spec_store.specs.StoreCrashes.{AwaitsBirth, Keeps, LoadsEntries}
use Rattle.nr_laws_store.proofs.GateLaws.{keeps_holds}
use Rattle.nr_laws_store.proofs.LoadLaws.{load_awaits, load_gives, load_keeps, load_leaves, load_leaves_none}
use Rattle.nr_laws_store.proofs.BirthLaws.{awaits_kept, awaits_loads, birth_keeps, birth_leaves}
use Rattle.nr_laws_store.proofs.Lengths.{rests_within}
use Rattle.nr_laws_store.proofs.Loads.{loads_as}
use Rattle.nr_laws_store.proofs.LogLaws.{unborn_none}
use Rattle.nr_spec_history.specs.KeyFiles.{Key, key_root}
use Rattle.nr_spec_recording.specs.Records.{records_of}
use Rattle.nr_spec_recording.specs.Events.{records_in_order, skipped, too_long}
use Rattle.nr_spec_commands.specs.Words.{RecordRequest}
use Rattle.nr_spec_texts.specs.Promises.{PromiseFile, promise_of}
use Rattle.nr_spec_program.specs.Keys.{key_of}
use Rattle.nr_spec_program.specs.Command.{Ending, Input, LogFact, MrtInput, Refusal, Work, input_limit, load, promise_plan, sized, well_formed}
use Rattle.nr_spec_program.specs.Recording.{born_plan, key_file_plan, log_network, log_plan, long_message, mrt_plan, other_network, other_root, record_plan, recorded_ending, recorder_of, speakers_of, turns_for, turns_plan, unless, unread_log, unwritten_log}
use Rattle.nr_laws_recording.specs.FirstTurns.{LoadsFirstTurns, TurnsFit}
use Rattle.nr_laws_recording.specs.Recorded.{AreInputs, BirthFits, BornRecorded, HasRecorded, Recorded, IsBeforeOrRecorded, IsUnbornOrRecorded, RecordingFits}
use Rattle.nr_laws_recording.proofs.Crashing.{before, first_none, refusing_crash, refusing_ok, turns_crash}
use Rattle.nr_laws_recording.proofs.Ended.{stop_leaves, turns_ok}

-- ---- plans that read alone

sized_reads : (input : Input) (answer : Option ℕ) → Each IsRead (sized input answer)
sized_reads input None = tt
sized_reads input (Some found) = elim (cases_Bool (nat_le found (input_limit input))) [ inl is ↦ rw is tt | inr is ↦ rw is tt ]

load_reads : (input : Input) (name : List ℕ) → Each IsRead (load input name)
unfolding load
load_reads input name = each_followed IsRead _ _ (tt, λ answer. tt) (λ answer. each_followed IsRead _ _ (sized_reads input answer) (λ size. (tt, λ bytes. tt)))

well_formed_reads : {A : Type 0} (input : Input) (found : Result A ℕ) → Each IsRead (well_formed input found)
well_formed_reads input (Ok value) = tt
well_formed_reads input (Err place) = tt

promise_reads : (name : List ℕ) → Each IsRead (promise_plan name)
unfolding promise_plan
promise_reads name = each_followed IsRead _ _ (load_reads _ name) (λ text. well_formed_reads _ (promise_of text))

key_reads : (name : List ℕ) → Each IsRead (key_file_plan name)
unfolding key_file_plan
key_reads name = each_followed IsRead _ _ (load_reads _ name) (λ bytes. well_formed_reads _ (key_of bytes))

mrt_reads : (number : ℕ) (names : List (List ℕ)) → Each IsRead (mrt_plan number names)
unfolding mrt_plan
mrt_reads number [] = tt
mrt_reads number (name ∷ others) =
    each_followed IsRead _ _ (load_reads (MrtInput number) name) (λ bytes.
    each_followed IsRead _ _ (well_formed_reads (MrtInput number) (records_of bytes)) (λ records.
    each_followed IsRead want _ tt (λ room.
    each_followed IsRead _ _ (mrt_reads (number + 1) others) (λ rest. tt))))

reads_spare : (name : List ℕ) (action : Action) → IsRead action → Spares name action
reads_spare name (Ask other) is = tt
reads_spare name (Read other size) is = tt
reads_spare name (Cut other len) is = absurd is
reads_spare name (Write other at bytes) is = absurd is
reads_spare name (Sync other) is = absurd is

each_spares : {E A : Type 0} (name : List ℕ) (p : Plan E A) → Each IsRead p → Each (Spares name) p
each_spares name (Done value) each = tt
each_spares name (Refuse refusal) each = tt
each_spares name (Room next) each = each_spares name next each
each_spares name (Act action next) (kind, each) = (reads_spare name action kind, λ answer. each_spares name (next answer) (each answer))

-- ---- steps before the turns

-- These contents are there, and the disk has I.
record Here (I : Disk → Type 0) (d : Disk) (held : Contents) : Type 0 where
  now : Told
  told : d.told ≡ Some now
  holds : now.holds ≡ held
  keeps : I d

-- what isn't written keeps I, and a crash before anything is written has P
record Waits (name image : List ℕ) (I : Disk → Type 0) (P : Type 0) : Type 0 where
  kept : (old new : Disk) → Kept name old.told new.told → I old → I new
  stops : (d : Disk) → I d → MayLeave d name image → P

-- what follows a step that reads alone, unless the crash was within it
read_step : {A : Type 0} (p : Work A) (f : A → Work Ending) (d : Disk) (held : Contents) (name image : List ℕ) (I : Disk → Type 0) (P : Type 0) → Waits name image I P → Each IsRead p → Here I d held → Crashes (followed_by p f) d name image
    → P ⊎ ((value : A) × (mid : Disk) × (outcome held p ≡ Ok value) × Here I mid held × Crashes (f value) mid name image)
read_step p f d held name image I P waits each here crash =
    ⊎_elim
    (λ first. inl (waits.stops d here.keeps (spares_images name p d image (each_spares name p each) first)))
    (λ w.
    let value = w.0 in
    let mid = w.1 in
    let runs = w.2 in
    let contents : Told → Contents = λ t. t.holds in
    let same = writes_nothing p d mid (Ok value) each runs in
    let kept = spares_others name p d mid (Ok value) (each_spares name p each) runs in
    let now = was_told contents mid.told d.told here.now here.told (sym same.holds) in
    let holds = field_kept contents d.told mid.told here.now now.0 here.told now.1 same.holds in
    let found = gives_outcome p held d mid (Ok value) each (ap (λ o. option_map contents o) here.told ∙ ap (λ (c : Contents). Some c) here.holds) runs in
    inr (value, mid, found, record { now = now.0; told = now.1; holds = holds ∙ here.holds; keeps = waits.kept d mid kept here.keeps }, w.3))
    (crash_sequence p f d (λ m. IsImage m name image) crash)

wanted : {A : Type 0} (f : Unit {0} → Work A) (d : Disk) (Q : Moment → Type 0) → Sometime (followed_by want f) d Q → Sometime (f tt) d Q
unfolding Sometime followed_by
wanted f d Q crash = crash

unless_step : {A : Type 0} (o : Option LogFact) (f : Unit {0} → Work A) (d : Disk) (Q : Moment → Type 0) → Sometime (followed_by (unless o) f) d Q → Now d Q ⊎ Sometime (f tt) d Q
unfolding Sometime followed_by
unless_step None f d Q crash = inr crash
unless_step (Some fact) f d Q crash = inl crash

load_step : (f : Option LogFile → Work Ending) (d : Disk) (held : Contents) (name image : List ℕ) (log : LogFile) → Here (λ d. Keeps d name log) d held → Crashes (followed_by (log_plan name) f) d name image
    → LoadsEntries image log log.entries ⊎ ((mid : Disk) × Keeps mid name log × Crashes (f (Some log)) mid name image)
load_step f d held name image log here crash =
    let Q : Moment → Type 0 = λ m. IsImage m name image in
    ⊎_elim
    (λ first. inl (record { front = log.front; loads = load_leaves name image log d here.keeps (refusing_crash unread_log (load_plan name) d Q first) }))
    (λ w.
    let runs = refusing_ok unread_log (load_plan name) d w.1 w.0 w.2 in
    let h = keeps_holds d name log here.keeps in
    let gives = load_gives name d w.1 h.now (Ok w.0) h.told runs in
    let value : w.0 ≡ Some log = same_Ok (loading (bytes_of (h.now.holds name))) w.0 (Some log) gives h.loads in
    let found : Runs (load_plan name) d w.1 (Ok (Some log)) = subst (λ (o : Option LogFile). Runs (load_plan name) d w.1 (Ok o)) value runs in
    inr (w.1, load_keeps name d w.1 h.now log h.told h.is_log found, subst (λ (o : Option LogFile). Crashes (f o) w.1 name image) value w.3))
    (crash_sequence (log_plan name) f d Q crash)
  where
    same_Ok : {A E : Type 0} (x : Result A E) (a b : A) → x ≡ Ok a → x ≡ Ok b → a ≡ b
    same_Ok x a b p q = cc

-- ---- `record`, from its turns on backwards

abbrev turning : RecordRequest → PromiseFile → Key → List (List Item) → LogFile → Work Ending
turning q promise key files log =
    turns_plan q.log (recorder_of promise key) log (turns_for promise files q.until)
    >>= (λ longer. want >>= (λ told. Done (recorded_ending log longer (skipped (speakers_of promise) files))))

abbrev checking : RecordRequest → PromiseFile → Key → List (List Item) → Option LogFile → Work Ending
checking q promise key files found =
    unless (other_network key.asn promise.says.network) >>= (λ key_network.
    unless (log_network found promise.says.network) >>= (λ network.
    want >>= (λ tree.
    unless (other_root (key_root key) found) >>= (λ root.
    want >>= (λ ready.
    unless (long_message (too_long (records_in_order (speakers_of promise) files))) >>= (λ fits.
    born_plan q.log key found >>= turning q promise key files))))))

turning_crash : (q : RecordRequest) (promise : PromiseFile) (key : Key) (files : List (List Item)) (log : LogFile) (image : List ℕ) (d : Disk)
    → Keeps d q.log log → TurnsFit (recorder_of promise key) log.entries (turns_for promise files q.until) → Crashes (turning q promise key files log) d q.log image
    → LoadsFirstTurns image (recorder_of promise key) log (turns_for promise files q.until)
unfolding Sometime followed_by
turning_crash q promise key files log image d keeps fit crash =
    let r = recorder_of promise key in
    let turns = turns_for promise files q.until in
    let plan = turns_plan q.log r log turns in
    ⊎_elim
    (λ first. turns_crash q.log r turns image log d keeps fit first)
    (λ w. stop_leaves q.log r log turns image d w.1 (Ok w.0) keeps fit w.2 w.3)
    (crash_sequence plan (λ longer. want >>= (λ told. Done (recorded_ending log longer (skipped (speakers_of promise) files)))) d (λ m. IsImage m q.log image) crash)

-- what is asked before the first write
checked : (q : RecordRequest) (promise : PromiseFile) (key : Key) (files : List (List Item)) (found : Option LogFile) (d : Disk) (Q : Moment → Type 0) → Sometime (checking q promise key files found) d Q
    → Now d Q ⊎ Sometime (followed_by (born_plan q.log key found) (turning q promise key files)) d Q
checked q promise key files found d Q crash =
    let beginning : Work Ending = born_plan q.log key found >>= turning q promise key files in
    let fitting : Work Ending = unless (long_message (too_long (records_in_order (speakers_of promise) files))) >>= (λ fits. beginning) in
    let rooting : Work Ending = unless (other_root (key_root key) found) >>= (λ root. want >>= (λ ready. fitting)) in
    let naming : Work Ending = unless (log_network found promise.says.network) >>= (λ network. want >>= (λ tree. rooting)) in
    ⊎_elim (λ left. inl left) (λ a.
    ⊎_elim (λ left. inl left) (λ b.
    ⊎_elim (λ left. inl left) (λ e.
    unless_step (long_message (too_long (records_in_order (speakers_of promise) files))) (λ fits. beginning) d Q (wanted (λ ready. fitting) d Q e))
    (unless_step (other_root (key_root key) found) (λ root. want >>= (λ ready. fitting)) d Q (wanted (λ tree. rooting) d Q b)))
    (unless_step (log_network found promise.says.network) (λ network. want >>= (λ tree. rooting)) d Q a))
    (unless_step (other_network key.asn promise.says.network) (λ key_network. naming) d Q crash)

-- what was read before the log, and the log's load behind it
record ReadAll (I : Disk → Type 0) (q : RecordRequest) (held : Contents) (image : List ℕ) : Type 0 where
  promise : PromiseFile
  key : Key
  files : List (List Item)
  inputs : AreInputs held q promise key files
  mid : Disk
  here : Here I mid held
  crash : Crashes (followed_by (log_plan q.log) (checking q promise key files)) mid q.log image

read_all : (q : RecordRequest) (held : Contents) (image : List ℕ) (I : Disk → Type 0) (P : Type 0) (old : Disk) → Waits q.log image I P → Here I old held → Crashes (record_plan q) old q.log image → P ⊎ ReadAll I q held image
unfolding record_plan
read_all q held image I P old waits here crash =
    let Q : Moment → Type 0 = λ m. IsImage m q.log image in
    let filing : PromiseFile → Key → Work Ending = λ promise key. mrt_plan 1 q.files >>= (λ files. log_plan q.log >>= checking q promise key files) in
    let keying : PromiseFile → Work Ending = λ promise. key_file_plan q.key >>= (λ key. want >>= (λ room. filing promise key)) in
    ⊎_elim (λ is. inl is) (λ a.
    ⊎_elim (λ is. inl is) (λ b.
    ⊎_elim (λ is. inl is) (λ e. inr (record { promise = a.0; key = b.0; files = e.0; inputs = record { promise_is = a.2; key_is = b.2; files_are = e.2 }; mid = e.1; here = e.3; crash = e.4 }))
    (read_step (mrt_plan 1 q.files) (λ files. log_plan q.log >>= checking q a.0 b.0 files) b.1 held q.log image I P waits (mrt_reads 1 q.files) b.3 (wanted (λ room. filing a.0 b.0) b.1 Q b.4)))
    (read_step (key_file_plan q.key) (λ key. want >>= (λ room. filing a.0 key)) a.1 held q.log image I P waits (key_reads q.key) a.3 a.4))
    (read_step (promise_plan q.promise) keying old held q.log image I P waits (promise_reads q.promise) here crash)

-- ---- into a log that is there

checking_crash : (q : RecordRequest) (promise : PromiseFile) (key : Key) (files : List (List Item)) (held : Contents) (log : LogFile) (image : List ℕ) (d : Disk) → AreInputs held q promise key files
    → Keeps d q.log log → RecordingFits held q log → Crashes (checking q promise key files (Some log)) d q.log image → IsBeforeOrRecorded image held q log
unfolding born_plan followed_by
checking_crash q promise key files held log image d inputs keeps fits crash =
    ⊎_elim (λ left. inl (before q.log log image d keeps left))
    (λ g. inr (record { promise = promise; key = key; files = files; inputs = inputs; loads = turning_crash q promise key files log image d keeps (fits promise key files inputs) g }))
    (checked q promise key files (Some log) d (λ m. IsImage m q.log image) crash)

keeps_kept : (name : List ℕ) (log : LogFile) (old new : Disk) → Kept name old.told new.told → Keeps old name log → Keeps new name log
keeps_kept name log old new kept k = record { file = k.file; rests = rests_kept old new name k.file kept k.rests; is_log = k.is_log; loads = k.loads }

pub record_crash : (q : RecordRequest) (log : LogFile) (image : List ℕ) (old : Disk) (t : Told) → old.told ≡ Some t → Keeps old q.log log
    → RecordingFits t.holds q log → Crashes (record_plan q) old q.log image → IsBeforeOrRecorded image t.holds q log
record_crash q log image old t told keeps fits crash =
    let I : Disk → Type 0 = λ d. Keeps d q.log log in
    let waits : Waits q.log image I (LoadsEntries image log log.entries) = record { kept = keeps_kept q.log log; stops = λ d k left. before q.log log image d k left } in
    ⊎_elim (λ is. inl is)
    (λ a. ⊎_elim (λ is. inl is) (λ g. checking_crash q a.promise a.key a.files t.holds log image g.0 a.inputs g.1 fits g.2)
    (load_step (checking q a.promise a.key a.files) a.mid t.holds q.log image log a.here a.crash))
    (read_all q t.holds image I (LoadsEntries image log log.entries) old waits (record { now = t; told = told; holds = refl; keeps = keeps }) crash)

-- ---- where there is no log yet

length-key_root : (key : Key) → length (key_root key) ≡ digest_size
unfolding key_root tree_of
length-key_root key = length-node_at key.seed key.height key.height 0 (λ is. pow_pos key.height)

same_Ok : {A E : Type 0} (x : Result A E) (a b : A) → x ≡ Ok a → x ≡ Ok b → a ≡ b
same_Ok x a b p q = cc

-- what a read gives where a birth is awaited loads as none
unborn_now : (name : List ℕ) (d : Disk) (t : Told) → d.told ≡ Some t → AwaitsBirth d name → loading (bytes_of (t.holds name)) ≡ Ok None
unborn_now name d t told (inl (file, rests, unborn)) =
    let same = some_told d.told rests.now t rests.told told in
    subst (λ (u : Told). loading (bytes_of (u.holds name)) ≡ Ok None) (sym same) (ap loading rests.bytes ∙ unborn)
unborn_now name d t told (inr within) =
    let same = some_told d.told within.now t within.told told in
    let size : size_of t name ≤ 43 = subst (λ (u : Told). size_of u name ≤ 43) (sym same) within.size in
    loads_as (bytes_of (t.holds name)) None (omega (arith, size)) (unborn_none (bytes_of (t.holds name)) (inl (omega (arith, size))))

absent_short : (name : List ℕ) (d : Disk) (t : Told) → d.told ≡ Some t → AwaitsBirth d name → t.holds name ≡ None → IsWithin name 43 d
absent_short name d t told (inr within) none = within
absent_short name d t told (inl (file, rests, unborn)) none =
    let same = some_told d.told rests.now t rests.told told in
    let size : size_of t name ≡ 0 = ap (λ (h : Option (List ℕ)). length (bytes_of h)) none in
    let now_size : size_of rests.now name ≡ 0 = subst (λ (u : Told). size_of u name ≡ 0) same size in
    rests_within name file 43 d rests (omega (arith, now_size, ap length rests.bytes))

unborn_step : (f : Option LogFile → Work Ending) (d : Disk) (held : Contents) (name image : List ℕ) → Here (λ d. AwaitsBirth d name) d held → Crashes (followed_by (log_plan name) f) d name image
    → (loading image ≡ Ok None) ⊎ ((mid : Disk) × AwaitsBirth mid name × Crashes (f None) mid name image)
unborn_step f d held name image here crash =
    let Q : Moment → Type 0 = λ m. IsImage m name image in
    ⊎_elim
    (λ first. inl (load_leaves_none name image d here.keeps (refusing_crash unread_log (load_plan name) d Q first)))
    (λ w.
    let runs = refusing_ok unread_log (load_plan name) d w.1 w.0 w.2 in
    let gives = load_gives name d w.1 here.now (Ok w.0) here.told runs in
    let value : w.0 ≡ None = same_Ok (loading (bytes_of (here.now.holds name))) w.0 None gives (unborn_now name d here.now here.told here.keeps) in
    let none : Runs (load_plan name) d w.1 (Ok None) = subst (λ (o : Option LogFile). Runs (load_plan name) d w.1 (Ok o)) value runs in
    inr (w.1, load_awaits name d w.1 here.now here.told (absent_short name d here.now here.told here.keeps) none, subst (λ (o : Option LogFile). Crashes (f o) w.1 name image) value w.3))
    (crash_sequence (log_plan name) f d Q crash)

told_of : (name : List ℕ) (d : Disk) → AwaitsBirth d name → (t : Told) × (d.told ≡ Some t)
told_of name d (inl (file, rests, unborn)) = (rests.now, rests.told)
told_of name d (inr within) = (within.now, within.told)

-- a birth and the turns behind it
bearing_crash : (q : RecordRequest) (promise : PromiseFile) (key : Key) (files : List (List Item)) (image : List ℕ) (d : Disk) → key.asn < 2 ^ 32 → AwaitsBirth d q.log
    → TurnsFit (recorder_of promise key) [] (turns_for promise files q.until) → Crashes (followed_by (born_plan q.log key None) (turning q promise key files)) d q.log image
    → (loading image ≡ Ok None) ⊎ LoadsFirstTurns image (recorder_of promise key) (born key.asn (key_root key)) (turns_for promise files q.until)
unfolding born_plan
bearing_crash q promise key files image d small awaits fit crash =
    let root = key_root key in
    let size = length-key_root key in
    let log = born key.asn root in
    let plan = birth_plan q.log key.asn root in
    let t = told_of q.log d awaits in
    ⊎_elim
    (λ first. ⊎_elim (λ none. inl none) (λ (is : loading image ≡ Ok (Some log)). inr (first_none image (recorder_of promise key) log (turns_for promise files q.until) (record { front = log.front; loads = is })))
    (birth_leaves q.log key.asn root image d small size awaits (refusing_crash unwritten_log plan d (λ m. IsImage m q.log image) first)))
    (λ w.
    let kept = birth_keeps q.log key.asn root w.0 d w.1 t.0 small size t.1 (refusing_ok unwritten_log plan d w.1 w.0 w.2) in
    inr (turning_crash q promise key files log image w.1 kept.1 fit (subst (λ (l : LogFile). Crashes (turning q promise key files l) w.1 q.log image) kept.0 w.3)))
    (crash_sequence (refusing unwritten_log plan) (turning q promise key files) d (λ m. IsImage m q.log image) crash)

pub unborn_crash : (q : RecordRequest) (image : List ℕ) (old : Disk) (t : Told) → old.told ≡ Some t → AwaitsBirth old q.log
    → BirthFits t.holds q → Crashes (record_plan q) old q.log image → IsUnbornOrRecorded image t.holds q
unborn_crash q image old t told awaits fits crash =
    let I : Disk → Type 0 = λ d. AwaitsBirth d q.log in
    let P : Type 0 = loading image ≡ Ok None in
    let waits : Waits q.log image I P = record { kept = λ old new kept is. awaits_kept q.log old new kept is; stops = λ d is left. awaits_loads q.log image d is left } in
    ⊎_elim (λ is. inl is)
    (λ a. ⊎_elim (λ is. inl is)
    (λ g.
    let fit = fits a.promise a.key a.files a.inputs in
    ⊎_elim (λ left. inl (awaits_loads q.log image g.0 g.1 left))
    (λ begun. ⊎_elim (λ none. inl none)
    (λ first. inr (record { promise = a.promise; key = a.key; files = a.files; inputs = a.inputs; loads = first }))
    (bearing_crash q a.promise a.key a.files image g.0 fit.0 g.1 fit.1 begun))
    (checked q a.promise a.key a.files None g.0 (λ m. IsImage m q.log image) g.2))
    (unborn_step (checking q a.promise a.key a.files) a.mid t.holds q.log image a.here a.crash))
    (read_all q t.holds image I P old waits (record { now = t; told = told; holds = refl; keeps = awaits }) crash)

-- ---- a run that went well

read_ok : {A : Type 0} (p : Work A) (f : A → Work Ending) (d new : Disk) (held : Contents) (name : List ℕ) (ending : Ending) (I : Disk → Type 0) → ((old new : Disk) → Kept name old.told new.told → I old → I new)
    → Each IsRead p → Here I d held → Runs (followed_by p f) d new (Ok ending)
    → (value : A) × (mid : Disk) × (outcome held p ≡ Ok value) × Here I mid held × Runs (f value) mid new (Ok ending)
read_ok p f d new held name ending I keeps each here runs =
    ⊎_elim
    (λ w.
    let contents : Told → Contents = λ t. t.holds in
    let same = writes_nothing p d w.0 (Ok w.1) each w.2 in
    let kept = spares_others name p d w.0 (Ok w.1) (each_spares name p each) w.2 in
    let now = was_told contents w.0.told d.told here.now here.told (sym same.holds) in
    let holds = field_kept contents d.told w.0.told here.now now.0 here.told now.1 same.holds in
    let found = gives_outcome p held d w.0 (Ok w.1) each (ap (λ o. option_map contents o) here.told ∙ ap (λ (c : Contents). Some c) here.holds) w.2 in
    (w.1, w.0, found, record { now = now.0; told = now.1; holds = holds ∙ here.holds; keeps = keeps d w.0 kept here.keeps }, w.3))
    (λ w. absurd (let h = w.2 in cc))
    (taken_apart p f d new (Ok ending) runs)

wanted_ok : {A : Type 0} (f : Unit {0} → Work A) (d new : Disk) (value : A) → Runs (followed_by want f) d new (Ok value) → Runs (f tt) d new (Ok value)
unfolding Runs followed_by
wanted_ok f d new value (inl (same, is)) = absurd cc
wanted_ok f d new value (inr runs) = runs

unless_ok : {A : Type 0} (o : Option LogFact) (f : Unit {0} → Work A) (d new : Disk) (value : A) → Runs (followed_by (unless o) f) d new (Ok value) → Runs (f tt) d new (Ok value)
unfolding Runs followed_by
unless_ok None f d new value runs = runs
unless_ok (Some fact) f d new value (same, is) = absurd cc

done_ok : (e ending : Ending) (d new : Disk) → Runs {E = Refusal} (Done e) d new (Ok ending) → (new ≡ d) × (ending ≡ e)
unfolding Runs
done_ok e ending d new (same, is) = let value : ending ≡ e = cc in (same, value)

turning_ok : (q : RecordRequest) (promise : PromiseFile) (key : Key) (files : List (List Item)) (log : LogFile) (d new : Disk) (ending : Ending) → Keeps d q.log log
    → TurnsFit (recorder_of promise key) log.entries (turns_for promise files q.until) → Runs (turning q promise key files log) d new (Ok ending) → HasRecorded q promise key files log new ending
turning_ok q promise key files log d new ending keeps fit runs =
    let r = recorder_of promise key in
    let turns = turns_for promise files q.until in
    let last : LogFile → Work Ending = λ longer. want >>= (λ told. Done (recorded_ending log longer (skipped (speakers_of promise) files))) in
    ⊎_elim
    (λ w.
    let kept = turns_ok q.log r turns log w.1 d w.0 keeps fit w.2 in
    let e = recorded_ending log w.1 (skipped (speakers_of promise) files) in
    let done = done_ok e ending w.0 new (wanted_ok (λ told. Done e) w.0 new ending w.3) in
    record {
      longer = w.1;
      asn = kept.0;
      root = kept.1;
      entries = kept.2;
      keeps = subst (λ (d : Disk). Keeps d q.log w.1) (sym done.0) kept.3;
      ending_is = done.1;
    })
    (λ w. absurd (let h = w.2 in cc))
    (taken_apart (turns_plan q.log r log turns) last d new (Ok ending) runs)

checked_ok : (q : RecordRequest) (promise : PromiseFile) (key : Key) (files : List (List Item)) (found : Option LogFile) (d new : Disk) (ending : Ending) → Runs (checking q promise key files found) d new (Ok ending)
    → Runs (followed_by (born_plan q.log key found) (turning q promise key files)) d new (Ok ending)
checked_ok q promise key files found d new ending runs =
    let beginning : Work Ending = born_plan q.log key found >>= turning q promise key files in
    let fitting : Work Ending = unless (long_message (too_long (records_in_order (speakers_of promise) files))) >>= (λ fits. beginning) in
    let rooting : Work Ending = unless (other_root (key_root key) found) >>= (λ root. want >>= (λ ready. fitting)) in
    let naming : Work Ending = unless (log_network found promise.says.network) >>= (λ network. want >>= (λ tree. rooting)) in
    let a = unless_ok (other_network key.asn promise.says.network) (λ key_network. naming) d new ending runs in
    let b = unless_ok (log_network found promise.says.network) (λ network. want >>= (λ tree. rooting)) d new ending a in
    let e = unless_ok (other_root (key_root key) found) (λ root. want >>= (λ ready. fitting)) d new ending (wanted_ok (λ tree. rooting) d new ending b) in
    unless_ok (long_message (too_long (records_in_order (speakers_of promise) files))) (λ fits. beginning) d new ending (wanted_ok (λ ready. fitting) d new ending e)

-- what was read before the log, and the run behind it
record RanAll (I : Disk → Type 0) (q : RecordRequest) (held : Contents) (new : Disk) (ending : Ending) : Type 0 where
  promise : PromiseFile
  key : Key
  files : List (List Item)
  inputs : AreInputs held q promise key files
  mid : Disk
  here : Here I mid held
  runs : Runs (followed_by (log_plan q.log) (checking q promise key files)) mid new (Ok ending)

ran_all : (q : RecordRequest) (held : Contents) (I : Disk → Type 0) (old new : Disk) (ending : Ending) → ((old new : Disk) → Kept q.log old.told new.told → I old → I new) → Here I old held → Runs (record_plan q) old new (Ok ending)
    → RanAll I q held new ending
unfolding record_plan
ran_all q held I old new ending keeps here runs =
    let filing : PromiseFile → Key → Work Ending = λ promise key. mrt_plan 1 q.files >>= (λ files. log_plan q.log >>= checking q promise key files) in
    let keying : PromiseFile → Work Ending = λ promise. key_file_plan q.key >>= (λ key. want >>= (λ room. filing promise key)) in
    let a = read_ok (promise_plan q.promise) keying old new held q.log ending I keeps (promise_reads q.promise) here runs in
    let b = read_ok (key_file_plan q.key) (λ key. want >>= (λ room. filing a.0 key)) a.1 new held q.log ending I keeps (key_reads q.key) a.3 a.4 in
    let e = read_ok (mrt_plan 1 q.files) (λ files. log_plan q.log >>= checking q a.0 b.0 files) b.1 new held q.log ending I keeps (mrt_reads 1 q.files) b.3 (wanted_ok (λ room. filing a.0 b.0) b.1 new ending b.4) in
    record { promise = a.0; key = b.0; files = e.0; inputs = record { promise_is = a.2; key_is = b.2; files_are = e.2 }; mid = e.1; here = e.3; runs = e.4 }

begun_ok : (q : RecordRequest) (promise : PromiseFile) (key : Key) (files : List (List Item)) (log : LogFile) (d new : Disk) (ending : Ending) → Runs (followed_by (born_plan q.log key (Some log)) (turning q promise key files)) d new (Ok ending)
    → Runs (turning q promise key files log) d new (Ok ending)
unfolding born_plan followed_by
begun_ok q promise key files log d new ending runs = runs

pub record_ok : (q : RecordRequest) (log : LogFile) (old new : Disk) (t : Told) (ending : Ending) → old.told ≡ Some t → Keeps old q.log log → RecordingFits t.holds q log → Runs (record_plan q) old new (Ok ending)
    → Recorded t.holds q log new ending
record_ok q log old new t ending told keeps fits runs =
    let a = ran_all q t.holds (λ d. Keeps d q.log log) old new ending (keeps_kept q.log log) (record { now = t; told = told; holds = refl; keeps = keeps }) runs in
    let next = checking q a.promise a.key a.files in
    ⊎_elim
    (λ w.
    let loaded = refusing_ok unread_log (load_plan q.log) a.mid w.0 w.1 w.2 in
    let h = keeps_holds a.mid q.log log a.here.keeps in
    let gives = load_gives q.log a.mid w.0 h.now (Ok w.1) h.told loaded in
    let value : w.1 ≡ Some log = same_Ok (loading (bytes_of (h.now.holds q.log))) w.1 (Some log) gives h.loads in
    let found : Runs (load_plan q.log) a.mid w.0 (Ok (Some log)) = subst (λ (o : Option LogFile). Runs (load_plan q.log) a.mid w.0 (Ok o)) value loaded in
    let kept = load_keeps q.log a.mid w.0 h.now log h.told h.is_log found in
    let rest : Runs (next (Some log)) w.0 new (Ok ending) = subst (λ (o : Option LogFile). Runs (next o) w.0 new (Ok ending)) value w.3 in
    let begun = begun_ok q a.promise a.key a.files log w.0 new ending (checked_ok q a.promise a.key a.files (Some log) w.0 new ending rest) in
    record { promise = a.promise; key = a.key; files = a.files; inputs = a.inputs; has = turning_ok q a.promise a.key a.files log w.0 new ending kept (fits a.promise a.key a.files a.inputs) begun })
    (λ w. absurd (let h = w.2 in cc))
    (taken_apart (log_plan q.log) next a.mid new (Ok ending) a.runs)

pub unborn_ok : (q : RecordRequest) (old new : Disk) (t : Told) (ending : Ending) → old.told ≡ Some t → AwaitsBirth old q.log → BirthFits t.holds q → Runs (record_plan q) old new (Ok ending) → BornRecorded t.holds q new ending
unfolding born_plan
unborn_ok q old new t ending told awaits fits runs =
    let a = ran_all q t.holds (λ d. AwaitsBirth d q.log) old new ending (λ old new kept is. awaits_kept q.log old new kept is) (record { now = t; told = told; holds = refl; keeps = awaits }) runs in
    let next = checking q a.promise a.key a.files in
    let fit = fits a.promise a.key a.files a.inputs in
    let root = key_root a.key in
    let size = length-key_root a.key in
    let log = born a.key.asn root in
    let plan = birth_plan q.log a.key.asn root in
    ⊎_elim
    (λ w.
    let loaded = refusing_ok unread_log (load_plan q.log) a.mid w.0 w.1 w.2 in
    let here = a.here in
    let gives = load_gives q.log a.mid w.0 here.now (Ok w.1) here.told loaded in
    let value : w.1 ≡ None = same_Ok (loading (bytes_of (here.now.holds q.log))) w.1 None gives (unborn_now q.log a.mid here.now here.told here.keeps) in
    let none : Runs (load_plan q.log) a.mid w.0 (Ok None) = subst (λ (o : Option LogFile). Runs (load_plan q.log) a.mid w.0 (Ok o)) value loaded in
    let waits = load_awaits q.log a.mid w.0 here.now here.told (absent_short q.log a.mid here.now here.told here.keeps) none in
    let rest : Runs (next None) w.0 new (Ok ending) = subst (λ (o : Option LogFile). Runs (next o) w.0 new (Ok ending)) value w.3 in
    let u = told_of q.log w.0 waits in
    ⊎_elim
    (λ v.
    let kept = birth_keeps q.log a.key.asn root v.1 w.0 v.0 u.0 fit.0 size u.1 (refusing_ok unwritten_log plan w.0 v.0 v.1 v.2) in
    let begun : Runs (turning q a.promise a.key a.files log) v.0 new (Ok ending) = subst (λ (l : LogFile). Runs (turning q a.promise a.key a.files l) v.0 new (Ok ending)) kept.0 v.3 in
    record { promise = a.promise; key = a.key; files = a.files; inputs = a.inputs; has = turning_ok q a.promise a.key a.files log v.0 new ending kept.1 fit.1 begun })
    (λ v. absurd (let h = v.2 in cc))
    (taken_apart (refusing unwritten_log plan) (turning q a.promise a.key a.files) w.0 new (Ok ending) (checked_ok q a.promise a.key a.files None w.0 new ending rest)))
    (λ w. absurd (let h = w.2 in cc))
    (taken_apart (log_plan q.log) next a.mid new (Ok ending) a.runs)
