-- Runs of `record` and crashes of them keep a log right.
use Rattle.std.proofs.Common.{◌≡◌, ◌⊎◌, inl, inr, ⊎_elim, ℕ, ◌^◌, ◌<◌, List, [], ◌∷◌, length, take, Option, Some, None, Result, Ok, Err, refl, ap, sym, subst, ◌∙◌, arith}
use Rattle.std.specs.Prelude.{unwrap_or}
use Rattle.std.specs.List.{AllByRecursion}
use Rattle.nr_spec_counts.specs.Tallies.{Numbers}
use Rattle.nr_spec_history.specs.KeyFiles.{key_root}
use Rattle.nr_spec_plans.specs.Disk.{ChangesOnly, Disk, Fault, Leaves, Memory, ReadFault, Tape, Told, WriteFault, bytes_of, moment_of, settled, size_of, ticking}
use Rattle.nr_spec_plans.specs.Plans.{Act, Ask, Done, Plan, Read, Refuse, Room, Sync}
use Rattle.nr_spec_plans.specs.Laws.{Each}
use Rattle.nr_spec_plans.proofs.PlanLaws.{step_keeps}
use Rattle.nr_spec_crash.specs.Images.{IsImage}
use Rattle.nr_spec_crash.specs.Crashes.{Crashes, IsSound, MayLeave, Rests, Sometime}
use Rattle.nr_laws_crash.proofs.CrashLaws.{KeepsBy, crash_after, crash_sequence, kept_image, run_keeps, sometime_kept}
use Rattle.nr_laws_crash.proofs.FirmLaws.{rests_image, some_told, still_left, within_left}
use Rattle.nr_laws_crash.proofs.ImageLaws.{settled_image}
use Rattle.nr_laws_crash.proofs.SoundLaws.{sound_image, step_sound}
use Rattle.nr_spec_store.specs.LogFile.{LogFile, born}
use Rattle.nr_spec_store.specs.StorePlans.{loading}
use Rattle.nr_spec_store.specs.StorePlans as store
use Rattle.nr_laws_store.proofs.Loads.{loads_as}
use Rattle.nr_laws_store.proofs.LogLaws.{unborn_none}
use Rattle.nr_spec_steps.specs.Turns.{log_after}
use Rattle.nr_spec_commands.specs.Words.{Record, RecordRequest, Request, request_in}
use Rattle.nr_spec_program.specs.Command.{Work, Ending}
use Rattle.nr_spec_texts.specs.Promises.{PromiseFile, numbers_in, promise_of}
use Rattle.nr_spec_program.specs.Recording.{entries_in}
use Rattle.nr_spec_program.specs.Running.{RunsTo}
use Rattle.nr_spec_program.specs.Table.{plan_for, plan_in, plan_of}
use Rattle.nr_laws_program.proofs.LogKinds.{KindLoads}
use Rattle.nr_laws_program.proofs.PlanKinds.{KindReads}
use Rattle.nr_laws_accuracy.proofs.Turns.{leaves_differ}
use Rattle.nr_laws_record.specs.Recorded.{IsLeftOf, IsPrepared, MayRecord, Prepared, log_before, prepare_plan, recorder_in, turns_in}
use Rattle.nr_laws_record.proofs.Crashing.{from_crash}
use Rattle.nr_laws_record.proofs.Preparing.{prepare_each, prepare_ready, record_parts, recorded_from}
use Rattle.nr_laws_fitting.specs.Files.{HoldBytes}
use Rattle.nr_laws_fitting.proofs.Fits.{recording_fits}
use Rattle.nr_laws_right_logs.specs.Right.{HoldsRight, IsAbsent, IsRightLog, KeepsRight}
use Rattle.nr_laws_right_logs.specs.Runs.{AreRunsFrom, MayRun, Ran, StartsAfterCrash}
use Rattle.nr_laws_right_logs.proofs.Short.{loaded_short}
use Rattle.nr_laws_right_logs.proofs.Turning.{recording_right}

-- ---- a log without entries

nothing_right : (own : Numbers) → IsRightLog own []
nothing_right own = record { allowed = tt; ordered = tt; different = leaves_differ own [] tt }

-- ---- what is left of a recording

ok_found : (x y : Option LogFile) → (let r : Result (Option LogFile) store.Refusal = Ok x in r) ≡ Ok y → x ≡ y
ok_found x y e = cc

before_right : (own : Numbers) (found : Option LogFile) (fresh : LogFile) → fresh.entries ≡ [] → IsRightLog own (entries_in found) → IsRightLog own (unwrap_or found fresh).entries
before_right own None fresh none right = subst (IsRightLog own) (sym none) right
before_right own (Some log) fresh none right = right

left_right : (own : Numbers) (q : RecordRequest) (t : Told) (p : Prepared) (image : List ℕ) → IsPrepared t.holds q p → HoldBytes t.holds q → numbers_in p.promise ≡ own → IsRightLog own (log_before p).entries → IsLeftOf q p image → HoldsRight own image
left_right own q t p image is bytes same right (inl l) =
    let after = log_after (recorder_in p) (log_before p).entries (take l.count (turns_in q p)) in
    let room : length after < 2 ^ 60 = loaded_short image _ l.loads.loads in
    let start : IsRightLog (recorder_in p).own (log_before p).entries = subst (λ (o : Numbers). IsRightLog o (log_before p).entries) (sym same) right in
    let all : IsRightLog own after = subst (λ (o : Numbers). IsRightLog o after) same (recording_right t.holds q p l.count is bytes start l.done room) in
    record { found = Some _; loads = l.loads.loads; right = all }
left_right own q t p image is bytes same right (inr none) = record { found = None; loads = none.1; right = nothing_right own }

-- ---- before anything is written

-- All that a crash may leave now it might have left before.
record Within (name : List ℕ) (first d : Disk) : Type 0 where
  pub sound : IsSound name d
  pub image : (image : List ℕ) → MayLeave d name image → MayLeave first name image

ask_within : (name : List ℕ) (first : Disk) (other : List ℕ) → KeepsBy (Within name first) (Ask other)
ask_within name first other = λ old mid got w acts. record {
  sound = step_sound name (Ask other) old mid got w.sound acts;
  image = λ image left. w.image image (kept_image name image old mid (step_keeps name (Ask other) old mid got tt acts) left);
}

read_within : (name : List ℕ) (first : Disk) (other : List ℕ) (size : ℕ) → KeepsBy (Within name first) (Read other size)
read_within name first other size = λ old mid got w acts. record {
  sound = step_sound name (Read other size) old mid got w.sound acts;
  image = λ image left. w.image image (kept_image name image old mid (step_keeps name (Read other size) old mid got tt acts) left);
}

synced : (name image : List ℕ) (old mid : Disk) (got : Result (Unit {0}) Fault) → (s : IsSound name old) → (u : Told) → mid.told ≡ Some u
    → Leaves got (λ t u. ChangesOnly name (λ file. file ≡ t.holds name) (settled (bytes_of (t.holds name))) t u) (λ t u. u ≡ ticking 1 t) s.now u → MayLeave mid name image → MayLeave old name image
synced name image old mid (Ok x) s u told c left =
    let same : left.0 ≡ u = some_told mid.told u left.0 told left.1 in
    let is : IsImage (moment_of u) name image = subst (λ (v : Told). IsImage (moment_of v) name image) same left.2 in
    let loose : u.loose name ≡ settled (bytes_of (u.holds name)) = c.loose ∙ ap (λ f. settled (bytes_of f)) (sym c.named) in
    let held : image ≡ bytes_of (s.now.holds name) = settled_image (moment_of u) name image loose is ∙ ap (λ f. bytes_of f) c.named in
    (s.now, s.told, subst (λ (i : List ℕ). IsImage (moment_of s.now) name i) (sym held) (sound_image name old s.now s s.told))
synced name image old mid (Err ReadFault) s u told c left = absurd c
synced name image old mid (Err WriteFault) s u told same left = still_left old mid s.now (λ m. IsImage m name image) s.told (told ∙ ap (λ (t : Told). Some t) same) left
synced name image old mid (Err Memory) s u told same left = still_left old mid s.now (λ m. IsImage m name image) s.told (told ∙ ap (λ (t : Told). Some t) same) left

sync_within : (name : List ℕ) (first : Disk) → KeepsBy (Within name first) (Sync name)
sync_within name first = λ old mid got w acts.
    let u = acts.told w.sound.now w.sound.told in
    record {
      sound = step_sound name (Sync name) old mid got w.sound acts;
      image = λ image left. w.image image (synced name image old mid got w.sound u.0 u.1 u.2 left);
    }

reads_within : (name : List ℕ) (first : Disk) (other : List ℕ) → KindReads (KeepsBy (Within name first)) other
reads_within name first other = record { ask = ask_within name first other; read = λ size. read_within name first other size }

loads_within : (name : List ℕ) (first : Disk) → KindLoads (KeepsBy (Within name first)) name
loads_within name first = record { ask = ask_within name first name; sync = sync_within name first; read = λ size. read_within name first name size }

prepare_left : (q : RecordRequest) (old : Disk) (image : List ℕ) → IsSound q.log old → Crashes (prepare_plan q) old q.log image → MayLeave old q.log image
prepare_left q old image sound crash =
    let I = Within q.log old in
    let each : Each (KeepsBy I) (prepare_plan q) = prepare_each (KeepsBy I) q (reads_within q.log old q.promise) (reads_within q.log old q.key) (λ name among. reads_within q.log old name) (loads_within q.log old) in
    let start : I old = record { sound = sound; image = λ i left. left } in
    let d = sometime_kept I (λ m. IsImage m q.log image) (prepare_plan q) old each start crash in
    d.1.image image d.2

-- ---- a whole run

whole_right : (own : Numbers) (q : RecordRequest) (old : Disk) (t : Told) (image : List ℕ) → MayRecord q old t → HoldBytes t.holds q → ((p : PromiseFile) → promise_of (bytes_of (t.holds q.promise)) ≡ Ok p → numbers_in p ≡ own)
    → KeepsRight own q.log old → Crashes (plan_of (Record q)) old q.log image → HoldsRight own image
whole_right own q old t image may bytes file keeps crash =
    ⊎_elim
    (λ w. keeps.right image (prepare_left q old image keeps.sound w))
    (λ w.
    let p = w.0 in
    let ready = prepare_ready q old w.1 t p may w.2 in
    let held = keeps.right (bytes_of (t.holds q.log)) (t, may.told, sound_image q.log old t keeps.sound may.told) in
    let same : held.found ≡ p.found = ok_found held.found p.found (sym held.loads ∙ ready.is.found) in
    let right : IsRightLog own (entries_in p.found) = subst (λ (f : Option LogFile). IsRightLog own (entries_in f)) same held.right in
    left_right own q t p image ready.is bytes (file p.promise ready.is.promise) (before_right own p.found (born p.key.asn (key_root p.key)) refl right)
    (from_crash q p t image w.1 ready (recording_fits t.holds q p ready.is bytes) w.3))
    (crash_sequence (prepare_plan q) (recorded_from q) old (λ m. IsImage m q.log image) (subst (λ (p : Work Ending). Crashes p old q.log image) (sym (record_parts q)) crash))

words_right : (own : Numbers) (words : List (List ℕ)) (q : RecordRequest) (old : Disk) (t : Told) (image : List ℕ) → request_in words ≡ Some (Record q) → MayRecord q old t → HoldBytes t.holds q
    → ((p : PromiseFile) → promise_of (bytes_of (t.holds q.promise)) ≡ Ok p → numbers_in p ≡ own) → KeepsRight own q.log old → Crashes (plan_for words) old q.log image → HoldsRight own image
unfolding Sometime
words_right own words q old t image is may bytes file keeps crash =
    whole_right own q old t image may bytes file keeps (subst (λ (r : Option Request). Crashes (plan_in r) old q.log image) is crash)

pub run_stopped : (own : Numbers) (name : List ℕ) (words : List (List ℕ)) (old : Disk) (image : List ℕ) → MayRun own name words old → KeepsRight own name old → Crashes (plan_for words) old name image → HoldsRight own image
run_stopped own name words old image m keeps crash =
    words_right own words m.q old m.now image m.asks m.may m.bytes m.own_file (subst (λ (n : List ℕ). KeepsRight own n old) (sym m.log) keeps)
    (subst (λ (n : List ℕ). Crashes (plan_for words) old n image) (sym m.log) crash)

each_sound : {E A : Type 0} (name : List ℕ) (p : Plan E A) → Each (KeepsBy (IsSound name)) p
each_sound name (Done value) = tt
each_sound name (Refuse refusal) = tt
each_sound name (Room next) = each_sound name next
each_sound name (Act action next) = (step_sound name action, λ answer. each_sound name (next answer))

pub run_ended : (own : Numbers) (name : List ℕ) (words : List (List ℕ)) (old new : Disk) (before after : Tape) (status : ℕ) → MayRun own name words old → KeepsRight own name old → RunsTo (plan_for words) old new before after status
    → KeepsRight own name new
run_ended own name words old new before after status m keeps run = record {
  sound = run_keeps (IsSound name) (plan_for words) old new run.result (each_sound name (plan_for words)) keeps.sound run.runs;
  right = λ image left. run_stopped own name words old image m keeps (crash_after (plan_for words) old new run.result (λ m. IsImage m name image) run.runs left);
}

-- ---- any number of runs

rests_sound : (d : Disk) (name file : List ℕ) → Rests d name file → IsSound name d
rests_sound d name file r =
    let size : size_of r.now name ≡ length file = ap length r.bytes in
    record { now = r.now; told = r.told; least = rw (r.loose) (omega (arith, size)); greatest = rw (r.loose) (omega (arith, size)) }

came_right : (own : Numbers) (name : List ℕ) (words : List (List ℕ)) (old new : Disk) → MayRun own name words old → KeepsRight own name old → Ran words old new ⊎ StartsAfterCrash words name old new → KeepsRight own name new
came_right own name words old new m keeps (inl ran) = run_ended own name words old new ran.before ran.after ran.status m keeps ran.run
came_right own name words old new m keeps (inr s) = record {
  sound = rests_sound new name s.image s.rests;
  right = λ image left. subst (HoldsRight own) (sym (rests_image new name s.image image s.rests left)) (run_stopped own name words old s.image m keeps s.crash);
}

runs_right : (own : Numbers) (name : List ℕ) (d : Disk) (disks : List Disk) → KeepsRight own name d → AreRunsFrom own name d disks → AllByRecursion (λ d. KeepsRight own name d) disks
runs_right own name d [] keeps runs = tt
runs_right own name d (new ∷ others) keeps runs =
    let f = runs.0 in
    let next = came_right own name f.words d new f.may keeps f.came in
    (next, runs_right own name new others next runs.1)

pub absent_right : (own : Numbers) (name : List ℕ) (d : Disk) → IsAbsent name d → KeepsRight own name d
absent_right own name d a = record {
  sound = a.sound;
  right = λ image left.
      let short = within_left d name image 43 a.short left in
      record { found = None; loads = loads_as image None (omega (arith, short)) (unborn_none image (inl (omega (arith, short)))); right = nothing_right own };
}

pub all_right : (own : Numbers) (name : List ℕ) (first : Disk) (disks : List Disk) → IsAbsent name first → AreRunsFrom own name first disks → AllByRecursion (λ d. KeepsRight own name d) disks
all_right own name first disks absent runs = runs_right own name first disks (absent_right own name first absent) runs

pub read_right : (own : Numbers) (name : List ℕ) (d : Disk) (t : Told) → KeepsRight own name d → d.told ≡ Some t → HoldsRight own (bytes_of (t.holds name))
read_right own name d t keeps told = keeps.right (bytes_of (t.holds name)) (t, told, sound_image name d t keeps.sound told)
