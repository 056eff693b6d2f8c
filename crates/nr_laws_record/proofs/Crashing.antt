-- Crashes of a run of `record`.
use Rattle.std.proofs.Common.{◌≡◌, inl, inr, ⊎_elim, ◌⊎◌, ℕ, ◌<◌, ◌^◌, List, length, Option, Some, None, Ok, refl, ap, sym, subst, ◌∙◌, arith}
use Rattle.std.specs.Prelude.{unwrap_or}
use Rattle.nr_spec_history.specs.KeyFiles.{key_root}
use Rattle.nr_spec_plans.specs.Disk.{Disk, Moment, Tape, Told}
use Rattle.nr_spec_plans.specs.Plans.{Done, Refuse, Room, Act, Ask, Read, followed_by, want}
use Rattle.nr_spec_plans.specs.Laws.{Each, Kept}
use Rattle.nr_spec_plans.proofs.PlanLaws.{step_keeps}
use Rattle.nr_spec_crash.specs.Images.{IsImage}
use Rattle.nr_spec_crash.specs.Crashes.{Crashes, MayLeave, Now, Since, Sometime}
use Rattle.nr_laws_crash.proofs.CrashLaws.{KeepsBy, crash_after, crash_sequence, run_keeps, since_a_run, sometime_kept}
use Rattle.nr_laws_crash.proofs.FirmLaws.{rests_image, rests_kept}
use Rattle.nr_spec_store.specs.LogFile.{LogFile, born}
use Rattle.nr_spec_store.specs.StorePlans.{birth_plan, load_plan, loading}
use Rattle.nr_laws_store.proofs.BirthLaws.{awaits_kept, awaits_loads, birth_leaves}
use Rattle.nr_laws_store.proofs.LoadLaws.{load_leaves, load_leaves_none}
use Rattle.nr_spec_steps.specs.Turns.{log_after}
use Rattle.nr_spec_commands.specs.Words.{RecordRequest, Record, Request, request_in}
use Rattle.nr_spec_program.specs.Command.{Ending, Work, promise_plan}
use Rattle.nr_spec_program.specs.Recording.{born_plan, key_file_plan, log_plan, mrt_plan, turns_plan, unread_log, unwritten_log}
use Rattle.nr_spec_program.specs.Running.{RunsTo}
use Rattle.nr_spec_program.specs.Table.{plan_for, plan_in, plan_of}
use Rattle.nr_laws_program.proofs.PlanKinds.{KindReads, promise_each}
use Rattle.nr_laws_program.proofs.RecordPlans.{key_file_each, mrt_each}
use Rattle.nr_laws_recording.proofs.Crashing.{refusing_crash, refusing_ok, turns_crash}
use Rattle.nr_laws_recording.proofs.Ended.{stop_leaves}
use Rattle.nr_laws_record.specs.Recorded.{IsLeftAnywhere, IsLeftOf, MayRecord, Prepared, RecordFits, Stands, log_before, prepare_plan, recorder_in, turns_in}
use Rattle.nr_laws_record.proofs.Preparing.{Ready, checked, checked_each, prepare_ready, record_parts, recorded_from, root_size}
use Rattle.nr_laws_record.proofs.Whole.{born_kept, told_at_end, turned_from, unborn_left}

-- ---- a log that stands

stands_kept : (name : List ℕ) (found : Option LogFile) (old new : Disk) → Kept name old.told new.told → Stands old name found → Stands new name found
stands_kept name None old new kept awaits = awaits_kept name old new kept awaits
stands_kept name (Some log) old new kept keeps = record { file = keeps.file; rests = rests_kept old new name keeps.file kept keeps.rests; is_log = keeps.is_log; loads = keeps.loads }

stands_loads : (name image : List ℕ) (found : Option LogFile) (d : Disk) → Stands d name found → MayLeave d name image → loading image ≡ Ok found
stands_loads name image None d awaits left = awaits_loads name image d awaits left
stands_loads name image (Some log) d keeps left = ap loading (rests_image d name keeps.file image keeps.rests left) ∙ keeps.loads

load_crash : (name image : List ℕ) (found : Option LogFile) (old : Disk) → Stands old name found → Crashes (load_plan name) old name image → loading image ≡ Ok found
load_crash name image None old awaits crash = load_leaves_none name image old awaits crash
load_crash name image (Some log) old keeps crash = load_leaves name image log old keeps crash

-- steps that read leave it standing
reads_keep : (name : List ℕ) (found : Option LogFile) (other : List ℕ) → KindReads (KeepsBy (λ d. Stands d name found)) other
reads_keep name found other = record {
  ask = λ old mid got stands acts. stands_kept name found old mid (step_keeps name (Ask other) old mid got tt acts) stands;
  read = λ size. λ old mid got stands acts. stands_kept name found old mid (step_keeps name (Read other size) old mid got tt acts) stands;
}

-- ---- a crash before the first turn

-- a crash of steps that keep what stands, or of what follows them
First : {A B : Type 0} (name image : List ℕ) (found : Option LogFile) (f : A → Work B) → Type 0
First {A} {B} name image found f = (loading image ≡ Ok found) ⊎ ((value : A) × (mid : Disk) × Stands mid name found × Crashes (f value) mid name image)

first_crash : {A B : Type 0} (name image : List ℕ) (found : Option LogFile) (p : Work A) (f : A → Work B) (old : Disk) → Each (KeepsBy (λ d. Stands d name found)) p → Stands old name found → Crashes (followed_by p f) old name image
    → First name image found f
unfolding First
first_crash name image found p f old each stands crash =
    ⊎_elim
    (λ w. let d = sometime_kept (λ d. Stands d name found) (λ m. IsImage m name image) p old each stands w in inl (stands_loads name image found d.0 d.1 d.2))
    (λ w. inr (w.0, w.1, run_keeps (λ d. Stands d name found) p old w.1 (Ok w.0) each stands w.2, w.3))
    (crash_sequence p f old (λ m. IsImage m name image) crash)

-- a plan without steps leaves what is there
still_crash : {A : Type 0} (p : Work A) (old : Disk) (Q : Moment → Type 0) → Each (λ action. ⊥) p → Sometime p old Q → Now old Q
unfolding Sometime
still_crash (Done value) old Q each crash = crash
still_crash (Refuse refusal) old Q each crash = crash
still_crash (Room next) old Q each crash = still_crash next old Q each crash
still_crash (Act action next) old Q each crash = absurd each.0

-- a crash of a load, or of a plan without steps after it
loaded_crash : {A : Type 0} (name image : List ℕ) (found : Option LogFile) (f : Option LogFile → Work A) (old : Disk) → ((given : Option LogFile) → Each (λ action. ⊥) (f given)) → Stands old name found
    → Crashes (followed_by (log_plan name) f) old name image → loading image ≡ Ok found
loaded_crash name image found f old still stands crash =
    ⊎_elim
    (λ w. load_crash name image found old stands (refusing_crash unread_log (load_plan name) old (λ m. IsImage m name image) w))
    (λ w. load_crash name image found old stands (crash_after (load_plan name) old w.1 (Ok w.0) (λ m. IsImage m name image) (refusing_ok unread_log (load_plan name) old w.1 w.0 w.2) (still_crash (f w.0) w.1 (λ m. IsImage m name image) (still w.0) w.3)))
    (crash_sequence (log_plan name) f old (λ m. IsImage m name image) crash)

prepare_crash : (q : RecordRequest) (image : List ℕ) (found : Option LogFile) (old : Disk) → Stands old q.log found → Crashes (prepare_plan q) old q.log image → loading image ≡ Ok found
unfolding prepare_plan First
prepare_crash q image found old stands crash =
    ⊎_elim (λ is. is) (λ a.
    ⊎_elim (λ is. is) (λ b.
    ⊎_elim (λ is. is) (λ c.
    ⊎_elim (λ is. is) (λ d. loaded_crash q.log image found (λ given. checked a.0 b.0 d.0 given) d.1 (λ given. checked_each (λ action. ⊥) a.0 b.0 d.0 given) d.2 d.3)
    (first_crash q.log image found (mrt_plan 1 q.files) _ c.1 (mrt_each (KeepsBy (λ d. Stands d q.log found)) 1 q.files (λ name is. reads_keep q.log found name)) c.2 c.3))
    (first_crash q.log image found want _ b.1 tt b.2 b.3))
    (first_crash q.log image found (key_file_plan q.key) _ a.1 (key_file_each (KeepsBy (λ d. Stands d q.log found)) q.key (reads_keep q.log found q.key)) a.2 a.3))
    (first_crash q.log image found (promise_plan q.promise) _ old (promise_each (KeepsBy (λ d. Stands d q.log found)) q.promise (reads_keep q.log found q.promise)) stands crash)

-- ---- a crash of a birth, or of turns

-- the log before the first turn
before_turns : (q : RecordRequest) (p : Prepared) (image : List ℕ) → loading image ≡ Ok (Some (log_before p)) → IsLeftOf q p image
unfolding log_after
before_turns q p image is = inl (record { count = 0; within = omega arith; done = tt; loads = record { front = (log_before p).front; loads = is } })

born_crash : (q : RecordRequest) (p : Prepared) (found : Option LogFile) (image : List ℕ) (old : Disk) → p.found ≡ found → p.key.asn < 2 ^ 32 → Stands old q.log found → Crashes (born_plan q.log p.key found) old q.log image → IsLeftOf q p image
unfolding born_plan Sometime
born_crash q p None image old none small stands crash =
    unborn_left q p image none (birth_leaves q.log p.key.asn (key_root p.key) image old small (root_size p.key) stands (refusing_crash unwritten_log (birth_plan q.log p.key.asn (key_root p.key)) old (λ m. IsImage m q.log image) crash))
born_crash q p (Some log) image old is small keeps left =
    let same : log ≡ log_before p = sym (ap (λ (f : Option LogFile). unwrap_or f (born p.key.asn (key_root p.key))) is) in
    before_turns q p image (stands_loads q.log image (Some log) old keeps left ∙ ap (λ (l : LogFile). Ok (Some l)) same)

pub from_crash : (q : RecordRequest) (p : Prepared) (t : Told) (image : List ℕ) (mid : Disk) → Ready q mid t p → RecordFits q p → Crashes (recorded_from q p) mid q.log image → IsLeftOf q p image
unfolding followed_by
from_crash q p t image mid ready fits crash =
    ⊎_elim
    (λ w. born_crash q p p.found image mid refl ready.small ready.stands w)
    (λ w.
    let k = born_kept q.log p.key p.found mid w.1 w.0 ready.small ready.stands w.2 in
    let rest : Crashes (turned_from q p (log_before p)) w.1 q.log image = subst (λ (l : LogFile). Crashes (turned_from q p l) w.1 q.log image) k.0 w.3 in
    ⊎_elim
    (λ v. inl (turns_crash q.log (recorder_in p) (turns_in q p) image (log_before p) w.1 k.1 fits v))
    (λ v. inl (stop_leaves q.log (recorder_in p) (log_before p) (turns_in q p) image w.1 v.1 (Ok v.0) k.1 fits v.2 (still_crash (told_at_end p (log_before p) v.0) v.1 (λ m. IsImage m q.log image) tt v.3)))
    (crash_sequence (turns_plan q.log (recorder_in p) (log_before p) (turns_in q p)) (told_at_end p (log_before p)) w.1 (λ m. IsImage m q.log image) rest))
    (crash_sequence (born_plan q.log p.key p.found) (turned_from q p) mid (λ m. IsImage m q.log image) crash)

-- ---- a whole run

whole_crash : (q : RecordRequest) (old : Disk) (t : Told) (found : Option LogFile) (image : List ℕ) → MayRecord q old t → Stands old q.log found → Crashes (plan_of (Record q)) old q.log image → IsLeftAnywhere q t.holds found image
whole_crash q old t found image may stands crash =
    ⊎_elim
    (λ w. inl (prepare_crash q image found old stands w))
    (λ w.
    let ready = prepare_ready q old w.1 t w.0 may w.2 in
    inr (w.0, ready.is, λ fits. from_crash q w.0 t image w.1 ready fits w.3))
    (crash_sequence (prepare_plan q) (recorded_from q) old (λ m. IsImage m q.log image) (subst (λ (p : Work Ending). Crashes p old q.log image) (sym (record_parts q)) crash))

pub run_crash : (words : List (List ℕ)) (q : RecordRequest) (old : Disk) (t : Told) (found : Option LogFile) (image : List ℕ) → request_in words ≡ Some (Record q) → MayRecord q old t → Stands old q.log found
    → Crashes (plan_for words) old q.log image → IsLeftAnywhere q t.holds found image
unfolding Sometime
run_crash words q old t found image is may stands crash =
    whole_crash q old t found image may stands (subst (λ (r : Option Request). Crashes (plan_in r) old q.log image) is crash)

pub past_crash : (words : List (List ℕ)) (q : RecordRequest) (old new : Disk) (before after : Tape) (status : ℕ) (t u : Told) (past : List Moment) (found : Option LogFile) (image : List ℕ) → request_in words ≡ Some (Record q) → MayRecord q old t
    → Stands old q.log found → RunsTo (plan_for words) old new before after status → t.past ≡ Some past → new.told ≡ Some u → Since (length past) u (λ m. IsImage m q.log image) → IsLeftAnywhere q t.holds found image
past_crash words q old new before after status t u past found image is may stands run at told since =
    run_crash words q old t found image is may stands (since_a_run (plan_for words) old new run.result t u past (λ m. IsImage m q.log image) run.runs may.told at told since)
