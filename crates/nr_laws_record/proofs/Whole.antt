-- What a whole run of `record` leaves.
use Rattle.std.proofs.Common.{◌≡◌, inl, inr, ⊎_elim, ◌⊎◌, ℕ, ◌<◌, ◌^◌, List, Option, Some, None, Result, Ok, Err, true, refl, ap, sym, subst, arith}
use Rattle.std.specs.Prelude.{option_map, unwrap_or}
use Rattle.nr_spec_history.specs.KeyFiles.{Key, key_root}
use Rattle.nr_spec_plans.specs.Disk.{Disk, Tape, Told, bytes_of}
use Rattle.nr_spec_plans.specs.Plans.{Plan, Done, Refuse, Act, Halt, Refused, Faulted, Room, Runs, followed_by, ◌>>=◌, halting, want}
use Rattle.nr_spec_plans.specs.Order.{Refuses}
use Rattle.nr_spec_plans.proofs.PlanLaws.{ends_followed, ends_so, taken_apart}
use Rattle.nr_spec_crash.specs.Crashes.{MayLeave}
use Rattle.nr_spec_store.specs.LogFile.{LogFile, born}
use Rattle.nr_spec_store.specs.StorePlans as store
use Rattle.nr_spec_store.specs.StorePlans.{birth_plan, loading}
use Rattle.nr_spec_store.specs.StoreCrashes.{AwaitsBirth, IsUnbornOrBorn, Keeps, LoadsEntries}
use Rattle.nr_laws_store.proofs.BirthLaws.{birth_keeps, birth_read_leaves, birth_stop_leaves, birth_unrefused}
use Rattle.nr_spec_steps.specs.Turns.{log_after}
use Rattle.nr_spec_recording.specs.Events.{skipped}
use Rattle.nr_spec_commands.specs.Words.{RecordRequest, Record, request_in}
use Rattle.nr_spec_program.specs.Command.{Ending, LogFact, Prevented, Refusal, Work}
use Rattle.nr_spec_program.specs.Recording.{born_plan, recorded_ending, speakers_of, turns_plan, unwritten_log}
use Rattle.nr_spec_program.specs.Running.{RunsTo}
use Rattle.nr_spec_program.specs.Table.{plan_for, plan_of}
use Rattle.nr_spec_program.specs.Causes.{Answered, is_met_by_a_turn}
use Rattle.nr_laws_program.proofs.FileLaws.{gave, is_zero, runs_for}
use Rattle.nr_laws_program.proofs.ReplyLaws.{same_holds}
use Rattle.nr_laws_program.proofs.Parts.{nothing_done, ok_apart, refused_apart}
use Rattle.nr_laws_recording.proofs.Crashing.{refusing_ok}
use Rattle.nr_laws_recording.proofs.Ended.{read_leaves, stop_leaves}
use Rattle.nr_laws_record.specs.Recorded.{IsLeftOf, IsPrepared, LeavesTurns, MayRecord, Prepared, RecordFits, Records, RecordsSome, Stands, StopsFor, log_before, prepare_plan, recorder_in, turns_in}
use Rattle.nr_laws_record.proofs.Turns.{turns_kept, turns_refused}
use Rattle.nr_laws_record.proofs.Preparing.{IsEarly, Ready, prepare_early, prepare_holds, prepare_ready, record_parts, recorded_from, root_size}

in_parts : (q : RecordRequest) (old new : Disk) (result : Result Ending (Halt Refusal)) → Runs (plan_of (Record q)) old new result → Runs (prepare_plan q >>= recorded_from q) old new result
in_parts q old new result runs = subst (λ (p : Work Ending). Runs p old new result) (sym (record_parts q)) runs

-- ---- the log that is recorded behind

-- the log that was found, or one that is born
abbrev pub Behind : Key → Option LogFile → LogFile
Behind key found = unwrap_or found (born key.asn (key_root key))

awaits_told : (d : Disk) (name : List ℕ) → AwaitsBirth d name → (t : Told) × (d.told ≡ Some t)
awaits_told d name (inl (file, rests, is)) = (rests.now, rests.told)
awaits_told d name (inr within) = (within.now, within.told)

pub born_kept : (name : List ℕ) (key : Key) (found : Option LogFile) (old new : Disk) (log : LogFile) → key.asn < 2 ^ 32 → Stands old name found → Runs (born_plan name key found) old new (Ok log)
    → (log ≡ Behind key found) × Keeps new name (Behind key found)
unfolding born_plan Runs
born_kept name key None old new log small stands runs =
    let t = awaits_told old name stands in
    birth_keeps name key.asn (key_root key) log old new t.0 small (root_size key) t.1 (refusing_ok unwritten_log (birth_plan name key.asn (key_root key)) old new log runs)
born_kept name key (Some log) old new value small stands (same, is) = ((let e : value ≡ log = cc in e), subst (λ (d : Disk). Keeps d name log) (sym same) stands)

-- a birth that was stopped
record BirthStopped (name : List ℕ) (key : Key) (found : Option LogFile) (new : Disk) : Type 0 where
  pub none : found ≡ None
  pub read : (u : Told) → new.told ≡ Some u → IsUnbornOrBorn (born key.asn (key_root key)) (bytes_of (u.holds name))
  pub crash : (image : List ℕ) → MayLeave new name image → IsUnbornOrBorn (born key.asn (key_root key)) image

born_stopped : (name : List ℕ) (key : Key) (found : Option LogFile) (old new : Disk) (halt : Halt Refusal) → key.asn < 2 ^ 32 → Stands old name found → Runs (born_plan name key found) old new (Err halt) → BirthStopped name key found new
unfolding born_plan Runs
born_stopped name key None old new halt small stands runs =
    let w = refused_apart unwritten_log (birth_plan name key.asn (key_root key)) old new (Err halt) runs in
    record {
      none = refl;
      read = λ u told. birth_read_leaves name key.asn (key_root key) old new u w.0 small (root_size key) stands w.1 told;
      crash = λ image left. birth_stop_leaves name key.asn (key_root key) image old new w.0 small (root_size key) stands w.1 left;
    }
born_stopped name key (Some log) old new halt small stands (same, is) = absurd cc

-- a birth for which a load made way isn't refused
birth_never : (name : List ℕ) (key : Key) (old new : Disk) (inner : Result LogFile (Halt store.Refusal)) (refusal : Refusal) → AwaitsBirth old name → Runs (birth_plan name key.asn (key_root key)) old new inner
    → Err (Refused refusal) ≡ halting unwritten_log inner → ⊥
birth_never name key old new (Ok value) refusal awaits runs is = absurd cc
birth_never name key old new (Err (Faulted fault)) refusal awaits runs is = absurd cc
birth_never name key old new (Err (Refused r)) refusal awaits runs is = birth_unrefused name key.asn (key_root key) old new r awaits runs

born_never : (name : List ℕ) (key : Key) (found : Option LogFile) (old new : Disk) (refusal : Refusal) → Stands old name found → Runs (born_plan name key found) old new (Err (Refused refusal)) → ⊥
unfolding born_plan Runs
born_never name key None old new refusal stands runs =
    let w = refused_apart unwritten_log (birth_plan name key.asn (key_root key)) old new (Err (Refused refusal)) runs in
    birth_never name key old new w.0 refusal stands w.1 w.2
born_never name key (Some log) old new refusal stands (same, is) = absurd cc

-- ---- the ending

abbrev pub skips : Prepared → ℕ
skips p = skipped (speakers_of p.promise) p.files

abbrev pub told_at_end : Prepared → LogFile → LogFile → Work Ending
told_at_end p log longer = want >>= λ told. Done (recorded_ending log longer (skips p))

abbrev pub turned_from : RecordRequest → Prepared → LogFile → Work Ending
turned_from q p log = turns_plan q.log (recorder_in p) log (turns_in q p) >>= λ longer. told_at_end p log longer

end_still : (p : Prepared) (log longer : LogFile) (old new : Disk) (result : Result Ending (Halt Refusal)) → Runs (told_at_end p log longer) old new result → new ≡ old
unfolding followed_by
end_still p log longer old new result runs = nothing_done (told_at_end p log longer) old new result tt runs

end_says : (p : Prepared) (log longer : LogFile) (old new : Disk) (ending : Ending) → Runs (told_at_end p log longer) old new (Ok ending) → ending ≡ recorded_ending log longer (skips p)
end_says p log longer old new ending runs =
    ends_so (λ e. e ≡ recorded_ending log longer (skips p)) (told_at_end p log longer) old new ending (ends_followed (λ e. e ≡ recorded_ending log longer (skips p)) want _ (λ told. refl)) runs

end_never : (p : Prepared) (log longer : LogFile) (old new : Disk) (refusal : Refusal) → Runs (told_at_end p log longer) old new (Err (Refused refusal)) → ⊥
unfolding followed_by Runs
end_never p log longer old new refusal (inl (same, is)) = absurd cc
end_never p log longer old new refusal (inr (same, is)) = absurd cc

-- ---- where it answers 0

from_ok : (q : RecordRequest) (p : Prepared) (t : Told) (mid new : Disk) (ending : Ending) → Ready q mid t p → RecordFits q p → Runs (recorded_from q p) mid new (Ok ending) → Records q p new ending
from_ok q p t mid new ending ready fits runs =
    let b = ok_apart (born_plan q.log p.key p.found) (turned_from q p) mid new ending runs in
    let k = born_kept q.log p.key p.found mid b.0 b.1 ready.small ready.stands b.2 in
    let rest : Runs (turned_from q p (log_before p)) b.0 new (Ok ending) = subst (λ (l : LogFile). Runs (turned_from q p l) b.0 new (Ok ending)) k.0 b.3 in
    let c = ok_apart (turns_plan q.log (recorder_in p) (log_before p) (turns_in q p)) (told_at_end p (log_before p)) b.0 new ending rest in
    let all = turns_kept q.log (recorder_in p) (turns_in q p) (log_before p) c.1 b.0 c.0 k.1 fits c.2 in
    record {
      longer = c.1;
      appends = all.appends;
      keeps = subst (λ (d : Disk). Keeps d q.log c.1) (sym (end_still p (log_before p) c.1 c.0 new (Ok ending) c.3)) all.keeps;
      says = end_says p (log_before p) c.1 c.0 new ending c.3;
    }

whole_ok : (q : RecordRequest) (t : Told) (old new : Disk) (ending : Ending) → MayRecord q old t → Runs (plan_of (Record q)) old new (Ok ending) → (p : Prepared) × IsPrepared t.holds q p × (RecordFits q p → Records q p new ending)
whole_ok q t old new ending may runs =
    let w = ok_apart (prepare_plan q) (recorded_from q) old new ending (in_parts q old new (Ok ending) runs) in
    let ready = prepare_ready q old w.0 t w.1 may w.2 in
    (w.1, ready.is, λ fits. from_ok q w.1 t w.0 new ending ready fits w.3)

whole_ok_in : (q : RecordRequest) (t : Told) (old new : Disk) (ending : Ending) → MayRecord q old t → Runs (Room (plan_of (Record q))) old new (Ok ending) → (p : Prepared) × IsPrepared t.holds q p × (RecordFits q p → Records q p new ending)
unfolding Runs
whole_ok_in q t old new ending may (inl (same, is)) = absurd cc
whole_ok_in q t old new ending may (inr runs) = whole_ok q t old new ending may runs

pub run_records : (words : List (List ℕ)) (q : RecordRequest) (old new : Disk) (before after : Tape) (status : ℕ) (t : Told) → request_in words ≡ Some (Record q) → MayRecord q old t
    → (run : RunsTo (plan_for words) old new before after status) → Answered (λ s. s ≡ 0) run.ending status → (p : Prepared) × IsPrepared t.holds q p × (RecordFits q p → Records q p new run.ending)
run_records words q old new before after status t is may run zero =
    let g = gave (Room (plan_of (Record q))) old new run.result run.ending (runs_for words (Record q) old new run.result is run.runs) run.concludes (is_zero run.ending run.delivers.got status run.delivers.answers zero) in
    let w = whole_ok_in q t old new g.0 may g.1 in
    (w.0, w.1, λ fits. subst (λ (e : Ending). Records q w.0 new e) (sym g.2) (w.2 fits))

-- ---- where a turn was refused

refused_so : {E A : Type 0} (P : E → Type 0) (p : Plan E A) (old new : Disk) (refusal : E) → Refuses P p → Runs p old new (Err (Refused refusal)) → P refusal
unfolding Runs
refused_so P (Done value) old new refusal has (same, is) = absurd cc
refused_so P (Refuse r) old new refusal has (same, is) = subst P (let e : r ≡ refusal = cc in e) has
refused_so P (Room next) old new refusal has (inl (same, is)) = absurd cc
refused_so P (Room next) old new refusal has (inr runs) = refused_so P next old new refusal has runs
refused_so P (Act action next) old new refusal has (mid, Ok answer, acts, goes) = refused_so P (next answer) mid new refusal (has answer) goes
refused_so P (Act action next) old new refusal has (mid, Err fault, acts, (same, is)) = absurd cc

-- the halt is that refusal
halted : {A : Type 0} (p : Work A) (old new : Disk) (halt : Halt Refusal) (refusal : Refusal) → (let r : Result Ending (Halt Refusal) = Err (Refused refusal) in r) ≡ Err halt → Runs p old new (Err halt) → Runs p old new (Err (Refused refusal))
halted p old new halt refusal is runs = subst (λ (h : Halt Refusal). Runs p old new (Err h)) (let e : halt ≡ Refused refusal = cc in e) runs

turns_stopped : (q : RecordRequest) (p : Prepared) (old new : Disk) (fact : LogFact) → Keeps old q.log (log_before p) → RecordFits q p → Runs (turned_from q p (log_before p)) old new (Err (Refused (Prevented fact))) → RecordsSome q p new fact
turns_stopped q p old new fact keeps fits runs =
    ⊎_elim
    (λ w. absurd (end_never p (log_before p) w.1 w.0 new (Prevented fact) w.3))
    (λ w.
    let s = turns_refused q.log (recorder_in p) (turns_in q p) (log_before p) (Prevented fact) old new keeps fits (halted (turns_plan q.log (recorder_in p) (log_before p) (turns_in q p)) old new w.0 (Prevented fact) w.2 w.1) in
    let e : s.fact ≡ fact = (let k = s.is in cc) in
    record { longer = s.longer; stops = subst (λ (f : LogFact). StopsFor (recorder_in p) (log_before p) (turns_in q p) f s.longer) e s.stops; keeps = s.keeps })
    (taken_apart (turns_plan q.log (recorder_in p) (log_before p) (turns_in q p)) (told_at_end p (log_before p)) old new (Err (Refused (Prevented fact))) runs)

from_refused : (q : RecordRequest) (p : Prepared) (t : Told) (mid new : Disk) (fact : LogFact) → Ready q mid t p → RecordFits q p → Runs (recorded_from q p) mid new (Err (Refused (Prevented fact))) → RecordsSome q p new fact
from_refused q p t mid new fact ready fits runs =
    ⊎_elim
    (λ w.
    let k = born_kept q.log p.key p.found mid w.0 w.1 ready.small ready.stands w.2 in
    turns_stopped q p w.0 new fact k.1 fits (subst (λ (l : LogFile). Runs (turned_from q p l) w.0 new (Err (Refused (Prevented fact)))) k.0 w.3))
    (λ w. absurd (born_never q.log p.key p.found mid new (Prevented fact) ready.stands (halted (born_plan q.log p.key p.found) mid new w.0 (Prevented fact) w.2 w.1)))
    (taken_apart (born_plan q.log p.key p.found) (turned_from q p) mid new (Err (Refused (Prevented fact))) runs)

whole_refused : (q : RecordRequest) (t : Told) (old new : Disk) (fact : LogFact) → MayRecord q old t → is_met_by_a_turn fact ≡ true → Runs (plan_of (Record q)) old new (Err (Refused (Prevented fact)))
    → (p : Prepared) × IsPrepared t.holds q p × (RecordFits q p → RecordsSome q p new fact)
whole_refused q t old new fact may late runs =
    ⊎_elim
    (λ w.
    let ready = prepare_ready q old w.0 t w.1 may w.2 in
    (w.1, ready.is, λ fits. from_refused q w.1 t w.0 new fact ready fits w.3))
    (λ w. absurd (let early = refused_so IsEarly (prepare_plan q) old new (Prevented fact) (prepare_early q) (halted (prepare_plan q) old new w.0 (Prevented fact) w.2 w.1) in cc))
    (taken_apart (prepare_plan q) (recorded_from q) old new (Err (Refused (Prevented fact))) (in_parts q old new (Err (Refused (Prevented fact))) runs))

whole_refused_in : (q : RecordRequest) (t : Told) (old new : Disk) (fact : LogFact) → MayRecord q old t → is_met_by_a_turn fact ≡ true → Runs (Room (plan_of (Record q))) old new (Err (Refused (Prevented fact)))
    → (p : Prepared) × IsPrepared t.holds q p × (RecordFits q p → RecordsSome q p new fact)
unfolding Runs
whole_refused_in q t old new fact may late (inl (same, is)) = absurd cc
whole_refused_in q t old new fact may late (inr runs) = whole_refused q t old new fact may late runs

pub run_refused : (words : List (List ℕ)) (q : RecordRequest) (old new : Disk) (before after : Tape) (status : ℕ) (t : Told) (fact : LogFact) → request_in words ≡ Some (Record q) → MayRecord q old t
    → (run : RunsTo (plan_for words) old new before after status) → run.result ≡ Err (Refused (Prevented fact)) → is_met_by_a_turn fact ≡ true → (p : Prepared) × IsPrepared t.holds q p × (RecordFits q p → RecordsSome q p new fact)
run_refused words q old new before after status t fact is may run refused late =
    whole_refused_in q t old new fact may late (subst (λ (r : Result Ending (Halt Refusal)). Runs (Room (plan_of (Record q))) old new r) refused (runs_for words (Record q) old new run.result is run.runs))

-- ---- whatever came of it

-- an unborn log, or one without entries
pub unborn_left : (q : RecordRequest) (p : Prepared) (file : List ℕ) → p.found ≡ None → IsUnbornOrBorn (born p.key.asn (key_root p.key)) file → IsLeftOf q p file
unfolding log_after
unborn_left q p file none (inl is) = inr (none, is)
unborn_left q p file none (inr is) =
    let fresh = born p.key.asn (key_root p.key) in
    let same : fresh ≡ log_before p = sym (ap (λ (f : Option LogFile). unwrap_or f fresh) none) in
    let loads : LoadsEntries file fresh fresh.entries = record { front = fresh.front; loads = is } in
    inl (record { count = 0; within = omega arith; done = tt; loads = subst (λ (l : LogFile). LoadsEntries file l l.entries) same loads })

turns_left : (q : RecordRequest) (p : Prepared) (old new : Disk) (result : Result LogFile (Halt Refusal)) → Keeps old q.log (log_before p) → RecordFits q p → Runs (turns_plan q.log (recorder_in p) (log_before p) (turns_in q p)) old new result → LeavesTurns q p new
turns_left q p old new result keeps fits runs = record {
  read = λ u told. inl (read_leaves q.log (recorder_in p) (log_before p) (turns_in q p) old new u result keeps fits runs told);
  crash = λ image left. inl (stop_leaves q.log (recorder_in p) (log_before p) (turns_in q p) image old new result keeps fits runs left);
}

from_leaves : (q : RecordRequest) (p : Prepared) (t : Told) (mid new : Disk) (result : Result Ending (Halt Refusal)) → Ready q mid t p → RecordFits q p → Runs (recorded_from q p) mid new result → LeavesTurns q p new
from_leaves q p t mid new result ready fits runs =
    ⊎_elim
    (λ w.
    let k = born_kept q.log p.key p.found mid w.0 w.1 ready.small ready.stands w.2 in
    let rest : Runs (turned_from q p (log_before p)) w.0 new result = subst (λ (l : LogFile). Runs (turned_from q p l) w.0 new result) k.0 w.3 in
    ⊎_elim
    (λ v. subst (λ (d : Disk). LeavesTurns q p d) (sym (end_still p (log_before p) v.1 v.0 new result v.3)) (turns_left q p w.0 v.0 (Ok v.1) k.1 fits v.2))
    (λ v. turns_left q p w.0 new (Err v.0) k.1 fits v.1)
    (taken_apart (turns_plan q.log (recorder_in p) (log_before p) (turns_in q p)) (told_at_end p (log_before p)) w.0 new result rest))
    (λ w.
    let s = born_stopped q.log p.key p.found mid new w.0 ready.small ready.stands w.1 in
    record { read = λ u told. unborn_left q p (bytes_of (u.holds q.log)) s.none (s.read u told); crash = λ image left. unborn_left q p image s.none (s.crash image left) })
    (taken_apart (born_plan q.log p.key p.found) (turned_from q p) mid new result runs)

abbrev MayLeaveTurns : RecordRequest → Told → Disk → Disk → Type 0
MayLeaveTurns q t old new =
    (option_map (λ t. t.holds) new.told ≡ option_map (λ t. t.holds) old.told)
    ⊎ ((p : Prepared) × IsPrepared t.holds q p × (RecordFits q p → LeavesTurns q p new))

whole_leaves : (q : RecordRequest) (t : Told) (old new : Disk) (result : Result Ending (Halt Refusal)) → MayRecord q old t → Runs (plan_of (Record q)) old new result → MayLeaveTurns q t old new
whole_leaves q t old new result may runs =
    ⊎_elim
    (λ w.
    let ready = prepare_ready q old w.0 t w.1 may w.2 in
    inr (w.1, ready.is, λ fits. from_leaves q w.1 t w.0 new result ready fits w.3))
    (λ w. inl (prepare_holds q old new (Err w.0) w.1))
    (taken_apart (prepare_plan q) (recorded_from q) old new result (in_parts q old new result runs))

whole_leaves_in : (q : RecordRequest) (t : Told) (old new : Disk) (result : Result Ending (Halt Refusal)) → MayRecord q old t → Runs (Room (plan_of (Record q))) old new result → MayLeaveTurns q t old new
unfolding Runs
whole_leaves_in q t old new result may (inl (same, is)) = inl (same_holds old old new same refl)
whole_leaves_in q t old new result may (inr runs) = whole_leaves q t old new result may runs

pub run_leaves : (words : List (List ℕ)) (q : RecordRequest) (old new : Disk) (before after : Tape) (status : ℕ) (t : Told) → request_in words ≡ Some (Record q) → MayRecord q old t → RunsTo (plan_for words) old new before after status
    → MayLeaveTurns q t old new
run_leaves words q old new before after status t is may run = whole_leaves_in q t old new run.result may (runs_for words (Record q) old new run.result is run.runs)
