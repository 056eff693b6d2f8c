-- Turns that were appended, one after another.
use Rattle.std.proofs.Common.{◌≡◌, inl, inr, ⊎_elim, ℕ, ◌<◌, List, [], ◌∷◌, ◌++◌, length, Result, Ok, Err, refl, ap, sym, subst, ◌∙◌, append-nil, arith}
use Rattle.nr_spec_plans.specs.Disk.{Disk}
use Rattle.nr_spec_plans.specs.Plans.{Halt, Refused, Faulted, Runs, followed_by, halting}
use Rattle.nr_spec_plans.proofs.PlanLaws.{taken_apart}
use Rattle.nr_spec_log.specs.Chain.{LogEntry}
use Rattle.nr_spec_log.specs.Answer.{AreEntriesFrom, last_time}
use Rattle.nr_spec_store.specs.LogFile.{LogFile, most_log, with_batch}
use Rattle.nr_spec_store.specs.StorePlans as store
use Rattle.nr_spec_store.specs.StorePlans.{append_plan}
use Rattle.nr_spec_store.specs.StoreCrashes.{Keeps}
use Rattle.nr_laws_store.proofs.GateLaws.{append_keeps, append_refused, keeps_holds}
use Rattle.nr_spec_steps.specs.Events.{Event}
use Rattle.nr_spec_steps.specs.Steps.{Recorder, Spent}
use Rattle.nr_spec_steps.specs.Turns.{log_after, turn, with_turn}
use Rattle.nr_spec_program.specs.Command.{KeySpent, LogFact, LongLog, Prevented, Refusal}
use Rattle.nr_spec_program.specs.Recording.{batch_plan, turned, turns_plan, unwritten_log}
use Rattle.nr_laws_program.proofs.Parts.{ok_apart, refused_apart}
use Rattle.nr_laws_recording.specs.FirstTurns.{TurnsFit}
use Rattle.nr_laws_recording.proofs.Crashing.{appending, refusing_ok}
use Rattle.nr_laws_record.specs.Recorded.{Appends, IsRefusedFor, StopsFor, with_entries}

-- ---- the log after turns

entries_with : (log : LogFile) (batch : List LogEntry) → ((with_entries log batch).asn ≡ log.asn) × ((with_entries log batch).root ≡ log.root) × ((with_entries log batch).entries ≡ log.entries ++ batch)
unfolding with_batch
entries_with log [] = (refl, refl, sym (append-nil log.entries))
entries_with log (first ∷ others) = (refl, refl, refl)

pub appended_after : (r : Recorder) (log longer : LogFile) (turns : List (List Event)) → Appends r log turns longer → (longer.asn ≡ log.asn) × (longer.root ≡ log.root) × (longer.entries ≡ log_after r log.entries turns)
unfolding log_after
appended_after r log longer [] is = (ap (λ (l : LogFile). l.asn) is, ap (λ (l : LogFile). l.root) is, ap (λ (l : LogFile). l.entries) is)
appended_after r log longer (events ∷ others) (batch, done, rest) =
    let w = entries_with log batch in
    let a = appended_after r (with_entries log batch) longer others rest in
    let e : (with_entries log batch).entries ≡ with_turn log.entries (turn r log.entries events) = w.2 ∙ ap (with_turn log.entries) (sym done) in
    (a.0 ∙ w.0, a.1 ∙ w.1, a.2 ∙ ap (λ (l : List LogEntry). log_after r l others) e)

-- what fits behind the log before a turn fits behind the log after it
fits_behind : (r : Recorder) (log : LogFile) (batch : List LogEntry) (others : List (List Event)) → TurnsFit r (log.entries ++ batch) others → TurnsFit r (with_entries log batch).entries others
fits_behind r log batch others fits = subst (λ (l : List LogEntry). TurnsFit r l others) (sym (entries_with log batch).2) fits

-- ---- one batch

-- the batch of a turn that went well
pub batch_kept : (name : List ℕ) (log longer : LogFile) (batch : List LogEntry) (old new : Disk) → Keeps old name log → AreEntriesFrom (last_time 0 log.entries) batch → Runs (batch_plan name log batch) old new (Ok longer)
    → (longer ≡ with_entries log batch) × Keeps new name (with_entries log batch)
unfolding batch_plan Runs
batch_kept name log longer [] old new keeps fits (same, is) = ((let e : longer ≡ log = cc in e), subst (λ (d : Disk). Keeps d name log) (sym same) keeps)
batch_kept name log longer (first ∷ others) old new keeps fits runs =
    append_keeps name log (first ∷ others) longer old new (keeps_holds old name log keeps) (record { fit = fits; some = omega arith }) (refusing_ok unwritten_log (append_plan name log (first ∷ others)) old new longer runs)

-- the batch of a turn that was refused
Refuses : (log : LogFile) (batch : List LogEntry) (old new : Disk) (refusal : Refusal) → Type 0
Refuses log batch old new refusal = (size : ℕ) × (new ≡ old) × (refusal ≡ Prevented (LongLog size)) × (size ≡ length (with_batch log batch).front) × (most_log < size)

append_stops : (log : LogFile) (batch : List LogEntry) (name : List ℕ) (old new : Disk) (inner : Result LogFile (Halt store.Refusal)) (refusal : Refusal) → Runs (append_plan name log batch) old new inner
    → Err (Refused refusal) ≡ halting unwritten_log inner → Refuses log batch old new refusal
unfolding Refuses
append_stops log batch name old new (Ok value) refusal runs is = absurd cc
append_stops log batch name old new (Err (Faulted fault)) refusal runs is = absurd cc
append_stops log batch name old new (Err (Refused r)) refusal runs is =
    let a = append_refused name log batch old new r runs in
    (length (with_batch log batch).front, a.0, (let e : refusal ≡ unwritten_log r = cc in e ∙ ap unwritten_log a.1), refl, a.2)

batch_stops : (name : List ℕ) (log : LogFile) (batch : List LogEntry) (old new : Disk) (refusal : Refusal) → Runs (batch_plan name log batch) old new (Err (Refused refusal)) → Refuses log batch old new refusal
unfolding batch_plan Runs
batch_stops name log [] old new refusal (same, is) = absurd cc
batch_stops name log (first ∷ others) old new refusal runs =
    let a = refused_apart unwritten_log (append_plan name log (first ∷ others)) old new (Err (Refused refusal)) runs in
    append_stops log (first ∷ others) name old new a.0 refusal a.1 a.2

-- ---- turns that went well

-- what they leave
pub record AllKept (name : List ℕ) (r : Recorder) (log : LogFile) (turns : List (List Event)) (longer : LogFile) (new : Disk) : Type 0 where
  pub appends : Appends r log turns longer
  pub keeps : Keeps new name longer

-- what is known of the turns behind one
abbrev Behind : List ℕ → Recorder → List (List Event) → Type 0
Behind name r others =
    (log longer : LogFile) (old new : Disk) → Keeps old name log → TurnsFit r log.entries others → Runs (turns_plan name r log others) old new (Ok longer) → AllKept name r log others longer new

batch_ok : (name : List ℕ) (r : Recorder) (log longer : LogFile) (events : List Event) (others : List (List Event)) (batch : List LogEntry) (old new : Disk) → Keeps old name log → turn r log.entries events ≡ Ok batch
    → AreEntriesFrom (last_time 0 log.entries) batch → TurnsFit r (log.entries ++ batch) others → Behind name r others → Runs (appending name r log others batch) old new (Ok longer) → AllKept name r log (events ∷ others) longer new
batch_ok name r log longer events others batch old new keeps done fits rest behind runs =
    let w = ok_apart (batch_plan name log batch) (λ l. turns_plan name r l others) old new longer runs in
    let kept = batch_kept name log w.1 batch old w.0 keeps fits w.2 in
    let later : Runs (turns_plan name r (with_entries log batch) others) w.0 new (Ok longer) = subst (λ (l : LogFile). Runs (turns_plan name r l others) w.0 new (Ok longer)) kept.0 w.3 in
    let all = behind (with_entries log batch) longer w.0 new kept.1 (fits_behind r log batch others rest) later in
    record { appends = (batch, done, all.appends); keeps = all.keeps }

turn_ok : (name : List ℕ) (r : Recorder) (log longer : LogFile) (events : List Event) (others : List (List Event)) (turned_as : Result (List LogEntry) Spent) (old new : Disk) → Keeps old name log
    → turn r log.entries events ≡ turned_as → TurnsFit r log.entries (events ∷ others) → Behind name r others → Runs (followed_by (turned turned_as) (appending name r log others)) old new (Ok longer)
    → AllKept name r log (events ∷ others) longer new
unfolding Runs followed_by
turn_ok name r log longer events others (Ok batch) old new keeps done fits behind runs = let f = fits batch done in batch_ok name r log longer events others batch old new keeps done f.0 f.1 behind runs
turn_ok name r log longer events others (Err spent) old new keeps done fits behind (same, is) = absurd cc

pub turns_kept : (name : List ℕ) (r : Recorder) (turns : List (List Event)) → Behind name r turns
unfolding turns_plan Runs followed_by
turns_kept name r [] log longer old new keeps fits (same, is) =
    let e : longer ≡ log = cc in
    record { appends = e; keeps = subst (λ (l : LogFile). Keeps new name l) (sym e) (subst (λ (d : Disk). Keeps d name log) (sym same) keeps) }
turns_kept name r (events ∷ others) log longer old new keeps fits (inl (same, is)) = absurd cc
turns_kept name r (events ∷ others) log longer old new keeps fits (inr runs) = turn_ok name r log longer events others (turn r log.entries events) old new keeps refl fits (turns_kept name r others) runs

-- ---- turns that were refused

pub record SomeKept (name : List ℕ) (r : Recorder) (log : LogFile) (turns : List (List Event)) (refusal : Refusal) (new : Disk) : Type 0 where
  pub fact : LogFact
  pub is : refusal ≡ Prevented fact
  pub longer : LogFile
  pub stops : StopsFor r log turns fact longer
  pub keeps : Keeps new name longer

abbrev Later : List ℕ → Recorder → List (List Event) → Type 0
Later name r others =
    (log : LogFile) (refusal : Refusal) (old new : Disk) → Keeps old name log → TurnsFit r log.entries others → Runs (turns_plan name r log others) old new (Err (Refused refusal)) → SomeKept name r log others refusal new

-- at the first of these turns
at_once : (name : List ℕ) (r : Recorder) (log : LogFile) (events : List Event) (others : List (List Event)) (fact : LogFact) (refusal : Refusal) (old new : Disk) → Keeps old name log → new ≡ old → refusal ≡ Prevented fact
    → IsRefusedFor r log events fact → SomeKept name r log (events ∷ others) refusal new
at_once name r log events others fact refusal old new keeps same is because = record {
  fact = fact;
  is = is;
  longer = log;
  stops = record { before = []; refused = events; others = others; all = refl; appends = refl; because = because };
  keeps = subst (λ (d : Disk). Keeps d name log) (sym same) keeps;
}

-- after the first of them
after_one : (name : List ℕ) (r : Recorder) (log : LogFile) (events : List Event) (others : List (List Event)) (batch : List LogEntry) (refusal : Refusal) (new : Disk) → turn r log.entries events ≡ Ok batch
    → SomeKept name r (with_entries log batch) others refusal new → SomeKept name r log (events ∷ others) refusal new
after_one name r log events others batch refusal new done some = record {
  fact = some.fact;
  is = some.is;
  longer = some.longer;
  stops = record {
    before = events ∷ some.stops.before;
    refused = some.stops.refused;
    others = some.stops.others;
    all = ap (λ (l : List (List Event)). events ∷ l) some.stops.all;
    appends = (batch, done, some.stops.appends);
    because = some.stops.because;
  };
  keeps = some.keeps;
}

batch_refused : (name : List ℕ) (r : Recorder) (log : LogFile) (events : List Event) (others : List (List Event)) (batch : List LogEntry) (refusal : Refusal) (old new : Disk) → Keeps old name log
    → turn r log.entries events ≡ Ok batch → AreEntriesFrom (last_time 0 log.entries) batch → TurnsFit r (log.entries ++ batch) others → Later name r others
    → Runs (appending name r log others batch) old new (Err (Refused refusal)) → SomeKept name r log (events ∷ others) refusal new
unfolding Refuses
batch_refused name r log events others batch refusal old new keeps done fits rest later runs =
    ⊎_elim
    (λ w.
    let kept = batch_kept name log w.1 batch old w.0 keeps fits w.2 in
    let then : Runs (turns_plan name r (with_entries log batch) others) w.0 new (Err (Refused refusal)) = subst (λ (l : LogFile). Runs (turns_plan name r l others) w.0 new (Err (Refused refusal))) kept.0 w.3 in
    after_one name r log events others batch refusal new done (later (with_entries log batch) refusal w.0 new kept.1 (fits_behind r log batch others rest) then))
    (λ w.
    let halted : Runs (batch_plan name log batch) old new (Err (Refused refusal)) = subst (λ (h : Halt Refusal). Runs (batch_plan name log batch) old new (Err h)) (let e : w.0 ≡ Refused refusal = (let k = w.2 in cc) in e) w.1 in
    let s = batch_stops name log batch old new refusal halted in
    at_once name r log events others (LongLog s.0) refusal old new keeps s.1 s.2 (batch, done, s.3, s.4))
    (taken_apart (batch_plan name log batch) (λ l. turns_plan name r l others) old new (Err (Refused refusal)) runs)

turn_refused : (name : List ℕ) (r : Recorder) (log : LogFile) (events : List Event) (others : List (List Event)) (turned_as : Result (List LogEntry) Spent) (refusal : Refusal) (old new : Disk) → Keeps old name log
    → turn r log.entries events ≡ turned_as → TurnsFit r log.entries (events ∷ others) → Later name r others → Runs (followed_by (turned turned_as) (appending name r log others)) old new (Err (Refused refusal))
    → SomeKept name r log (events ∷ others) refusal new
unfolding Runs followed_by
turn_refused name r log events others (Ok batch) refusal old new keeps done fits later runs = let f = fits batch done in batch_refused name r log events others batch refusal old new keeps done f.0 f.1 later runs
turn_refused name r log events others (Err spent) refusal old new keeps done fits later (same, is) = at_once name r log events others (KeySpent spent) refusal old new keeps same (let e : refusal ≡ Prevented (KeySpent spent) = cc in e) done

pub turns_refused : (name : List ℕ) (r : Recorder) (turns : List (List Event)) → Later name r turns
unfolding turns_plan Runs followed_by
turns_refused name r [] log refusal old new keeps fits (same, is) = absurd cc
turns_refused name r (events ∷ others) log refusal old new keeps fits (inl (same, is)) = absurd cc
turns_refused name r (events ∷ others) log refusal old new keeps fits (inr runs) = turn_refused name r log events others (turn r log.entries events) refusal old new keeps refl fits (turns_refused name r others) runs
