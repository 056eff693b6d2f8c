-- Logs after the turns of a recording.
use Rattle.std.proofs.Common.{◌≡◌, ◌⊎◌, inl, inr, ℕ, ◌^◌, ◌<◌, ◌≤◌, Bool, true, false, ◌||◌, List, [], ◌∷◌, ◌++◌, length, take, Some, Result, Ok, Err, refl, sym, ap, subst, ◌∙◌, append_assoc, append-nil, arith}
use Rattle.std.specs.Prelude.{IsTrue}
use Rattle.std.specs.List.{AllByRecursion}
use Rattle.std.proofs.lemmas.List.{length-append}
use Rattle.nr_spec_log.specs.Chain.{LogEntry}
use Rattle.nr_spec_plans.specs.Disk.{Contents, bytes_of}
use Rattle.nr_spec_steps.specs.Events.{Event}
use Rattle.nr_spec_steps.specs.Steps.{Recorder, Spent, is_in_force, known}
use Rattle.nr_spec_steps.specs.Turns.{log_after, turn, with_turn}
use Rattle.nr_spec_steps.specs.Telling.{IsReady, IsRecorder, MayAllCome, MayAllTurn, starts}
use Rattle.nr_spec_commands.specs.Words.{RecordRequest}
use Rattle.nr_laws_accuracy.specs.Allowed.{IsAllowed}
use Rattle.nr_laws_accuracy.specs.Times.{AreOrdered}
use Rattle.nr_laws_accuracy.proofs.Allowed.{allowed_sound}
use Rattle.nr_laws_accuracy.proofs.Done.{no_turn, turn_is}
use Rattle.nr_laws_accuracy.proofs.Step.{step_accurate}
use Rattle.nr_laws_accuracy.proofs.Tallying.{Sound, bytes_same}
use Rattle.nr_laws_accuracy.proofs.Times.{ordered_join, turn_ordered}
use Rattle.nr_laws_accuracy.proofs.Turns.{leaves_differ, ready_may, turn_allowed}
use Rattle.nr_laws_recording.specs.FirstTurns.{AreDone}
use Rattle.nr_laws_record.specs.Recorded.{IsPrepared, Prepared, log_before, recorder_in, turns_in}
use Rattle.nr_laws_fitting.specs.Files.{HoldBytes}
use Rattle.nr_laws_fitting.proofs.Recorders.{made_recorder}
use Rattle.nr_laws_right_logs.specs.Right.{IsRightLog}
use Rattle.nr_laws_right_logs.proofs.Named.{IsPiece, Starts, recording_pieces, recording_starts}

-- ---- the own promise is in force behind a turn

abbrev InForce : Recorder → List LogEntry → Type 0
InForce r log = (known log).in_force ≡ Some r.own

force_on : (r : Recorder) (events : List Event) (log batch : List LogEntry) → IsRecorder r → Sound r.own (known log) → InForce r log → MayAllCome r log events → turn r log events ≡ Ok batch → InForce r (log ++ batch)
force_on r [] log batch is sound force may e =
    subst (λ (b : List LogEntry). InForce r (log ++ b)) (no_turn r log batch e) (subst (InForce r) (sym (append-nil log)) force)
force_on r (event ∷ events) log batch is sound force may e =
    let t = turn_is r log event events batch e in
    let d = step_accurate r log event t.first is sound may.0 t.step in
    let rest = force_on r events (log ++ t.first) t.others is d.accurate.went.sound d.force (may.1 t.first t.step) t.turn_on in
    subst (InForce r) (append_assoc log t.first t.others ∙ ap (λ (b : List LogEntry). log ++ b) t.are) rest

turn_force : (r : Recorder) (events : List Event) (log batch : List LogEntry) → IsRecorder r → Sound r.own (known log) → 1 ≤ length events → MayAllCome r log events → turn r log events ≡ Ok batch → InForce r (log ++ batch)
turn_force r [] log batch is sound some may e = absurd (omega (arith, some))
turn_force r (event ∷ events) log batch is sound some may e =
    let t = turn_is r log event events batch e in
    let d = step_accurate r log event t.first is sound may.0 t.step in
    let rest = force_on r events (log ++ t.first) t.others is d.accurate.went.sound d.force (may.1 t.first t.step) t.turn_on in
    subst (InForce r) (append_assoc log t.first t.others ∙ ap (λ (b : List LogEntry). log ++ b) t.are) rest

-- ---- turns that are done may come

with_grows : (log : List LogEntry) (done : Result (List LogEntry) Spent) → length log ≤ length (with_turn log done)
with_grows log (Ok batch) = omega (arith, length-append log batch)
with_grows log (Err spent) = omega arith

grows : (r : Recorder) (turns : List (List Event)) (log : List LogEntry) → length log ≤ length (log_after r log turns)
unfolding log_after
grows r [] log = omega arith
grows r (events ∷ others) log = omega (arith, with_grows log (turn r log events), grows r others (with_turn log (turn r log events)))

or_left : (a b : Bool) → a ≡ true → IsTrue (a || b)
or_left true b e = refl
or_left false b e = absurd cc

or_right : (a b : Bool) → b ≡ true → IsTrue (a || b)
or_right true b e = refl
or_right false b e = e

begun_by : (r : Recorder) (log : List LogEntry) (events : List Event) → (starts events ≡ true) ⊎ InForce r log → IsTrue (starts events || is_in_force r.own (known log).in_force)
begun_by r log events (inl is) = or_left (starts events) (is_in_force r.own (known log).in_force) is
begun_by r log events (inr force) = or_right (starts events) (is_in_force r.own (known log).in_force) (ap (λ f. is_in_force r.own f) force ∙ bytes_same r.own.digest)

may_turns : (r : Recorder) (turns : List (List Event)) (log : List LogEntry) → IsRecorder r → IsAllowed r.own log → Starts turns ⊎ InForce r log → AllByRecursion (IsPiece r.own) turns → AreDone r log turns → length (log_after r log turns) < 2 ^ 60
    → MayAllTurn r log turns
unfolding log_after
may_turns r [] log is allowed begun pieces done room = tt
may_turns r (events ∷ others) log is allowed begun pieces done room =
    let batch = done.0 in
    let after : with_turn log (turn r log events) ≡ log ++ batch = ap (with_turn log) done.1 in
    let later : length (log_after r (log ++ batch) others) < 2 ^ 60 = subst (λ (l : List LogEntry). length (log_after r l others) < 2 ^ 60) after room in
    let ready : IsReady r log events = record {
      begun = begun_by r log events begun;
      named = pieces.0.named;
      room = omega (arith, length-append log batch, grows r others (log ++ batch), later, pieces.0.few);
    } in
    let may = ready_may r log events is allowed ready in
    let next = turn_allowed r events log batch is allowed may done.1 in
    let force = turn_force r events log batch is (allowed_sound r.own log allowed) pieces.0.some may done.1 in
    (may, subst (λ (l : List LogEntry). MayAllTurn r l others) (sym after) (may_turns r others (log ++ batch) is next (inr force) pieces.1 done.2 later))

-- ---- and keep a log right

allowed_by : (r : Recorder) (log : List LogEntry) (events : List Event) (done : Result (List LogEntry) Spent) → turn r log events ≡ done → IsRecorder r → IsAllowed r.own log → MayAllCome r log events → IsAllowed r.own (with_turn log done)
allowed_by r log events (Ok batch) e is allowed may = turn_allowed r events log batch is allowed may e
allowed_by r log events (Err spent) e is allowed may = allowed

turns_allowed : (r : Recorder) (turns : List (List Event)) (log : List LogEntry) → IsRecorder r → IsAllowed r.own log → MayAllTurn r log turns → IsAllowed r.own (log_after r log turns)
unfolding log_after
turns_allowed r [] log is allowed may = allowed
turns_allowed r (first ∷ others) log is allowed may = turns_allowed r others (with_turn log (turn r log first)) is (allowed_by r log first (turn r log first) refl is allowed may.0) may.1

ordered_by : (r : Recorder) (log : List LogEntry) (events : List Event) (done : Result (List LogEntry) Spent) → turn r log events ≡ done → AreOrdered 0 log → AreOrdered 0 (with_turn log done)
ordered_by r log events (Ok batch) e h = ordered_join 0 log batch h (turn_ordered r events log batch e)
ordered_by r log events (Err spent) e h = h

turns_ordered : (r : Recorder) (turns : List (List Event)) (log : List LogEntry) → AreOrdered 0 log → AreOrdered 0 (log_after r log turns)
unfolding log_after
turns_ordered r [] log h = h
turns_ordered r (first ∷ others) log h = turns_ordered r others (with_turn log (turn r log first)) (ordered_by r log first (turn r log first) refl h)

turns_right : (r : Recorder) (turns : List (List Event)) (log : List LogEntry) → IsRecorder r → IsRightLog r.own log → MayAllTurn r log turns → IsRightLog r.own (log_after r log turns)
turns_right r turns log is right may =
    let allowed = turns_allowed r turns log is right.allowed may in
    record { allowed = allowed; ordered = turns_ordered r turns log right.ordered; different = leaves_differ r.own (log_after r log turns) allowed }

-- ---- a recording

recorder_is : (held : Contents) (q : RecordRequest) (p : Prepared) → IsPrepared held q p → IsRecorder (recorder_in p)
recorder_is held q p is = made_recorder (bytes_of (held q.promise)) (bytes_of (held q.key)) p.promise p.key is.promise is.key

pub recording_may : (held : Contents) (q : RecordRequest) (p : Prepared) (count : ℕ) → IsPrepared held q p → HoldBytes held q → IsAllowed (recorder_in p).own (log_before p).entries
    → AreDone (recorder_in p) (log_before p).entries (take count (turns_in q p)) → length (log_after (recorder_in p) (log_before p).entries (take count (turns_in q p))) < 2 ^ 60
    → MayAllTurn (recorder_in p) (log_before p).entries (take count (turns_in q p))
recording_may held q p count is bytes allowed done room =
    may_turns (recorder_in p) (take count (turns_in q p)) (log_before p).entries (recorder_is held q p is) allowed (inl (recording_starts p.promise p.files q.until count))
    (recording_pieces held q.files p.promise p.files q.until count bytes.files is.files) done room

pub recording_right : (held : Contents) (q : RecordRequest) (p : Prepared) (count : ℕ) → IsPrepared held q p → HoldBytes held q → IsRightLog (recorder_in p).own (log_before p).entries
    → AreDone (recorder_in p) (log_before p).entries (take count (turns_in q p)) → length (log_after (recorder_in p) (log_before p).entries (take count (turns_in q p))) < 2 ^ 60
    → IsRightLog (recorder_in p).own (log_after (recorder_in p) (log_before p).entries (take count (turns_in q p)))
recording_right held q p count is bytes right done room =
    turns_right (recorder_in p) (take count (turns_in q p)) (log_before p).entries (recorder_is held q p is) right (recording_may held q p count is bytes right.allowed done room)
