-- Times never run back.
use Rattle.std.proofs.Common.{◌≡◌, ℕ, ◌+◌, ◌≤◌, Bool, true, false, cond, List, [], ◌∷◌, ◌++◌, Option, Some, None, Result, Ok, Err, refl, subst, ◌∙◌, arith}
use Rattle.std.specs.Option.{unwrap_or}
use Rattle.std.specs.List.{AllByRecursion}
use Rattle.nr_spec_log.specs.Chain.{LogEntry}
use Rattle.nr_spec_log.specs.Answer.{last_time}
use Rattle.nr_spec_entry.specs.Contents.{Content}
use Rattle.nr_spec_routes.specs.LookBack.{last_of, later_or}
use Rattle.nr_spec_counts.specs.Tallies.{tally_after}
use Rattle.nr_spec_steps.specs.Events.{Begin, Close, Event, FrameCame, Heard, Said, StateChanged, time_of}
use Rattle.nr_spec_steps.specs.Steps.{commits_to, core_step, entry_for, heads_for, is_idle, known, moment, Recorder, sealed, Spent, spoken, told}
use Rattle.nr_spec_steps.specs.Turns.{log_after, turn, with_turn}
use Rattle.nr_laws_accuracy.specs.Times.{AreOrdered}
use Rattle.nr_laws_accuracy.proofs.Done.{no_turn, step_is, turn_is}

later_time : (x : Option ℕ) (t b : ℕ) → unwrap_or (later_or x (Some t)) b ≡ unwrap_or x t
later_time (Some s) t b = refl
later_time None t b = refl

last_is : (es : List LogEntry) (b : ℕ) → unwrap_or (last_of (λ (e : LogEntry). Some e.time) es) b ≡ last_time b es
last_is [] b = refl
last_is (e ∷ es) b = later_time (last_of (λ (x : LogEntry). Some x.time) es) e.time b ∙ last_is es e.time

pub known_last : (log : List LogEntry) → (known log).last ≡ last_time 0 log
unfolding tally_after
known_last log = last_is log 0

-- ---- entries of one time

abbrev AllAt : ℕ → List LogEntry → Type 0
AllAt now es = AllByRecursion (λ e. e.time ≡ now) es

at_join : (now : ℕ) (xs ys : List LogEntry) → AllAt now xs → AllAt now ys → AllAt now (xs ++ ys)
at_join now [] ys a b = b
at_join now (x ∷ xs) ys a b = (a.0, at_join now xs ys a.1 b)

commits_at : (now leaf : ℕ) (ns : List ℕ) → AllAt now (commits_to now leaf ns)
commits_at now leaf [] = tt
commits_at now leaf (n ∷ ns) = (refl, commits_at now (leaf + 1) ns)

told_at : (now : ℕ) (o : Option Content) → AllAt now (entry_for now o)
told_at now None = tt
told_at now (Some c) = (refl, tt)

sealed_at : (log : List LogEntry) (now leaf : ℕ) (event : Event) → AllAt now (sealed log now leaf event)
sealed_at log now leaf (Begin time) = tt
sealed_at log now leaf (Heard time n as4 raw) = tt
sealed_at log now leaf (Said time n as4 raw) = tt
sealed_at log now leaf (StateChanged time n old new) = tt
sealed_at log now leaf (FrameCame bytes) = tt
sealed_at log now leaf (Close time) = (refl, (refl, tt))

spoken_at : (r : Recorder) (log : List LogEntry) (event : Event) → AllAt (moment log (time_of event)) (spoken r log event)
unfolding spoken
spoken_at r log event =
    let now = moment log (time_of event) in
    let ns = heads_for (known log) now event in
    at_join now _ _ (commits_at now (known log).commits ns) (at_join now _ _ (told_at now (told r log event)) (sealed_at _ now _ event))

ordered_at : (now last : ℕ) (es : List LogEntry) → last ≤ now → AllAt now es → AreOrdered last es
ordered_at now last [] le all = tt
ordered_at now last (e ∷ es) le all = (omega (arith, all.0), ordered_at now e.time es (omega (arith, all.0)) all.1)

pub ordered_join : (last : ℕ) (xs ys : List LogEntry) → AreOrdered last xs → AreOrdered (last_time last xs) ys → AreOrdered last (xs ++ ys)
ordered_join last [] ys a b = b
ordered_join last (x ∷ xs) ys a b = (a.0, ordered_join x.time xs ys a.1 b)

pub time_join : (last : ℕ) (xs ys : List LogEntry) → last_time last (xs ++ ys) ≡ last_time (last_time last xs) ys
time_join last [] ys = refl
time_join last (x ∷ xs) ys = time_join x.time xs ys

appended_by : (b : Bool) (r : Recorder) (log : List LogEntry) (event : Event) → AreOrdered (last_time 0 log) (cond b [] (spoken r log event))
appended_by true r log event = tt
appended_by false r log event = ordered_at (moment log (time_of event)) (last_time 0 log) (spoken r log event) (omega (arith, known_last log)) (spoken_at r log event)

step_ordered : (r : Recorder) (log : List LogEntry) (event : Event) (batch : List LogEntry) → core_step r log event ≡ Ok batch → AreOrdered (last_time 0 log) batch
step_ordered r log event batch e = subst (AreOrdered (last_time 0 log)) (step_is r log event batch e).are (appended_by (is_idle event (told r log event)) r log event)

pub turn_ordered : (r : Recorder) (events : List Event) (log batch : List LogEntry) → turn r log events ≡ Ok batch → AreOrdered (last_time 0 log) batch
turn_ordered r [] log batch e = subst (AreOrdered (last_time 0 log)) (no_turn r log batch e) tt
turn_ordered r (event ∷ events) log batch e =
    let t = turn_is r log event events batch e in
    let later = subst (λ (k : ℕ). AreOrdered k t.others) (time_join 0 log t.first) (turn_ordered r events (log ++ t.first) t.others t.turn_on) in
    subst (AreOrdered (last_time 0 log)) t.are (ordered_join (last_time 0 log) t.first t.others (step_ordered r log event t.first t.step) later)

turned_by : (r : Recorder) (log : List LogEntry) (events : List Event) (done : Result (List LogEntry) Spent) → turn r log events ≡ done → AreOrdered 0 log → AreOrdered 0 (with_turn log done)
turned_by r log events (Ok batch) e h = ordered_join 0 log batch h (turn_ordered r events log batch e)
turned_by r log events (Err spent) e h = h

turns_ordered : (r : Recorder) (turns : List (List Event)) (log : List LogEntry) → AreOrdered 0 log → AreOrdered 0 (log_after r log turns)
unfolding log_after
turns_ordered r [] log h = h
turns_ordered r (first ∷ others) log h = turns_ordered r others (with_turn log (turn r log first)) (turned_by r log first (turn r log first) refl h)

pub law_ordered : (r : Recorder) (turns : List (List Event)) → AreOrdered 0 (log_after r [] turns)
law_ordered r turns = turns_ordered r turns [] tt
