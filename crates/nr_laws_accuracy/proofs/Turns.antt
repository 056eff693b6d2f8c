-- Turns.
use Rattle.std.proofs.Common.{◌≡◌, ℕ, ◌+◌, ◌*◌, ◌^◌, ◌<◌, ◌≤◌, Bool, true, false, ◌||◌, eqb, List, [], ◌∷◌, ◌++◌, length, Some, Result, Ok, Err, refl, sym, ap, subst, ◌∙◌, append_assoc, append-nil, arith}
use Rattle.std.specs.List.{AllByRecursion, IsDistinct, range_with_len}
use Rattle.nr_spec_log.specs.Chain.{LogEntry}
use Rattle.nr_spec_counts.specs.Tallies.{Numbers, tally_after}
use Rattle.nr_spec_steps.specs.Events.{Event}
use Rattle.nr_spec_steps.specs.Steps.{is_in_force, known, Recorder, Spent}
use Rattle.nr_spec_steps.specs.Turns.{log_after, turn, with_turn}
use Rattle.nr_spec_steps.specs.Telling.{IsNamed, IsReady, IsRecorder, MayAllCome, MayAllTurn, MayCome, starts}
use Rattle.nr_laws_accuracy.specs.Allowed.{IsAllowed, leaves_of}
use Rattle.nr_laws_accuracy.proofs.Done.{no_turn, turn_is}
use Rattle.nr_laws_accuracy.proofs.Tallying.{Sound, bytes_same}
use Rattle.std.specs.Prelude.{IsTrue}
use Rattle.nr_laws_accuracy.proofs.Walk.{joined, nothing, right_join}
use Rattle.nr_laws_accuracy.proofs.Step.{Accurate, step_accurate}
use Rattle.std.proofs.lemmas.List.{length-append}
use Rattle.nr_laws_accuracy.proofs.Short.{step_short}
use Rattle.nr_laws_accuracy.proofs.Allowed.{allowed_sound, allowed_leaves, counting_differs, counting_below}

nothing_done : (r : Recorder) (log : List LogEntry) → Sound r.own (known log) → Accurate r log []
nothing_done r log sound = record {
  went = nothing r.own log sound;
  leaves = λ le. subst (λ (l : List LogEntry). (known l).commits ≤ r.leaves) (sym (append-nil log)) le;
}

one_more : (r : Recorder) (log first others : List LogEntry) → Accurate r log first → Accurate r (log ++ first) others → Accurate r log (first ++ others)
one_more r log first others a b = record {
  went = joined r.own log first others a.went b.went;
  leaves = λ le. subst (λ (l : List LogEntry). (known l).commits ≤ r.leaves) (append_assoc log first others) (b.leaves (a.leaves le));
}

pub turn_accurate : (r : Recorder) (events : List Event) (log batch : List LogEntry) → IsRecorder r → Sound r.own (known log) → MayAllCome r log events → turn r log events ≡ Ok batch → Accurate r log batch
turn_accurate r [] log batch is sound may e = subst (Accurate r log) (no_turn r log batch e) (nothing_done r log sound)
turn_accurate r (event ∷ events) log batch is sound may e =
    let t = turn_is r log event events batch e in
    let first = (step_accurate r log event t.first is sound may.0 t.step).accurate in
    let others = turn_accurate r events (log ++ t.first) t.others is first.went.sound (may.1 t.first t.step) t.turn_on in
    subst (Accurate r log) t.are (one_more r log t.first t.others first others)

-- what every log of a recorder has
pub record Holds (r : Recorder) (log : List LogEntry) : Type 0 where
  pub allowed : IsAllowed r.own log
  pub leaves : (known log).commits ≤ r.leaves

-- a turn on any log of which no entry is wrong leaves no wrong entry
pub turn_allowed : (r : Recorder) (events : List Event) (log batch : List LogEntry) → IsRecorder r → IsAllowed r.own log → MayAllCome r log events → turn r log events ≡ Ok batch → IsAllowed r.own (log ++ batch)
turn_allowed r events log batch is allowed may e =
    let a = turn_accurate r events log batch is (allowed_sound r.own log allowed) may e in
    right_join r.own log [] batch allowed a.went.right

pub turn_leaves : (r : Recorder) (events : List Event) (log batch : List LogEntry) → IsRecorder r → IsAllowed r.own log → (known log).commits ≤ r.leaves → MayAllCome r log events → turn r log events ≡ Ok batch → (known (log ++ batch)).commits ≤ r.leaves
turn_leaves r events log batch is allowed le may e = (turn_accurate r events log batch is (allowed_sound r.own log allowed) may e).leaves le

turned_by : (r : Recorder) (log : List LogEntry) (events : List Event) (done : Result (List LogEntry) Spent) → turn r log events ≡ done → IsRecorder r → Holds r log → MayAllCome r log events → Holds r (with_turn log done)
turned_by r log events (Ok batch) e is h may = record { allowed = turn_allowed r events log batch is h.allowed may e; leaves = turn_leaves r events log batch is h.allowed h.leaves may e }
turned_by r log events (Err spent) e is h may = h

pub turns_hold : (r : Recorder) (turns : List (List Event)) (log : List LogEntry) → IsRecorder r → Holds r log → MayAllTurn r log turns → Holds r (log_after r log turns)
unfolding log_after
turns_hold r [] log is h may = h
turns_hold r (first ∷ others) log is h may =
    turns_hold r others (with_turn log (turn r log first)) is (turned_by r log first (turn r log first) refl is h may.0) may.1

none_yet : (known []).commits ≡ 0
unfolding tally_after
none_yet = refl

pub empty_holds : (r : Recorder) → Holds r []
empty_holds r = record { allowed = tt; leaves = omega (arith, none_yet) }

-- the leaves of a log without a wrong entry are 0, 1 and so on
pub leaves_count : (own : Numbers) (log : List LogEntry) → IsAllowed own log → leaves_of log ≡ range_with_len 0 (known log).commits
leaves_count own log right =
    let o = allowed_leaves own log right in
    let count : o.count ≡ (known log).commits = omega (arith, o.ends, none_yet) in
    o.are ∙ ap (λ (k : ℕ). range_with_len k o.count) none_yet ∙ ap (λ (k : ℕ). range_with_len 0 k) count

pub leaves_differ : (own : Numbers) (log : List LogEntry) → IsAllowed own log → IsDistinct eqb (leaves_of log)
leaves_differ own log right = subst (IsDistinct eqb) (sym (leaves_count own log right)) (counting_differs 0 (known log).commits)

pub leaves_fit : (r : Recorder) (log : List LogEntry) → Holds r log → AllByRecursion (λ leaf. leaf < r.leaves) (leaves_of log)
leaves_fit r log h = subst (AllByRecursion (λ (leaf : ℕ). leaf < r.leaves)) (sym (leaves_count r.own log h.allowed)) (counting_below r.leaves 0 (known log).commits (omega (arith, h.leaves)))

-- ---- the laws

pub law_allowed : (r : Recorder) (turns : List (List Event)) → IsRecorder r → MayAllTurn r [] turns → IsAllowed r.own (log_after r [] turns)
law_allowed r turns is may = (turns_hold r turns [] is (empty_holds r) may).allowed

pub law_different : (r : Recorder) (turns : List (List Event)) → IsRecorder r → MayAllTurn r [] turns → IsDistinct eqb (leaves_of (log_after r [] turns))
law_different r turns is may = leaves_differ r.own (log_after r [] turns) (law_allowed r turns is may)

pub law_within : (r : Recorder) (turns : List (List Event)) → IsRecorder r → MayAllTurn r [] turns → AllByRecursion (λ leaf. leaf < r.leaves) (leaves_of (log_after r [] turns))
law_within r turns is may = leaves_fit r (log_after r [] turns) (turns_hold r turns [] is (empty_holds r) may)

-- ---- what can be seen of a turn before it comes

or_true : (a b : Bool) → b ≡ true → IsTrue (a || b)
or_true true b e = refl
or_true false b e = e

in_force_still : (own : Numbers) (log : List LogEntry) → (known log).in_force ≡ Some own → is_in_force own (known log).in_force ≡ true
in_force_still own log e = ap (λ f. is_in_force own f) e ∙ bytes_same own.digest

begins_still : (own : Numbers) (log : List LogEntry) (events : List Event) → (known log).in_force ≡ Some own → IsTrue (starts events || is_in_force own (known log).in_force)
begins_still own log events e = or_true (starts events) (is_in_force own (known log).in_force) (in_force_still own log e)

ready_by : (r : Recorder) (events : List Event) (log : List LogEntry) → IsRecorder r → Sound r.own (known log) → IsTrue (starts events || is_in_force r.own (known log).in_force) → AllByRecursion (IsNamed r.own) events → length log + 1024 * length events < 2 ^ 61 → MayAllCome r log events
ready_by r [] log is sound begun named room = tt
ready_by r (event ∷ events) log is sound begun named room =
    let may : MayCome r log event = record { named = named.0; begun = begun; room = omega (arith, room) } in
    (may, λ batch e. let d = step_accurate r log event batch is sound may e in ready_by r events (log ++ batch) is d.accurate.went.sound (begins_still r.own (log ++ batch) events d.force) named.1 (omega (arith, room, step_short r log event batch e, length-append log batch)))

pub ready_may : (r : Recorder) (log : List LogEntry) (events : List Event) → IsRecorder r → IsAllowed r.own log → IsReady r log events → MayAllCome r log events
ready_may r log events is allowed ready = ready_by r events log is (allowed_sound r.own log allowed) ready.begun ready.named ready.room
