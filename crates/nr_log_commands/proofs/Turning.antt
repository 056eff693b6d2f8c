-- Turns of a recording, one after another.
use Rattle.std.proofs.Common.{◌≡◌, ◌∙◌, ℕ, zero, suc, ◌+◌, ◌*◌, ◌<◌, ◌≤◌, Bool, true, false, List, [], ◌∷◌, ◌++◌, length, map, take, drop, Option, None, Some, Result, Ok, Err, ap, refl, sym, subst, inl, inr, ⊎_elim, append-nil, eqb-true, arith}
use Rattle.std.specs.Prelude.{◌==◌, option_map, slice_get}
use Rattle.std.specs.List.{AllByRecursion}
use Rattle.std.proofs.lemmas.Bool.{ltb-false}
use Rattle.std.proofs.lemmas.List.{append_assoc, drop_all, drop_at, length-append, length-drop, length-take, take_at}
use Rattle.std.proofs.lemmas.Option.{slice_get-map}
use Rattle.nr_spec_plans.specs.Disk.{Disk, Memory, Told, bytes_of}
use Rattle.nr_spec_plans.specs.Plans.{Done, Faulted, Halt, Plan, Refused, Room, Runs, followed_by, refusing}
use Rattle.nr_spec_plans.proofs.PlanLaws.{taken_apart}
use Rattle.nr_spec_plans.proofs.PlanLemmas.{ran, refused_as, stopped}
use Rattle.nr_spec_wire.specs.Reading.{◌>>=◌}
use Rattle.nr_spec_log.specs.Chain.{LogEntry}
use Rattle.nr_spec_log.specs.Answer.{AreEntriesFrom, last_time}
use Rattle.nr_spec_store.specs.LogFile.{LogFile, MayFollow, log_of, with_batch}
use Rattle.nr_spec_store.specs.StorePlans as store
use Rattle.nr_spec_store.specs.StorePlans.{append_plan}
use Rattle.nr_spec_store.specs.StoreCrashes.{Keeps}
use Rattle.nr_laws_crash.proofs.CrashLaws.{was_told}
use Rattle.nr_laws_store.proofs.GateLaws.{append_keeps, keeps_holds}
use Rattle.nr_laws_store.proofs.Loads.{read_as}
use Rattle.nr_laws_program.proofs.LogKinds.{append_log_each}
use Rattle.nr_laws_program.proofs.Phases.{SparesContents, spares_contents}
use Rattle.nr_store.specs.Views.{why_not_appended}
use Rattle.nr_store.specs.declared.fault.AppendError.{AppendError}
use Rattle.nr_spec_steps.specs.Events.{Event}
use Rattle.nr_spec_steps.specs.Steps.{Recorder, Spent, core_step}
use Rattle.nr_spec_steps.specs.Turns.{turn}
use Rattle.nr_laws_accuracy.proofs.Short.{step_short}
use Rattle.nr_spec_recording.specs.Events.{events_of, too_long, turn_size, turns_of}
use Rattle.nr_recording.proofs.Long.{each-drop, each-take, short-events}
use Rattle.nr_recording.proofs.Long as long
use Rattle.nr_recording.proofs.Turns.{turns-end, turns-more, turns-next}
use Rattle.nr_events.specs.declared.event.Event.{Event as declared}
use Rattle.nr_events.specs.Views.{event_of}
use Rattle.nr_spec_program.specs.Command.{KeySpent, Prevented, Refusal}
use Rattle.nr_spec_program.specs.Recording.{batch_plan, turned, turns_plan, unwritten_log}
use Rattle.nr_recorder.specs.Kept.{Kept, recorder_of, with_entries}
use Rattle.nr_recorder.specs.Stepping.{Steps}
use Rattle.nr_recorder.specs.declared.outcome.Refusal as recorder
use Rattle.nr_recorder.specs.declared.outcome.Refusal.TheVariants as recorded
use Rattle.nr_command_parts.specs.declared.refusal.Stop.{Stop}
use Rattle.nr_command_parts.specs.declared.refusal.Stop.TheVariants as stop
use Rattle.nr_command_parts.specs.Logs.{HasLog}
use Rattle.nr_command_parts.specs.Views.{refusal_of, unappended_of, why}
use Rattle.nr_command_parts.proofs.LogSteps.{other_name, unwritten_is}
use Rattle.nr_log_commands.specs.Turning.{Applies, IsShort, no_frames, turn_plan}

-- ---- events whose messages have room

short_all : (events : List Event) → AllByRecursion long.IsShort events → AllByRecursion IsShort events
short_all [] each = tt
short_all (e ∷ es) each = (ltb-false _ _ each.0, short_all es each.1)

-- without a message that is too long, each event of the recording has one that fits
pub short_events : (records : List Event) (until : Option ℕ) → too_long records ≡ None → AllByRecursion IsShort (events_of records until)
short_events records until none = short_all (events_of records until) (short-events records until none)

short_at : (events : List Event) (i : ℕ) (e : Event) → AllByRecursion IsShort events → slice_get events i ≡ Some e → IsShort e
short_at [] i e each is = absurd cc
short_at (x ∷ xs) zero e each is = let same : x ≡ e = cc in subst IsShort same each.0
short_at (x ∷ xs) (suc i) e each is = short_at xs i e each.1 is

pub event_at : (turn : List declared) (i : ℕ) (event : declared) → slice_get turn i ≡ Some event → slice_get (map event_of turn) i ≡ Some (event_of event)
event_at turn i event is = slice_get-map event_of turn i ∙ ap (λ (o : Option declared). option_map event_of o) is

pub short_event : (turn : List declared) (i : ℕ) (event : declared) → AllByRecursion IsShort (map event_of turn) → slice_get turn i ≡ Some event → IsShort (event_of event)
short_event turn i event each is = short_at (map event_of turn) i (event_of event) each (event_at turn i event is)

pub no_event : (turn : List declared) (i end : ℕ) → i < end → end ≡ length turn → slice_get turn i ≡ None → ⊥
no_event [] i end less size none = omega (arith, less, size)
no_event (x ∷ xs) zero end less size none = absurd cc
no_event (x ∷ xs) (suc i) end less size none = no_event xs i (length xs) (omega (arith, less, size)) refl none

-- ---- a turn, event by event

-- a batch before what others append
abbrev pub prepend : List LogEntry → Result (List LogEntry) Spent → Result (List LogEntry) Spent
prepend batch (Ok more) = Ok (batch ++ more)
prepend batch (Err spent) = Err spent

prepend_none : (x : Result (List LogEntry) Spent) → x ≡ prepend [] x
prepend_none (Ok more) = refl
prepend_none (Err spent) = refl

prepend_both : (a b : List LogEntry) (x : Result (List LogEntry) Spent) → prepend a (prepend b x) ≡ prepend (a ++ b) x
prepend_both a b (Ok more) = ap (λ (l : List LogEntry). Ok l) (sym (append_assoc a b more))
prepend_both a b (Err spent) = refl

others_ok : (step : List LogEntry) (x : Result (List LogEntry) Spent) → (x >>= λ others. Ok (step ++ others)) ≡ prepend step x
others_ok step (Ok more) = refl
others_ok step (Err spent) = refl

turn_ok : (r : Recorder) (log : List LogEntry) (event : Event) (events : List Event) (step : List LogEntry) → core_step r log event ≡ Ok step
    → turn r log (event ∷ events) ≡ prepend step (turn r (log ++ step) events)
unfolding turn
turn_ok r log event events step is = rw is (others_ok step (turn r (log ++ step) events))

turn_err : (r : Recorder) (log : List LogEntry) (event : Event) (events : List Event) (spent : Spent) → core_step r log event ≡ Err spent → turn r log (event ∷ events) ≡ Err spent
unfolding turn
turn_err r log event events spent is = rw is refl

drop_one : (events : List Event) (i : ℕ) (e : Event) → slice_get events i ≡ Some e → drop i events ≡ e ∷ drop (suc i) events
drop_one [] i e is = absurd cc
drop_one (x ∷ xs) zero e is = let same : x ≡ e = cc in ap (λ (y : Event). y ∷ xs) same
drop_one (x ∷ xs) (suc i) e is = drop_one xs i e is

-- The core after some first events, where what the others append leads to what all append.
pub record IsAfter (start now : Kept) (events : List Event) (count : ℕ) : Type 0 where
  pub batch : List LogEntry
  pub core : now ≡ with_entries start batch
  pub few : length batch ≤ 1024 * count
  pub leads : turn (recorder_of no_frames start) start.log events
      ≡ prepend batch (turn (recorder_of no_frames start) (start.log ++ batch) (drop count events))

pub after_none : (start : Kept) (events : List Event) → IsAfter start start events 0
after_none start events = record {
  batch = [];
  core = ap (λ (l : List LogEntry). record { own = start.own; peers = start.peers; key = start.key; log = l }) (sym (append-nil start.log));
  few = omega arith;
  leads = prepend_none (turn (recorder_of no_frames start) start.log events)
      ∙ ap (λ (l : List LogEntry). prepend [] (turn (recorder_of no_frames start) l events)) (sym (append-nil start.log));
}

-- an event for which the key has no leaf
pub spent_is : (core : Kept) (event : Event) (handed : Option Kept) (x : recorder.Refusal) (commits leaves : ℕ) → x ≡ recorded.KeySpent commits leaves → Steps no_frames core event (Err (handed, x))
    → core_step (recorder_of no_frames core) core.log event ≡ Err (record { commits = commits; leaves = leaves })
spent_is core event handed x commits leaves is steps = (subst (λ (y : recorder.Refusal). Steps no_frames core event (Err (handed, y))) is steps).0

-- the next event, which appends this
stepped : (start now : Kept) (events : List Event) (i : ℕ) (e : Event) (given : Result (List LogEntry) Spent) → (a : IsAfter start now events i) → core_step (recorder_of no_frames now) now.log e ≡ given
    → core_step (recorder_of no_frames start) (start.log ++ a.batch) e ≡ given
stepped start now events i e given a is = subst (λ (k : Kept). core_step (recorder_of no_frames k) k.log e ≡ given) a.core is

after_next : (start now after : Kept) (events : List Event) (i : ℕ) (e : Event) → IsAfter start now events i → slice_get events i ≡ Some e → Applies now (core_step (recorder_of no_frames now) now.log e) (Ok after)
    → IsAfter start after events (suc i)
after_next start now after events i e a got (step, is, longer) =
    let r = recorder_of no_frames start in
    let log = start.log ++ a.batch in
    let left = drop (suc i) events in
    let here = stepped start now events i e (Ok step) a is in
    let joined = append_assoc start.log a.batch step in
    let both = a.batch ++ step in
    record {
      batch = both;
      core = subst (λ (k : Kept). after ≡ with_entries k step) a.core longer ∙ ap (λ (l : List LogEntry). record { own = start.own; peers = start.peers; key = start.key; log = l }) joined;
      few = omega (arith, a.few, step_short r log e step here, length-append a.batch step);
      leads = a.leads ∙ ap (λ (l : List Event). prepend a.batch (turn r log l)) (drop_one events i e got)
          ∙ ap (prepend a.batch) (turn_ok r log e left step here) ∙ prepend_both a.batch step (turn r (log ++ step) left)
          ∙ ap (λ (l : List LogEntry). prepend both (turn r l left)) joined;
    }

pub after_more : (start now after : Kept) (events : List Event) (i : ℕ) (e : Event) → IsAfter start now events i → slice_get events i ≡ Some e → Applies now (core_step (recorder_of no_frames now) now.log e) (Ok after)
    → IsAfter start after events (i + 1)
after_more start now after events i e a got applies =
    let next : suc i ≡ i + 1 = omega arith in
    subst (λ (n : ℕ). IsAfter start after events n) next (after_next start now after events i e a got applies)

pub after_stop : (start now : Kept) (events : List Event) (i : ℕ) (e : Event) (s : Stop) → IsAfter start now events i → slice_get events i ≡ Some e → Applies now (core_step (recorder_of no_frames now) now.log e) (Err s)
    → Applies start (turn (recorder_of no_frames start) start.log events) (Err s)
after_stop start now events i e (stop.Refused x) a got (spent, is, said) =
    let r = recorder_of no_frames start in
    let log = start.log ++ a.batch in (
      spent,
      a.leads ∙ ap (λ (l : List Event). prepend a.batch (turn r log l)) (drop_one events i e got)
          ∙ ap (prepend a.batch) (turn_err r log e (drop (suc i) events) spent (stepped start now events i e (Err spent) a is)),
      said,
    )
after_stop start now events i e stop.ReadFault a got applies = absurd applies
after_stop start now events i e stop.WriteFault a got applies = absurd applies
after_stop start now events i e stop.Memory a got applies = tt

pub after_end : (start now : Kept) (events : List Event) (i : ℕ) → IsAfter start now events i → length events ≤ i → Applies start (turn (recorder_of no_frames start) start.log events) (Ok now)
unfolding turn
after_end start now events i a past =
    let r = recorder_of no_frames start in (
      a.batch,
      a.leads ∙ ap (λ (l : List Event). prepend a.batch (turn r (start.log ++ a.batch) l)) (drop_all i events past) ∙ ap (λ (l : List LogEntry). Ok l) (append-nil a.batch),
      a.core,
    )

-- ---- appending a batch

pub holds_file : (name : List ℕ) (log : LogFile) (d : Disk) (t : Told) → HasLog d name (Some log) → d.told ≡ Some t → log_of (bytes_of (t.holds name)) ≡ Ok (Some log)
holds_file name log d t has told =
    let k = keeps_holds d name log (has t told) in
    let now = k.told in
    let same : k.now ≡ t = cc in
    subst (λ (u : Told). log_of (bytes_of (u.holds name)) ≡ Ok (Some log)) same (read_as (bytes_of (k.now.holds name)) (Some log) k.loads)

append_told : (name : List ℕ) (log : LogFile) (es : List LogEntry) (old new : Disk) (result : Result LogFile (Halt store.Refusal)) (u : Told) → new.told ≡ Some u → Runs (append_plan name log es) old new result
    → (t : Told) × (old.told ≡ Some t)
append_told name log es old new result u told runs =
    was_told (λ t. t.holds (0 ∷ name)) old.told new.told u told
    (spares_contents (0 ∷ name) (append_plan name log es) old new result (append_log_each (SparesContents (0 ∷ name)) name log es (record { write = λ at bytes. other_name name; sync = tt })) runs)

pub append_has : (name : List ℕ) (log longer : LogFile) (es : List LogEntry) (old new : Disk) → HasLog old name (Some log) → MayFollow (last_time 0 log.entries) es → Runs (append_plan name log es) old new (Ok longer)
    → HasLog new name (Some longer)
append_has name log longer es old new has more runs = λ u told.
    let t = append_told name log es old new (Ok longer) u told runs in
    let k = append_keeps name log es longer old new (keeps_holds old name log (has t.0 t.1)) more runs in
    subst (Keeps new name) (sym k.0) k.1

-- the second of two plans
second : {E A B : Type 0} (p : Plan E A) (f : A → Plan E B) (old new : Disk) (value : B) → Runs (followed_by p f) old new (Ok value) → (mid : Disk) × (x : A) × Runs (f x) mid new (Ok value)
second p f old new value runs = ⊎_elim (λ w. (w.0, w.1, w.3)) (λ w. absurd (let h = w.2 in cc)) (taken_apart p f old new (Ok value) runs)

done_is : (E : Type 0) {A : Type 0} (value given : A) (old new : Disk) → Runs {E = E} (Done value) old new (Ok given) → given ≡ value
unfolding Runs
done_is E value given old new (same, is) = cc

append_gives : (name : List ℕ) (log longer : LogFile) (es : List LogEntry) (old new : Disk) → Runs (append_plan name log es) old new (Ok longer) → longer ≡ with_batch log es
unfolding append_plan
append_gives name log longer es old new runs =
    let a = second _ _ _ _ _ runs in
    let b = second _ _ _ _ _ a.2 in
    let c = second _ _ _ _ _ b.2 in
    let d = second _ _ _ _ _ c.2 in
    done_is _ (with_batch log es) longer d.0 new d.2

pub append_entries : (name : List ℕ) (log longer : LogFile) (es : List LogEntry) (old new : Disk) → Runs (append_plan name log es) old new (Ok longer) → longer.entries ≡ log.entries ++ es
unfolding with_batch
append_entries name log longer es old new runs = ap (λ (l : LogFile). l.entries) (append_gives name log longer es old new runs)

-- one entry or more
written : (name : List ℕ) (log : LogFile) (es : List LogEntry) (old new : Disk) (result : Result LogFile (Halt Refusal)) → 1 ≤ length es → Runs (refusing unwritten_log (append_plan name log es)) old new result
    → Runs (batch_plan name log es) old new result
unfolding batch_plan
written name log [] old new result some runs = absurd (omega (arith, some))
written name log (e ∷ es) old new result some runs = runs

pub batch_none : (name : List ℕ) (log : LogFile) (es : List LogEntry) (old : Disk) → es ≡ [] → Runs (Room (batch_plan name log es)) old old (Ok log)
unfolding batch_plan Runs
batch_none name log es old none = inr (rw none (refl, refl))

pub batch_unfound : (name : List ℕ) (log : LogFile) (es : List LogEntry) (old : Disk) → Runs (Room (batch_plan name log es)) old old (Err (Faulted Memory))
unfolding Runs
batch_unfound name log es old = inl (refl, refl)

pub batch_ok : (name : List ℕ) (log longer : LogFile) (es left : List LogEntry) (old new : Disk) → es ≡ left → 1 ≤ length es → Runs (append_plan name log es) old new (Ok longer)
    → Runs (Room (batch_plan name log left)) old new (Ok longer)
unfolding Runs
batch_ok name log longer es left old new is some runs =
    inr (subst (λ (l : List LogEntry). Runs (batch_plan name log l) old new (Ok longer)) is
    (written name log es old new (Ok longer) some (refused_as unwritten_log (append_plan name log es) old new (Ok longer) runs)))

pub batch_err : (name : List ℕ) (log : LogFile) (es left : List LogEntry) (old new : Disk) (e : AppendError) (s : Stop) → es ≡ left → 1 ≤ length es → s ≡ unappended_of e
    → Runs (append_plan name log es) old new (Err (why_not_appended e)) → Runs (Room (batch_plan name log left)) old new (Err (why s))
unfolding Runs
batch_err name log es left old new e s is some says runs =
    inr (subst (λ (l : List LogEntry). Runs (batch_plan name log l) old new (Err (why s))) is
    (written name log es old new (Err (why s)) some (subst (Runs (refusing unwritten_log (append_plan name log es)) old new) (unwritten_is e ∙ ap (λ (s : Stop). Err (why s)) (sym says))
    (refused_as unwritten_log (append_plan name log es) old new (Err (why_not_appended e)) runs))))

pub none_left : (b : Bool) (n : ℕ) → b ≡ (n == 0) → b ≡ true → n ≡ 0
none_left b n is done = eqb-true n 0 (sym is ∙ done)

pub some_left : (b : Bool) (n : ℕ) → b ≡ (n == 0) → b ≡ false → 1 ≤ n
some_left b zero is more = absurd cc
some_left b (suc n) is more = omega arith

pub no_entries : (es left : List LogEntry) → es ≡ left → length es ≡ 0 → left ≡ []
no_entries [] left is none = sym is
no_entries (e ∷ es) left is none = absurd (omega (arith, none))

-- the entries behind so many first ones
pub behind : (before n : ℕ) (log es : List LogEntry) → es ≡ drop n log → n ≡ before → es ≡ drop before log
behind before n log es is same = is ∙ ap (λ (m : ℕ). drop m log) same

pub follows : (before n : ℕ) (log entries es : List LogEntry) → n ≡ before → take before log ≡ entries → AreEntriesFrom (last_time 0 (take n log)) es → 1 ≤ length es → MayFollow (last_time 0 entries) es
follows before n log entries es same front fit some = record {
  fit = subst (λ (l : List LogEntry). AreEntriesFrom (last_time 0 l) es) (ap (λ (m : ℕ). take m log) same ∙ front) fit;
  some = some;
}

pub whole : (before : ℕ) (log entries es longer : List LogEntry) → longer ≡ entries ++ es → take before log ≡ entries → es ≡ drop before log → longer ≡ log
whole before log entries es longer is front rest =
    is ∙ ap (λ (l : List LogEntry). l ++ es) (sym front) ∙ ap (λ (l : List LogEntry). take before log ++ l) rest ∙ take_drop before log
  where
    take_drop : (n : ℕ) (l : List LogEntry) → take n l ++ drop n l ≡ l
    take_drop zero l = refl
    take_drop (suc n) [] = refl
    take_drop (suc n) (e ∷ es) = ap (λ (t : List LogEntry). e ∷ t) (take_drop n es)

-- ---- one turn

pub turn_front : (core after : Kept) (log : LogFile) (events : List Event) (before : ℕ) → core.log ≡ log.entries → before ≡ length core.log → Applies core (turn (recorder_of no_frames core) core.log events) (Ok after)
    → take before after.log ≡ log.entries
turn_front core after log events before same size (batch, is, longer) =
    ap (λ (k : Kept). take before k.log) longer ∙ take_at core.log batch before (sym size) ∙ same

pub turn_same : (core after : Kept) (appended : Result (List LogEntry) Spent) → Applies core appended (Ok after) → recorder_of no_frames after ≡ recorder_of no_frames core
turn_same core after appended (batch, is, longer) = ap (recorder_of no_frames) longer

pub turn_ran : (name : List ℕ) (core after : Kept) (given log : LogFile) (events : List Event) (before : ℕ) (old new : Disk) (result : Result LogFile (Halt Refusal)) → given ≡ log → core.log ≡ log.entries → before ≡ length core.log
    → Applies core (turn (recorder_of no_frames core) core.log events) (Ok after) → Runs (Room (batch_plan name given (drop before after.log))) old new result
    → Runs (turn_plan name (recorder_of no_frames core) log events) old new result
unfolding turn_plan followed_by
turn_ran name core after given log events before old new result is_log same size (batch, is, longer) runs =
    let r = recorder_of no_frames core in
    let here : turn r log.entries events ≡ Ok batch = subst (λ (l : List LogEntry). turn r l events ≡ Ok batch) same is in
    let dropped : drop before after.log ≡ batch = ap (λ (k : Kept). drop before k.log) longer ∙ drop_at core.log batch before (sym size) in
    subst (λ (t : Result (List LogEntry) Spent). Runs (Room (followed_by (turned t) (λ b. batch_plan name log b))) old new result) (sym here)
    (subst (λ (b : List LogEntry). Runs (Room (batch_plan name log b)) old new result) dropped
    (subst (λ (l : LogFile). Runs (Room (batch_plan name l (drop before after.log))) old new result) is_log runs))

pub turn_stops : (name : List ℕ) (core : Kept) (log : LogFile) (events : List Event) (old : Disk) (s : Stop) → core.log ≡ log.entries → Applies core (turn (recorder_of no_frames core) core.log events) (Err s)
    → Runs (turn_plan name (recorder_of no_frames core) log events) old old (Err (why s))
unfolding turn_plan followed_by Runs
turn_stops name core log events old (stop.Refused x) same (spent, is, said) =
    let r = recorder_of no_frames core in
    let here : turn r log.entries events ≡ Err spent = subst (λ (l : List LogEntry). turn r l events ≡ Err spent) same is in
    inr (subst (λ (t : Result (List LogEntry) Spent). Runs (followed_by (turned t) (λ b. batch_plan name log b)) old old (Err (Refused (refusal_of x)))) (sym here) (refl, ap (λ (f : Refusal). Err (Refused f)) said))
turn_stops name core log events old stop.ReadFault same applies = absurd applies
turn_stops name core log events old stop.WriteFault same applies = absurd applies
turn_stops name core log events old stop.Memory same applies = inl (refl, refl)

-- ---- one turn after another

turned_on : (name : List ℕ) (r : Recorder) (log longer : LogFile) (others : List (List Event)) (t : Result (List LogEntry) Spent) (old mid new : Disk) (result : Result LogFile (Halt Refusal))
    → Runs (followed_by (turned t) (λ b. batch_plan name log b)) old mid (Ok longer) → Runs (turns_plan name r longer others) mid new result
    → Runs (followed_by (turned t) (λ b. followed_by (batch_plan name log b) (λ l. turns_plan name r l others))) old new result
unfolding followed_by Runs
turned_on name r log longer others (Ok batch) old mid new result runs rest = ran (batch_plan name log batch) (λ l. turns_plan name r l others) old mid new longer result runs rest
turned_on name r log longer others (Err spent) old mid new result (same, is) rest = absurd cc

turned_stops : (name : List ℕ) (r : Recorder) (log : LogFile) (others : List (List Event)) (t : Result (List LogEntry) Spent) (old new : Disk) (halt : Halt Refusal)
    → Runs (followed_by (turned t) (λ b. batch_plan name log b)) old new (Err halt)
    → Runs (followed_by (turned t) (λ b. followed_by (batch_plan name log b) (λ l. turns_plan name r l others))) old new (Err halt)
unfolding followed_by Runs
turned_stops name r log others (Ok batch) old new halt runs = stopped (batch_plan name log batch) (λ l. turns_plan name r l others) old new halt runs
turned_stops name r log others (Err spent) old new halt (same, is) = (same, ap (λ (h : Halt Refusal). Err h) (let e : halt ≡ Refused (Prevented (KeySpent spent)) = cc in e))

turns_on : (name : List ℕ) (r : Recorder) (log longer : LogFile) (events : List Event) (others : List (List Event)) (old mid new : Disk) (result : Result LogFile (Halt Refusal))
    → Runs (turn_plan name r log events) old mid (Ok longer) → Runs (turns_plan name r longer others) mid new result → Runs (turns_plan name r log (events ∷ others)) old new result
unfolding turn_plan turns_plan followed_by Runs
turns_on name r log longer events others old mid new result (inl (same, is)) rest = absurd cc
turns_on name r log longer events others old mid new result (inr runs) rest = inr (turned_on name r log longer others (turn r log.entries events) old mid new result runs rest)

turns_stop : (name : List ℕ) (r : Recorder) (log : LogFile) (events : List Event) (others : List (List Event)) (old new : Disk) (halt : Halt Refusal)
    → Runs (turn_plan name r log events) old new (Err halt) → Runs (turns_plan name r log (events ∷ others)) old new (Err halt)
unfolding turn_plan turns_plan followed_by Runs
turns_stop name r log events others old new halt (inl (same, is)) = inl (same, ap (λ (h : Halt Refusal). Err h) (let e : halt ≡ Faulted Memory = cc in e))
turns_stop name r log events others old new halt (inr runs) = inr (turned_stops name r log others (turn r log.entries events) old new halt runs)

turns_unfound : (name : List ℕ) (r : Recorder) (log : LogFile) (events : List Event) (others : List (List Event)) (old : Disk) → Runs (turns_plan name r log (events ∷ others)) old old (Err (Faulted Memory))
unfolding turns_plan followed_by Runs
turns_unfound name r log events others old = inl (refl, refl)

-- What is left of the events leads to the end of all of them.
pub record Leads (name : List ℕ) (r : Recorder) (start now : Disk) (log longer : LogFile) (all left : List Event) : Type 0 where
  pub to : (new : Disk) (result : Result LogFile (Halt Refusal)) → Runs (turns_plan name r longer (turns_of left)) now new result
      → Runs (turns_plan name r log (turns_of all)) start new result

pub leads_none : (name : List ℕ) (r : Recorder) (start : Disk) (log : LogFile) (all : List Event) → Leads name r start start log log all all
leads_none name r start log all = record { to = λ new result runs. runs }

-- a turn that was taken of what is left
turns_left : (name : List ℕ) (r : Recorder) (log : LogFile) (turn left others : List Event) (old new : Disk) (result : Result LogFile (Halt Refusal)) → turn ≡ take turn_size left → others ≡ drop turn_size left → 1 ≤ length turn
    → Runs (turns_plan name r log (turn ∷ turns_of others)) old new result → Runs (turns_plan name r log (turns_of left)) old new result
turns_left name r log turn left others old new result first rest some runs =
    subst (λ (ts : List (List Event)). Runs (turns_plan name r log ts) old new result) (sym (turns-next turn others left first rest (λ none. omega (arith, some, ap length none)))) runs

pub leads_on : (name : List ℕ) (r : Recorder) (start now mid : Disk) (log longer longest : LogFile) (all left turn others : List Event) → turn ≡ take turn_size left → others ≡ drop turn_size left → 1 ≤ length turn
    → Leads name r start now log longer all left → Runs (turn_plan name r longer turn) now mid (Ok longest) → Leads name r start mid log longest all others
leads_on name r start now mid log longer longest all left turn others first rest some leads runs = record {
  to = λ new result more. leads.to new result (turns_left name r longer turn left others now new result first rest some (turns_on name r longer longest turn (turns_of others) now mid new result runs more));
}

pub leads_stop : (name : List ℕ) (r : Recorder) (start now new : Disk) (log longer : LogFile) (all left turn others : List Event) (halt : Halt Refusal) → turn ≡ take turn_size left → others ≡ drop turn_size left → 1 ≤ length turn
    → Leads name r start now log longer all left → Runs (turn_plan name r longer turn) now new (Err halt) → Runs (turns_plan name r log (turns_of all)) start new (Err halt)
leads_stop name r start now new log longer all left turn others halt first rest some leads runs =
    leads.to new (Err halt) (turns_left name r longer turn left others now new (Err halt) first rest some (turns_stop name r longer turn (turns_of others) now new halt runs))

pub leads_unfound : (name : List ℕ) (r : Recorder) (start now : Disk) (log longer : LogFile) (all left : List Event) → 0 < length left → Leads name r start now log longer all left
    → Runs (turns_plan name r log (turns_of all)) start now (Err (Faulted Memory))
leads_unfound name r start now log longer all [] some leads = absurd (omega (arith, some))
leads_unfound name r start now log longer all (e ∷ es) some leads =
    leads.to now (Err (Faulted Memory)) (subst (λ (ts : List (List Event)). Runs (turns_plan name r longer ts) now now (Err (Faulted Memory))) (sym (turns-more e es))
    (turns_unfound name r longer (take turn_size (e ∷ es)) (turns_of (drop turn_size (e ∷ es))) now))

pub leads_end : (name : List ℕ) (r : Recorder) (start now : Disk) (log longer : LogFile) (all left turn : List Event) → turn ≡ take turn_size left → turn ≡ [] → Leads name r start now log longer all left
    → Runs (turns_plan name r log (turns_of all)) start now (Ok longer)
unfolding turns_plan Runs
leads_end name r start now log longer all left turn first none leads =
    leads.to now (Ok longer) (subst (λ (ts : List (List Event)). Runs (turns_plan name r longer ts) now now (Ok longer)) (sym (turns-end turn left first none)) (refl, refl))

-- A log that has the turns up to here, with the core after them, and the events that are left.
pub record HasTurns (name : List ℕ) (r : Recorder) (start now : Disk) (log longer : LogFile) (core : Kept) (all left : List Event) : Type 0 where
  pub leads : Leads name r start now log longer all left
  pub same : core.log ≡ longer.entries
  pub recorder : recorder_of no_frames core ≡ r
  pub holds : HasLog now name (Some longer)
  pub short : AllByRecursion IsShort left

pub turn_few : (turn left : List Event) → turn ≡ take turn_size left → length turn ≤ 1024
turn_few turn left first = omega (arith, ap length first, length-take turn_size left)

pub turn_short : (turn left : List Event) → turn ≡ take turn_size left → AllByRecursion IsShort left → AllByRecursion IsShort turn
turn_short turn left first short = subst (λ (l : List Event). AllByRecursion IsShort l) (sym first) (each-take IsShort turn_size left short)

pub fewer_left : (turn left others : List Event) → turn ≡ take turn_size left → others ≡ drop turn_size left → 1 ≤ length turn → length others < length left
fewer_left turn [] others first rest some = absurd (omega (arith, some, ap length first))
fewer_left turn (e ∷ es) others first rest some = omega (arith, ap length rest, length-drop turn_size (e ∷ es))

pub none_turned : (turn : List Event) → length turn ≡ 0 → turn ≡ []
none_turned [] none = refl
none_turned (e ∷ es) none = absurd (omega (arith, none))

-- by the core that the turn is applied to
by_core : (name : List ℕ) (r : Recorder) (core : Kept) (longer : LogFile) (turn : List Event) (now new : Disk) (result : Result LogFile (Halt Refusal)) → recorder_of no_frames core ≡ r
    → Runs (turn_plan name (recorder_of no_frames core) longer turn) now new result → Runs (turn_plan name r longer turn) now new result
by_core name r core longer turn now new result same runs = subst (λ (s : Recorder). Runs (turn_plan name s longer turn) now new result) same runs

pub has_more : (name : List ℕ) (r : Recorder) (start now mid : Disk) (log longer longest : LogFile) (core after : Kept) (all left turn others : List Event) → turn ≡ take turn_size left → others ≡ drop turn_size left → 1 ≤ length turn
    → HasTurns name r start now log longer core all left → Runs (turn_plan name (recorder_of no_frames core) longer turn) now mid (Ok longest) → after.log ≡ longest.entries → recorder_of no_frames after ≡ recorder_of no_frames core
    → HasLog mid name (Some longest) → HasTurns name r start mid log longest after all others
has_more name r start now mid log longer longest core after all left turn others first rest some has runs same recorder holds = record {
  leads = leads_on name r start now mid log longer longest all left turn others first rest some has.leads (by_core name r core longer turn now mid (Ok longest) has.recorder runs);
  same = same;
  recorder = recorder ∙ has.recorder;
  holds = holds;
  short = subst (λ (l : List Event). AllByRecursion IsShort l) (sym rest) (each-drop IsShort turn_size left has.short);
}

pub has_stopped : (name : List ℕ) (r : Recorder) (start now new : Disk) (log longer : LogFile) (core : Kept) (all left turn others : List Event) (halt : Halt Refusal) → turn ≡ take turn_size left → others ≡ drop turn_size left → 1 ≤ length turn
    → HasTurns name r start now log longer core all left → Runs (turn_plan name (recorder_of no_frames core) longer turn) now new (Err halt) → Runs (turns_plan name r log (turns_of all)) start new (Err halt)
has_stopped name r start now new log longer core all left turn others halt first rest some has runs =
    leads_stop name r start now new log longer all left turn others halt first rest some has.leads (by_core name r core longer turn now new (Err halt) has.recorder runs)
