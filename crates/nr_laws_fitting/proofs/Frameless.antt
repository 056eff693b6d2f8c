-- What a recorder appends to which no frames come.
use Rattle.std.proofs.Common.{◌≡◌, ℕ, ◌^◌, ◌<◌, List, [], ◌∷◌, ◌++◌, Some, Ok, subst, sym, arith}
use Rattle.std.specs.List.{AllByRecursion}
use Rattle.nr_spec_log.specs.Answer.{IsEntry, last_time}
use Rattle.nr_spec_log.specs.Chain.{LogEntry}
use Rattle.nr_spec_entry.specs.Contents.{Content, Recv, Send, State}
use Rattle.nr_spec_steps.specs.Events.{Begin, Close, Event, FrameCame, Heard, Said, StateChanged, time_of}
use Rattle.nr_spec_steps.specs.Steps.{Recorder, commits_to, core_step, entry_for, heads_for, is_idle, is_in_force, known, moment, spoken, told}
use Rattle.nr_spec_steps.specs.Telling.{IsOwn, IsRoomy}
use Rattle.nr_spec_steps.specs.Turns.{turn}
use Rattle.nr_laws_accuracy.proofs.Done.{no_turn, step_is, turn_is}
use Rattle.nr_laws_accuracy.proofs.Entries.{IsSized, all_join, appended_by, begun_by, commits_fit, entries_by, last_fits, sealed_fit, time_fits, told_fit}
use Rattle.nr_laws_accuracy.proofs.Times.{known_last, time_join, turn_ordered}
use Rattle.nr_laws_recording.specs.FirstTurns.{TurnsFit}
use Rattle.nr_laws_fitting.specs.Frames.{IsFrameless}

told_sized : (r : Recorder) (log : List LogEntry) (event : Event) (c : Content) → IsOwn r.own → IsFrameless r → IsRoomy event → told r log event ≡ Some c → IsSized c
told_sized r log (Begin time) c own none roomy e = begun_by (is_in_force r.own (known log).in_force) r.own c own e
told_sized r log (Heard time n as4 raw) c own none roomy e = let same : Recv n as4 raw ≡ c = cc in subst IsSized same roomy.1
told_sized r log (Said time n as4 raw) c own none roomy e = let same : Send n as4 raw ≡ c = cc in subst IsSized same roomy.1
told_sized r log (StateChanged time n old new) c own none roomy e = let same : State n old new ≡ c = cc in subst IsSized same tt
told_sized r log (FrameCame bytes) c own none roomy e = let no = none log bytes in absurd cc
told_sized r log (Close time) c own none roomy e = absurd cc

spoken_fit : (r : Recorder) (log : List LogEntry) (event : Event) → IsOwn r.own → IsFrameless r → IsRoomy event → last_time 0 log < 2 ^ 64 → AllByRecursion IsEntry (spoken r log event)
unfolding spoken
spoken_fit r log event own none roomy last =
    let now = moment log (time_of event) in
    let ns = heads_for (known log) now event in
    let lt : now < 2 ^ 64 = omega (arith, known_last log, last, time_fits event roomy) in
    all_join (commits_to now (known log).commits ns) _ (commits_fit now (known log).commits ns lt)
    (all_join (entry_for now (told r log event)) _ (told_fit now (told r log event) lt (λ c e. told_sized r log event c own none roomy e)) (sealed_fit _ now _ event lt))

step_fit : (r : Recorder) (log : List LogEntry) (event : Event) (batch : List LogEntry) → IsOwn r.own → IsFrameless r → IsRoomy event → last_time 0 log < 2 ^ 64 → core_step r log event ≡ Ok batch → AllByRecursion IsEntry batch
step_fit r log event batch own none roomy last e =
    subst (AllByRecursion IsEntry) (step_is r log event batch e).are (appended_by (is_idle event (told r log event)) (spoken r log event) (spoken_fit r log event own none roomy last))

turn_fit : (r : Recorder) (events : List Event) (log batch : List LogEntry) → IsOwn r.own → IsFrameless r → AllByRecursion IsRoomy events → last_time 0 log < 2 ^ 64 → turn r log events ≡ Ok batch → AllByRecursion IsEntry batch
turn_fit r [] log batch own none roomy last e = subst (AllByRecursion IsEntry) (no_turn r log batch e) tt
turn_fit r (event ∷ events) log batch own none roomy last e =
    let t = turn_is r log event events batch e in
    let first = step_fit r log event t.first own none roomy.0 last t.step in
    let next : last_time 0 (log ++ t.first) < 2 ^ 64 = subst (λ (k : ℕ). k < 2 ^ 64) (sym (time_join 0 log t.first)) (last_fits t.first (last_time 0 log) last first) in
    let others = turn_fit r events (log ++ t.first) t.others own none roomy.1 next t.turn_on in
    subst (AllByRecursion IsEntry) t.are (all_join t.first t.others first others)

pub frameless_fit : (r : Recorder) (log : List LogEntry) (turns : List (List Event)) → IsOwn r.own → IsFrameless r → last_time 0 log < 2 ^ 64 → AllByRecursion (λ events. AllByRecursion IsRoomy events) turns → TurnsFit r log turns
frameless_fit r log [] own none last roomy = tt
frameless_fit r log (events ∷ others) own none last roomy = λ batch done.
    let fit = turn_fit r events log batch own none roomy.0 last done in
    let next : last_time 0 (log ++ batch) < 2 ^ 64 = subst (λ (k : ℕ). k < 2 ^ 64) (sym (time_join 0 log batch)) (last_fits batch (last_time 0 log) last fit) in
    (entries_by (last_time 0 log) batch (turn_ordered r events log batch done) fit, frameless_fit r (log ++ batch) others own none next roomy.1)
