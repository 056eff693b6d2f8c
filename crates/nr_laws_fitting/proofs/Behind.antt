-- One turn behind another.
use Rattle.std.proofs.Common.{ℕ, ◌^◌, ◌<◌, List, [], ◌∷◌, ◌++◌, Result, subst, sym}
use Rattle.std.specs.List.{AllByRecursion}
use Rattle.nr_spec_log.specs.Answer.{AreEntriesFrom, last_time}
use Rattle.nr_spec_log.specs.Chain.{LogEntry}
use Rattle.nr_spec_steps.specs.Events.{Event}
use Rattle.nr_spec_steps.specs.Steps.{Recorder, Spent}
use Rattle.nr_spec_steps.specs.Telling.{IsRecorder, IsRoomy, MayAllTurn}
use Rattle.nr_spec_steps.specs.Turns.{with_turn}
use Rattle.nr_laws_accuracy.specs.Allowed.{IsAllowed}
use Rattle.nr_laws_accuracy.proofs.Entries.{batch_fits}
use Rattle.nr_laws_accuracy.proofs.Times.{time_join}
use Rattle.nr_laws_accuracy.proofs.Turns.{turn_allowed}
use Rattle.nr_laws_recording.specs.FirstTurns.{TurnsFit}

-- the last time has eight bytes
pub last_small : (last : ℕ) (es : List LogEntry) → last < 2 ^ 64 → AreEntriesFrom last es → last_time last es < 2 ^ 64
last_small last [] small fit = small
last_small last (e ∷ es) small fit = last_small e.time es fit.0.time fit.2

pub turns_fit : (r : Recorder) (log : List LogEntry) (turns : List (List Event)) → IsRecorder r → IsAllowed r.own log → last_time 0 log < 2 ^ 64 → MayAllTurn r log turns → AllByRecursion (λ events. AllByRecursion IsRoomy events) turns → TurnsFit r log turns
turns_fit r log [] recorder allowed small may roomy = tt
turns_fit r log (events ∷ others) recorder allowed small may roomy = λ batch done.
    let fits : AreEntriesFrom (last_time 0 log) batch = batch_fits r events log batch recorder allowed may.0 roomy.0 small done in
    let later : MayAllTurn r (log ++ batch) others = subst (λ (d : Result (List LogEntry) Spent). MayAllTurn r (with_turn log d) others) done may.1 in
    let last : last_time 0 (log ++ batch) < 2 ^ 64 = subst (λ (n : ℕ). n < 2 ^ 64) (sym (time_join 0 log batch)) (last_small (last_time 0 log) batch small fits) in
    (fits, turns_fit r (log ++ batch) others recorder (turn_allowed r events log batch recorder allowed may.0 done) last later roomy.1)
