-- Where an audit stops.
use Rattle.std.proofs.Common.{◌≡◌, ℕ, List, Result, Ok, Err, inr}
use Rattle.nr_spec_plans.specs.Disk.{Disk}
use Rattle.nr_spec_plans.specs.Plans.{Done, Halt, Plan, Room, Runs, want}
use Rattle.nr_spec_plans.proofs.PlanLemmas.{at_done, known, ran, stopped, wanted}
use Rattle.nr_spec_log.specs.Authenticator.{Authenticator, auths_of}
use Rattle.nr_spec_log.specs.Answer.{AnswerFile}
use Rattle.nr_spec_outcome.specs.Report.{Report}
use Rattle.nr_spec_slices.specs.Reading.{slice_of}
use Rattle.nr_spec_texts.specs.Promises.{PromiseFile}
use Rattle.nr_spec_commands.specs.Words.{AuditRequest}
use Rattle.nr_spec_program.specs.Command.{AnswerInput, AuthsInput, Ending, Refusal, audit_plan, evidence_of_report, evidence_plan, judged, load, promise_plan, well_formed}

in_room : {E A : Type 0} (p : Plan E A) (old : Disk) (value : A) → p ≡ Done value → Runs (Room p) old old (Ok value)
unfolding Runs
in_room p old value is = inr (at_done p old value is)

-- at the authenticators' file
pub stops_at_auths : (q : AuditRequest) (promise : PromiseFile) (bytes : List ℕ) (answer : AnswerFile) (first second third last : Disk) (halt : Halt Refusal)
    → Runs (promise_plan q.promise) first second (Ok promise) → Runs (load AnswerInput q.answer) second third (Ok bytes) → well_formed AnswerInput (slice_of bytes) ≡ Done answer
    → Runs (load AuthsInput q.auths) third last (Err halt) → Runs (audit_plan q) first last (Err halt)
unfolding audit_plan
stops_at_auths q promise bytes answer first second third last halt promises loads is stops =
    ran (promise_plan q.promise) _ first second last promise (Err halt) promises
    (ran (load AnswerInput q.answer) _ second third last bytes (Err halt) loads
    (ran (Room (well_formed AnswerInput (slice_of bytes))) _ third third last answer (Err halt) (in_room (well_formed AnswerInput (slice_of bytes)) third answer is)
    (stopped (load AuthsInput q.auths) _ third last halt stops)))

-- while the evidence is saved
pub stops_saving : (q : AuditRequest) (promise : PromiseFile) (bytes : List ℕ) (answer : AnswerFile) (auths_bytes : List ℕ) (auths : List Authenticator) (report : Report) (first second third fourth last : Disk) (halt : Halt Refusal)
    → Runs (promise_plan q.promise) first second (Ok promise) → Runs (load AnswerInput q.answer) second third (Ok bytes) → well_formed AnswerInput (slice_of bytes) ≡ Done answer
    → Runs (load AuthsInput q.auths) third fourth (Ok auths_bytes) → well_formed AuthsInput (auths_of auths_bytes) ≡ Done auths → judged q.root promise answer q.period auths ≡ Done report
    → Runs (evidence_plan q.evidence (evidence_of_report bytes promise q.period report)) fourth last (Err halt) → Runs (audit_plan q) first last (Err halt)
unfolding audit_plan
stops_saving q promise bytes answer auths_bytes auths report first second third fourth last halt promises loads is reads heads reports stops =
    ran (promise_plan q.promise) _ first second last promise (Err halt) promises
    (ran (load AnswerInput q.answer) _ second third last bytes (Err halt) loads
    (ran (Room (well_formed AnswerInput (slice_of bytes))) _ third third last answer (Err halt) (in_room (well_formed AnswerInput (slice_of bytes)) third answer is)
    (ran (load AuthsInput q.auths) _ third fourth last auths_bytes (Err halt) reads
    (known (well_formed AuthsInput (auths_of auths_bytes)) _ fourth last auths (Err halt) heads
    (ran (Room (judged q.root promise answer q.period auths)) _ fourth fourth last report (Err halt) (in_room (judged q.root promise answer q.period auths) fourth report reports)
    (wanted _ fourth last (Err halt)
    (stopped (evidence_plan q.evidence (evidence_of_report bytes promise q.period report)) _ fourth last halt stops)))))))
