use Rattle.std.proofs.Common.{◌≡◌, subst}
use Rattle.std.proofs.lemmas.Result.{err_from_is_err_and}
use Rattle.nr_spec_plans.specs.Plans.{Done}
use Rattle.nr_spec_log.specs.Authenticator.{auths_of}
use Rattle.nr_spec_slices.specs.Reading.{slice_of}
use Rattle.nr_spec_program.specs.Command.{AnswerInput, AuthsInput, well_formed}
use Rattle.nr_requests.specs.Views.{audit_request_of}
use Rattle.nr_command_parts.proofs.PlanSteps.{load_within}
use Rattle.nr_command_parts.specs.Views.{promise_file_of}
use Rattle.nr_audit.specs.Views.{report_of}
use Rattle.nr_commands.proofs.AuditStops.{stops_at_auths, stops_saving}
use Rattle.nr_commands.proofs.audit.audit.Goals as goal

pub save_report-requires : goal.save_report-requires
save_report-requires g c = rw c.deref-3.ensures.value (load_within AnswerInput _ _ _ _ c.in_ok-answer_bytes.ensures)

pub returns-in_err-auths_bytes : goal.returns-in_err-auths_bytes
returns-in_err-auths_bytes g c =
    let p = err_from_is_err_and c.from_residual-in_err-auths_bytes.result c.from_residual-in_err-auths_bytes.ensures.1 in
    rw (p.1, p.2)
    (stops_at_auths (audit_request_of c.args.request.now) (promise_file_of c.in_ok-promise.promise) c.in_ok-answer_bytes.answer_bytes.items c.in_ok-slice.slice.answer _ _ _ _ _
    c.in_ok-promise.ensures c.in_ok-answer_bytes.ensures
    (subst (λ b. well_formed AnswerInput (slice_of b) ≡ Done c.in_ok-slice.slice.answer) c.deref.ensures.value c.in_ok-slice.ensures.value)
    c.in_err-auths_bytes.ensures)

pub returns-in_err-save_report : goal.returns-in_err-save_report
returns-in_err-save_report g c =
    let p = err_from_is_err_and c.from_residual-in_err-save_report.result c.from_residual-in_err-save_report.ensures.1 in
    rw (p.1, p.2)
    (stops_saving (audit_request_of c.args.request.now) (promise_file_of c.in_ok-promise.promise) c.in_ok-answer_bytes.answer_bytes.items c.in_ok-slice.slice.answer c.in_ok-auths_bytes.auths_bytes.items c.in_ok-auths.auths
    (report_of c.in_ok-auths.auths c.in_ok-report.report) _ _ _ _ _ _
    c.in_ok-promise.ensures c.in_ok-answer_bytes.ensures
    (subst (λ b. well_formed AnswerInput (slice_of b) ≡ Done c.in_ok-slice.slice.answer) c.deref.ensures.value c.in_ok-slice.ensures.value)
    c.in_ok-auths_bytes.ensures
    (subst (λ b. well_formed AuthsInput (auths_of b) ≡ Done c.in_ok-auths.auths) c.deref-2.ensures.value c.in_ok-auths.ensures)
    c.in_ok-report.ensures
    (rw (← c.deref-3.ensures.value) c.in_err-save_report.ensures))
