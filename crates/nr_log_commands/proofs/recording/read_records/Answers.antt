use Rattle.std.proofs.lemmas.Result.{err_from_is_err_and}
use Rattle.nr_log_commands.proofs.FilePlans.{leads_end, leads_err, leads_ok}
use Rattle.nr_log_commands.proofs.recording.read_records.Goals as goal

pub returns-in_err-recording-clause-does : goal.returns-in_err-recording-clause-does
returns-in_err-recording-clause-does g c =
    let p = err_from_is_err_and c.from_residual.result c.from_residual.ensures.1 in
    rw (p.1, p.2) (leads_err c.args.recording c.loop-i.recording c.args.names.now c.loop-i.i _ _ _ _ _ c.requires c.loop-i-test.true c.loop-i.invariant c.in_err-recording.ensures.does)

pub loop-i-preserved : goal.loop-i-preserved
loop-i-preserved g c = leads_ok c.args.recording c.loop-i.recording c.in_ok-recording.recording c.args.names.now c.loop-i.i _ _ _ _ c.loop-i-test.true c.loop-i.invariant c.in_ok-recording.ensures.does c.in_ok-recording.ensures.same

pub returns-clause-does : goal.returns-clause-does
returns-clause-does g c = leads_end c.args.recording c.loop-i.recording c.args.names.now c.loop-i.i _ _ c.requires c.loop-i-test.false c.loop-i.invariant
