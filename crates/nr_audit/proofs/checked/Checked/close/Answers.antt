use Rattle.nr_evidence.specs.Views.{period_of}
use Rattle.nr_runs.specs.Views.{runs_in}
use Rattle.nr_judging.specs.Views.{files_in}
use Rattle.nr_laws_promises.proofs.Exactly.{broken_is}
use Rattle.nr_audit.proofs.checked.Checked.close.Goals as goal

pub returns-in_err-broken-clause-counted : goal.returns-in_err-broken-clause-counted
returns-in_err-broken-clause-counted g c = λ files base first before all back follows few. c.close.ensures.counted base all back follows.judged before few

pub returns-clause-counted : goal.returns-clause-counted
returns-clause-counted g c = λ files base first before all back follows few. c.close.ensures.counted base all back follows.judged before few

pub returns-clause-broken : goal.returns-clause-broken
returns-clause-broken g c = λ files base first all back follows.
    broken_is (files_in c.args.promises.now) (g.J.Judge.truth c.args.judge.now) base (period_of c.args.period.now) all (runs_in c.in_ok-broken.broken.items)
    (c.in_ok-broken.ensures.broken base all back follows.judged)
