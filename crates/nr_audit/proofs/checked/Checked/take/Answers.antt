use Rattle.std.specs.Prelude.{map}
use Rattle.nr_spec_counts.specs.Tallies.{tally_after}
use Rattle.nr_chain.specs.Views.{entry_of}
use Rattle.nr_discipline.specs.Views.{numbers_of}
use Rattle.nr_evidence.specs.Views.{period_of}
use Rattle.nr_judging.specs.Views.{files_in}
use Rattle.nr_audit.specs.Views.{wrong_of}
use Rattle.nr_audit.proofs.Rooms.{one_told_more}
use Rattle.nr_audit.proofs.checked.Checked.take.Goals as goal

pub returns-in_err-judging-clause-counted : goal.returns-in_err-judging-clause-counted
returns-in_err-judging-clause-counted g c = λ base opening first past back follows. c.take.ensures.counted base opening past back follows.judged

pub returns-in_err-add-clause-counted : goal.returns-in_err-add-clause-counted
returns-in_err-add-clause-counted g c = λ base opening first past back follows. c.take.ensures.counted base opening past back follows.judged

pub returns-clause-counted : goal.returns-clause-counted
returns-clause-counted g c = λ base opening first past back follows. c.take.ensures.counted base opening past back follows.judged

pub returns-clause-follows : goal.returns-clause-follows
returns-clause-follows g c = λ base opening first past number back follows. record {
  judged = c.in_ok-judging.ensures.follows base opening past back follows.judged;
  kept = c.step.ensures base.tally past follows.kept;
  wrong = one_told_more (map numbers_of c.args.files.now) base (period_of c.args.period.now) first past (entry_of c.args.entry.now) c.state.result.now c.args.seq
      c.cause_within-cause.result (map wrong_of c.args.self.wrong.items) (map wrong_of c.add.new.wrong.items)
      number (c.state.ensures (files_in c.args.promises.now) (g.J.Judge.truth c.args.judge.now) (period_of c.args.period.now) base opening past follows.judged)
      (c.cause_within-cause.ensures (tally_after base.tally past) follows.kept) c.in_ok-add.ensures follows.wrong;
}
