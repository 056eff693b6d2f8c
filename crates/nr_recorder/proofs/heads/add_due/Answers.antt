use Rattle.std.proofs.Common.{◌∙◌, sym, None, Some, refl, arith}
use Rattle.nr_spec_steps.specs.Steps.{is_due}
use Rattle.nr_discipline.specs.Views.{numbers_of}
use Rattle.nr_recorder.proofs.heads.add_due.Goals as goal
use Rattle.nr_recorder.proofs.heads.add_due.Goals.{then-is_due+in_ok-push, else-is_due}
use Rattle.nr_recorder.proofs.Passing.{all_passed, fails, none_passes, passes}
use Rattle.nr_recorder.proofs.Waiting.{above_due, force_is, none_due}

pub returns-in_default : goal.returns-in_default
returns-in_default c = λ t kept.
    none_passes (is_due t c.args.now) c.args.heads.now.items c.args.heads.now.items
    (λ m. none_due t c.args.now m (force_is t c.args.counts.now c.in_force.result None kept c.in_force.ensures c.in_default.is)) refl

pub loop-n-preserved : goal.loop-n-preserved
loop-n-preserved c = λ t kept.
    elim c.if-is_due.branch [
      | then-is_due+in_ok-push w ↦
          let more = passes (is_due t c.args.now) c.args.heads.now.items c.loop-n.heads.items w.push.new.self.items c.loop-n.n (c.loop-n.invariant t kept)
          (sym (c.is_due.ensures t kept c.in-Some.ensures) ∙ w.if-is_due.true) w.in_ok-push.ensures.items in
          (λ i. (w.heads-is i).items) ∙ more
      | else-is_due w ↦
          let same = fails (is_due t c.args.now) c.args.heads.now.items c.loop-n.heads.items c.loop-n.n (c.loop-n.invariant t kept)
          (sym (c.is_due.ensures t kept c.in-Some.ensures) ∙ w.if-is_due.false) in
          (λ i. (w.heads-is i).items) ∙ same
    ]

pub returns : goal.returns
returns c = λ t kept.
    all_passed (is_due t c.args.now) c.args.heads.now.items c.loop-n.heads.items c.loop-n.n (omega arith)
    (λ m le lt. above_due t c.args.now m (numbers_of c.in-Some.force) (force_is t c.args.counts.now c.in_force.result (Some c.in-Some.force) kept c.in_force.ensures c.in-Some.is)
    (c.declared-n-end.ensures.most m (omega arith) lt)) (c.loop-n.invariant t kept)
