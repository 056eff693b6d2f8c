use Rattle.std.proofs.Common.{◌∙◌, ◌&&◌, not, sym, None, Some, refl, arith}
use Rattle.nr_spec_steps.specs.Steps.{is_due, waits}
use Rattle.nr_discipline.specs.Views.{numbers_of}
use Rattle.nr_recorder.proofs.heads.add_waiting.Goals as goal
use Rattle.nr_recorder.proofs.heads.add_waiting.Goals.{then-is_waiting+in_ok-push, else-is_waiting}
use Rattle.nr_recorder.proofs.Passing.{all_passed, fails, none_passes, passes}
use Rattle.nr_recorder.proofs.Waiting.{above_waits, force_is, none_waits}

pub returns-in_default : goal.returns-in_default
returns-in_default c = λ t kept.
    none_passes (λ n. waits t n && not (is_due t c.args.now n)) c.args.heads.now.items c.args.heads.now.items
    (λ m. none_waits t c.args.now m (force_is t c.args.counts.now c.in_force.result None kept c.in_force.ensures c.in_default.is)) refl

pub loop-n-preserved : goal.loop-n-preserved
loop-n-preserved c = λ t kept.
    elim c.if-is_waiting.branch [
      | then-is_waiting+in_ok-push w ↦
          let more = passes (λ n. waits t n && not (is_due t c.args.now n)) c.args.heads.now.items c.loop-n.heads.items w.push.new.self.items c.loop-n.n (c.loop-n.invariant t kept)
          (sym (c.is_waiting.ensures t kept c.in-Some.ensures) ∙ w.if-is_waiting.true) w.in_ok-push.ensures.items in
          (λ i. (w.heads-is i).items) ∙ more
      | else-is_waiting w ↦
          let same = fails (λ n. waits t n && not (is_due t c.args.now n)) c.args.heads.now.items c.loop-n.heads.items c.loop-n.n (c.loop-n.invariant t kept)
          (sym (c.is_waiting.ensures t kept c.in-Some.ensures) ∙ w.if-is_waiting.false) in
          (λ i. (w.heads-is i).items) ∙ same
    ]

pub returns : goal.returns
returns c = λ t kept.
    all_passed (λ n. waits t n && not (is_due t c.args.now n)) c.args.heads.now.items c.loop-n.heads.items c.loop-n.n (omega arith)
    (λ m le lt. above_waits t c.args.now m (numbers_of c.in-Some.force) (force_is t c.args.counts.now c.in_force.result (Some c.in-Some.force) kept c.in_force.ensures c.in-Some.is)
    (c.declared-n-end.ensures.most m (omega arith) lt)) (c.loop-n.invariant t kept)
