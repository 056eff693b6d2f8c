use Rattle.std.proofs.Common.{ℕ, ◌+◌, ◌*◌, ◌<◌, ◌++◌, Bool, List, length, take, subst, arith}
use Rattle.nr_spec_runs.specs.Runs.{Observation}
use Rattle.nr_spec_promises.specs.Moments.{Mark}
use Rattle.nr_runs.specs.Views.{Saw}
use Rattle.nr_judging.specs.Asked.{Stage, asked_at, asked_in}
use Rattle.nr_judging.specs.Views.{mark_of}
use Rattle.nr_judging.proofs.Stages.{asked_more, asks_last, asks_times, some_times, told_more}
use Rattle.nr_judging.proofs.observe.observe_in.Goals as goal

pub loop-promise-preserved : goal.loop-promise-preserved
loop-promise-preserved g c =
    let i = c.loop-promise.promise-index in
    let ps = c.args.promises.now in
    let file = c.args.file in
    let truth = g.J.Judge.truth c.args.judge.now in
    let mark : Mark = mark_of c.args.mark.now in
    let p = c.promise-item.result in
    record {
      counted = asks_times c.args.mark.now.file file i (length c.args.prefixes.now) c.args.steps.now c.loop-promise.steps c.observe_at.new.steps c.loop-promise.invariant.counted c.observe_at.ensures.counted;
      number = omega (arith, c.loop-promise.invariant.number);
      told = λ (every : Bool) (seen : List Observation) h.
          let stage : Stage = record { mark = mark; prefixes = c.args.prefixes.now; every = every } in
          told_more (λ (l : List Observation). Saw c.observe_at.new.runs l) seen (asked_in truth stage file 0 (take i ps)) (asked_at truth mark file i p c.args.prefixes.now) (asked_in truth stage file 0 (take (i + 1) ps))
          (subst (λ (r : ℕ). Saw c.observe_at.new.runs (seen ++ asked_in truth stage file 0 (take i ps) ++ asked_at truth mark file r p c.args.prefixes.now)) c.loop-promise.invariant.number
          (c.in_ok-observe_at.ensures.told (seen ++ asked_in truth stage file 0 (take i ps)) (c.loop-promise.invariant.told every seen h)))
          (asked_more truth stage file ps i p c.loop-promise-test.true c.promise-item.is);
    }

pub returns-in_err-observe_at-clause-counted : goal.returns-in_err-observe_at-clause-counted
returns-in_err-observe_at-clause-counted g c =
    let i = c.loop-promise.promise-index in
    let n = length c.args.prefixes.now in
    let ruling = c.args.mark.now.file in
    let lt : i < length c.args.promises.now = c.loop-promise-test.true in
    asks_last ruling c.args.file ((i + 1) * n) (length c.args.promises.now * n) c.args.steps.now c.observe_at.new.steps
    (asks_times ruling c.args.file i n c.args.steps.now c.loop-promise.steps c.observe_at.new.steps c.loop-promise.invariant.counted c.observe_at.ensures.counted)
    (some_times (i + 1) (length c.args.promises.now) n (omega arith))
