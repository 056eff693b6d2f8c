use Rattle.std.proofs.Common.{◌≡◌, ℕ, ◌+◌, ◌*◌, ◌≤◌, ◌++◌, true, List, length, take, subst, ap, sym, ◌∙◌, arith}
use Rattle.nr_spec_runs.specs.Runs.{Observation}
use Rattle.nr_spec_promises.specs.Counted.{most_promises}
use Rattle.nr_runs.specs.Views.{Saw}
use Rattle.nr_judging.specs.Asked.{Stage, asked_from, asked_of, asks, times_asked}
use Rattle.nr_judging.specs.Views.{file_of, files_in, mark_of}
use Rattle.nr_judging.proofs.Stages.{asked_file_more, few_there, file_there, files_more, files_taken, told_more}
use Rattle.nr_judging.proofs.Count.{fewer_times, times_one_more}
use Rattle.nr_judging.proofs.observe.observe_all.Goals as goal

sums : (s0 s1 s2 a b t : ℕ) → s1 ≤ s0 + a → s2 ≤ s1 + b → t ≡ a + b → s2 ≤ s0 + t
sums s0 s1 s2 a b t h k e = omega (arith, h, k, e)

within : (s0 s t m : ℕ) → s ≤ s0 + t → t ≤ m → s ≤ s0 + m
within s0 s t m h k = omega (arith, h, k)

pub loop-file-preserved : goal.loop-file-preserved
loop-file-preserved g c =
    let i = c.loop-file.file-index in
    let fs = c.args.files.now in
    let n = length c.args.prefixes.now in
    let ruling = c.args.mark.now.file in
    let truth = g.J.Judge.truth c.args.judge.now in
    let stage : Stage = record { mark = mark_of c.args.mark.now; prefixes = c.args.prefixes.now; every = c.args.every } in
    let f = c.file-item.result in
    let more : times_asked ruling n 0 (files_in (take (i + 1) fs)) ≡ times_asked ruling n 0 (files_in (take i fs)) + asks ruling i (length f.promises.now * n) =
    ap (times_asked ruling n 0) (files_more fs i f c.loop-file-test.true c.file-item.is) ∙ times_one_more ruling n (files_in (take i fs)) (file_of f) i (files_taken fs i c.loop-file-test.true) in
    record {
      counted = sums c.args.steps.now c.loop-file.steps c.observe_of.new.steps (times_asked ruling n 0 (files_in (take i fs))) (asks ruling i (length f.promises.now * n)) (times_asked ruling n 0 (files_in (take (i + 1) fs)))
          c.loop-file.invariant.counted
          (subst (λ (k : ℕ). c.observe_of.new.steps ≤ c.loop-file.steps + asks ruling k (length f.promises.now * n)) c.loop-file.invariant.number c.observe_of.ensures.counted) more;
      number = omega (arith, c.loop-file.invariant.number);
      told = λ (seen : List Observation) h.
          told_more (λ (l : List Observation). Saw c.observe_of.new.runs l) seen (asked_from truth stage 0 (files_in (take i fs))) (asked_of truth stage i (file_of f)) (asked_from truth stage 0 (files_in (take (i + 1) fs)))
          (subst (λ (k : ℕ). Saw c.observe_of.new.runs (seen ++ asked_from truth stage 0 (files_in (take i fs)) ++ asked_of truth stage k (file_of f))) c.loop-file.invariant.number
          (c.in_ok-observe_of.ensures.told f.digest.0 (seen ++ asked_from truth stage 0 (files_in (take i fs))) (c.loop-file.invariant.told seen h)))
          (asked_file_more truth stage fs i f c.loop-file-test.true c.file-item.is);
    }

pub returns-in_err-observe_of-clause-counted : goal.returns-in_err-observe_of-clause-counted
returns-in_err-observe_of-clause-counted g c =
    let i = c.loop-file.file-index in
    let fs = c.args.files.now in
    let n = length c.args.prefixes.now in
    let ruling = c.args.mark.now.file in
    let f = c.file-item.result in
    let more : times_asked ruling n 0 (files_in (take (i + 1) fs)) ≡ times_asked ruling n 0 (files_in (take i fs)) + asks ruling i (length f.promises.now * n) =
    ap (times_asked ruling n 0) (files_more fs i f c.loop-file-test.true c.file-item.is) ∙ times_one_more ruling n (files_in (take i fs)) (file_of f) i (files_taken fs i c.loop-file-test.true) in
    within c.args.steps.now c.observe_of.new.steps (times_asked ruling n 0 (files_in (take (i + 1) fs))) (most_promises (files_in fs) * n)
    (sums c.args.steps.now c.loop-file.steps c.observe_of.new.steps (times_asked ruling n 0 (files_in (take i fs))) (asks ruling i (length f.promises.now * n)) (times_asked ruling n 0 (files_in (take (i + 1) fs)))
    c.loop-file.invariant.counted
    (subst (λ (k : ℕ). c.observe_of.new.steps ≤ c.loop-file.steps + asks ruling k (length f.promises.now * n)) c.loop-file.invariant.number c.observe_of.ensures.counted) more)
    (fewer_times ruling n (i + 1) fs)

pub returns-clause-counted : goal.returns-clause-counted
returns-clause-counted g c =
    let i = c.loop-file.file-index in
    let fs = c.args.files.now in
    let n = length c.args.prefixes.now in
    let ruling = c.args.mark.now.file in
    within c.args.steps.now c.loop-file.steps (times_asked ruling n 0 (files_in (take i fs))) (most_promises (files_in fs) * n) c.loop-file.invariant.counted (fewer_times ruling n i fs)

pub observe_of-requires-clause-knows : goal.observe_of-requires-clause-knows
observe_of-requires-clause-knows g c = λ (r : ℕ) lt.
    let f = c.file-item.result in
    subst (λ (k : ℕ). g.J.Judge.knows c.args.judge.now k r ≡ true) (sym c.loop-file.invariant.number)
    (c.requires.knows c.loop-file.file-index r (file_of f) (file_there c.args.files.now c.loop-file.file-index f c.loop-file-test.true c.file-item.is) lt)

pub observe_of-requires-clause-few : goal.observe_of-requires-clause-few
observe_of-requires-clause-few g c =
    let f = c.file-item.result in
    few_there (files_in c.args.files.now) c.loop-file.file-index (file_of f) c.requires.few.promises (file_there c.args.files.now c.loop-file.file-index f c.loop-file-test.true c.file-item.is)
