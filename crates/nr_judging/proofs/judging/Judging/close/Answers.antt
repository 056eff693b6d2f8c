use Rattle.std.proofs.Common.{ℕ, ◌++◌, List, filter, ap, ◌∙◌}
use Rattle.nr_spec_log.specs.Chain.{LogEntry}
use Rattle.nr_spec_report.specs.Wrong.{Base}
use Rattle.nr_spec_runs.specs.Runs.{AreRuns, Observation}
use Rattle.nr_spec_promises.specs.Files.{first_promised}
use Rattle.nr_spec_promises.specs.Broken.{is_broken}
use Rattle.nr_evidence.specs.Views.{period_of}
use Rattle.nr_runs.specs.Views.{run_of, runs_in}
use Rattle.nr_judging.specs.Asked.{asked}
use Rattle.nr_judging.specs.Seen.{first_now, stages_seen}
use Rattle.nr_judging.specs.Views.{files_in}
use Rattle.nr_judging.proofs.Adding.{counted_end, told_end, not_early}
use Rattle.nr_judging.proofs.Growing.{few_of, still_few}
use Rattle.nr_judging.proofs.Kept.{are_broken}
use Rattle.nr_judging.proofs.judging.Judging.close.Goals as goal

pub returns-in_err-begin-clause-counted : goal.returns-in_err-begin-clause-counted
returns-in_err-begin-clause-counted g c = λ (base : Base) (all : List LogEntry) back f (before : ℕ) few.
    let files = files_in c.args.files.now in
    let period = period_of c.args.period.now in
    still_few before c.args.steps.now c.begin.new.steps _ _ _ few
    (counted_end files base (first_promised all) period all back c.args.period.now.from (not_early c.args.period.now.from) c.args.self.state c.args.self.file c.args.self.begun f.rows f.file f.begun c.args.steps.now c.begin.new.steps c.begin.ensures.counted)
    (few_of files base period all back)

pub returns-in_err-found-clause-counted : goal.returns-in_err-found-clause-counted
returns-in_err-found-clause-counted g c = λ (base : Base) (all : List LogEntry) back f (before : ℕ) few.
    let files = files_in c.args.files.now in
    let period = period_of c.args.period.now in
    still_few before c.args.steps.now c.begin.new.steps _ _ _ few
    (counted_end files base (first_promised all) period all back c.args.period.now.from (not_early c.args.period.now.from) c.args.self.state c.args.self.file c.args.self.begun f.rows f.file f.begun c.args.steps.now c.begin.new.steps c.begin.ensures.counted)
    (few_of files base period all back)

pub returns-in_err-kept-clause-counted : goal.returns-in_err-kept-clause-counted
returns-in_err-kept-clause-counted g c = λ (base : Base) (all : List LogEntry) back f (before : ℕ) few.
    let files = files_in c.args.files.now in
    let period = period_of c.args.period.now in
    still_few before c.args.steps.now c.begin.new.steps _ _ _ few
    (counted_end files base (first_promised all) period all back c.args.period.now.from (not_early c.args.period.now.from) c.args.self.state c.args.self.file c.args.self.begun f.rows f.file f.begun c.args.steps.now c.begin.new.steps c.begin.ensures.counted)
    (few_of files base period all back)

pub returns-clause-counted : goal.returns-clause-counted
returns-clause-counted g c = λ (base : Base) (all : List LogEntry) back f (before : ℕ) few.
    let files = files_in c.args.files.now in
    let period = period_of c.args.period.now in
    still_few before c.args.steps.now c.begin.new.steps _ _ _ few
    (counted_end files base (first_promised all) period all back c.args.period.now.from (not_early c.args.period.now.from) c.args.self.state c.args.self.file c.args.self.begun f.rows f.file f.begun c.args.steps.now c.begin.new.steps c.begin.ensures.counted)
    (few_of files base period all back)

pub returns-clause-broken : goal.returns-clause-broken
returns-clause-broken g c = λ (base : Base) (all : List LogEntry) back f.
    let files = files_in c.args.files.now in
    let period = period_of c.args.period.now in
    let truth = g.J.Judge.truth c.args.judge.now in
    let l : List Observation = asked files truth (stages_seen files base (first_promised all) period all)
    ++ asked files truth (first_now files period c.args.self.state c.args.self.file c.args.self.begun c.args.period.now.from) in
    are_broken files truth base period all c.in_ok-found.found.items c.in_ok-kept.kept.items back
    (told_end files base (first_promised all) period all back c.args.period.now.from (not_early c.args.period.now.from) c.args.self.state c.args.self.file c.args.self.begun f.rows f.file f.begun
    (λ (l : List Observation). AreRuns c.args.period.now.to l (runs_in c.in_ok-found.found.items)) truth
    (c.in_ok-found.ensures l (c.in_ok-begin.ensures.told _ f.told)))
    (c.in_ok-kept.ensures ∙ ap (filter (λ r. is_broken files (run_of r).key (run_of r).span)) c.as_slice.ensures.value)
