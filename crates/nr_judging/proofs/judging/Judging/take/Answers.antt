use Rattle.std.proofs.Common.{ℕ, ◌+◌, ◌*◌, ◌≤◌, ◌++◌, ◌||◌, List, Option, ap, ◌∙◌, subst}
use Rattle.std.specs.Prelude.{not, nat_lt}
use Rattle.nr_chain.specs.Views.{entry_of}
use Rattle.nr_spec_log.specs.Chain.{LogEntry}
use Rattle.nr_spec_routes.specs.Keys.{Row}
use Rattle.nr_spec_routes.specs.Effects.{effect_of}
use Rattle.nr_spec_routes.specs.Touched.{touched_by}
use Rattle.nr_spec_report.specs.Wrong.{Base}
use Rattle.nr_spec_runs.specs.Runs.{Observation}
use Rattle.nr_spec_promises.specs.Counted.{most_promises}
use Rattle.nr_evidence.specs.Views.{period_of}
use Rattle.nr_runs.specs.Views.{Saw}
use Rattle.nr_judging.specs.Asked.{asked, prefixes_asked}
use Rattle.nr_judging.specs.Seen.{first_now, next_now, stages_seen}
use Rattle.nr_judging.specs.Views.{files_in}
use Rattle.nr_judging.proofs.Since.{begun_more}
use Rattle.nr_judging.proofs.Adding.{counted_one, counted_less, told_one}
use Rattle.nr_judging.proofs.judging.Judging.take.Goals as goal

pub returns-in_err-begin-clause-counted : goal.returns-in_err-begin-clause-counted
returns-in_err-begin-clause-counted g c = λ (base : Base) (first : Option (List ℕ)) (past : List LogEntry) back f.
    counted_less (files_in c.args.files.now) base first (period_of c.args.period.now) past (entry_of c.args.entry.now) back c.args.self.state c.args.self.file c.args.self.begun f.rows f.file f.begun
    c.args.steps.now c.begin.new.steps c.begin.ensures.counted

pub returns-in_err-state-clause-counted : goal.returns-in_err-state-clause-counted
returns-in_err-state-clause-counted g c = λ (base : Base) (first : Option (List ℕ)) (past : List LogEntry) back f.
    counted_less (files_in c.args.files.now) base first (period_of c.args.period.now) past (entry_of c.args.entry.now) back c.args.self.state c.args.self.file c.args.self.begun f.rows f.file f.begun
    c.args.steps.now c.begin.new.steps c.begin.ensures.counted

pub returns-in_err-observe_within-clause-counted : goal.returns-in_err-observe_within-clause-counted
returns-in_err-observe_within-clause-counted g c = λ (base : Base) (first : Option (List ℕ)) (past : List LogEntry) back f.
    let files = files_in c.args.files.now in
    let period = period_of c.args.period.now in
    let e = entry_of c.args.entry.now in
    counted_one files base first period past e back c.args.self.state c.args.self.file c.args.self.begun f.rows f.file f.begun
    c.in_ok-state.state c.items.result.now c.file_after-file.result c.args.steps.now c.begin.new.steps c.observe_within.new.steps
    (c.in_ok-state.ensures.rows base.rows past (c.begin.ensures.state ∙ f.rows))
    (c.items.ensures ∙ c.in_ok-state.ensures.touched ∙ ap (λ (r : List Row). touched_by r (effect_of e)) c.begin.ensures.state)
    (c.file_after-file.ensures base first past (c.begin.ensures.file ∙ f.file))
    c.begin.ensures.counted
    (subst (λ (b : Option ℕ). c.observe_within.new.steps ≤ c.begin.new.steps + most_promises files * prefixes_asked (next_now files period c.in_ok-state.state c.items.result.now b c.file_after-file.result c.args.entry.now.time)) c.begin.ensures.file c.observe_within.ensures.counted)

pub returns-clause-counted : goal.returns-clause-counted
returns-clause-counted g c = λ (base : Base) (first : Option (List ℕ)) (past : List LogEntry) back f.
    let files = files_in c.args.files.now in
    let period = period_of c.args.period.now in
    let e = entry_of c.args.entry.now in
    counted_one files base first period past e back c.args.self.state c.args.self.file c.args.self.begun f.rows f.file f.begun
    c.in_ok-state.state c.items.result.now c.file_after-file.result c.args.steps.now c.begin.new.steps c.observe_within.new.steps
    (c.in_ok-state.ensures.rows base.rows past (c.begin.ensures.state ∙ f.rows))
    (c.items.ensures ∙ c.in_ok-state.ensures.touched ∙ ap (λ (r : List Row). touched_by r (effect_of e)) c.begin.ensures.state)
    (c.file_after-file.ensures base first past (c.begin.ensures.file ∙ f.file))
    c.begin.ensures.counted
    (subst (λ (b : Option ℕ). c.observe_within.new.steps ≤ c.begin.new.steps + most_promises files * prefixes_asked (next_now files period c.in_ok-state.state c.items.result.now b c.file_after-file.result c.args.entry.now.time)) c.begin.ensures.file c.observe_within.ensures.counted)

pub returns-clause-follows : goal.returns-clause-follows
returns-clause-follows g c = λ (base : Base) (first : Option (List ℕ)) (past : List LogEntry) back f.
    let files = files_in c.args.files.now in
    let period = period_of c.args.period.now in
    let truth = g.J.Judge.truth c.args.judge.now in
    let e = entry_of c.args.entry.now in
    let now = c.in_ok-state.ensures.rows base.rows past (c.begin.ensures.state ∙ f.rows) in
    let file = c.file_after-file.ensures base first past (c.begin.ensures.file ∙ f.file) in
    let front = asked files truth (stages_seen files base first period past) ++ asked files truth (first_now files period c.args.self.state c.args.self.file c.args.self.begun c.args.entry.now.time) in
    record {
      rows = now;
      file = file;
      begun = c.in_ok-begin.ensures.begun ∙ ap (λ b. b || not (nat_lt c.args.entry.now.time c.args.period.now.from)) f.begun ∙ begun_more period past e back;
      told = told_one files base first period past e back c.args.self.state c.args.self.file c.args.self.begun f.rows f.file f.begun
          (λ (l : List Observation). Saw c.observe_within.new.runs l) truth c.in_ok-state.state c.items.result.now c.file_after-file.result now
          (c.items.ensures ∙ c.in_ok-state.ensures.touched ∙ ap (λ (r : List Row). touched_by r (effect_of e)) c.begin.ensures.state) file
          (subst (λ (b : Option ℕ). Saw c.observe_within.new.runs (front ++ asked files truth (next_now files period c.in_ok-state.state c.items.result.now b c.file_after-file.result c.args.entry.now.time))) c.begin.ensures.file
          (c.in_ok-observe_within.ensures.told front (c.in_ok-begin.ensures.told _ f.told)));
    }
