use Rattle.std.proofs.Common.{List, ap, sym, ◌∙◌}
use Rattle.std.specs.Prelude.{is_some}
use Rattle.nr_spec_runs.specs.Runs as spec
use Rattle.nr_runs.proofs.Seen.{saw_same, saw_begin, saw_end}
use Rattle.nr_runs.proofs.runs.OpenRuns.observe.Goals as goal

pub returns-in_default-clause-ok : goal.returns-in_default-clause-ok
returns-in_default-clause-ok c = λ (seen : List spec.Observation) h. saw_same c.args.self.now seen (spec.observed (spec.key_of c.args.file c.args.promise c.args.prefix) c.args.bad c.args.time) h
    (ap (λ o. is_some o) (sym c.begun.ensures ∙ c.in_default.is-0) ∙ sym c.in_default.is-1)

pub returns-in_default-2-clause-ok : goal.returns-in_default-2-clause-ok
returns-in_default-2-clause-ok c = λ (seen : List spec.Observation) h. saw_same c.args.self.now seen (spec.observed (spec.key_of c.args.file c.args.promise c.args.prefix) c.args.bad c.args.time) h
    (ap (λ o. is_some o) (sym c.begun.ensures ∙ c.in_default.is-0) ∙ sym c.in_default.is-1)

pub returns-in_ok-end-in-Some-false-clause-ok : goal.returns-in_ok-end-in-Some-false-clause-ok
returns-in_ok-end-in-Some-false-clause-ok c = λ (seen : List spec.Observation) h. saw_end c.args.self.now c.end.new.self seen (spec.observed (spec.key_of c.args.file c.args.promise c.args.prefix) c.args.bad c.args.time) c.in-Some-false.begin h
    (sym c.begun.ensures ∙ c.in-Some-false.is-0) c.in-Some-false.is-1 c.in_ok-end-in-Some-false.ensures.begun c.in_ok-end-in-Some-false.ensures.ended

pub returns-in_ok-begin-in-None-true-clause-ok : goal.returns-in_ok-begin-in-None-true-clause-ok
returns-in_ok-begin-in-None-true-clause-ok c = λ (seen : List spec.Observation) h. saw_begin c.args.self.now c.begin.new.self seen (spec.observed (spec.key_of c.args.file c.args.promise c.args.prefix) c.args.bad c.args.time) h
    (sym c.begun.ensures ∙ c.in-None-true.is-0) c.in-None-true.is-1 c.in_ok-begin-in-None-true.ensures.begun c.in_ok-begin-in-None-true.ensures.ended
