use Rattle.std.specs.Prelude.{map}
use Rattle.nr_discipline.specs.Views.{numbers_of}
use Rattle.nr_evidence.specs.Views.{period_of}
use Rattle.nr_judging.specs.Views.{files_in}
use Rattle.nr_spec_report.specs.Wrong.{Base}
use Rattle.nr_audit.specs.Before.{IsBefore}
use Rattle.nr_audit.specs.Walks.{Walks}
use Rattle.nr_audit.proofs.walk.walk.Given as goal

-- the walk has come so far
abbrev pub invariant-loop-entry : goal.invariant-loop-entry
invariant-loop-entry g l =
    (base : Base) → IsBefore base l.fn.state l.fn.counts → Walks (map numbers_of l.files) (files_in l.promises) (g.J.Judge.truth l.judge) base (period_of l.period) l.answer l.auths
    l.initial.steps l.steps l.entry-iterator l.walked
