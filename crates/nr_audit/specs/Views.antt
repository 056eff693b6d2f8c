-- What this crate's types stand for in the definitions.
use Rattle.std.specs.Prelude.{if◌then◌else◌, Bool, [], ◌∷◌, List, map}
use Rattle.nr_spec_log.specs.Authenticator.{Authenticator}
use Rattle.nr_spec_log.specs.Chain as chain
use Rattle.nr_spec_report.specs.Wrong as wrong
use Rattle.nr_spec_outcome.specs.Outcome as outcome
use Rattle.nr_spec_outcome.specs.Report as report
use Rattle.nr_discipline.specs.Views.{numbers_of}
use Rattle.nr_runs.specs.Views.{runs_in}
use Rattle.nr_audit.specs.declared.audited.Audited.{Audited}
use Rattle.nr_audit.specs.declared.slots.Link.{Link}
use Rattle.nr_audit.specs.declared.checked.WrongEntry.{WrongEntry}
use Rattle.nr_audit.specs.declared.report.Report.{Report}

abbrev pub audited_of : Audited → outcome.Audited
audited_of f = record { network = f.network; numbers = numbers_of f.numbers; promises = f.promises.now }

abbrev pub link_of : Link → chain.Link
link_of link = record { seq = link.seq; time = link.time; value = link.value.0 }

abbrev pub wrong_of : WrongEntry → wrong.WrongEntry
wrong_of w = record { seq = w.seq; cause = w.cause }

-- those that are marked, in order
abbrev pub marked : List Authenticator → List Bool → List Authenticator
marked [] marks = []
marked (a ∷ auths) [] = []
marked (a ∷ auths) (mark ∷ marks) = if mark then a ∷ marked auths marks else marked auths marks

-- a report on these authenticators
abbrev pub report_of : List Authenticator → Report → report.Report
report_of auths r = record {
  conflicts = marked auths r.conflicts.items;
  wrong = map wrong_of r.wrong.items;
  broken = runs_in r.broken.items;
}
