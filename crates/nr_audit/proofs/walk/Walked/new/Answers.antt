use Rattle.std.proofs.Common.{List, [], ap, ◌∙◌}
use Rattle.nr_spec_log.specs.Chain.{Chain, LogEntry}
use Rattle.nr_spec_history.specs.Conflicts.{chain_of}
use Rattle.nr_spec_promises.specs.Files.{file_after, first_promised}
use Rattle.nr_judging.specs.Views.{files_in}
use Rattle.nr_judging.proofs.Order.{in_order}
use Rattle.nr_audit.specs.declared.links.Links.{Links}
use Rattle.nr_audit.specs.declared.walk.Walked.{Walked}
use Rattle.nr_audit.proofs.Naming.{linked_first}
use Rattle.nr_audit.proofs.Walking.{walked_first}
use Rattle.nr_audit.proofs.walk.Walked.new.Goals as goal

pub returns : goal.returns
returns c = λ files truth base period steps before.
    let promises = files_in c.args.promises.now in
    let answer = c.args.answer.now in
    let links : Links = record { walk = c.new.result; slots = c.in_ok-of.field-0 } in
    let walked : Walked = record { links = links; checked = c.over.result; force = c.over-2.result } in
    let in_force = c.digest_in_force-in_force.ensures base.tally before.kept in
    walked_first files promises truth base period answer c.args.auths.now steps walked
    (in_order answer.entries c.entries-entries.result c.entries-entries.ensures.value c.entries-entries.ensures.fit)
    (ap (λ (w : Chain). w.seq) c.new.ensures ∙ c.first.ensures.value)
    (linked_first c.args.auths.now (chain_of answer) answer.entries links
    (c.new.ensures ∙ (λ i. record { value = c.prev.ensures i; seq = c.first.ensures.value i })) c.in_ok-of.ensures)
    (c.over.ensures files promises truth base period (first_promised answer.entries) answer.first before
    (c.opening_file-file.ensures base in_force ∙ ap (λ (l : List LogEntry). file_after promises base (first_promised l) []) c.entries-entries.ensures.value))
    (c.over-2.ensures files base period in_force)
