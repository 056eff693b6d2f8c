use Rattle.std.proofs.Common.{ap, ◌∙◌}
use Rattle.nr_spec_log.specs.Chain.{Chain}
use Rattle.nr_chain.specs.Views.{entry_of}
use Rattle.nr_audit.specs.declared.slots.Link.{Link}
use Rattle.nr_audit.proofs.Naming.{linked_more}
use Rattle.nr_audit.proofs.links.Links.take.Goals as goal

pub returns-clause-linked : goal.returns-clause-linked
returns-clause-linked c = λ auths all value rest so_far.
    let e = entry_of c.args.entry.now in
    let link : Link = record { seq = c.next_seq-seq.result; time = c.args.entry.now.time; value = c.push-value.result } in
    linked_more auths all value e rest c.args.self.now (record { walk = c.push-value.new.self; slots = c.note.new.self }) link
    (λ i. record { seq = c.next_seq-seq.ensures i; time = e.time; value = (c.push-value.ensures.value ∙ ap (λ (w : Chain). w.value) c.push-value.ensures.walk) i })
    c.push-value.ensures.walk c.in_ok-note.ensures so_far
