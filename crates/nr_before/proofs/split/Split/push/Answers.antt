use Rattle.std.proofs.Common.{sym, subst, take}
use Rattle.nr_chain.specs.Views.{entry_of}
use Rattle.nr_before.specs.Behinds.{ArePartsOf}
use Rattle.nr_before.proofs.Parting.{mapped_more, more_before, more_behind}
use Rattle.nr_before.proofs.split.Split.push.Goals as goal

pub returns-then-next_seq-count-clause-parts : goal.returns-then-next_seq-count-clause-parts
returns-then-next_seq-count-clause-parts c = λ asn log are.
    let own = subst (ArePartsOf asn log) (sym c.self.view_is) are in
    more_before asn log (entry_of c.args.entry) _ c.next_seq.result c.in_ok-before.before own (c.next_seq.ensures asn (take c.self.inside.count log) own.before) c.if-next_seq-count.true
    (c.in_ok-before.ensures asn (take c.self.inside.count log) own.before)

pub returns-clause-parts : goal.returns-clause-parts
returns-clause-parts c = λ asn log are.
    let own = subst (ArePartsOf asn log) (sym c.self.view_is) are in
    more_behind asn log (entry_of c.args.entry) _ c.next_seq.result _ own (c.next_seq.ensures asn (take c.self.inside.count log) own.before) c.if-next_seq-count.false
    (mapped_more _ _ c.args.entry c.in_ok-push.ensures.ok)
