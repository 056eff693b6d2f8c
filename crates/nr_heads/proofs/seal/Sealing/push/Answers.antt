use Rattle.std.proofs.Common.{◌≡◌, ap, refl, sym, ◌∙◌, Some}
use Rattle.nr_chain.specs.Views.{entry_of}
use Rattle.nr_spec_log.specs.Chain.{Chain, chained, shown}
use Rattle.nr_heads.specs.Seals.{Seal, Sealing}
use Rattle.nr_heads.proofs.SealLaws.{one_more, same_seal, seal_by}
use Rattle.nr_heads.proofs.seal.Sealing.push.Goals as goal

pub returns-in-None : goal.returns-in-None
returns-in-None c = λ asn log of.
    let e = entry_of c.args.entry.now in
    one_more asn log e c.args.self.now _
    (c.push-value.ensures.walk ∙ ap (λ (s : Sealing). chained s.chain (shown e)) c.self.view_is)
    (ap (λ (s : Sealing). s.seal) c.self.view_is ∙ ap (λ o. seal_by o c.args.self.now e) (sym c.in-None.is ∙ c.leaf_of.ensures))
    of

pub returns-in-Some : goal.returns-in-Some
returns-in-Some c = λ asn log of.
    let e = entry_of c.args.entry.now in
    let chain = c.push-value.ensures.walk ∙ ap (λ (s : Sealing). chained s.chain (shown e)) c.self.view_is in
    one_more asn log e c.args.self.now _ chain
    (ap (λ (seal : Seal). Some seal)
    (same_seal _ _ (c.next_seq-seq.ensures ∙ ap (λ (s : Sealing). s.chain.seq) c.self.view_is) refl refl (c.push-value.ensures.value ∙ ap (λ (chain : Chain). chain.value) chain))
    ∙ ap (λ o. seal_by o c.args.self.now e) (sym c.in-Some.is ∙ c.leaf_of.ensures))
    of
