use Rattle.std.proofs.Common.{◌∙◌, ◌%◌, ℕ, ap, subst, sym}
use Rattle.nr_spec_log.specs.Authenticator.{authenticator}
use Rattle.nr_spec_history.specs.KeyFiles.{Key}
use Rattle.nr_spec_steps.specs.Heads.{head_body, head_of}
use Rattle.nr_recorder.specs.Answering.{IsTip}
use Rattle.nr_recorder.proofs.recorder.Core.sign.Goals as goal
use Rattle.nr_recorder.proofs.Whole.{head_spelled, with_signature}

pub returns : goal.returns
returns c = λ log states.
    let key : Key = record { asn = c.self.inside.asn; height = c.self.inside.tree.height; seed = c.self.inside.seed.0 } in
    let tip = subst (λ (a : ℕ). IsTip a log c.args.seq c.args.tip.now.value.0 c.args.tip.now.time c.args.tip.now.leaf) (sym (λ i. (c.self.view_is i).key.asn)) states in
    let body = head_body c.self.inside.asn c.args.seq c.args.tip.now.time c.args.tip.now.value.0 in
    head_spelled key log c.args.tip.now.value.0 c.args.tip.now.time (c.from.result % c.leaves.result) c.args.seq c.sign.new.out.items
    tip.chained tip.last tip.number
    (λ i. (c.from.ensures ∙ tip.committed) i % c.leaves.ensures.value i)
    (with_signature c.self.inside.seed.0 c.self.inside.tree.height (c.from.result % c.leaves.result) body c.new-head.result.items c.deref.result.now c.deref-2.result.now c.put_bytes.new.out.items c.sign.new.out.items
    c.new-head.ensures.items (c.deref.ensures.value ∙ c.in_ok-body.ensures) (c.deref-2.ensures.value ∙ c.in_ok-body.ensures) c.in_ok-put_bytes.ensures.ok c.in_ok-sign.ensures.ok)
    ∙ ap (λ (k : Key). authenticator (head_of k log)) (λ i. (c.self.view_is i).key)
