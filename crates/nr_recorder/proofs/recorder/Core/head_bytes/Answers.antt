use Rattle.std.proofs.Common.{◌∙◌, ℕ, ap, map, sym}
use Rattle.std.proofs.lemmas.List.{length-map}
use Rattle.nr_chain.specs.Views.{entry_of}
use Rattle.nr_spec_log.specs.Chain.{value_after}
use Rattle.nr_spec_steps.specs.Heads.{log_chain}
use Rattle.nr_recorder.proofs.recorder.Core.head_bytes.Goals as goal

pub returns : goal.returns
returns c =
    let log = map entry_of c.args.entries.now in
    c.in_ok-head.ensures log (record {
      number = c.len.ensures ∙ sym (length-map c.args.entries.now entry_of);
      chained = c.tip_of-tip.ensures.value ∙ ap (λ (a : ℕ). value_after (log_chain a) log) (λ i. (c.self.view_is i).key.asn);
      last = c.tip_of-tip.ensures.time;
      committed = c.tip_of-tip.ensures.leaf;
    })
