use Rattle.std.proofs.Common.{refl, sym, take, ◌∙◌}
use Rattle.nr_spec_history.specs.KeyFiles.{Key}
use Rattle.nr_spec_steps.specs.Heads.{answer_from_first}
use Rattle.nr_heads.specs.Views.{seal_view}
use Rattle.nr_heads.proofs.SealLaws.{head_spelled}
use Rattle.nr_heads.proofs.answering.write_whole.Goals as goal

pub returns : goal.returns
returns c = λ log is entries.
    let key : Key = record { asn = c.args.asn; height = c.args.tree.now.height; seed = c.args.seed.now.0 } in
    c.write_answer.ensures (answer_from_first key (take c.args.seal.now.seq log)) (record {
      asn_is = refl;
      first_is = refl;
      prev_is = sym c.genesis.ensures;
      body_is = refl;
      entries_are = sym entries;
      head_is = head_spelled key log (seal_view c.args.seal.now) is ∙ (sym c.in_ok-head.ensures ∙ sym c.deref.ensures.value);
    })
