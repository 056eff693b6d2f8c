use Rattle.std.proofs.Common.{◌≡◌, ◌∙◌, ◌-◌, List, ap, refl, sym, take}
use Rattle.std.specs.List.{slice_get}
use Rattle.nr_chain.specs.Views.{entry_of}
use Rattle.nr_spec_log.specs.Chain.{LogEntry, value_after}
use Rattle.nr_spec_steps.specs.Heads.{log_chain}
use Rattle.nr_recorder.proofs.recorder.Core.tip_at.Goals as goal
use Rattle.nr_recorder.proofs.Shown.{tip_is}

pub returns : goal.returns
returns c =
    let log_is : c.log-log.result.now ≡ c.args.self.now.log = c.log-log.ensures.entries ∙ (λ i. (c.self.view_is i).log) in
    tip_is c.args.self.now.key.asn c.requires.commit.0 c.args.self.now.log c.args.commit (entry_of c.at-entry.result) c.value_at.result.0 c.at-entry.result.time c.leaf_after.result c.requires.commit.1
    (ap (λ (l : List LogEntry). slice_get l (c.args.commit - 1)) (sym log_is) ∙ c.at-entry.ensures)
    (c.value_at.ensures ∙ (λ i. value_after (log_chain (c.self.view_is i).key.asn) (take c.args.commit (log_is i))))
    refl c.leaf_after.ensures
