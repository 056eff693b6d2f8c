use Rattle.std.proofs.Common.{◌∙◌, ◌+◌, ap, filter, length, ltb}
use Rattle.nr_spec_steps.specs.Heads.{Committed, numbered}
use Rattle.nr_recorder.proofs.recorder.Core.speak.Goals as goal

pub returns-clause-commits : goal.returns-clause-commits
returns-clause-commits c =
    let own = c.numbers.ensures ∙ (λ i. (c.self.view_is i).own) in
    let size = c.len.ensures ∙ ap length (c.log.ensures.entries ∙ (λ i. (c.self.view_is i).log)) in
    c.in_ok-commits.ensures ∙ (λ i. filter (λ (x : Committed). ltb x.neighbour (own i).count) (numbered (size i + 1) c.args.heads.now))
