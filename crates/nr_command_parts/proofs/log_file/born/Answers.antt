use Rattle.std.proofs.Common.{ap, length, ◌∙◌}
use Rattle.nr_chain.specs.declared.digest.Digest.{Digest}
use Rattle.nr_command_parts.proofs.LogSteps.{birth_has}
use Rattle.nr_command_parts.proofs.log_file.born.Goals as goal

pub returns-in-Ok-clause-holds : goal.returns-in-Ok-clause-holds
returns-in-Ok-clause-holds g c = birth_has _ _ _ _ _ _ c.ranges.asn.fits (ap (λ (d : Digest). length d.0) c.whole_root.ensures.same ∙ c.whole_root.ensures.size) c.in-Ok.ensures
