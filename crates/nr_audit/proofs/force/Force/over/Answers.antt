use Rattle.std.specs.Prelude.{option_map}
use Rattle.nr_chain.specs.Views.{digest_bytes}
use Rattle.nr_audit.proofs.Seeing.{seen_before}
use Rattle.nr_audit.proofs.force.Force.over.Goals as goal

pub returns : goal.returns
returns c = λ files base period is. seen_before files base period (option_map digest_bytes c.args.in_force) is
