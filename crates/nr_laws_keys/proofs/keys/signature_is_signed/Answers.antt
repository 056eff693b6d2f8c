use Rattle.nr_spec_keys.proofs.TreeLemmas.{signature_by-leads}
use Rattle.nr_laws_keys.proofs.keys.signature_is_signed.Goals as goal

pub returns : goal.returns
returns c seed body height leaf below = signature_by-leads seed body height leaf below
