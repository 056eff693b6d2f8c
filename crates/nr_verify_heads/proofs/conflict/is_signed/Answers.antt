use Rattle.std.proofs.lemmas.Bool.Decides.{same_from_decides}
use Rattle.std.proofs.lemmas.Slice.Eq.{bytes_eq-Decides}
use Rattle.nr_spec_log.specs.Authenticator.{signed_body}
use Rattle.nr_spec_keys.specs.Trees.{root_from}
use Rattle.nr_answer.specs.Views.{auth_of}
use Rattle.nr_verify_heads.proofs.conflict.is_signed.Goals as goal

pub returns : goal.returns
returns c =
    let a = auth_of c.args.auth.now in
    same_from_decides c.signed.result _ c.signed.ensures (bytes_eq-Decides (root_from (signed_body a) a.sig) c.args.root.now.0)
