use Rattle.std.proofs.Common.{◌∙◌, refl}
use Rattle.nr_heads.specs.Seals.{sealed_head}
use Rattle.nr_heads.proofs.head.head_bytes.Goals as goal

pub returns : goal.returns
unfolding sealed_head
returns c =
    rw (c.in_ok-sign.ensures.ok, c.in_ok-put_bytes.ensures.ok, c.new-bytes.ensures.items, c.deref.ensures.value, c.deref-2.ensures.value, c.in_ok-body.ensures, c.leaf_in.ensures.value) refl
