use Rattle.std.proofs.Common.{◌++◌, append_assoc, sym, ap, ◌∙◌}
use Rattle.byteorder.specs.Endian.{big_bytes}
use Rattle.nr_spec_entry.specs.Contents.{content_bytes}
use Rattle.nr_entry.specs.Views.{content_view}
use Rattle.nr_entry.proofs.writing.put_content.Goals as goal

pub returns-in_ok-put_head-in-Ack : goal.returns-in_ok-put_head-in-Ack
returns-in_ok-put_head-in-Ack c =
    let ack = c.in-Ack in
    let seen = big_bytes 2 ack.neighbour ++ big_bytes 8 ack.upto in
    let head = big_bytes 8 ack.seq ++ (big_bytes 8 ack.time ++ (ack.hash.0 ++ ack.sig.0)) in
    let out = c.args.out.now.items in
    c.in_ok-put_head-in-Ack.ensures ∙ (ap (λ bytes. bytes ++ head) c.in_ok-put_seen-in-Ack.ensures
    ∙ (append_assoc out seen head ∙ ap (λ content. out ++ content_bytes (content_view content)) (sym ack.is)))
