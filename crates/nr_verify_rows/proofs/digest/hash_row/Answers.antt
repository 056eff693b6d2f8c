use Rattle.nr_verify_rows.proofs.digest.hash_row.Goals as goal
use Rattle.std.proofs.Common.{◌≡◌, ◌++◌, length, subst, ap, ◌∙◌}
use Rattle.byteorder.specs.Endian.{big_bytes}
use Rattle.nr_spec_entry.specs.Contents.{flag}
use Rattle.nr_spec_routes.specs.Keys.{Key}
use Rattle.nr_spec_counts.specs.Bodies.{row_bytes}
use Rattle.nr_verify_rows.specs.Hashing.{Takes}
use Rattle.nr_verify_rows.proofs.Pieces.{both}

pub returns : goal.returns
returns c =
    let len = big_bytes 1 c.len.result in
    let addr = big_bytes 4 c.addr.result in
    let direction = big_bytes 1 c.direction_byte.result in
    let neighbour = big_bytes 2 c.key.inside.neighbour in
    let as4 = big_bytes 1 c.flag.result in
    let block = c.block-block.result.now in
    let size = big_bytes 2 (length block) in
    let block_is = c.block-block.ensures.bytes in
    let written : len ++ (addr ++ (direction ++ (neighbour ++ (as4 ++ (size ++ block))))) ≡ row_bytes (c.args.key.now, c.args.attrs.now) =
    (λ i. big_bytes 1 (c.len.ensures.value i) ++ (big_bytes 4 (c.addr.ensures i) ++ (big_bytes 1 (c.direction_byte.ensures i) ++ (neighbour ++ (big_bytes 1 ((c.flag.ensures ∙ ap flag c.as4.ensures) i) ++ (big_bytes 2 (length (block_is i)) ++ block_is i))))))
    ∙ ap (λ (k : Key). row_bytes (k, c.args.attrs.now)) c.key.view_is in
    subst (Takes _ _) written
    (both _ _ _ len (addr ++ (direction ++ (neighbour ++ (as4 ++ (size ++ block))))) c.hash_u8.ensures
    (both _ _ _ addr (direction ++ (neighbour ++ (as4 ++ (size ++ block)))) c.hash_u32.ensures
    (both _ _ _ direction (neighbour ++ (as4 ++ (size ++ block))) c.hash_u8-2.ensures
    (both _ _ _ neighbour (as4 ++ (size ++ block)) c.hash_u16.ensures
    (both _ _ _ as4 (size ++ block) c.hash_u8-3.ensures
    (both _ _ _ size block c.hash_length.ensures c.hash.ensures))))))
