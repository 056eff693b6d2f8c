use Rattle.nr_discipline.proofs.encoding.put_row.Goals as goal
use Rattle.std.proofs.Common.{◌≡◌, ◌++◌, length, subst, ap, ◌∙◌}
use Rattle.byteorder.specs.Endian.{big_bytes}
use Rattle.nr_spec_entry.specs.Contents.{flag}
use Rattle.nr_spec_counts.specs.Bodies.{row_bytes}
use Rattle.nr_tables.specs.Views.{row_of}
use Rattle.nr_discipline.specs.Hashing.{Grows}
use Rattle.nr_discipline.proofs.Written.{both_grow}

pub returns : goal.returns
returns c =
    let len = big_bytes 1 c.len.result in
    let addr = big_bytes 4 c.addr.result in
    let direction = big_bytes 1 c.direction_byte.result in
    let neighbour = big_bytes 2 c.args.row.now.neighbour in
    let as4 = big_bytes 1 c.flag.result in
    let block = c.block-block.result.now in
    let size = big_bytes 2 (length block) in
    let block_is = c.block-block.ensures.bytes in
    let written : len ++ (addr ++ (direction ++ (neighbour ++ (as4 ++ (size ++ block))))) ≡ row_bytes (row_of c.args.row.now) =
    λ i. big_bytes 1 (c.len.ensures.value i) ++ (big_bytes 4 (c.addr.ensures i) ++ (big_bytes 1 (c.direction_byte.ensures i) ++ (neighbour ++ (big_bytes 1 ((c.flag.ensures ∙ ap flag c.as4.ensures) i) ++ (big_bytes 2 (length (block_is i)) ++ block_is i))))) in
    subst (Grows _ _) written
    (both_grow _ _ _ len (addr ++ (direction ++ (neighbour ++ (as4 ++ (size ++ block))))) c.in_ok-put_u8.ensures
    (both_grow _ _ _ addr (direction ++ (neighbour ++ (as4 ++ (size ++ block)))) c.in_ok-put_u32.ensures
    (both_grow _ _ _ direction (neighbour ++ (as4 ++ (size ++ block))) c.in_ok-put_u8-2.ensures
    (both_grow _ _ _ neighbour (as4 ++ (size ++ block)) c.in_ok-put_u16.ensures
    (both_grow _ _ _ as4 (size ++ block) c.in_ok-put_u8-3.ensures
    (both_grow _ _ _ size block c.in_ok-put_u16-2.ensures c.in_ok-put.ensures))))))
