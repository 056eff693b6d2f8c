use Rattle.nr_verify_rows.proofs.digest.body_digest.Goals as goal
use Rattle.std.proofs.Common.{◌≡◌, ◌++◌, [], subst, ap, ◌∙◌}
use Rattle.std.specs.List.{flat_map}
use Rattle.byteorder.specs.Endian.{big_bytes}
use Rattle.sha2.specs.Sha256.{sha256}
use Rattle.nr_spec_keys.specs.Pieces.{joined}
use Rattle.nr_spec_counts.specs.Bodies.{checkpoint_body, force_bytes, row_bytes, tally_piece}
use Rattle.nr_spec_routes.proofs.RowsOnce.{rows_once}
use Rattle.nr_verify_rows.specs.Hashing.{Takes}
use Rattle.nr_verify_rows.proofs.Pieces.{both}

pub returns : goal.returns
unfolding checkpoint_body
returns c = λ t base past kept are.
    let last = big_bytes 8 c.last_time.result in
    let force = force_bytes t.in_force in
    let commits = big_bytes 8 c.commits.result in
    let neighbours = joined (tally_piece t) 256 in
    let count = big_bytes 8 c.len.result in
    let rows = flat_map row_bytes c.args.table.now in
    let written : last ++ (force ++ (commits ++ (neighbours ++ (count ++ rows)))) ≡ checkpoint_body t c.args.table.now =
    λ i. big_bytes 8 ((c.last_time.ensures ∙ kept.last) i) ++ (force ++ (big_bytes 8 ((c.commits.ensures ∙ kept.commits) i) ++ (neighbours ++ (big_bytes 8 (c.len.ensures.value i) ++ rows)))) in
    let in_force = subst (λ x. Takes c.hash_u64.new.hasher c.hash_force.new.hasher (force_bytes x)) (c.in_force.ensures ∙ kept.in_force) c.hash_force.ensures in
    let all = both _ _ _ last (force ++ (commits ++ (neighbours ++ (count ++ rows)))) c.hash_u64.ensures
    (both _ _ _ force (commits ++ (neighbours ++ (count ++ rows))) in_force
    (both _ _ _ commits (neighbours ++ (count ++ rows)) c.hash_u64-2.ensures
    (both _ _ _ neighbours (count ++ rows) (c.hash_neighbours.ensures t kept)
    (both _ _ _ count rows c.hash_u64-3.ensures c.hash_rows.ensures)))) in
    c.finalize.ensures (last ++ (force ++ (commits ++ (neighbours ++ (count ++ rows))))) (all.all [] c.new-hasher.ensures) ∙ ap sha256 written
    ∙ ap (λ l. sha256 (checkpoint_body t l)) (rows_once base past c.args.table.now c.len.ensures.order are)
