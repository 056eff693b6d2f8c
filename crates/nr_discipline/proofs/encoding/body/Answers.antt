use Rattle.nr_discipline.proofs.encoding.body.Goals as goal
use Rattle.std.proofs.Common.{◌≡◌, ◌++◌, List, ℕ, subst, ap, ◌∙◌}
use Rattle.std.specs.List.{flat_map}
use Rattle.byteorder.specs.Endian.{big_bytes}
use Rattle.nr_spec_counts.specs.Bodies.{checkpoint_body, force_bytes, row_bytes, tally_piece}
use Rattle.nr_discipline.specs.Hashing.{Grows}
use Rattle.nr_discipline.proofs.Written.{both_grow}
use Rattle.nr_spec_keys.specs.Pieces.{joined}

pub returns : goal.returns
unfolding checkpoint_body
returns c = λ t kept.
    let last = big_bytes 8 c.last_time.result in
    let force = force_bytes t.in_force in
    let commits = big_bytes 8 c.commits.result in
    let neighbours = joined (tally_piece t) 256 in
    let count = big_bytes 8 c.len.result in
    let rows = flat_map row_bytes c.rows.result in
    let whole = last ++ (force ++ (commits ++ (neighbours ++ (count ++ rows)))) in
    let written : whole ≡ checkpoint_body t c.args.state.now =
    λ i. big_bytes 8 ((c.last_time.ensures ∙ kept.last) i) ++ (force ++ (big_bytes 8 ((c.commits.ensures ∙ kept.commits) i) ++ (neighbours ++ (big_bytes 8 (c.len.ensures i) ++ flat_map row_bytes (c.rows.ensures.all i))))) in
    let in_force = subst (λ x. Grows c.put_u64.new.out.items c.put_force.new.out.items (force_bytes x)) (c.in_force.ensures ∙ kept.in_force) c.in_ok-put_force.ensures in
    let all = both_grow _ _ _ last (force ++ (commits ++ (neighbours ++ (count ++ rows)))) c.in_ok-put_u64.ensures
    (both_grow _ _ _ force (commits ++ (neighbours ++ (count ++ rows))) in_force
    (both_grow _ _ _ commits (neighbours ++ (count ++ rows)) c.in_ok-put_u64-2.ensures
    (both_grow _ _ _ neighbours (count ++ rows) (c.in_ok-put_neighbours.ensures t kept)
    (both_grow _ _ _ count rows c.in_ok-put_u64-3.ensures c.in_ok-put_rows.ensures)))) in
    all.all ∙ ap (λ (l : List ℕ). l ++ whole) c.new-out.ensures.items ∙ written
