-- The state after entries has a body.
use Rattle.std.proofs.Common.{◌≡◌, ℕ, ◌≤◌, List, [], ◌∷◌, ◌++◌, length, Ok, ap, arith}
use Rattle.std.specs.List.{flat_map}
use Rattle.std.proofs.lemmas.List.{length-append}
use Rattle.std.proofs.lemmas.List.Concat.{flat_map-cons}
use Rattle.byteorder.specs.Endian.{big_bytes}
use Rattle.byteorder.specs.Numbers.{length-bytes_high_first}
use Rattle.nr_spec_log.specs.Chain.{LogEntry}
use Rattle.nr_spec_log.specs.Answer.{most_body}
use Rattle.nr_spec_keys.specs.Pieces.{joined}
use Rattle.nr_spec_entry.specs.Contents.{flag, most_neighbours}
use Rattle.nr_spec_routes.specs.Keys.{Row, direction_number}
use Rattle.nr_spec_counts.specs.Tallies.{Tally}
use Rattle.nr_spec_counts.specs.Bodies.{checkpoint_body, force_bytes, row_bytes, tally_piece}
use Rattle.nr_spec_bounds.specs.Bounds.{AreStated, HasRoom}
use Rattle.nr_spec_report.specs.Wrong.{Base, nothing_before}
use Rattle.nr_spec_bodies.specs.Reading.{base_of}
use Rattle.nr_spec_bodies.specs.Bases.{IsBase, body_of, state_after}
use Rattle.nr_laws_bounds.proofs.RowsFit.{no_rows_fit, rows_fit}
use Rattle.nr_laws_bounds.proofs.TallyFits.{nothing_fits, tally_fits}
use Rattle.nr_laws_bodies.proofs.Body.{base_again}

-- ---- a body has at least a byte for each row

front_long : (x y : List ℕ) → length x ≡ 1 → 1 ≤ length (x ++ y)
front_long x y e = omega (arith, e, length-append x y)

row_some : (r : Row) → 1 ≤ length (row_bytes r)
row_some (key, b) = front_long (big_bytes 1 key.prefix.len) (big_bytes 4 key.prefix.addr ++ (big_bytes 1 (direction_number key.direction) ++ (big_bytes 2 key.neighbour ++ (big_bytes 1 (flag b.as4) ++ (big_bytes 2 (length b.block) ++ b.block))))) (length-bytes_high_first 1 key.prefix.len)

rows_long : (rows : List Row) → length rows ≤ length (flat_map row_bytes rows)
rows_long [] = omega arith
rows_long (r ∷ rows) =
    let split = ap length (flat_map-cons row_bytes r rows) in
    let later = rows_long rows in
    let one = row_some r in
    omega (arith, split, length-append (row_bytes r) (flat_map row_bytes rows))

six_long : (a b c d e f : List ℕ) → length f ≤ length (a ++ (b ++ (c ++ (d ++ (e ++ f)))))
six_long a b c d e f = omega (arith, length-append a (b ++ (c ++ (d ++ (e ++ f)))), length-append b (c ++ (d ++ (e ++ f))), length-append c (d ++ (e ++ f)), length-append d (e ++ f), length-append e f)

body_long : (t : Tally) (rows : List Row) → length rows ≤ length (checkpoint_body t rows)
unfolding checkpoint_body
body_long t rows =
    let a = rows_long rows in
    let b = six_long (big_bytes 8 t.last) (force_bytes t.in_force) (big_bytes 8 t.commits) (joined (tally_piece t) most_neighbours) (big_bytes 8 (length rows)) (flat_map row_bytes rows) in
    omega (arith, a, b)

-- ---- the states

pub state_fits : (base : Base) (entries : List LogEntry) → IsBase base → AreStated entries → HasRoom base.tally (length entries) → length (body_of (state_after base entries)) ≤ most_body → IsBase (state_after base entries)
state_fits base entries is stated room small =
    let after = state_after base entries in
    let long = body_long after.tally after.rows in
    record {
      tally = tally_fits base.tally entries is.tally stated room;
      rows = rows_fit base.rows entries is.rows stated;
      few = omega (arith, long, small);
    }

pub state_reads : (base : Base) (entries : List LogEntry) → IsBase base → AreStated entries → HasRoom base.tally (length entries) → length (body_of (state_after base entries)) ≤ most_body → base_of (body_of (state_after base entries)) ≡ Ok (state_after base entries)
state_reads base entries is stated room small = base_again (state_after base entries) (state_fits base entries is stated room small)

pub nothing_is : IsBase nothing_before
nothing_is = record { tally = nothing_fits; rows = no_rows_fit; few = omega arith }
