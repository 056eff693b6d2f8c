-- The body of a checkpoint: what is known and which routes stand, as one list of bytes.
use Rattle.std.specs.Prelude.{ℕ, ◌++◌, ◌∷◌, List, None, Option, Some, length, replicate}
use Rattle.std.specs.List.{flat_map}
use Rattle.byteorder.specs.Endian.{big_bytes}
use Rattle.nr_spec_entry.specs.Contents.{flag, most_neighbours}
use Rattle.nr_spec_routes.specs.Keys.{Row, direction_number}
use Rattle.nr_spec_counts.specs.Tallies.{Numbers, Tally}
use Rattle.nr_spec_keys.specs.Pieces.{joined}

-- a flag, and the promise, or as many zeros
abbrev pub force_bytes : Option Numbers → List ℕ
force_bytes None = replicate 39 0
force_bytes (Some force) = 1 ∷ (force.digest ++ (big_bytes 2 force.count ++ big_bytes 4 force.delay))

-- a flag, and the time, or as many zeros
abbrev pub oldest_bytes : Option ℕ → List ℕ
oldest_bytes None = replicate 9 0
oldest_bytes (Some time) = 1 ∷ big_bytes 8 time

abbrev pub neighbour_bytes : ℕ → ℕ → Option ℕ → List ℕ
neighbour_bytes sends acked oldest = big_bytes 8 sends ++ (big_bytes 8 acked ++ oldest_bytes oldest)

-- what is known of a neighbour
abbrev pub tally_piece : Tally → ℕ → List ℕ
tally_piece t n = neighbour_bytes (t.sends n) (t.acked n) (t.oldest n)

abbrev pub row_bytes : Row → List ℕ
row_bytes (key, b) =
    big_bytes 1 key.prefix.len ++ (big_bytes 4 key.prefix.addr
    ++ (big_bytes 1 (direction_number key.direction) ++ (big_bytes 2 key.neighbour
    ++ (big_bytes 1 (flag b.as4) ++ (big_bytes 2 (length b.block) ++ b.block)))))

unfoldable pub checkpoint_body : Tally → List Row → List ℕ
checkpoint_body t rows =
    big_bytes 8 t.last ++ (force_bytes t.in_force ++ (big_bytes 8 t.commits
    ++ (joined (tally_piece t) most_neighbours
    ++ (big_bytes 8 (length rows) ++ flat_map row_bytes rows))))
