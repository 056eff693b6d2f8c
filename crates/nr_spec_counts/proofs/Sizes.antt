-- The size of a checkpoint body.
use Rattle.std.proofs.Common.{◌≡◌, ◌++◌, ℕ, List, [], length, length-append, Option, Some, None, refl, arith}
use Rattle.std.specs.Prelude.{IfSome}
use Rattle.byteorder.specs.Endian.{big_bytes}
use Rattle.nr_spec_log.specs.Authenticator.{digest_size}
use Rattle.nr_spec_bgp.specs.Prefixes.{fits}
use Rattle.nr_spec_counts.specs.Tallies.{Numbers, Tally}
use Rattle.nr_spec_counts.specs.Bodies.{checkpoint_body, force_bytes, oldest_bytes, tally_piece}
use Rattle.nr_spec_keys.specs.Pieces.{joined}
use Rattle.nr_spec_keys.proofs.PieceLemmas.{length-joined}

force_size : (force : Option Numbers) → IfSome force (λ f. length f.digest ≡ digest_size) → length (force_bytes force) ≡ 39
force_size None h = refl
force_size (Some force) h =
    let parts = length-append force.digest (big_bytes 2 force.count ++ big_bytes 4 force.delay) in
    omega (arith, parts, h)

oldest_size : (oldest : Option ℕ) → length (oldest_bytes oldest) ≡ 9
oldest_size None = refl
oldest_size (Some time) = refl

piece_size : (t : Tally) (n : ℕ) → length (tally_piece t n) ≡ 25
piece_size t n = let oldest = oldest_size (t.oldest n) in omega arith

pub no_rows_size : (t : Tally) → IfSome t.in_force (λ f. length f.digest ≡ digest_size) → length (checkpoint_body t []) ≡ 6463
unfolding checkpoint_body
no_rows_size t fits =
    let force = force_size t.in_force fits in
    let pieces : length (joined (tally_piece t) 256) ≡ 6400 = length-joined 25 (tally_piece t) 256 (λ n below. piece_size t n) in
    let end : List ℕ = big_bytes 8 0 ++ [] in
    let middle = length-append (joined (tally_piece t) 256) end in
    let front = length-append (force_bytes t.in_force) (big_bytes 8 t.commits ++ (joined (tally_piece t) 256 ++ end)) in
    omega (arith, force, pieces, middle, front)
