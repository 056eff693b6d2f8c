-- A path is no longer than its bytes.
use Rattle.std.proofs.Common.{◌≡◌, ℕ, zero, suc, ◌+◌, ◌*◌, ◌/◌, ◌≤◌, Bool, true, false, cond, eqb, leb, ◌&&◌, List, length, take, drop, Ok, refl, ap, arith, length-take}
use Rattle.std.proofs.lemmas.List.Sums.{sum_by-cons}
use Rattle.nr_spec_wire.specs.Reading.{Spot, number_at, bytes_at, wants}
use Rattle.nr_spec_bgp.specs.Paths.{Segment, as_size, counted_numbers, numbers_in, segment_at, segments_at, segment_len, path_len}
use Rattle.nr_spec_bgp.proofs.Steps.{bind_ok, ok_is, number_leaves, bytes_takes, bytes_leaves}
use Rattle.nr_spec_bgp.proofs.Walks.{segment_eats, each_value}

length_counted : (n size : ℕ) (bytes : List ℕ) → length (counted_numbers n size bytes) ≡ n
length_counted zero size bytes = refl
length_counted (suc n) size bytes = ap suc (length_counted n size (drop size bytes))

pub length_numbers : (size : ℕ) (bytes : List ℕ) → length (numbers_in size bytes) ≡ length bytes / size
length_numbers size bytes = length_counted (length bytes / size) size bytes

numbers_fit : (as4 : Bool) (bytes : List ℕ) → length (numbers_in (as_size as4) bytes) ≤ length bytes
numbers_fit true bytes = omega (arith, length_numbers 4 bytes)
numbers_fit false bytes = omega (arith, length_numbers 2 bytes)

len_at_most : (two one : Bool) (n m : ℕ) → n ≤ m → cond two n (cond one 1 0) ≤ m + 1
len_at_most true one n m h = omega arith
len_at_most false true n m h = omega arith
len_at_most false false n m h = omega arith

segment_is_short : (as4 : Bool) (s : Spot) (x : Segment × Spot) → segment_at as4 s ≡ Ok x → segment_len x.0 + length x.1.rest ≤ length s.rest
unfolding segment_at
segment_is_short as4 s x e =
    let a = bind_ok (number_at 1 s) _ x e in
    let b = bind_ok (wants (leb 1 a.0.0 && leb a.0.0 4) s.at a.0.0) _ x a.2 in
    let c = bind_ok (number_at 1 a.0.1) _ x b.2 in
    let d = bind_ok (wants (leb 1 c.0.0) a.0.1.at c.0.0) _ x c.2 in
    let f = bind_ok (bytes_at (d.0 * as_size as4) c.0.1) _ x d.2 in
    let size = d.0 * as_size as4 in
    let taken = bytes_takes size c.0.1 f.0 f.1 in
    let bytes-is : f.0.0 ≡ take size c.0.1.rest = ap (λ (p : List ℕ × Spot). p.0) taken.1 in
    let bytes-len : length f.0.0 ≤ size = rw bytes-is (omega (arith, length-take size c.0.1.rest)) in
    let few = numbers_fit as4 f.0.0 in
    let short = len_at_most (eqb b.0 2) (eqb b.0 1) (length (numbers_in (as_size as4) f.0.0)) (length f.0.0) few in
    let out = ok_is (record { kind = b.0; numbers = numbers_in (as_size as4) f.0.0 }, f.0.1) x f.2 in
    rw (← out) (omega (arith, short, bytes-len, number_leaves 1 s a.0 a.1, number_leaves 1 a.0.1 c.0 c.1, bytes_leaves size c.0.1 f.0 f.1))

pub segments_are_short : (as4 : Bool) (s : Spot) (path : List Segment) → segments_at as4 s ≡ Ok path → path_len path ≤ length s.rest
segments_are_short as4 s path e =
    each_value (segment_at as4) (segment_eats as4) (λ t p. path_len p ≤ length t.rest) (λ t none. omega arith)
    (λ t x rest is short. rw (sum_by-cons segment_len x.0 rest) (omega (arith, segment_is_short as4 t x is, short))) s path e
