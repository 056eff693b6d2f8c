-- The block of an UPDATE is no longer than its message, whose length is a number of two bytes.
use Rattle.std.proofs.Common.{◌≡◌, ◌==◌, ℕ, ◌+◌, ◌<◌, ◌≤◌, ◌^◌, Bool, true, false, cond, ltb, ◌&&◌, ◌||◌, List, length, take, drop, Result, Ok, Err, refl, ap, sym, subst, ◌∙◌, arith, length-take, length-drop, eqb-true}
use Rattle.std.specs.Prelude.{nat_le}
use Rattle.byteorder.specs.Numbers.{big_from-lt}
use Rattle.std.proofs.lemmas.List.{get_or-drop}
use Rattle.nr_spec_wire.specs.Reading.{past, ◌>>=◌, IsBytes, Spot, bytes_at, number_at, part_at, start_of, wants}
use Rattle.nr_spec_bgp.specs.Attributes.{AttributeBlock, attributes_at, block_at, is_complete}
use Rattle.nr_spec_bgp.specs.Messages.{body_at, KeepsAlive, Meaning, Notifies, Opens, Refreshes, Updates, cidrs_at, is_marker, message_at, message_of, open_at, sized_part_at, update_at, Changes}
use Rattle.nr_spec_bgp.proofs.Steps.{bind_ok, bytes_leaves, bytes_takes, faults_ok, number_leaves, number_takes, ok_is, wants_ok}
use Rattle.nr_spec_bgp.specs.Prefixes.{fits}

-- the size of the block of an UPDATE
abbrev size_of : Result Meaning ℕ → ℕ
size_of (Ok Opens) = 0
size_of (Ok (Updates changes)) = length changes.attributes.block
size_of (Ok Notifies) = 0
size_of (Ok KeepsAlive) = 0
size_of (Ok Refreshes) = 0
size_of (Err place) = 0

bind_most : {A : Type 0} (n : ℕ) (r : Result A ℕ) (f : A → Result Meaning ℕ) → ((x : A) → r ≡ Ok x → size_of (f x) ≤ n) → size_of (r >>= f) ≤ n
bind_most n (Ok x) f most = most x refl
bind_most n (Err place) f most = omega arith

wants_most : (n : ℕ) (test : Bool) (place : ℕ) (m : Meaning) → size_of (Ok m) ≤ n → size_of (wants test place m) ≤ n
wants_most n true place m most = most
wants_most n false place m most = omega arith

guard : {A : Type 0} (b : Bool) (d : ℕ) (x y : A) → cond b (Err d) (Ok x) ≡ Ok y → x ≡ y
guard true d x y e = absurd cc
guard false d x y e = ok_is x y e

-- a part of bytes, and what is left of them
record IsWithin (s : Spot) (x : Spot × Spot) : Type 0 where
  pub part : length x.0.rest ≤ length s.rest
  pub rest : length x.1.rest ≤ length s.rest

part_within : (n : ℕ) (s : Spot) (x : Spot × Spot) → part_at n s ≡ Ok x → IsWithin s x
part_within n s x e =
    let is = guard (ltb (length s.rest) n) s.at (record { at = s.at; rest = take n s.rest }, past n s) x e in
    subst (IsWithin s) is (record { part = omega (arith, length-take n s.rest); rest = omega (arith, length-drop n s.rest) })

sized_within : (s : Spot) (x : Spot × Spot) → sized_part_at s ≡ Ok x → IsWithin s x
sized_within s x e =
    let size = bind_ok (number_at 2 s) _ x e in
    let left = number_leaves 2 s size.0 size.1 in
    let within = part_within size.0.0 size.0.1 x (faults_ok s.at (part_at size.0.0 size.0.1) x size.2) in
    let part = within.part in
    let rest = within.rest in
    record { part = omega (arith, left, part); rest = omega (arith, left, rest) }

block_is : (as4 : Bool) (s : Spot) (b : AttributeBlock) → block_at as4 s ≡ Ok b → s.rest ≡ b.block
unfolding block_at
block_is as4 s b e =
    let list = bind_ok (attributes_at as4 s) _ b e in
    ap (λ (x : AttributeBlock). x.block) (ok_is _ b list.2)

update_most : (as4 : Bool) (s : Spot) → size_of (update_at as4 s) ≤ length s.rest
unfolding update_at
update_most as4 s =
    bind_most (length s.rest) (sized_part_at s) _ (λ w w_is.
    bind_most (length s.rest) (cidrs_at w.0) _ (λ withdrawn withdrawn_is.
    bind_most (length s.rest) (sized_part_at w.1) _ (λ b b_is.
    bind_most (length s.rest) (block_at as4 b.0) _ (λ block is.
    bind_most (length s.rest) (wants (length b.1.rest == 0 || is_complete block.list) b.1.at block) _ (λ fine fine_is.
    bind_most (length s.rest) (cidrs_at b.1) _ (λ announced announced_is.
    let first = (sized_within s w w_is).rest in
    let second = (sized_within w.1 b b_is).part in
    let same : b.0.rest ≡ fine.block = block_is as4 b.0 block is ∙ ap (λ (x : AttributeBlock). x.block) (wants_ok _ _ block fine fine_is).1 in
    let size : length b.0.rest ≡ length fine.block = ap length same in
    omega (arith, first, second, size)))))))

open_most : (n size : ℕ) (s : Spot) → size_of (open_at size s) ≤ n
unfolding open_at
open_most n size s =
    bind_most n (bytes_at 9 s) _ (λ fixed fixed_is.
    bind_most n (number_at 1 fixed.1) _ (λ parameters parameters_is.
    wants_most n (parameters.0 + 29 == size) fixed.1.at Opens (omega arith)))

body_most : (as4 : Bool) (size size-at kind kind-at : ℕ) (s : Spot) → size_of (body_at as4 size size-at kind kind-at s) ≤ length s.rest
unfolding body_at
body_most as4 size size-at kind kind-at s = by (kind == 1) (kind == 2) (kind == 3) (kind == 4) (kind == 5)
  where
    opens : size_of (wants (nat_le 29 size) size-at s >>= (λ body. open_at size body)) ≤ length s.rest
    opens = bind_most (length s.rest) (wants (nat_le 29 size) size-at s) _ (λ body body_is. open_most (length s.rest) size body)

    updates : size_of (wants (nat_le 23 size) size-at s >>= (λ body. update_at as4 body)) ≤ length s.rest
    updates = bind_most (length s.rest) (wants (nat_le 23 size) size-at s) _ (λ body body_is.
        subst (λ (t : Spot). size_of (update_at as4 body) ≤ length t.rest) (sym (wants_ok _ _ s body body_is).1) (update_most as4 body))

    by : (a b c d e : Bool) → size_of (cond a (wants (nat_le 29 size) size-at s >>= (λ body. open_at size body))
        (cond b (wants (nat_le 23 size) size-at s >>= (λ body. update_at as4 body))
        (cond c (wants (nat_le 21 size) size-at Notifies)
        (cond d (wants (size == 19) size-at KeepsAlive)
        (cond e (wants (nat_le 23 size) size-at Refreshes) (Err kind-at)))))) ≤ length s.rest
    by true b c d e = opens
    by false true c d e = updates
    by false false true d e = wants_most (length s.rest) (nat_le 21 size) size-at Notifies (omega arith)
    by false false false true e = wants_most (length s.rest) (size == 19) size-at KeepsAlive (omega arith)
    by false false false false true = wants_most (length s.rest) (nat_le 23 size) size-at Refreshes (omega arith)
    by false false false false false = omega arith

second : (a b : Bool) → (a && b) ≡ true → b ≡ true
second true b h = h
second false b h = absurd cc

bytes_after : (n : ℕ) (bytes : List ℕ) → IsBytes bytes → IsBytes (drop n bytes)
bytes_after n bytes fits i = subst (λ (b : ℕ). b < 256) (sym (get_or-drop n bytes i 0)) (fits (n + i))

below : (s : Spot) (x : ℕ × Spot) → IsBytes s.rest → number_at 2 s ≡ Ok x → x.0 < 2 ^ 16
below s x fits e =
    subst (λ (n : ℕ). n < 2 ^ 16) (sym (ap (λ (y : ℕ × Spot). y.0) (number_takes 2 s x e).1)) (big_from-lt 0 2 s.rest fits)

message_most : (as4 : Bool) (s : Spot) → IsBytes s.rest → size_of (message_at as4 s) ≤ 65535
unfolding message_at
message_most as4 s fits =
    bind_most 65535 (bytes_at 16 s) _ (λ marker marker_is.
    bind_most 65535 (wants (is_marker marker.0) s.at marker.1) _ (λ ones ones_is.
    bind_most 65535 (number_at 2 ones) _ (λ size size_is.
    bind_most 65535 (wants (nat_le 19 size.0 && size.0 == length s.rest) ones.at size.0) _ (λ whole whole_is.
    bind_most 65535 (number_at 1 size.1) _ (λ kind kind_is.
    let taken = bytes_leaves 16 s marker marker_is in
    let same : length marker.1.rest ≡ length ones.rest = ap (λ (t : Spot). length t.rest) (wants_ok _ _ marker.1 ones ones_is).1 in
    let left = number_leaves 2 ones size size_is in
    let more = number_leaves 1 size.1 kind kind_is in
    let is : size.0 ≡ length s.rest = eqb-true _ _ (second _ _ (wants_ok _ _ size.0 whole whole_is).0) in
    let ones_fit : IsBytes ones.rest = subst (λ (t : Spot). IsBytes t.rest) (wants_ok _ _ marker.1 ones ones_is).1
    (subst (λ (x : List ℕ × Spot). IsBytes x.1.rest) (sym (bytes_takes 16 s marker marker_is).1) (bytes_after 16 s.rest fits)) in
    let short = below ones size ones_fit size_is in
    let body = body_most as4 whole ones.at kind.0 size.1.at kind.1 in
    omega (arith, taken, same, left, more, is, short, body))))))

pub update_is_short : (as4 : Bool) (raw : List ℕ) (changes : Changes) → IsBytes raw → message_of as4 raw ≡ Ok (Updates changes) → length changes.attributes.block < 2 ^ 16
update_is_short as4 raw changes fits is =
    let most = subst (λ (r : Result Meaning ℕ). size_of r ≤ 65535) is (message_most as4 (start_of raw) fits) in
    omega (arith, most)
