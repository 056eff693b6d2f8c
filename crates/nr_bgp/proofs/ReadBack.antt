-- What is spelled is read again.
use Rattle.std.proofs.Common.{◌≡◌, ℕ, ◌+◌, ◌-◌, ◌*◌, ◌^◌, ◌≤◌, ◌<◌, Bool, true, false, ◌||◌, ◌&&◌, leb, eqb, List, [], ◌∷◌, ◌++◌, length, All, take, Ok, refl, sym, ap, ◌∙◌, arith, append_assoc, length-take, inl, inr, ◌⊎◌}
use Rattle.std.specs.Prelude.{replicate}
use Rattle.std.specs.List.{AllByRecursion}
use Rattle.std.proofs.Math.Nat.{mul_assoc}
use Rattle.std.proofs.lemmas.Nat.{pow-add}
use Rattle.std.proofs.lemmas.List.Elements.{recursion_from_All}
use Rattle.std.proofs.lemmas.List.Concat.{flat_map-cons}
use Rattle.nr_spec_bgp.specs.Prefixes.{Cidr, IsCidr, front, masked, faults_at, bytes_for, address_of, cidr_at, cidr_bytes}
use Rattle.std.proofs.lemmas.Bool.{cases_lt, le-leb, eq-eqb}
use Rattle.byteorder.specs.Endian.{big_bytes}
use Rattle.nr_spec_wire.specs.Reading.{Spot, Read, start_of, number_at, bytes_at, part_at, wants}
use Rattle.nr_spec_bgp.specs.Attributes.{Attribute, AttributeBlock, attributes_in, block_at, is_complete}
use Rattle.nr_spec_bgp.specs.Messages.{Updates, KeepsAlive, cidrs_at, cidrs_bytes, sized, sized_part_at, update_at, update_body, update_bytes, keepalive_bytes, message_bytes, body_at, message_at, message_of}
use Rattle.nr_spec_bgp.proofs.Walks.{all_end, goes_on, all_of}
use Rattle.nr_spec_bgp.proofs.Back.{spot, then_back, number_back, byte_back, bytes_back, part_back, wants_back}
use Rattle.nr_spec_bgp.proofs.Alike.{same_block}
use Rattle.nr_bgp.specs.Writing.{ReadsBack}
use Rattle.nr_bgp.proofs.Lengths.{length_message, length_update}

pub sized_back : (at : ℕ) (xs more : List ℕ) → length xs < 256 ^ 2 → sized_part_at (spot at (sized xs ++ more)) ≡ Ok (spot (at + 2) xs, spot (at + 2 + length xs) more)
sized_back at xs more small =
    then_back (number_at 2 (spot at (sized xs ++ more))) (λ size. faults_at at (part_at size.0 size.1)) (length xs, spot (at + 2) (xs ++ more)) _ (number_back 2 (length xs) at (xs ++ more) small)
    (ap (λ (r : Read Spot). faults_at at r) (part_back (length xs) (at + 2) xs more refl))

-- ---- the header

both_true : (a b : Bool) → a ≡ true → b ≡ true → (a && b) ≡ true
both_true true true p q = refl
both_true true false p q = absurd cc
both_true false b p q = absurd cc

pub header_back : (as4 : Bool) (kind : ℕ) (body : List ℕ) → 19 + length body < 256 ^ 2 → message_of as4 (message_bytes kind body) ≡ body_at as4 (19 + length body) 16 kind 18 (spot 19 body)
unfolding message_at
header_back as4 kind body small =
    let size = 19 + length body in
    let raw = message_bytes kind body in
    let behind-marker = big_bytes 2 size ++ kind ∷ body in
    let behind-size = kind ∷ body in
    let long : leb 19 size ≡ true = le-leb 19 size (omega arith) in
    let same : eqb size (length raw) ≡ true = eq-eqb size (length raw) (omega arith) in
    let len : leb 19 size && eqb size (length raw) ≡ true = both_true (leb 19 size) (eqb size (length raw)) long same in
    then_back (bytes_at 16 (spot 0 raw)) _ (replicate 16 255, spot 16 behind-marker) _ (bytes_back 16 0 (replicate 16 255) behind-marker refl)
    (then_back (number_at 2 (spot 16 behind-marker)) _ (size, spot 18 behind-size) _ (number_back 2 size 16 behind-size small)
    (then_back (wants (leb 19 size && eqb size (length raw)) 16 size) _ size _ (wants_back _ 16 size len)
    (then_back (number_at 1 (spot 18 behind-size)) _ (kind, spot 19 body) _ (byte_back kind 18 body) refl)))

-- ---- prefixes

-- an address of which only the first bytes count is what these bytes give
address_0 : (m : ℕ) → m * 2 ^ 32 < 2 ^ 32 → address_of (take 0 (big_bytes 4 (m * 2 ^ 32))) ≡ m * 2 ^ 32
address_0 m h = omega arith

address_1 : (m : ℕ) → m * 2 ^ 24 < 2 ^ 32 → address_of (take 1 (big_bytes 4 (m * 2 ^ 24))) ≡ m * 2 ^ 24
address_1 m h = omega arith

address_2 : (m : ℕ) → m * 2 ^ 16 < 2 ^ 32 → address_of (take 2 (big_bytes 4 (m * 2 ^ 16))) ≡ m * 2 ^ 16
address_2 m h = omega arith

address_3 : (m : ℕ) → m * 2 ^ 8 < 2 ^ 32 → address_of (take 3 (big_bytes 4 (m * 2 ^ 8))) ≡ m * 2 ^ 8
address_3 m h = omega arith

address_4 : (m : ℕ) → m * 2 ^ 0 < 2 ^ 32 → address_of (take 4 (big_bytes 4 (m * 2 ^ 0))) ≡ m * 2 ^ 0
address_4 m h = omega arith

multiple_of : (q s e : ℕ) → e ≤ s → (m : ℕ) × (q * 2 ^ s ≡ m * 2 ^ e)
multiple_of q s e h =
    let parts : s ≡ s - e + e = omega arith in
    (q * 2 ^ (s - e), ap (λ (t : ℕ). q * 2 ^ t) parts ∙ ap (λ (t : ℕ). q * t) (pow-add 2 (s - e) e) ∙ sym (mul_assoc q (2 ^ (s - e)) (2 ^ e)))

address_in_range : (n e : ℕ) → ((m : ℕ) → m * 2 ^ e < 2 ^ 32 → address_of (take n (big_bytes 4 (m * 2 ^ e))) ≡ m * 2 ^ e)
    → (p : Cidr) → IsCidr p → bytes_for p.len ≡ n → e ≤ 32 - p.len → address_of (take (bytes_for p.len) (big_bytes 4 p.addr)) ≡ p.addr
address_in_range n e lemma p h count fits =
    let m = multiple_of (front p.addr p.len) (32 - p.len) e fits in
    let addr : p.addr ≡ m.0 * 2 ^ e = sym h.clear ∙ m.1 in
    let small : m.0 * 2 ^ e < 2 ^ 32 = omega (arith, h.addr, addr) in
    rw (count, addr) (lemma m.0 small)

address_back : (p : Cidr) → IsCidr p → address_of (take (bytes_for p.len) (big_bytes 4 p.addr)) ≡ p.addr
address_back p h =
    elim (cases_lt p.len 1) [
      | inl a ↦ address_in_range 0 32 address_0 p h (omega arith) (omega arith)
      | inr a ↦
          elim (cases_lt p.len 9) [
            | inl b ↦ address_in_range 1 24 address_1 p h (omega arith) (omega arith)
            | inr b ↦
                elim (cases_lt p.len 17) [
                  | inl c ↦ address_in_range 2 16 address_2 p h (omega arith) (omega arith)
                  | inr c ↦
                      elim (cases_lt p.len 25) [
                        | inl d ↦ address_in_range 3 8 address_3 p h (omega arith) (omega arith)
                        | inr d ↦
                            address_in_range 4 0 address_4 p h (omega (arith, h.len)) (omega arith)
                      ]
                ]
          ]
    ]

pub cidr_back : (p : Cidr) → IsCidr p → (at : ℕ) (more : List ℕ) → cidr_at (spot at (cidr_bytes p ++ more)) ≡ Ok (p, spot (at + 1 + bytes_for p.len) more)
unfolding cidr_at
cidr_back p h at more =
    let n = bytes_for p.len in
    let bytes = take n (big_bytes 4 p.addr) in
    let len : length bytes ≡ n = omega (arith, length-take n (big_bytes 4 p.addr), h.len) in
    let value : masked (address_of bytes) p.len ≡ p = ap (λ (a : ℕ). masked a p.len) (address_back p h) ∙ ap (λ (a : ℕ). let c : Cidr = record { addr = a; len = p.len } in c) h.clear in
    then_back (number_at 1 (spot at (p.len ∷ (bytes ++ more)))) _ (p.len, spot (at + 1) (bytes ++ more)) _ (byte_back p.len at (bytes ++ more))
    (then_back (wants (leb p.len 32) at p.len) _ p.len _ (wants_back (leb p.len 32) at p.len (le-leb p.len 32 h.len))
    (then_back (faults_at at (bytes_at n (spot (at + 1) (bytes ++ more)))) _ (bytes, spot (at + 1 + n) more) _ (ap (λ (r : Read (List ℕ)). faults_at at r) (bytes_back n (at + 1) bytes more len))
    (ap (λ (c : Cidr). let out : Read Cidr = Ok (c, spot (at + 1 + n) more) in out) value)))

pub cidrs_back : (cidrs : List Cidr) → AllByRecursion IsCidr cidrs → (at : ℕ) → cidrs_at (spot at (cidrs_bytes cidrs)) ≡ Ok cidrs
cidrs_back [] h at = all_end cidr_at (spot at []) refl
cidrs_back (p ∷ cidrs) h at =
    let next = spot (at + 1 + bytes_for p.len) (cidrs_bytes cidrs) in
    let one : cidr_at (spot at (cidr_bytes p ++ cidrs_bytes cidrs)) ≡ Ok (p, next) = cidr_back p h.0 at (cidrs_bytes cidrs) in
    let split : cidrs_bytes (p ∷ cidrs) ≡ cidr_bytes p ++ cidrs_bytes cidrs = flat_map-cons cidr_bytes p cidrs in
    ap (λ (bytes : List ℕ). cidrs_at (spot at bytes)) split
    ∙ all_of (spot at (cidr_bytes p ++ cidrs_bytes cidrs)) p next (omega arith) one
    ∙ ap (goes_on p) (cidrs_back cidrs h.1 (at + 1 + bytes_for p.len))

-- ---- the body of an UPDATE

block_back : (as4 : Bool) (at : ℕ) (block : List ℕ) (list : List Attribute) → attributes_in as4 block ≡ Ok list → block_at as4 (spot at block) ≡ Ok (record { block = block; as4 = as4; list = list })
unfolding block_at
block_back as4 at block list e = let there = same_block as4 (start_of block) (spot at block) list refl e in rw there refl

-- a block that may stand before these announced prefixes
may_announce : (announced : List Cidr) (list : List Attribute) → (length announced ≡ 0) ⊎ (is_complete list ≡ true) → (eqb (length (cidrs_bytes announced)) 0 || is_complete list) ≡ true
may_announce [] list h = refl
may_announce (p ∷ announced) list (inl none) = absurd (omega arith)
may_announce (p ∷ announced) list (inr complete) = rw complete (or_true _)
  where
    or_true : (b : Bool) → (b || true) ≡ true
    or_true true = refl
    or_true false = refl

update_back : (as4 : Bool) (withdrawn : List Cidr) (block : List ℕ) (announced : List Cidr) (list : List Attribute) (at : ℕ)
    → AllByRecursion IsCidr withdrawn → AllByRecursion IsCidr announced → attributes_in as4 block ≡ Ok list → (length announced ≡ 0) ⊎ (is_complete list ≡ true) → length (cidrs_bytes withdrawn) < 256 ^ 2 → length block < 256 ^ 2
    → update_at as4 (spot at (update_body withdrawn block announced)) ≡ Ok (Updates (record { withdrawn = withdrawn; attributes = record { block = block; as4 = as4; list = list }; announced = announced }))
unfolding update_at
update_back as4 withdrawn block announced list at hw ha reads fine sw sb =
    let gone = cidrs_bytes withdrawn in
    let here = cidrs_bytes announced in
    let read : AttributeBlock = record { block = block; as4 = as4; list = list } in
    let parts : update_body withdrawn block announced ≡ sized gone ++ (sized block ++ here) = append_assoc (sized gone) (sized block) here in
    let at-block = at + 2 + length gone in
    let at-here = at-block + 2 + length block in
    ap (λ (bytes : List ℕ). update_at as4 (spot at bytes)) parts
    ∙ then_back (sized_part_at (spot at (sized gone ++ (sized block ++ here)))) _ (spot (at + 2) gone, spot at-block (sized block ++ here)) _ (sized_back at gone (sized block ++ here) sw)
    (then_back (cidrs_at (spot (at + 2) gone)) _ withdrawn _ (cidrs_back withdrawn hw (at + 2))
    (then_back (sized_part_at (spot at-block (sized block ++ here))) _ (spot (at-block + 2) block, spot at-here here) _ (sized_back at-block block here sb)
    (then_back (block_at as4 (spot (at-block + 2) block)) _ read _ (block_back as4 (at-block + 2) block list reads)
    (then_back (wants (eqb (length here) 0 || is_complete list) at-here read) _ read _ (wants_back (eqb (length here) 0 || is_complete list) at-here read (may_announce announced list fine))
    (then_back (cidrs_at (spot at-here here)) _ announced _ (cidrs_back announced ha at-here) refl)))))

-- an UPDATE that is spelled reads back as what it was made of
pub update_reads_back : (as4 : Bool) (withdrawn : List Cidr) (block : List ℕ) (announced : List Cidr) (list : List Attribute)
    → AllByRecursion IsCidr withdrawn → AllByRecursion IsCidr announced → attributes_in as4 block ≡ Ok list → (length announced ≡ 0) ⊎ (is_complete list ≡ true) → length (update_bytes withdrawn block announced) ≤ 65535
    → message_of as4 (update_bytes withdrawn block announced) ≡ Ok (Updates (record { withdrawn = withdrawn; attributes = record { block = block; as4 = as4; list = list }; announced = announced }))
unfolding body_at
update_reads_back as4 withdrawn block announced list hw ha reads fine short =
    let body = update_body withdrawn block announced in
    let size = 19 + length body in
    let len = length_update withdrawn block announced in
    let whole : length (update_bytes withdrawn block announced) ≡ size = length_message 2 body in
    let read = update_back as4 withdrawn block announced list 19 hw ha reads fine (omega arith) (omega arith) in
    header_back as4 2 body (omega arith)
    ∙ then_back (wants (leb 23 size) 16 (spot 19 body)) _ (spot 19 body) _ (wants_back (leb 23 size) 16 (spot 19 body) (le-leb 23 size (omega arith))) read

pub keepalive_reads_back : (as4 : Bool) → message_of as4 keepalive_bytes ≡ Ok KeepsAlive
unfolding body_at
keepalive_reads_back as4 = header_back as4 4 [] (omega arith)

pub reads_back : (withdrawn : List Cidr) (block : List ℕ) (announced : List Cidr) (bytes : List ℕ) → All IsCidr withdrawn → All IsCidr announced → length (update_bytes withdrawn block announced) ≤ 65535
    → bytes ≡ update_bytes withdrawn block announced → ReadsBack withdrawn block announced bytes
reads_back withdrawn block announced bytes hw ha short e = λ as4 list reads fine.
    ap (message_of as4) e ∙ update_reads_back as4 withdrawn block announced list (recursion_from_All IsCidr withdrawn hw) (recursion_from_All IsCidr announced ha) reads fine short
