-- Reading is the grammar: prefixes and attributes.
use Rattle.std.proofs.Common.{◌≡◌, ◌≢◌, ℕ, zero, suc, ◌+◌, ◌≤◌, ◌<◌, Bool, true, false, cond, eqb, leb, List, [], ◌∷◌, ◌++◌, length, Result, Ok, refl, sym, ap, subst, ◌∙◌, arith, append_assoc, ◌/◌, ◌%◌, ◌*◌, inl, inr}
use Rattle.std.proofs.lemmas.Bool.{le-leb, leb-true, eqb-true, eq-eqb, ne_eqb}
use Rattle.std.specs.Prelude.{bit_and}
use Rattle.std.proofs.lemmas.Nat.Bits.{and_pow}
use Rattle.std.proofs.lemmas.List.{append-nil}
use Rattle.nr_spec_wire.specs.Reading.{Spot, Read, ◌>>=◌, number_at, bytes_at, wants}
use Rattle.nr_spec_bgp.specs.Prefixes.{Cidr, masked, address_of, bytes_for, faults_at, cidr_at}
use Rattle.nr_spec_bgp.specs.Attributes.{Attribute, Placed, size_bytes, fields_at, attribute_at, may_follow, attributes_from, attributes_at}
use Rattle.nr_spec_bgp.specs.Messages.{cidrs_at}
use Rattle.nr_spec_bgp.proofs.Steps.{bind_ok, ok_is, wants_ok, faults_ok}
use Rattle.nr_spec_bgp.proofs.Back.{spot, then_back, byte_back, bytes_back, wants_back}
use Rattle.nr_spec_bgp.proofs.Walks.{all_end, cidr_eats, goes_on, all_of, each_value, attribute_eats, going_on, attributes_behind, attributes_step, attributes_end}
use Rattle.nr_laws_bgp.specs.Grammar.{IsCidrIn, AreCidrs, IsWidth, IsAttributeIn, AreAttributes}
use Rattle.nr_laws_bgp.specs.Values.{Holds}
use Rattle.nr_laws_bgp.proofs.Pieces.{none_left, number_found, number_again, byte_found, bytes_found}
use Rattle.nr_laws_bgp.proofs.ValueReading.{follows_found, follows_again}

-- ---- prefixes

cidr_found : (s : Spot) (x : Cidr × Spot) → cidr_at s ≡ Ok x → IsCidrIn s.rest x.0 x.1.rest
unfolding cidr_at
cidr_found s x e =
    let a = bind_ok (number_at 1 s) _ x e in
    let b = bind_ok (wants (leb a.0.0 32) s.at a.0.0) _ x a.2 in
    let c = bind_ok (faults_at s.at (bytes_at (bytes_for b.0) a.0.1)) _ x b.2 in
    let fine = wants_ok (leb a.0.0 32) s.at a.0.0 b.0 b.1 in
    let piece = bytes_found (bytes_for b.0) a.0.1 c.0 (faults_ok s.at _ c.0 c.1) in
    let front = byte_found s a.0 a.1 in
    let made : IsCidrIn s.rest (masked (address_of c.0.0) b.0) c.0.1.rest = record {
      len = b.0;
      piece = c.0.0;
      spelled = front ∙ joined a.0.0 b.0 a.0.1.rest (c.0.0 ++ c.0.1.rest) fine.1 piece.1;
      short = leb-true b.0 32 (subst (λ (n : ℕ). leb n 32 ≡ true) fine.1 fine.0);
      whole = piece.0;
      value = refl;
    } in
    subst (λ (y : Cidr × Spot). IsCidrIn s.rest y.0 y.1.rest) (ok_is (masked (address_of c.0.0) b.0, c.0.1) x c.2) made
  where
    joined : (a b : ℕ) (u v : List ℕ) → a ≡ b → u ≡ v → a ∷ u ≡ b ∷ v
    joined a b u v p q = cc

cidr_again : (bytes : List ℕ) (p : Cidr) (more : List ℕ) → IsCidrIn bytes p more → (at : ℕ) → (there : ℕ) × (cidr_at (spot at bytes) ≡ Ok (p, spot there more))
unfolding cidr_at
cidr_again bytes p more h at =
    let n = bytes_for h.len in
    let there = at + 1 + n in
    let read : cidr_at (spot at (h.len ∷ (h.piece ++ more))) ≡ Ok (masked (address_of h.piece) h.len, spot there more) =
    then_back (number_at 1 (spot at (h.len ∷ (h.piece ++ more)))) _ (h.len, spot (at + 1) (h.piece ++ more)) _ (byte_back h.len at (h.piece ++ more))
    (then_back (wants (leb h.len 32) at h.len) _ h.len _ (wants_back (leb h.len 32) at h.len (le-leb h.len 32 h.short))
    (then_back (faults_at at (bytes_at n (spot (at + 1) (h.piece ++ more)))) _ (h.piece, spot there more) _ (ap (λ (r : Read (List ℕ)). faults_at at r) (bytes_back n (at + 1) h.piece more h.whole)) refl)) in
    (there, ap (λ (b : List ℕ). cidr_at (spot at b)) h.spelled ∙ read ∙ ap (λ (q : Cidr). let r : Read Cidr = Ok (q, spot there more) in r) (sym h.value))

pub cidrs_found : (s : Spot) (list : List Cidr) → cidrs_at s ≡ Ok list → AreCidrs s.rest list
cidrs_found s list e =
    each_value cidr_at cidr_eats (λ t l. AreCidrs t.rest l) (λ t none. none_left t.rest none)
    (λ t x rest is there. (x.1.rest, cidr_found t x is, there)) s list e

cidr_some : (bytes : List ℕ) (p : Cidr) (more : List ℕ) → IsCidrIn bytes p more → 0 < length bytes
cidr_some bytes p more h = let e = ap length h.spelled in omega arith

pub cidrs_again : (bytes : List ℕ) (list : List Cidr) → AreCidrs bytes list → (at : ℕ) → cidrs_at (spot at bytes) ≡ Ok list
cidrs_again bytes [] h at = all_end cidr_at (spot at bytes) (ap length h)
cidrs_again bytes (p ∷ list) h at =
    let one = cidr_again bytes p h.0 h.1 at in
    all_of (spot at bytes) p (spot one.0 h.0) (cidr_some bytes p h.0 h.1) one.1 ∙ ap (goes_on p) (cidrs_again h.0 list h.2 one.0)

-- ---- attributes

-- ---- the width of a length

width_of : (flags : ℕ) → IsWidth flags (size_bytes flags)
width_of flags =
    let masked : bit_and flags 16 ≡ flags / 16 % 2 * 16 = and_pow flags 4 in
    by_bit (flags / 16 % 2) (omega arith) refl masked
  where
    by_bit : (bit : ℕ) → bit < 2 → flags / 16 % 2 ≡ bit → bit_and flags 16 ≡ bit * 16 → IsWidth flags (size_bytes flags)
    by_bit zero low is e = let none : eqb (bit_and flags 16) 0 ≡ true = eq-eqb (bit_and flags 16) 0 e in rw none (inl (is, refl))
    by_bit (suc zero) low is e = let some : eqb (bit_and flags 16) 0 ≡ false = ne_eqb (bit_and flags 16) 0 (λ h. omega (arith, e, h)) in rw some (inr (is, refl))
    by_bit (suc (suc n)) low is e = absurd (omega arith)

width_same : (flags n m : ℕ) → IsWidth flags n → IsWidth flags m → n ≡ m
width_same flags n m (inl p) (inl q) = p.1 ∙ sym q.1
width_same flags n m (inl p) (inr q) = absurd (omega (arith, p.0, q.0))
width_same flags n m (inr p) (inl q) = absurd (omega (arith, p.0, q.0))
width_same flags n m (inr p) (inr q) = p.1 ∙ sym q.1

attribute_found : (s : Spot) (x : Placed × Spot) → attribute_at s ≡ Ok x → IsAttributeIn s.rest x.0.what x.1.rest
unfolding fields_at
attribute_found s x e =
    let e' = faults_ok s.at (fields_at s) x e in
    let a = bind_ok (number_at 1 s) _ x e' in
    let b = bind_ok (number_at 1 a.0.1) _ x a.2 in
    let c = bind_ok (number_at (size_bytes a.0.0) b.0.1) _ x b.2 in
    let d = bind_ok (bytes_at c.0.0 c.0.1) _ x c.2 in
    let size = number_found (size_bytes a.0.0) b.0.1 c.0 c.1 in
    let value = bytes_found c.0.0 c.0.1 d.0 d.1 in
    let what : Attribute = record { kind = b.0.0; value = d.0.0 } in
    let made : IsAttributeIn s.rest what d.0.1.rest = record {
      flags = a.0.0;
      width = size_bytes a.0.0;
      width_is = width_of a.0.0;
      size = size.field;
      spelled = byte_found s a.0 a.1 ∙ ap (λ (t : List ℕ). a.0.0 ∷ t) (byte_found a.0.1 b.0 b.1 ∙ ap (λ (t : List ℕ). b.0.0 ∷ t) (size.spelled ∙ ap (λ (t : List ℕ). size.field ++ t) value.1));
      sized = record { len = size.holds.len; value = size.holds.value ∙ sym value.0 };
    } in
    subst (λ (y : Placed × Spot). IsAttributeIn s.rest y.0.what y.1.rest) (ok_is (record { what = what; at = c.0.1.at }, d.0.1) x d.2) made

attribute_again : (bytes : List ℕ) (a : Attribute) (more : List ℕ) → IsAttributeIn bytes a more → (at : ℕ) → (place there : ℕ) × (attribute_at (spot at bytes) ≡ Ok (record { what = a; at = place }, spot there more))
unfolding fields_at
attribute_again bytes a more h at =
    let n = size_bytes h.flags in
    let sized : Holds n (length a.value) h.size = subst (λ (k : ℕ). Holds k (length a.value) h.size) (width_same h.flags h.width n h.width_is (width_of h.flags)) h.sized in
    let behind-value = more in
    let behind-size = a.value ++ more in
    let behind-kind = h.size ++ behind-size in
    let behind-flags = a.kind ∷ behind-kind in
    let place = at + 1 + 1 + n in
    let there = place + length a.value in
    let read : fields_at (spot at (h.flags ∷ behind-flags)) ≡ Ok (record { what = a; at = place }, spot there more) =
    then_back (number_at 1 (spot at (h.flags ∷ behind-flags))) _ (h.flags, spot (at + 1) behind-flags) _ (byte_back h.flags at behind-flags)
    (then_back (number_at 1 (spot (at + 1) behind-flags)) _ (a.kind, spot (at + 1 + 1) behind-kind) _ (byte_back a.kind (at + 1) behind-kind)
    (then_back (number_at n (spot (at + 1 + 1) behind-kind)) _ (length a.value, spot place behind-size) _ (number_again n (length a.value) (at + 1 + 1) h.size behind-size sized)
    (then_back (bytes_at (length a.value) (spot place behind-size)) _ (a.value, spot there more) _ (bytes_back (length a.value) place a.value more refl) refl))) in
    (place, there, ap (λ (b : List ℕ). attribute_at (spot at b)) h.spelled ∙ ap (λ (r : Read Placed). faults_at at r) read)

attributes_step_found : (as4 : Bool) (before list : List Attribute) (s : Spot) (b : Bool) (item : Read Placed) (others : List Attribute → Spot → Result (List Attribute) ℕ) → (b ≡ true → s.rest ≡ [])
    → ((x : Placed × Spot) → item ≡ Ok x → IsAttributeIn s.rest x.0.what x.1.rest)
    → ((x : Placed × Spot) (l : List Attribute) → item ≡ Ok x → others l x.1 ≡ Ok list → (rest : List Attribute) × (list ≡ l ++ rest) × AreAttributes as4 l x.1.rest rest)
    → cond b (Ok before) (item >>= going_on as4 before others) ≡ Ok list → (rest : List Attribute) × (list ≡ before ++ rest) × AreAttributes as4 before s.rest rest
attributes_step_found as4 before list s true item others none one more e = ([], sym (ok_is before list e) ∙ sym (append-nil before), none refl)
attributes_step_found as4 before list s false item others none one more e =
    let a = bind_ok item (going_on as4 before others) list e in
    let w = bind_ok (wants (may_follow as4 before a.0.0.what) a.0.0.at a.0.0.what) (λ (next : Attribute). others (before ++ next ∷ []) a.0.1) list a.2 in
    let fine = wants_ok (may_follow as4 before a.0.0.what) a.0.0.at a.0.0.what w.0 w.1 in
    let what = a.0.0.what in
    let read : others (before ++ what ∷ []) a.0.1 ≡ Ok list = ap (λ (x : Attribute). others (before ++ x ∷ []) a.0.1) fine.1 ∙ w.2 in
    let rest = more a.0 (before ++ what ∷ []) a.1 read in
    (what ∷ rest.0, rest.1 ∙ append_assoc before (what ∷ []) rest.0, (a.0.1.rest, one a.0 a.1, follows_found as4 before what fine.0, rest.2))

attributes_found_from : (as4 : Bool) (n : ℕ) (before list : List Attribute) (s : Spot) → length s.rest ≤ n → attributes_from n as4 before s ≡ Ok list → (rest : List Attribute) × (list ≡ before ++ rest) × AreAttributes as4 before s.rest rest
unfolding attributes_from
attributes_found_from as4 zero before list s few e = ([], sym (ok_is before list e) ∙ sym (append-nil before), none_left s.rest (omega arith))
attributes_found_from as4 (suc n) before list s few e =
    attributes_step_found as4 before list s (eqb (length s.rest) 0) (attribute_at s) (attributes_from n as4) (λ t. none_left s.rest (eqb-true (length s.rest) 0 t)) (attribute_found s)
    (λ x l is read. attributes_found_from as4 n l list x.1 (omega (arith, attribute_eats s x is)) read) e

pub attributes_found : (as4 : Bool) (s : Spot) (list : List Attribute) → attributes_at as4 s ≡ Ok list → AreAttributes as4 [] s.rest list
attributes_found as4 s list e =
    let f = attributes_found_from as4 (length s.rest) [] list s (omega arith) e in
    subst (AreAttributes as4 [] s.rest) (sym f.1) f.2

attribute_some : (bytes : List ℕ) (a : Attribute) (more : List ℕ) → IsAttributeIn bytes a more → length bytes ≢ 0
attribute_some bytes a more h none = let e = ap length h.spelled in omega arith

attributes_again_from : (as4 : Bool) (before : List Attribute) (bytes : List ℕ) (list : List Attribute) → AreAttributes as4 before bytes list → (at : ℕ) → attributes_behind as4 before (spot at bytes) ≡ Ok (before ++ list)
attributes_again_from as4 before bytes [] h at = attributes_end as4 before (spot at bytes) (ap length h) ∙ ap (λ (l : List Attribute). let r : Result (List Attribute) ℕ = Ok l in r) (sym (append-nil before))
attributes_again_from as4 before bytes (a ∷ list) h at =
    let one = attribute_again bytes a h.0 h.1 at in
    let next = attributes_again_from as4 (before ++ a ∷ []) h.0 list h.3 one.1 in
    attributes_step as4 before (spot at bytes) (attribute_some bytes a h.0 h.1)
    ∙ then_back (attribute_at (spot at bytes)) (going_on as4 before (attributes_behind as4)) (record { what = a; at = one.0 }, spot one.1 h.0) _ one.2
    (then_back (wants (may_follow as4 before a) one.0 a) (λ (w : Attribute). attributes_behind as4 (before ++ w ∷ []) (spot one.1 h.0)) a _ (wants_back (may_follow as4 before a) one.0 a (follows_again as4 before a h.2))
    (next ∙ ap (λ (l : List Attribute). let r : Result (List Attribute) ℕ = Ok l in r) (append_assoc before (a ∷ []) list)))

pub attributes_again : (as4 : Bool) (bytes : List ℕ) (list : List Attribute) → AreAttributes as4 [] bytes list → (at : ℕ) → attributes_at as4 (spot at bytes) ≡ Ok list
attributes_again as4 bytes list h at = attributes_again_from as4 [] bytes list h at
