-- Reading is the grammar: messages.
use Rattle.std.proofs.Common.{◌≡◌, ℕ, zero, suc, ◌+◌, ◌≤◌, Bool, true, false, ◌&&◌, ◌||◌, eqb, leb, List, [], ◌∷◌, ◌++◌, length, Result, Ok, Err, refl, sym, ap, subst, ◌∙◌, arith, length-append, inl, inr, ◌⊎◌}
use Rattle.std.specs.Prelude.{replicate}
use Rattle.std.specs.List.{list_all}
use Rattle.std.proofs.lemmas.Bool.{le-leb, leb-true, eqb-true, eq-eqb}
use Rattle.nr_spec_wire.specs.Reading.{Spot, Read, start_of, number_at, bytes_at, part_at, wants}
use Rattle.nr_spec_bgp.specs.Prefixes.{faults_at}
use Rattle.nr_spec_bgp.specs.Attributes.{Attribute, AttributeBlock, attributes_at, block_at, is_complete}
use Rattle.nr_spec_bgp.specs.Messages.{Changes, Meaning, Opens, Updates, Notifies, KeepsAlive, Refreshes, cidrs_at, sized_part_at, update_at, open_at, body_at, is_marker, message_at, message_of}
use Rattle.nr_spec_bgp.proofs.Steps.{bind_ok, ok_is, wants_ok, faults_ok}
use Rattle.nr_spec_bgp.proofs.Back.{spot, then_back, byte_back, bytes_back, part_back, wants_back}
use Rattle.nr_laws_bgp.specs.Grammar.{AreAttributes, IsMessageOf, IsOpen, IsUpdate, IsMessage}
use Rattle.nr_laws_bgp.specs.Values.{Holds, AreComplete}
use Rattle.nr_laws_bgp.proofs.Pieces.{none_left, number_found, number_again, byte_found, bytes_found, part_found}
use Rattle.nr_laws_bgp.proofs.ValueReading.{complete_found, complete_again}
use Rattle.nr_laws_bgp.proofs.GrammarWalk.{cidrs_found, cidrs_again, attributes_found, attributes_again}

test_of : (b : Bool) → (b ≡ true) ⊎ (b ≡ false)
test_of true = inl refl
test_of false = inr refl

pub of_both : (a b : Bool) → (a && b) ≡ true → (a ≡ true) × (b ≡ true)
of_both true true e = (refl, refl)
of_both true false e = absurd cc
of_both false b e = absurd cc

both_true : (a b : Bool) → a ≡ true → b ≡ true → (a && b) ≡ true
both_true true true p q = refl
both_true true false p q = absurd cc
both_true false b p q = absurd cc

either_of : (a b : Bool) → (a || b) ≡ true → (a ≡ true) ⊎ (b ≡ true)
either_of true b e = inl refl
either_of false b e = inr e

either_true : (a b : Bool) → (a ≡ true) ⊎ (b ≡ true) → (a || b) ≡ true
either_true true b h = refl
either_true false true h = refl
either_true false false (inl e) = absurd cc
either_true false false (inr e) = absurd cc

-- ---- the parts of an UPDATE

pub record IsPart (bytes part more : List ℕ) : Type 0 where
  pub size : List ℕ
  pub spelled : bytes ≡ size ++ (part ++ more)
  pub sized : Holds 2 (length part) size

sized_found : (s : Spot) (x : Spot × Spot) → sized_part_at s ≡ Ok x → IsPart s.rest x.0.rest x.1.rest
sized_found s x e =
    let a = bind_ok (number_at 2 s) (λ size. faults_at s.at (part_at size.0 size.1)) x e in
    let f = number_found 2 s a.0 a.1 in
    let p = part_found a.0.0 a.0.1 x (faults_ok s.at (part_at a.0.0 a.0.1) x a.2) in
    record { size = f.field; spelled = f.spelled ∙ ap (λ (t : List ℕ). f.field ++ t) p.1; sized = record { len = f.holds.len; value = f.holds.value ∙ sym p.0 } }

sized_again : (at : ℕ) (size part more : List ℕ) → Holds 2 (length part) size → sized_part_at (spot at (size ++ (part ++ more))) ≡ Ok (spot (at + 2) part, spot (at + 2 + length part) more)
sized_again at size part more h =
    then_back (number_at 2 (spot at (size ++ (part ++ more)))) (λ n. faults_at at (part_at n.0 n.1)) (length part, spot (at + 2) (part ++ more)) _ (number_again 2 (length part) at size (part ++ more) h)
    (ap (λ (r : Read Spot). faults_at at r) (part_back (length part) (at + 2) part more refl))

block_found : (as4 : Bool) (s : Spot) (b : AttributeBlock) → block_at as4 s ≡ Ok b → (b.block ≡ s.rest) × (b.as4 ≡ as4) × AreAttributes as4 [] s.rest b.list
unfolding block_at
block_found as4 s b e =
    let list = bind_ok (attributes_at as4 s) (λ (l : List Attribute). let r : Result AttributeBlock ℕ = Ok (record { block = s.rest; as4 = as4; list = l }) in r) b e in
    let same = ok_is (record { block = s.rest; as4 = as4; list = list.0 }) b list.2 in
    subst (λ (c : AttributeBlock). (c.block ≡ s.rest) × (c.as4 ≡ as4) × AreAttributes as4 [] s.rest c.list) same (refl, refl, attributes_found as4 s list.0 list.1)

update_found : (as4 : Bool) (s : Spot) (m : Meaning) → update_at as4 s ≡ Ok m → (c : Changes) × (m ≡ Updates c) × IsUpdate as4 s.rest c
unfolding update_at
update_found as4 s m e =
    let wp = bind_ok (sized_part_at s) _ m e in
    let w = bind_ok (cidrs_at wp.0.0) _ m wp.2 in
    let bp = bind_ok (sized_part_at wp.0.1) _ m w.2 in
    let b = bind_ok (block_at as4 bp.0.0) _ m bp.2 in
    let f = bind_ok (wants (eqb (length bp.0.1.rest) 0 || is_complete b.0.list) bp.0.1.at b.0) _ m b.2 in
    let n = bind_ok (cidrs_at bp.0.1) _ m f.2 in
    let fine = wants_ok (eqb (length bp.0.1.rest) 0 || is_complete b.0.list) bp.0.1.at b.0 f.0 f.1 in
    let p = sized_found s wp.0 wp.1 in
    let q = sized_found wp.0.1 bp.0 bp.1 in
    let block = block_found as4 bp.0.0 b.0 b.1 in
    let c : Changes = record { withdrawn = w.0; attributes = b.0; announced = n.0 } in
    let c-is : m ≡ Updates c = sym (ok_is (Updates (record { withdrawn = w.0; attributes = f.0; announced = n.0 })) m n.2) ∙ ap (λ (x : AttributeBlock). Updates (record { withdrawn = w.0; attributes = x; announced = n.0 })) (sym fine.1) in (
      c,
      c-is,
      record {
        withdrawn_size = p.size;
        withdrawn_part = wp.0.0.rest;
        block_size = q.size;
        announced_part = bp.0.1.rest;
        spelled = p.spelled ∙ ap (λ (t : List ℕ). p.size ++ (wp.0.0.rest ++ t)) (q.spelled ∙ ap (λ (t : List ℕ). q.size ++ (t ++ bp.0.1.rest)) (sym block.0));
        withdrawn_sized = p.sized;
        block_sized = subst (λ (t : List ℕ). Holds 2 (length t) q.size) (sym block.0) q.sized;
        withdrawn = cidrs_found wp.0.0 w.0 w.1;
        as4_is = block.1;
        attributes = subst (λ (t : List ℕ). AreAttributes as4 [] t b.0.list) (sym block.0) block.2;
        announced = cidrs_found bp.0.1 n.0 n.1;
        complete = ended (length bp.0.1.rest) b.0.list (either_of (eqb (length bp.0.1.rest) 0) (is_complete b.0.list) fine.0);
      },
    )
  where
    ended : (n : ℕ) (list : List Attribute) → (eqb n 0 ≡ true) ⊎ (is_complete list ≡ true) → (n ≡ 0) ⊎ AreComplete list
    ended n list (inl t) = inl (eqb-true n 0 t)
    ended n list (inr t) = inr (complete_found list t)

block_again : (as4 : Bool) (at : ℕ) (b : AttributeBlock) → b.as4 ≡ as4 → AreAttributes as4 [] b.block b.list → block_at as4 (spot at b.block) ≡ Ok b
unfolding block_at
block_again as4 at b same h =
    then_back (attributes_at as4 (spot at b.block)) _ b.list _ (attributes_again as4 b.block b.list h at) (ap (λ (w : Bool). let r : Result AttributeBlock ℕ = Ok (record { block = b.block; as4 = w; list = b.list }) in r) (sym same))

update_again : (as4 : Bool) (at : ℕ) (body : List ℕ) (c : Changes) → IsUpdate as4 body c → update_at as4 (spot at body) ≡ Ok (Updates c)
unfolding update_at
update_again as4 at body c h =
    let b = c.attributes in
    let behind-block = h.announced_part in
    let behind-withdrawn = h.block_size ++ (b.block ++ behind-block) in
    let at-block = at + 2 + length h.withdrawn_part in
    let at-here = at-block + 2 + length b.block in
    let fine : (eqb (length behind-block) 0 || is_complete b.list) ≡ true = either_true _ _ (begun (length behind-block) b.list h.complete) in
    ap (λ (t : List ℕ). update_at as4 (spot at t)) h.spelled
    ∙ then_back (sized_part_at (spot at (h.withdrawn_size ++ (h.withdrawn_part ++ behind-withdrawn)))) _ (spot (at + 2) h.withdrawn_part, spot at-block behind-withdrawn) _ (sized_again at h.withdrawn_size h.withdrawn_part behind-withdrawn h.withdrawn_sized)
    (then_back (cidrs_at (spot (at + 2) h.withdrawn_part)) _ c.withdrawn _ (cidrs_again h.withdrawn_part c.withdrawn h.withdrawn (at + 2))
    (then_back (sized_part_at (spot at-block behind-withdrawn)) _ (spot (at-block + 2) b.block, spot at-here behind-block) _ (sized_again at-block h.block_size b.block behind-block h.block_sized)
    (then_back (block_at as4 (spot (at-block + 2) b.block)) _ b _ (block_again as4 (at-block + 2) b h.as4_is h.attributes)
    (then_back (wants (eqb (length behind-block) 0 || is_complete b.list) at-here b) _ b _ (wants_back (eqb (length behind-block) 0 || is_complete b.list) at-here b fine)
    (then_back (cidrs_at (spot at-here behind-block)) _ c.announced _ (cidrs_again behind-block c.announced h.announced at-here) refl)))))
  where
    begun : (n : ℕ) (list : List Attribute) → (n ≡ 0) ⊎ AreComplete list → (eqb n 0 ≡ true) ⊎ (is_complete list ≡ true)
    begun n list (inl t) = inl (eq-eqb n 0 t)
    begun n list (inr t) = inr (complete_again list t)

-- ---- OPEN

open_found : (size : ℕ) (s : Spot) (m : Meaning) → size ≡ 19 + length s.rest → open_at size s ≡ Ok m → (m ≡ Opens) × IsOpen s.rest
unfolding open_at
open_found size s m whole e =
    let f = bind_ok (bytes_at 9 s) _ m e in
    let p = bind_ok (number_at 1 f.0.1) _ m f.2 in
    let w = wants_ok (eqb (p.0.0 + 29) size) f.0.1.at Opens m p.2 in
    let fixed = bytes_found 9 s f.0 f.1 in
    let byte = byte_found f.0.1 p.0 p.1 in
    let count = eqb-true (p.0.0 + 29) size w.0 in
    let len : length s.rest ≡ length f.0.0 + length f.0.1.rest = ap length fixed.1 ∙ length-append f.0.0 f.0.1.rest in
    let behind : length f.0.1.rest ≡ suc (length p.0.1.rest) = ap length byte in
    let params : p.0.0 ≡ length p.0.1.rest = omega (arith, fixed.0) in
    (sym w.1, record { fixed = f.0.0; parameters = p.0.1.rest; spelled = fixed.1 ∙ ap (λ (t : List ℕ). f.0.0 ++ t) (byte ∙ ap (λ (n : ℕ). n ∷ p.0.1.rest) params); whole = fixed.0 })

open_again : (size at : ℕ) (body : List ℕ) → size ≡ 19 + length body → IsOpen body → open_at size (spot at body) ≡ Ok Opens
unfolding open_at
open_again size at body whole h =
    let behind = length h.parameters ∷ h.parameters in
    let len = ap length h.spelled ∙ length-append h.fixed behind in
    let count : eqb (length h.parameters + 29) size ≡ true = eq-eqb _ _ (omega (arith, h.whole, len)) in
    ap (λ (t : List ℕ). open_at size (spot at t)) h.spelled
    ∙ then_back (bytes_at 9 (spot at (h.fixed ++ behind))) _ (h.fixed, spot (at + 9) behind) _ (bytes_back 9 at h.fixed behind h.whole)
    (then_back (number_at 1 (spot (at + 9) behind)) _ (length h.parameters, spot (at + 9 + 1) h.parameters) _ (byte_back (length h.parameters) (at + 9) h.parameters)
    (wants_back (eqb (length h.parameters + 29) size) (at + 9) Opens count))

-- ---- the body of each type

abbrev IsBody : Bool → ℕ → List ℕ → Meaning → Type 0
IsBody as4 kind body Opens = (kind ≡ 1) × IsOpen body
IsBody as4 kind body (Updates c) = (kind ≡ 2) × IsUpdate as4 body c
IsBody as4 kind body Notifies = (kind ≡ 3) × (2 ≤ length body)
IsBody as4 kind body KeepsAlive = (kind ≡ 4) × (body ≡ [])
IsBody as4 kind body Refreshes = (kind ≡ 5) × (4 ≤ length body)

body_1 : (as4 : Bool) (size p q : ℕ) (s : Spot) (m : Meaning) → size ≡ 19 + length s.rest → body_at as4 size p 1 q s ≡ Ok m → IsBody as4 1 s.rest m
unfolding body_at
body_1 as4 size p q s m whole e =
    let w = bind_ok (wants (leb 29 size) p s) (λ body. open_at size body) m e in
    let same = wants_ok (leb 29 size) p s w.0 w.1 in
    let o = open_found size s m whole (ap (open_at size) same.1 ∙ w.2) in
    subst (IsBody as4 1 s.rest) (sym o.0) (refl, o.1)

body_2 : (as4 : Bool) (size p q : ℕ) (s : Spot) (m : Meaning) → body_at as4 size p 2 q s ≡ Ok m → IsBody as4 2 s.rest m
unfolding body_at
body_2 as4 size p q s m e =
    let w = bind_ok (wants (leb 23 size) p s) (λ body. update_at as4 body) m e in
    let same = wants_ok (leb 23 size) p s w.0 w.1 in
    let u = update_found as4 s m (ap (update_at as4) same.1 ∙ w.2) in
    subst (IsBody as4 2 s.rest) (sym u.1) (refl, u.2)

body_3 : (as4 : Bool) (size p q : ℕ) (s : Spot) (m : Meaning) → size ≡ 19 + length s.rest → body_at as4 size p 3 q s ≡ Ok m → IsBody as4 3 s.rest m
unfolding body_at
body_3 as4 size p q s m whole e =
    let w = wants_ok (leb 21 size) p Notifies m e in
    let long = leb-true 21 size w.0 in
    subst (IsBody as4 3 s.rest) w.1 (refl, omega arith)

body_4 : (as4 : Bool) (size p q : ℕ) (s : Spot) (m : Meaning) → size ≡ 19 + length s.rest → body_at as4 size p 4 q s ≡ Ok m → IsBody as4 4 s.rest m
unfolding body_at
body_4 as4 size p q s m whole e =
    let w = wants_ok (eqb size 19) p KeepsAlive m e in
    let exact = eqb-true size 19 w.0 in
    subst (IsBody as4 4 s.rest) w.1 (refl, none_left s.rest (omega arith))

body_5 : (as4 : Bool) (size p q : ℕ) (s : Spot) (m : Meaning) → size ≡ 19 + length s.rest → body_at as4 size p 5 q s ≡ Ok m → IsBody as4 5 s.rest m
unfolding body_at
body_5 as4 size p q s m whole e =
    let w = wants_ok (leb 23 size) p Refreshes m e in
    let long = leb-true 23 size w.0 in
    subst (IsBody as4 5 s.rest) w.1 (refl, omega arith)

body_other : (as4 : Bool) (size p kind q : ℕ) (s : Spot) (m : Meaning) → eqb kind 1 ≡ false → eqb kind 2 ≡ false → eqb kind 3 ≡ false → eqb kind 4 ≡ false → eqb kind 5 ≡ false → body_at as4 size p kind q s ≡ Ok m → ⊥
unfolding body_at
body_other as4 size p kind q s m n1 n2 n3 n4 n5 e = let no : body_at as4 size p kind q s ≡ Err q = rw (n1, n2, n3, n4, n5) refl in cc

body_found : (as4 : Bool) (size p kind q : ℕ) (s : Spot) (m : Meaning) → size ≡ 19 + length s.rest → body_at as4 size p kind q s ≡ Ok m → IsBody as4 kind s.rest m
body_found as4 size p kind q s m whole e =
    let P : ℕ → Type 0 = λ k. body_at as4 size p k q s ≡ Ok m → IsBody as4 k s.rest m in
    elim (test_of (eqb kind 1)) [
      | inl t ↦ subst P (sym (eqb-true kind 1 t)) (body_1 as4 size p q s m whole) e
      | inr n1 ↦
          elim (test_of (eqb kind 2)) [
            | inl t ↦ subst P (sym (eqb-true kind 2 t)) (body_2 as4 size p q s m) e
            | inr n2 ↦
                elim (test_of (eqb kind 3)) [
                  | inl t ↦ subst P (sym (eqb-true kind 3 t)) (body_3 as4 size p q s m whole) e
                  | inr n3 ↦
                      elim (test_of (eqb kind 4)) [
                        | inl t ↦ subst P (sym (eqb-true kind 4 t)) (body_4 as4 size p q s m whole) e
                        | inr n4 ↦
                            elim (test_of (eqb kind 5)) [ inl t ↦ subst P (sym (eqb-true kind 5 t)) (body_5 as4 size p q s m whole) e | inr n5 ↦ absurd (body_other as4 size p kind q s m n1 n2 n3 n4 n5 e) ]
                      ]
                ]
          ]
    ]

-- ---- the header

pub ones_are : (n : ℕ) (bytes : List ℕ) → length bytes ≡ n → list_all (λ b. eqb b 255) bytes ≡ true → bytes ≡ replicate n 255
ones_are zero bytes len e = none_left bytes len
ones_are (suc n) [] len e = absurd (omega arith)
ones_are (suc n) (b ∷ bytes) len e =
    let t = of_both (eqb b 255) (list_all (λ b. eqb b 255) bytes) e in
    joined b 255 bytes (replicate n 255) (eqb-true b 255 t.0) (ones_are n bytes (omega arith) t.1)
  where
    joined : (a b : ℕ) (u v : List ℕ) → a ≡ b → u ≡ v → a ∷ u ≡ b ∷ v
    joined a b u v p q = cc

pair_of : (k l : ℕ) (u v : List ℕ) → k ≡ l → u ≡ v → (let x : ℕ × List ℕ = (k, u) in x) ≡ (l, v)
pair_of k l u v p q = cc

by_kind : (as4 : Bool) (raw : List ℕ) (kind : ℕ) (body : List ℕ) (m : Meaning) → IsMessageOf raw kind body → IsBody as4 kind body m → IsMessage as4 raw m
by_kind as4 raw kind body Opens h b = (body, subst (λ k. IsMessageOf raw k body) b.0 h, b.1)
by_kind as4 raw kind body (Updates c) h b = (body, subst (λ k. IsMessageOf raw k body) b.0 h, b.1)
by_kind as4 raw kind body Notifies h b = (body, subst (λ k. IsMessageOf raw k body) b.0 h, b.1)
by_kind as4 raw kind body KeepsAlive h b = subst (λ (x : ℕ × List ℕ). IsMessageOf raw x.0 x.1) (pair_of kind 4 body [] b.0 b.1) h
by_kind as4 raw kind body Refreshes h b = (body, subst (λ k. IsMessageOf raw k body) b.0 h, b.1)

pub message_found : (as4 : Bool) (raw : List ℕ) (m : Meaning) → message_of as4 raw ≡ Ok m → IsMessage as4 raw m
unfolding message_at
message_found as4 raw m e =
    let a = bind_ok (bytes_at 16 (start_of raw)) _ m e in
    let b = bind_ok (wants (is_marker a.0.0) 0 a.0.1) _ m a.2 in
    let c = bind_ok (number_at 2 b.0) _ m b.2 in
    let d = bind_ok (wants (leb 19 c.0.0 && eqb c.0.0 (length raw)) b.0.at c.0.0) _ m c.2 in
    let k = bind_ok (number_at 1 c.0.1) _ m d.2 in
    let ones = wants_ok (is_marker a.0.0) 0 a.0.1 b.0 b.1 in
    let size = wants_ok (leb 19 c.0.0 && eqb c.0.0 (length raw)) b.0.at c.0.0 d.0 d.1 in
    let marker = bytes_found 16 (start_of raw) a.0 a.1 in
    let field = number_found 2 b.0 c.0 c.1 in
    let byte = byte_found c.0.1 k.0 k.1 in
    let whole : c.0.0 ≡ length raw = eqb-true c.0.0 (length raw) (of_both (leb 19 c.0.0) (eqb c.0.0 (length raw)) size.0).1 in
    let all-ones : a.0.0 ≡ replicate 16 255 = ones_are 16 a.0.0 marker.0 ones.0 in
    let behind : a.0.1.rest ≡ field.field ++ (k.0.0 ∷ k.0.1.rest) = ap (λ (s : Spot). s.rest) ones.1 ∙ field.spelled ∙ ap (λ (t : List ℕ). field.field ++ t) byte in
    let spelled : raw ≡ replicate 16 255 ++ (field.field ++ (k.0.0 ∷ k.0.1.rest)) = marker.1 ∙ ap (λ (t : List ℕ). t ++ a.0.1.rest) all-ones ∙ ap (λ (t : List ℕ). replicate 16 255 ++ t) behind in
    let header : IsMessageOf raw k.0.0 k.0.1.rest = record { size = field.field; spelled = spelled; sized = record { len = field.holds.len; value = field.holds.value ∙ whole } } in
    let len : d.0 ≡ 19 + length k.0.1.rest =
    sym size.1 ∙ whole ∙ ap length spelled ∙ ap (λ (n : ℕ). suc (suc (suc (suc (suc (suc (suc (suc (suc (suc (suc (suc (suc (suc (suc (suc n)))))))))))))))) (length-append field.field (k.0.0 ∷ k.0.1.rest)) ∙ omega (arith, field.holds.len) in
    by_kind as4 raw k.0.0 k.0.1.rest m header (body_found as4 d.0 b.0.at k.0.0 c.0.1.at k.0.1 m len k.2)

pub header_again : (as4 : Bool) (raw : List ℕ) (kind : ℕ) (body : List ℕ) → IsMessageOf raw kind body → message_of as4 raw ≡ body_at as4 (19 + length body) 16 kind 18 (spot 19 body)
unfolding message_at
header_again as4 raw kind body h =
    let behind-size = kind ∷ body in
    let behind-marker = h.size ++ behind-size in
    let bytes = replicate 16 255 ++ behind-marker in
    let len : length raw ≡ 19 + length body =
    ap length h.spelled ∙ ap (λ (n : ℕ). suc (suc (suc (suc (suc (suc (suc (suc (suc (suc (suc (suc (suc (suc (suc (suc n)))))))))))))))) (length-append h.size behind-size) ∙ omega (arith, h.sized.len) in
    let size = 19 + length body in
    let whole : length bytes ≡ size = sym (ap length h.spelled) ∙ len in
    let fits : (leb 19 size && eqb size (length bytes)) ≡ true = both_true (leb 19 size) (eqb size (length bytes)) (le-leb 19 size (omega arith)) (eq-eqb size (length bytes) (sym whole)) in
    let holds : Holds 2 size h.size = record { len = h.sized.len; value = h.sized.value ∙ len } in
    ap (λ (t : List ℕ). message_at as4 (spot 0 t)) h.spelled
    ∙ then_back (bytes_at 16 (spot 0 bytes)) _ (replicate 16 255, spot 16 behind-marker) _ (bytes_back 16 0 (replicate 16 255) behind-marker refl)
    (then_back (number_at 2 (spot 16 behind-marker)) _ (size, spot 18 behind-size) _ (number_again 2 size 16 h.size behind-size holds)
    (then_back (wants (leb 19 size && eqb size (length bytes)) 16 size) _ size _ (wants_back (leb 19 size && eqb size (length bytes)) 16 size fits)
    (then_back (number_at 1 (spot 18 behind-size)) _ (kind, spot 19 body) _ (byte_back kind 18 body) refl)))

at_least : (n : ℕ) (body : List ℕ) → n ≤ length body → leb (19 + n) (19 + length body) ≡ true
at_least n body h = le-leb (19 + n) (19 + length body) (omega arith)

pub message_again : (as4 : Bool) (raw : List ℕ) (m : Meaning) → IsMessage as4 raw m → message_of as4 raw ≡ Ok m
unfolding body_at
message_again as4 raw Opens h =
    let size = 19 + length h.0 in
    let len = ap length h.2.spelled ∙ length-append h.2.fixed (length h.2.parameters ∷ h.2.parameters) in
    let long : leb 29 size ≡ true = le-leb 29 size (omega (arith, h.2.whole)) in
    header_again as4 raw 1 h.0 h.1
    ∙ then_back (wants (leb 29 size) 16 (spot 19 h.0)) (λ body. open_at size body) (spot 19 h.0) _ (wants_back (leb 29 size) 16 (spot 19 h.0) long) (open_again size 19 h.0 refl h.2)
message_again as4 raw (Updates c) h =
    let size = 19 + length h.0 in
    let u = h.2 in
    let long : leb 23 size ≡ true = le-leb 23 size (omega (arith, update_len as4 h.0 c u)) in
    header_again as4 raw 2 h.0 h.1
    ∙ then_back (wants (leb 23 size) 16 (spot 19 h.0)) (λ body. update_at as4 body) (spot 19 h.0) _ (wants_back (leb 23 size) 16 (spot 19 h.0) long) (update_again as4 19 h.0 c h.2)
  where
    update_len : (as4 : Bool) (body : List ℕ) (c : Changes) → IsUpdate as4 body c → 4 ≤ length body
    update_len as4 body c u =
        let behind = u.block_size ++ (c.attributes.block ++ u.announced_part) in
        let whole = ap length u.spelled ∙ length-append u.withdrawn_size (u.withdrawn_part ++ behind) in
        omega (arith, whole, length-append u.withdrawn_part behind, length-append u.block_size (c.attributes.block ++ u.announced_part), u.withdrawn_sized.len, u.block_sized.len)
message_again as4 raw Notifies h = header_again as4 raw 3 h.0 h.1 ∙ wants_back (leb 21 (19 + length h.0)) 16 Notifies (at_least 2 h.0 h.2)
message_again as4 raw KeepsAlive h = header_again as4 raw 4 [] h ∙ wants_back (eqb 19 19) 16 KeepsAlive refl
message_again as4 raw Refreshes h = header_again as4 raw 5 h.0 h.1 ∙ wants_back (leb 23 (19 + length h.0)) 16 Refreshes (at_least 4 h.0 h.2)
