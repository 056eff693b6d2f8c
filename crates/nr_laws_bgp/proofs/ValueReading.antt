-- Reading is the grammar: the values of attributes.
use Rattle.std.proofs.Common.{◌≡◌, ◌≢◌, ℕ, zero, suc, ◌+◌, ◌*◌, ◌/◌, ◌%◌, ◌≤◌, ◌<◌, Bool, true, false, cond, eqb, leb, ◌&&◌, ◌||◌, List, [], ◌∷◌, ◌++◌, length, take, drop, Option, Some, Result, Ok, Err, refl, sym, ap, subst, ◌∙◌, arith, length-take, length-drop, length-append, inl, inr, ◌⊎◌}
use Rattle.std.specs.Prelude.{is_ok, is_some}
use Rattle.std.specs.List.{list_any}
use Rattle.std.specs.Result.{result_unwrap_or}
use Rattle.std.proofs.Math.Nat.{mul-div_cancel}
use Rattle.std.proofs.lemmas.Bool.{le-leb, leb-true, eqb-true, eq-eqb}
use Rattle.std.proofs.lemmas.List.{take-append-drop, drop_at}
use Rattle.std.proofs.lemmas.List.Folds.{Any-from_list_any, list_any-from_Any}
use Rattle.byteorder.specs.Endian.{big_number}
use Rattle.byteorder.specs.Numbers.{big_from-take, big_from-append}
use Rattle.nr_spec_wire.specs.Reading.{Spot, Read, start_of, number_at, bytes_at, wants}
use Rattle.nr_spec_bgp.specs.Paths.{Segment, as_size, counted_numbers, numbers_in, segment_at, segments_at}
use Rattle.nr_spec_bgp.specs.Attributes.{Attribute, AttributeBlock, is_origin, is_words, is_value, first_of, may_follow, is_complete, path_in, path_of, communities_in, communities_of}
use Rattle.nr_spec_bgp.proofs.Steps.{bind_ok, ok_is, wants_ok}
use Rattle.nr_spec_bgp.proofs.Back.{spot, then_back, byte_back, bytes_back, wants_back}
use Rattle.nr_spec_bgp.proofs.Walks.{segment_eats, all_step, all_end, each_value}
use Rattle.nr_spec_bgp.proofs.Short.{length_numbers}
use Rattle.nr_laws_bgp.specs.Values.{as_width, AreNumbers, IsSegmentIn, AreSegments, IsValueOf, Has, MayFollow, AreComplete}
use Rattle.nr_laws_bgp.proofs.Pieces.{none_left, byte_found, bytes_found}

-- ---- numbers

counted_found : (size : ℕ) (count : ℕ) (bytes : List ℕ) → length bytes ≡ count * size → AreNumbers size bytes (counted_numbers count size bytes)
counted_found size zero bytes len = none_left bytes (omega (arith, len))
counted_found size (suc count) bytes len =
    let long : size ≤ length bytes = omega (arith, len) in (
      take size bytes,
      drop size bytes,
      sym (take-append-drop size bytes),
      record { len = omega (arith, length-take size bytes, long); value = big_from-take 0 size size bytes (omega arith) },
      counted_found size count (drop size bytes) (omega (arith, len, length-drop size bytes)),
    )

pub numbers_found : (size count : ℕ) (bytes : List ℕ) → 0 < size → length bytes ≡ count * size → (length (numbers_in size bytes) ≡ count) × AreNumbers size bytes (numbers_in size bytes)
numbers_found size count bytes some len =
    let n : length bytes / size ≡ count = ap (λ (k : ℕ). k / size) len ∙ mul-div_cancel count some in
    (length_numbers size bytes ∙ n, rw n (counted_found size count bytes len))

pub numbers_len : (size : ℕ) (numbers bytes : List ℕ) → AreNumbers size bytes numbers → length bytes ≡ length numbers * size
numbers_len size [] bytes h = let none : length bytes ≡ 0 = ap length h in omega (arith, none)
numbers_len size (n ∷ numbers) bytes h =
    let others = numbers_len size numbers h.1 h.4 in
    omega (arith, ap length h.2, length-append h.0 h.1, h.3.len, others)

counted_again : (size : ℕ) (numbers bytes : List ℕ) → AreNumbers size bytes numbers → counted_numbers (length numbers) size bytes ≡ numbers
counted_again size [] bytes h = refl
counted_again size (n ∷ numbers) bytes h =
    let first : big_number size bytes ≡ n = ap (big_number size) h.2 ∙ big_from-append size h.0 h.1 (omega (arith, h.3.len)) ∙ h.3.value in
    let rest : drop size bytes ≡ h.1 = ap (drop size) h.2 ∙ drop_at h.0 h.1 size h.3.len in
    let others = counted_again size numbers h.1 h.4 in
    rw (first, rest, others) refl

pub numbers_again : (size : ℕ) (numbers bytes : List ℕ) → 0 < size → AreNumbers size bytes numbers → numbers_in size bytes ≡ numbers
numbers_again size numbers bytes some h =
    let n : length bytes / size ≡ length numbers = ap (λ (k : ℕ). k / size) (numbers_len size numbers bytes h) ∙ mul-div_cancel (length numbers) some in
    rw n (counted_again size numbers bytes h)

same_width : (as4 : Bool) → as_size as4 ≡ as_width as4
same_width true = refl
same_width false = refl

pub some_size : (as4 : Bool) → 0 < as_size as4
some_size true = omega arith
some_size false = omega arith

-- ---- segments

both_true : (a b : Bool) → (a && b) ≡ true → (a ≡ true) × (b ≡ true)
both_true true true e = (refl, refl)
both_true true false e = absurd cc
both_true false b e = absurd cc

and_true : (a b : Bool) → a ≡ true → b ≡ true → (a && b) ≡ true
and_true true true p q = refl
and_true true false p q = absurd cc
and_true false b p q = absurd cc

front_of : (a b n m : ℕ) (u v : List ℕ) → a ≡ b → n ≡ m → u ≡ v → a ∷ n ∷ u ≡ b ∷ m ∷ v
front_of a b n m u v p q r = cc

segment_found : (as4 : Bool) (s : Spot) (x : Segment × Spot) → segment_at as4 s ≡ Ok x → IsSegmentIn as4 s.rest x.0 x.1.rest
unfolding segment_at
segment_found as4 s x e =
    let size = as_size as4 in
    let a = bind_ok (number_at 1 s) _ x e in
    let b = bind_ok (wants (leb 1 a.0.0 && leb a.0.0 4) s.at a.0.0) _ x a.2 in
    let c = bind_ok (number_at 1 a.0.1) _ x b.2 in
    let d = bind_ok (wants (leb 1 c.0.0) a.0.1.at c.0.0) _ x c.2 in
    let f = bind_ok (bytes_at (d.0 * size) c.0.1) _ x d.2 in
    let known = wants_ok (leb 1 a.0.0 && leb a.0.0 4) s.at a.0.0 b.0 b.1 in
    let counted = wants_ok (leb 1 c.0.0) a.0.1.at c.0.0 d.0 d.1 in
    let range = both_true (leb 1 a.0.0) (leb a.0.0 4) known.0 in
    let part = bytes_found (d.0 * size) c.0.1 f.0 f.1 in
    let numbers = numbers_found size d.0 f.0.0 (some_size as4) part.0 in
    let made : IsSegmentIn as4 s.rest (record { kind = b.0; numbers = numbers_in size f.0.0 }) f.0.1.rest = record {
      part = f.0.0;
      spelled = byte_found s a.0 a.1 ∙ ap (λ (t : List ℕ). a.0.0 ∷ t) (byte_found a.0.1 c.0 c.1)
          ∙ front_of a.0.0 b.0 c.0.0 (length (numbers_in size f.0.0)) c.0.1.rest (f.0.0 ++ f.0.1.rest) known.1 (counted.1 ∙ sym numbers.0) part.1;
      least = subst (λ (k : ℕ). 1 ≤ k) known.1 (leb-true 1 a.0.0 range.0);
      most = subst (λ (k : ℕ). k ≤ 4) known.1 (leb-true a.0.0 4 range.1);
      some = subst (λ (k : ℕ). 1 ≤ k) (counted.1 ∙ sym numbers.0) (leb-true 1 c.0.0 counted.0);
      numbers = subst (λ (n : ℕ). AreNumbers n f.0.0 (numbers_in size f.0.0)) (same_width as4) numbers.1;
    } in
    subst (λ (y : Segment × Spot). IsSegmentIn as4 s.rest y.0 y.1.rest) (ok_is (record { kind = b.0; numbers = numbers_in size f.0.0 }, f.0.1) x f.2) made

segment_again : (as4 : Bool) (bytes : List ℕ) (g : Segment) (more : List ℕ) → IsSegmentIn as4 bytes g more → (at : ℕ) → (there : ℕ) × (segment_at as4 (spot at bytes) ≡ Ok (g, spot there more))
unfolding segment_at
segment_again as4 bytes g more h at =
    let size = as_size as4 in
    let count = length g.numbers in
    let there = at + 1 + 1 + count * size in
    let after_kind = count ∷ (h.part ++ more) in
    let known : (leb 1 g.kind && leb g.kind 4) ≡ true = and_true _ _ (le-leb 1 g.kind h.least) (le-leb g.kind 4 h.most) in
    let numbers : AreNumbers size h.part g.numbers = subst (λ (n : ℕ). AreNumbers n h.part g.numbers) (sym (same_width as4)) h.numbers in
    let same = numbers_again size g.numbers h.part (some_size as4) numbers in
    let read : segment_at as4 (spot at (g.kind ∷ after_kind)) ≡ Ok (record { kind = g.kind; numbers = numbers_in size h.part }, spot there more) =
    then_back (number_at 1 (spot at (g.kind ∷ after_kind))) _ (g.kind, spot (at + 1) after_kind) _ (byte_back g.kind at after_kind)
    (then_back (wants (leb 1 g.kind && leb g.kind 4) at g.kind) _ g.kind _ (wants_back _ at g.kind known)
    (then_back (number_at 1 (spot (at + 1) after_kind)) _ (count, spot (at + 1 + 1) (h.part ++ more)) _ (byte_back count (at + 1) (h.part ++ more))
    (then_back (wants (leb 1 count) (at + 1) count) _ count _ (wants_back _ (at + 1) count (le-leb 1 count h.some))
    (then_back (bytes_at (count * size) (spot (at + 1 + 1) (h.part ++ more))) _ (h.part, spot there more) _ (bytes_back (count * size) (at + 1 + 1) h.part more (numbers_len size g.numbers h.part numbers)) refl)))) in
    (there, ap (λ (b : List ℕ). segment_at as4 (spot at b)) h.spelled ∙ read ∙ ap (λ (ns : List ℕ). let r : Read Segment = Ok (record { kind = g.kind; numbers = ns }, spot there more) in r) same)

pub segments_found : (as4 : Bool) (s : Spot) (path : List Segment) → segments_at as4 s ≡ Ok path → AreSegments as4 s.rest path
segments_found as4 s path e =
    each_value (segment_at as4) (segment_eats as4) (λ t p. AreSegments as4 t.rest p) (λ t none. none_left t.rest none)
    (λ t x rest is there. (x.1.rest, segment_found as4 t x is, there)) s path e

segment_some : (as4 : Bool) (bytes : List ℕ) (g : Segment) (more : List ℕ) → IsSegmentIn as4 bytes g more → length bytes ≢ 0
segment_some as4 bytes g more h none = let e = ap length h.spelled in omega arith

pub segments_again : (as4 : Bool) (bytes : List ℕ) (path : List Segment) → AreSegments as4 bytes path → (at : ℕ) → segments_at as4 (spot at bytes) ≡ Ok path
segments_again as4 bytes [] h at = all_end (segment_at as4) (spot at bytes) (ap length h)
segments_again as4 bytes (g ∷ path) h at =
    let one = segment_again as4 bytes g h.0 h.1 at in
    all_step (segment_at as4) (segment_eats as4) (spot at bytes) (segment_some as4 bytes g h.0 h.1)
    ∙ then_back (segment_at as4 (spot at bytes)) _ (g, spot one.0 h.0) _ one.1
    (then_back (segments_at as4 (spot one.0 h.0)) _ path _ (segments_again as4 h.0 path h.2 one.0) refl)

-- ---- what a value has to be

code_found : (value : List ℕ) → is_origin value ≡ true → (code : ℕ) × (value ≡ code ∷ []) × (code ≤ 2)
code_found [] e = absurd (omega (arith, eqb-true 0 1 (both_true (eqb 0 1) (leb (big_number 1 []) 2) e).0))
code_found (c ∷ []) e =
    let small = leb-true (big_number 1 (c ∷ [])) 2 (both_true (eqb 1 1) (leb (big_number 1 (c ∷ [])) 2) e).1 in
    (c, refl, omega (arith, small))
code_found (c ∷ d ∷ more) e =
    let bytes = c ∷ d ∷ more in
    let one = eqb-true (length bytes) 1 (both_true (eqb (length bytes) 1) (leb (big_number 1 bytes) 2) e).0 in
    absurd (omega (arith, one))

code_again : (code : ℕ) → code ≤ 2 → is_origin (code ∷ []) ≡ true
code_again code h = let value : big_number 1 (code ∷ []) ≡ code = omega arith in and_true (eqb 1 1) (leb (big_number 1 (code ∷ [])) 2) refl (ap (λ (n : ℕ). leb n 2) value ∙ le-leb code 2 h)

ok_of : (r : Result (List Segment) ℕ) → is_ok r ≡ true → (path : List Segment) × (r ≡ Ok path)
ok_of (Ok path) e = (path, refl)
ok_of (Err place) e = absurd cc

words_found : (value : List ℕ) → is_words value ≡ true → (numbers : List ℕ) × AreNumbers 4 value numbers
words_found value e =
    let whole : length value % 4 ≡ 0 = eqb-true _ 0 e in
    let count = length value / 4 in
    (numbers_in 4 value, (numbers_found 4 count value (omega arith) (omega (arith, whole))).1)

words_again : (value numbers : List ℕ) → AreNumbers 4 value numbers → is_words value ≡ true
words_again value numbers h = let len = numbers_len 4 numbers value h in eq-eqb (length value % 4) 0 (omega (arith, len))

pub value_found : (as4 : Bool) (kind : ℕ) (value : List ℕ) → is_value as4 kind value ≡ true → IsValueOf as4 kind value
value_found as4 kind value e = record {
  origin = λ k. code_found value (as_kind 1 k);
  as_path = λ k. let path = ok_of (segments_at as4 (start_of value)) (as_kind 2 k) in (path.0, segments_found as4 (start_of value) path.0 path.1);
  next_hop = λ k. eqb-true (length value) 4 (as_kind 3 k);
  multi_exit_disc = λ k. eqb-true (length value) 4 (as_kind 4 k);
  local_pref = λ k. eqb-true (length value) 4 (as_kind 5 k);
  communities = λ k. words_found value (as_kind 8 k);
}
  where
    as_kind : (n : ℕ) → kind ≡ n → is_value as4 n value ≡ true
    as_kind n k = sym (ap (λ (m : ℕ). is_value as4 m value) k) ∙ e

choose : (b x y : Bool) → (b ≡ true → x ≡ true) → (b ≡ false → y ≡ true) → cond b x y ≡ true
choose true x y p q = p refl
choose false x y p q = q refl

pub value_again : (as4 : Bool) (kind : ℕ) (value : List ℕ) → IsValueOf as4 kind value → is_value as4 kind value ≡ true
value_again as4 kind value h =
    choose (eqb kind 1) _ _ (λ t. let c = h.origin (eqb-true kind 1 t) in ap is_origin c.1 ∙ code_again c.0 c.2)
    (λ a. choose (eqb kind 2) _ _ (λ t. let p = h.as_path (eqb-true kind 2 t) in ap is_ok (segments_again as4 value p.0 p.1 0))
    (λ b. choose (eqb kind 3) _ _ (λ t. eq-eqb (length value) 4 (h.next_hop (eqb-true kind 3 t)))
    (λ c. choose (eqb kind 4) _ _ (λ t. eq-eqb (length value) 4 (h.multi_exit_disc (eqb-true kind 4 t)))
    (λ d. choose (eqb kind 5) _ _ (λ t. eq-eqb (length value) 4 (h.local_pref (eqb-true kind 5 t)))
    (λ f. choose (eqb kind 8) _ _ (λ t. let n = h.communities (eqb-true kind 8 t) in words_again value n.0 n.1) (λ g. refl))))))

-- ---- attributes of a type

first_is_any : (kind : ℕ) (list : List Attribute) → is_some (first_of kind list) ≡ list_any (λ a. eqb a.kind kind) list
first_is_any kind [] = refl
first_is_any kind (a ∷ list) = by_test (eqb a.kind kind) a.value (first_of kind list) (list_any (λ a. eqb a.kind kind) list) (first_is_any kind list)
  where
    by_test : (b : Bool) (v : List ℕ) (o : Option (List ℕ)) (any : Bool) → is_some o ≡ any → is_some (cond b (Some v) o) ≡ (b || any)
    by_test true v o any e = refl
    by_test false v o any e = e

pub has_found : (kind : ℕ) (list : List Attribute) → is_some (first_of kind list) ≡ true → Has kind list
has_found kind list e =
    let q = Any-from_list_any (λ a. eqb a.kind kind) list (sym (first_is_any kind list) ∙ e) in
    (q.0, q.1, q.2, q.3, eqb-true q.1.kind kind q.4)

pub has_again : (kind : ℕ) (list : List Attribute) → Has kind list → is_some (first_of kind list) ≡ true
has_again kind list q = first_is_any kind list ∙ list_any-from_Any (λ a. eqb a.kind kind) list (q.0, q.1, q.2, q.3, eq-eqb q.1.kind kind q.4)

either_of : (a b : Bool) → (a || b) ≡ true → (a ≡ true) ⊎ (b ≡ true)
either_of true b e = inl refl
either_of false b e = inr e

or_left : (a b : Bool) → a ≡ true → (a || b) ≡ true
or_left true b e = refl
or_left false b e = absurd cc

or_right : (a b : Bool) → b ≡ true → (a || b) ≡ true
or_right true b e = refl
or_right false b e = e

pub follows_found : (as4 : Bool) (before : List Attribute) (a : Attribute) → may_follow as4 before a ≡ true → MayFollow as4 before a
follows_found as4 before a e = elim (either_of (is_some (first_of a.kind before)) (is_value as4 a.kind a.value) e) [
  | inl old ↦ inl (has_found a.kind before old)
  | inr new ↦ inr (value_found as4 a.kind a.value new)
]

pub follows_again : (as4 : Bool) (before : List Attribute) (a : Attribute) → MayFollow as4 before a → may_follow as4 before a ≡ true
follows_again as4 before a (inl old) = or_left (is_some (first_of a.kind before)) (is_value as4 a.kind a.value) (has_again a.kind before old)
follows_again as4 before a (inr new) = or_right (is_some (first_of a.kind before)) (is_value as4 a.kind a.value) (value_again as4 a.kind a.value new)

pub complete_found : (list : List Attribute) → is_complete list ≡ true → AreComplete list
complete_found list e =
    let a = is_some (first_of 1 list) in
    let b = is_some (first_of 2 list) in
    let c = is_some (first_of 3 list) in
    let ab = both_true (a && b) c e in
    let parts = both_true a b ab.0 in
    record { origin = has_found 1 list parts.0; as_path = has_found 2 list parts.1; next_hop = has_found 3 list ab.1 }

pub complete_again : (list : List Attribute) → AreComplete list → is_complete list ≡ true
complete_again list h = and_true _ _ (and_true _ _ (has_again 1 list h.origin) (has_again 2 list h.as_path)) (has_again 3 list h.next_hop)

-- ---- the bytes of a path and of communities

pub segments_read : (as4 : Bool) (s : Spot) (path : List Segment) → AreSegments as4 s.rest path → segments_at as4 s ≡ Ok path
segments_read as4 s path h = segments_again as4 s.rest path h s.at

pub path_is : (b : AttributeBlock) (value : List ℕ) (path : List Segment) → first_of 2 b.list ≡ Some value → AreSegments b.as4 value path → path_of b ≡ path
path_is b value path e h =
    ap (path_in b.as4) e ∙ ap (λ (r : Result (List Segment) ℕ). result_unwrap_or r []) (segments_again b.as4 value path h 0)

pub communities_are : (b : AttributeBlock) (value numbers : List ℕ) → first_of 8 b.list ≡ Some value → AreNumbers 4 value numbers → communities_of b ≡ numbers
communities_are b value numbers e h = ap communities_in e ∙ numbers_again 4 numbers value (omega arith) h
