-- Fields as pieces of the bytes: what is read is such a piece, and such a piece is read.
use Rattle.std.proofs.Common.{◌≡◌, ℕ, ◌+◌, ◌≤◌, Bool, true, false, cond, ltb, List, [], ◌∷◌, ◌++◌, length, take, drop, Ok, Err, refl, sym, subst, ◌∙◌, arith, length-take, length-append}
use Rattle.std.proofs.lemmas.List.{take-append-drop, drop_at}
use Rattle.std.proofs.lemmas.Bool.{ltb-false, le-ltb}
use Rattle.byteorder.specs.Endian.{big_number}
use Rattle.byteorder.specs.Numbers.{big_from-take, big_from-append}
use Rattle.nr_spec_wire.proofs.Steps.{ok_is}
use Rattle.nr_spec_wire.specs.Reading.{Spot, past, number_at, bytes_at, part_at}
use Rattle.nr_spec_bgp.proofs.Steps.{number_takes, bytes_takes}
use Rattle.nr_spec_bgp.proofs.Back.{spot}
use Rattle.nr_laws_bgp.specs.Values.{Holds}

pub none_left : (bytes : List ℕ) → length bytes ≡ 0 → bytes ≡ []
none_left [] e = refl
none_left (x ∷ bytes) e = absurd (omega arith)

enough : (xs more : List ℕ) (n : ℕ) → length xs ≡ n → ltb (length (xs ++ more)) n ≡ false
enough xs more n e = le-ltb _ _ (omega (arith, length-append xs more))

-- a test that did not fail
guard_ok : {A : Type 0} (b : Bool) (d : ℕ) (x y : A) → cond b (Err d) (Ok x) ≡ Ok y → (b ≡ false) × (x ≡ y)
guard_ok true d x y e = absurd cc
guard_ok false d x y e = (refl, ok_is x y e)

-- a field in front of the bytes
pub record IsField (size n : ℕ) (bytes more : List ℕ) : Type 0 where
  pub field : List ℕ
  pub spelled : bytes ≡ field ++ more
  pub holds : Holds size n field

pub number_found : (n : ℕ) (s : Spot) (x : ℕ × Spot) → number_at n s ≡ Ok x → IsField n x.0 s.rest x.1.rest
number_found n s x e =
    let t = number_takes n s x e in
    let field = take n s.rest in
    let made : IsField n (big_number n s.rest) s.rest (drop n s.rest) = record {
      field = field;
      spelled = sym (take-append-drop n s.rest);
      holds = record { len = omega (arith, length-take n s.rest, t.0); value = big_from-take 0 n n s.rest (omega arith) };
    } in
    subst (λ (y : ℕ × Spot). IsField n y.0 s.rest y.1.rest) (sym t.1) made

pub number_again : (size n at : ℕ) (field more : List ℕ) → Holds size n field → number_at size (spot at (field ++ more)) ≡ Ok (n, spot (at + size) more)
number_again size n at field more h =
    let value : big_number size (field ++ more) ≡ n = big_from-append size field more (omega (arith, h.len)) ∙ h.value in
    rw (enough field more size h.len, value, drop_at field more size h.len) refl

-- a field of one byte is that byte
pub byte_found : (s : Spot) (x : ℕ × Spot) → number_at 1 s ≡ Ok x → s.rest ≡ x.0 ∷ x.1.rest
byte_found s x e =
    let f = number_found 1 s x e in
    f.spelled ∙ byte_of f.field x.0 x.1.rest f.holds.len f.holds.value
  where
    byte_of : (field : List ℕ) (n : ℕ) (more : List ℕ) → length field ≡ 1 → big_number 1 field ≡ n → field ++ more ≡ n ∷ more
    byte_of [] n more len value = absurd (omega arith)
    byte_of (b ∷ []) n more len value = let same : b ≡ n = omega arith in rw same refl
    byte_of (b ∷ c ∷ bytes) n more len value = absurd (omega arith)

-- bytes in front of the bytes
pub bytes_found : (n : ℕ) (s : Spot) (x : List ℕ × Spot) → bytes_at n s ≡ Ok x → (length x.0 ≡ n) × (s.rest ≡ x.0 ++ x.1.rest)
bytes_found n s x e =
    let t = bytes_takes n s x e in
    let made : (length (take n s.rest) ≡ n) × (s.rest ≡ take n s.rest ++ drop n s.rest) = (omega (arith, length-take n s.rest, t.0), sym (take-append-drop n s.rest)) in
    subst (λ (y : List ℕ × Spot). (length y.0 ≡ n) × (s.rest ≡ y.0 ++ y.1.rest)) (sym t.1) made

-- a part in front of the bytes
pub part_found : (n : ℕ) (s : Spot) (x : Spot × Spot) → part_at n s ≡ Ok x → (length x.0.rest ≡ n) × (s.rest ≡ x.0.rest ++ x.1.rest)
part_found n s x e =
    let g = guard_ok (ltb (length s.rest) n) s.at (spot s.at (take n s.rest), past n s) x e in
    let long : n ≤ length s.rest = ltb-false (length s.rest) n g.0 in
    let made : (length (take n s.rest) ≡ n) × (s.rest ≡ take n s.rest ++ drop n s.rest) = (omega (arith, length-take n s.rest), sym (take-append-drop n s.rest)) in
    subst (λ (y : Spot × Spot). (length y.0.rest ≡ n) × (s.rest ≡ y.0.rest ++ y.1.rest)) g.1 made
