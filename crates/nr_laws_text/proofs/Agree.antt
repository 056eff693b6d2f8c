-- The two readings of the text of a prefix agree.
use Rattle.std.proofs.Common.{◌≡◌, ℕ, zero, suc, ◌+◌, ◌-◌, ◌*◌, ◌/◌, ◌%◌, ◌^◌, ◌<◌, ◌≤◌, Bool, true, false, ◌&&◌, ◌||◌, not, cond, eqb, leb, ltb, List, [], ◌∷◌, ◌++◌, length, take, drop, Option, Some, None, refl, sym, ap, subst, ◌∙◌, arith, append_assoc, inl, inr}
use Rattle.std.specs.List.{list_all, prefix_len, position}
use Rattle.std.specs.Char.{is_ascii_digit}
use Rattle.std.specs.Fmt.{decimal}
use Rattle.std.proofs.lemmas.Bool.{cases_lt, le-leb, leb-true, lt-ltb, ltb-true, eqb-true, eqb-false, ne_eqb}
use Rattle.std.proofs.lemmas.List.{take_at}
use Rattle.nr_spec_bgp.specs.Prefixes.{Cidr, masked}
use Rattle.nr_spec_bgp.specs.PrefixText.{address_text, numeral, cidr_in}
use Rattle.nr_spec_wire.specs.Optional.{◌>>=◌}
use Rattle.nr_spec_rules.specs.Figures.{worth_from, is_numeral, number_to, cut, address_of, prefix_of}
use Rattle.nr_laws_bgp.proofs.Texts.{both_true, of_both, digit_is, digit_of, decimal_1, decimal_2, decimal_3, AreDigits, numeral_decimal, written_is_read, read_is_text}

-- ---- options

some_is : {A : Type 0} (x y : A) → (let o : Option A = Some x in o) ≡ Some y → x ≡ y
some_is x y e = cc

then_of : {A B : Type 0} (r : Option A) (f : A → Option B) (y : B) → (r >>= f) ≡ Some y → (x : A) × (r ≡ Some x) × (f x ≡ Some y)
then_of None f y e = absurd cc
then_of (Some x) f y e = (x, refl, e)

then_some : {A B : Type 0} (r : Option A) (f : A → Option B) (x : A) (y : Option B) → r ≡ Some x → f x ≡ y → (r >>= f) ≡ y
then_some r f x y e g = ap (λ q. q >>= f) e ∙ g

if_of : {A : Type 0} (b : Bool) (x y : A) → cond b (Some x) None ≡ Some y → (b ≡ true) × (x ≡ y)
if_of true x y e = (refl, some_is x y e)
if_of false x y e = absurd cc

some_number : ℕ → Option ℕ
some_number n = Some n

-- ---- numbers

grows : (n : ℕ) (ds : List ℕ) → n ≤ worth_from n ds
grows n [] = omega arith
grows n (d ∷ ds) = omega (arith, grows (10 * n + (d - 48)) ds)

digits_of : (ds : List ℕ) → list_all is_ascii_digit ds ≡ true → AreDigits ds
digits_of [] e = tt
digits_of (d ∷ ds) e = let b = of_both (is_ascii_digit d) (list_all is_ascii_digit ds) e in (b.0, digits_of ds b.1)

all_digits : (ds : List ℕ) → AreDigits ds → list_all is_ascii_digit ds ≡ true
all_digits [] h = refl
all_digits (d ∷ ds) h = both_true (is_ascii_digit d) (list_all is_ascii_digit ds) h.0 (all_digits ds h.1)

lead_of : (t : Bool) (k : ℕ) → (not t || eqb k 0) ≡ true → 0 < k → t ≡ false
lead_of true k e h = absurd (omega (arith, eqb-true k 0 e, h))
lead_of false k e h = refl

no_zero : (t : Bool) (k : ℕ) → t ≡ false → (not t || eqb k 0) ≡ true
no_zero false k e = refl
no_zero true k e = absurd cc

last_alone : (t : Bool) → (not t || true) ≡ true
last_alone true = refl
last_alone false = refl

-- digits of the one definition are digits of the other, and worth the same
numeral_in : (ds : List ℕ) (n : ℕ) → is_numeral ds ≡ true → worth_from 0 ds ≡ n → n < 1000 → AreDigits ds × (numeral ds ≡ Some n)
unfolding some_number
numeral_in [] n e w small = absurd cc
numeral_in (a ∷ []) n e w small =
    let b = of_both (list_all is_ascii_digit (a ∷ [])) (not (eqb a 48) || eqb (length {A = ℕ} []) 0) e in
    let same : a - 48 ≡ n = omega (arith, w) in
    (digits_of (a ∷ []) b.0, ap some_number same)
numeral_in (a ∷ b ∷ []) n e w small =
    let ds = a ∷ b ∷ [] in
    let both = of_both (list_all is_ascii_digit ds) (not (eqb a 48) || eqb (length (b ∷ [])) 0) e in
    let lead = lead_of (eqb a 48) (length (b ∷ [])) both.1 (omega arith) in
    let same : (a - 48) * 10 + (b - 48) ≡ n = omega (arith, w) in
    (digits_of ds both.0, rw lead (ap some_number same))
numeral_in (a ∷ b ∷ c ∷ []) n e w small =
    let ds = a ∷ b ∷ c ∷ [] in
    let both = of_both (list_all is_ascii_digit ds) (not (eqb a 48) || eqb (length (b ∷ c ∷ [])) 0) e in
    let lead = lead_of (eqb a 48) (length (b ∷ c ∷ [])) both.1 (omega arith) in
    let same : (a - 48) * 100 + (b - 48) * 10 + (c - 48) ≡ n = omega (arith, w) in
    (digits_of ds both.0, rw lead (ap some_number same))
numeral_in (a ∷ b ∷ c ∷ d ∷ more) n e w small =
    let ds = a ∷ b ∷ c ∷ d ∷ more in
    let rest = b ∷ c ∷ d ∷ more in
    let both = of_both (list_all is_ascii_digit ds) (not (eqb a 48) || eqb (length rest) 0) e in
    let lead = lead_of (eqb a 48) (length rest) both.1 (omega arith) in
    let digits = digits_of ds both.0 in
    let first = digit_of a digits.0 in
    let front = 10 * (10 * (10 * (10 * 0 + (a - 48)) + (b - 48)) + (c - 48)) + (d - 48) in
    let least : front ≤ worth_from front more = grows front more in
    absurd (omega (arith, least, w, small, first.0, eqb-false a 48 lead))

numeral_out : (ds : List ℕ) (n : ℕ) → AreDigits ds → numeral ds ≡ Some n → (is_numeral ds ≡ true) × (worth_from 0 ds ≡ n)
numeral_out [] n h e = absurd cc
numeral_out (a ∷ []) n h e =
    let same : a - 48 ≡ n = some_is (a - 48) n e in
    (both_true (list_all is_ascii_digit (a ∷ [])) (not (eqb a 48) || true) (all_digits (a ∷ []) h) (last_alone (eqb a 48)), omega (arith, same))
numeral_out (a ∷ b ∷ []) n h e = two_of (eqb a 48) refl e
  where
    two_of : (t : Bool) → eqb a 48 ≡ t → cond t None (Some ((a - 48) * 10 + (b - 48))) ≡ Some n → (is_numeral (a ∷ b ∷ []) ≡ true) × (worth_from 0 (a ∷ b ∷ []) ≡ n)
    two_of true te q = absurd cc
    two_of false te q =
        let same : (a - 48) * 10 + (b - 48) ≡ n = some_is ((a - 48) * 10 + (b - 48)) n q in
        (both_true (list_all is_ascii_digit (a ∷ b ∷ [])) (not (eqb a 48) || eqb (length (b ∷ [])) 0) (all_digits (a ∷ b ∷ []) h) (no_zero (eqb a 48) (length (b ∷ [])) te), omega (arith, same))
numeral_out (a ∷ b ∷ c ∷ []) n h e = three_of (eqb a 48) refl e
  where
    three_of : (t : Bool) → eqb a 48 ≡ t → cond t None (Some ((a - 48) * 100 + (b - 48) * 10 + (c - 48))) ≡ Some n → (is_numeral (a ∷ b ∷ c ∷ []) ≡ true) × (worth_from 0 (a ∷ b ∷ c ∷ []) ≡ n)
    three_of true te q = absurd cc
    three_of false te q =
        let same : (a - 48) * 100 + (b - 48) * 10 + (c - 48) ≡ n = some_is ((a - 48) * 100 + (b - 48) * 10 + (c - 48)) n q in
        (both_true (list_all is_ascii_digit (a ∷ b ∷ c ∷ [])) (not (eqb a 48) || eqb (length (b ∷ c ∷ [])) 0) (all_digits (a ∷ b ∷ c ∷ []) h) (no_zero (eqb a 48) (length (b ∷ c ∷ [])) te), omega (arith, same))
numeral_out (a ∷ b ∷ c ∷ d ∷ more) n h e = absurd cc

number_found : (most n : ℕ) (ds : List ℕ) → most < 1000 → number_to most ds ≡ Some n → (n ≤ most) × (ds ≡ decimal n)
unfolding number_to
number_found most n ds few e =
    let c = if_of (is_numeral ds && leb (worth_from 0 ds) most) (worth_from 0 ds) n e in
    let both = of_both (is_numeral ds) (leb (worth_from 0 ds) most) c.0 in
    let fine : n ≤ most = subst (λ (k : ℕ). k ≤ most) c.1 (leb-true (worth_from 0 ds) most both.1) in
    let same = numeral_in ds n both.0 c.1 (omega (arith, fine, few)) in
    (fine, sym (numeral_decimal ds n same.0 same.1))

number_made : (most n : ℕ) (ds : List ℕ) → AreDigits ds → numeral ds ≡ Some n → n ≤ most → number_to most ds ≡ Some n
unfolding number_to
number_made most n ds digits is fine =
    let out = numeral_out ds n digits is in
    let small : leb (worth_from 0 ds) most ≡ true = le-leb (worth_from 0 ds) most (omega (arith, out.1, fine)) in
    rw (both_true (is_numeral ds) (leb (worth_from 0 ds) most) out.0 small, out.1) refl

-- the decimal text of a number has digits
abbrev IsText : ℕ → List ℕ → Type 0
IsText n ds = AreDigits ds × (numeral ds ≡ Some n)

decimal_is : (n : ℕ) → n < 1000 → IsText n (decimal n)
unfolding some_number
decimal_is n small =
    elim (cases_lt n 10) [
      | inl one ↦
          let value : 48 + n - 48 ≡ n = omega arith in
          subst (IsText n) (sym (decimal_1 n one)) ((digit_is n one, tt), ap some_number value)
      | inr more ↦ elim (cases_lt n 100) [
        | inl two ↦
            let a = 48 + n / 10 in
            let b = 48 + n % 10 in
            let value : (a - 48) * 10 + (b - 48) ≡ n = omega arith in
            let lead : eqb a 48 ≡ false = ne_eqb a 48 (λ e. omega (arith, e, more)) in
            subst (IsText n) (sym (decimal_2 n more two)) ((digit_is (n / 10) (omega arith), (digit_is (n % 10) (omega arith), tt)), rw lead (ap some_number value))
        | inr many ↦
            let a = 48 + n / 10 / 10 in
            let b = 48 + n / 10 % 10 in
            let c = 48 + n % 10 in
            let value : (a - 48) * 100 + (b - 48) * 10 + (c - 48) ≡ n = omega arith in
            let lead : eqb a 48 ≡ false = ne_eqb a 48 (λ e. omega (arith, e, many)) in
            subst (IsText n) (sym (decimal_3 n many small)) ((digit_is (n / 10 / 10) (omega arith), (digit_is (n / 10 % 10) (omega arith), (digit_is (n % 10) (omega arith), tt))), rw lead (ap some_number value))
      ]
    ]

number_back : (most n : ℕ) → n ≤ most → n < 1000 → number_to most (decimal n) ≡ Some n
number_back most n fine small = let d = decimal_is n small in number_made most n (decimal n) d.0 d.1 fine

-- ---- cuts

Lacks : ℕ → List ℕ → Type 0
Lacks byte [] = Unit {0}
Lacks byte (x ∷ xs) = (eqb x byte ≡ false) × Lacks byte xs

is_not : (x byte : ℕ) (b : Bool) → eqb x byte ≡ b → is_ascii_digit x ≡ true → is_ascii_digit byte ≡ false → b ≡ false
is_not x byte true e p q = let same : x ≡ byte = eqb-true x byte e in absurd (cc (ap is_ascii_digit same))
is_not x byte false e p q = refl

lacks_digits : (byte : ℕ) (ds : List ℕ) → AreDigits ds → is_ascii_digit byte ≡ false → Lacks byte ds
unfolding Lacks
lacks_digits byte [] h e = tt
lacks_digits byte (d ∷ ds) h e = (is_not d byte (eqb d byte) refl h.0 e, lacks_digits byte ds h.1 e)

lacks_both : (byte : ℕ) (xs ys : List ℕ) → Lacks byte xs → Lacks byte ys → Lacks byte (xs ++ ys)
unfolding Lacks
lacks_both byte [] ys p q = q
lacks_both byte (x ∷ xs) ys p q = (p.0, lacks_both byte xs ys p.1 q)

lacks_one : (byte x : ℕ) (xs : List ℕ) → eqb x byte ≡ false → Lacks byte xs → Lacks byte (x ∷ xs)
unfolding Lacks
lacks_one byte x xs e p = (e, p)

lacks_decimal : (byte n : ℕ) → n < 1000 → is_ascii_digit byte ≡ false → Lacks byte (decimal n)
lacks_decimal byte n small e = lacks_digits byte (decimal n) (decimal_is n small).0 e

self : (n : ℕ) → eqb n n ≡ true
self n = eq_self (eqb n n) refl
  where
    eq_self : (b : Bool) → eqb n n ≡ b → b ≡ true
    eq_self true e = refl
    eq_self false e = absurd (eqb-false n n e refl)

place_of_byte : (byte : ℕ) (ds rest : List ℕ) → Lacks byte ds → prefix_len (λ x. not (eqb x byte)) (ds ++ byte ∷ rest) ≡ length ds
unfolding Lacks
place_of_byte byte [] rest p = rw (self byte) refl
place_of_byte byte (d ∷ ds) rest p = rw p.0 (omega (arith, place_of_byte byte ds rest p.1))

shorter : (ds : List ℕ) (byte : ℕ) (rest : List ℕ) → length ds < length (ds ++ byte ∷ rest)
shorter [] byte rest = omega arith
shorter (d ∷ ds) byte rest = omega (arith, shorter ds byte rest)

rest_of : (ds : List ℕ) (byte : ℕ) (rest : List ℕ) → drop (length ds + 1) (ds ++ byte ∷ rest) ≡ rest
rest_of [] byte rest = refl
rest_of (d ∷ ds) byte rest = let e : suc (length ds) + 1 ≡ suc (length ds + 1) = omega arith in rw e (rest_of ds byte rest)

cut_at : (byte : ℕ) (ds rest : List ℕ) → Lacks byte ds → cut byte (ds ++ byte ∷ rest) ≡ Some (ds, rest)
unfolding cut
cut_at byte ds rest p =
    let here = place_of_byte byte ds rest p in
    let test : ltb (length ds) (length (ds ++ byte ∷ rest)) ≡ true = lt-ltb _ _ (shorter ds byte rest) in
    rw (here, test, take_at ds (byte ∷ rest) (length ds) refl, rest_of ds byte rest) refl

cons_is : (a b : ℕ) (ds es : List ℕ) → a ≡ b → ds ≡ es → a ∷ ds ≡ b ∷ es
cons_is a b ds es p q = cc

split_at : (byte : ℕ) (text : List ℕ) (k : ℕ) → prefix_len (λ x. not (eqb x byte)) text ≡ k → k < length text → text ≡ take k text ++ byte ∷ drop (k + 1) text
split_at byte [] k e h = absurd (omega arith)
split_at byte (x ∷ xs) k e h = by_test (λ n p q. split_at byte xs n p q) (eqb x byte) refl k e h
  where
    Splits : Type 0
    Splits = (n : ℕ) → prefix_len (λ x. not (eqb x byte)) xs ≡ n → n < length xs → xs ≡ take n xs ++ byte ∷ drop (n + 1) xs

    by_test : Splits → (b : Bool) → eqb x byte ≡ b → (k : ℕ) → cond (not b) (1 + prefix_len (λ x. not (eqb x byte)) xs) 0 ≡ k → k < length (x ∷ xs) → x ∷ xs ≡ take k (x ∷ xs) ++ byte ∷ drop (k + 1) (x ∷ xs)
    by_test next true t zero e h = cons_is x byte xs xs (eqb-true x byte t) refl
    by_test next true t (suc k) e h = absurd (omega (arith, e))
    by_test next false t zero e h = absurd (omega (arith, e))
    by_test next false t (suc k) e h =
        let one : suc k + 1 ≡ suc (k + 1) = omega arith in
        rw one (ap (λ (l : List ℕ). x ∷ l) (next k (omega (arith, e)) (omega (arith, h))))

cut_found : (byte : ℕ) (text : List ℕ) (x : List ℕ × List ℕ) → cut byte text ≡ Some x → text ≡ x.0 ++ byte ∷ x.1
unfolding cut
cut_found byte text x e =
    let at = then_of (position (λ b. eqb b byte) text) (λ at. let o : Option (List ℕ × List ℕ) = Some (take at text, drop (at + 1) text) in o) x e in
    let p = if_of (ltb (prefix_len (λ x. not (eqb x byte)) text) (length text)) (prefix_len (λ x. not (eqb x byte)) text) at.0 at.1 in
    let short : at.0 < length text = subst (λ (k : ℕ). k < length text) p.1 (ltb-true _ _ p.0) in
    subst (λ (y : List ℕ × List ℕ). text ≡ y.0 ++ byte ∷ y.1) (some_is (take at.0 text, drop (at.0 + 1) text) x at.2) (split_at byte text at.0 p.1 short)

-- ---- addresses

nested : (a b c d : List ℕ) → a ++ 46 ∷ b ++ 46 ∷ c ++ 46 ∷ d ≡ a ++ (46 ∷ (b ++ (46 ∷ (c ++ (46 ∷ d)))))
nested a b c d = simp append_assoc

abbrev value : ℕ → ℕ → ℕ → ℕ → ℕ
value a b c d = ((a * 256 + b) * 256 + c) * 256 + d

text_of_parts : (a b c d : ℕ) → a ≤ 255 → b ≤ 255 → c ≤ 255 → d ≤ 255
    → (value a b c d < 2 ^ 32) × (decimal a ++ (46 ∷ (decimal b ++ (46 ∷ (decimal c ++ (46 ∷ decimal d))))) ≡ address_text (value a b c d))
text_of_parts a b c d ha hb hc hd =
    let addr = value a b c d in
    let a-is : addr / 2 ^ 24 ≡ a = omega arith in
    let b-is : addr / 2 ^ 16 % 256 ≡ b = omega arith in
    let c-is : addr / 2 ^ 8 % 256 ≡ c = omega arith in
    let d-is : addr % 256 ≡ d = omega arith in
    (omega arith, sym (text_of a-is b-is c-is d-is ∙ nested (decimal a) (decimal b) (decimal c) (decimal d)))
  where
    text_of : {p q r s p' q' r' s' : ℕ} → p ≡ p' → q ≡ q' → r ≡ r' → s ≡ s'
        → decimal p ++ 46 ∷ decimal q ++ 46 ∷ decimal r ++ 46 ∷ decimal s ≡ decimal p' ++ 46 ∷ decimal q' ++ 46 ∷ decimal r' ++ 46 ∷ decimal s'
    text_of e f g h = cc

address_found : (text : List ℕ) (addr : ℕ) → address_of text ≡ Some addr → (addr < 2 ^ 32) × (text ≡ address_text addr)
unfolding address_of
address_found text addr e =
    let a = then_of (cut 46 text) _ addr e in
    let b = then_of (cut 46 a.0.1) _ addr a.2 in
    let c = then_of (cut 46 b.0.1) _ addr b.2 in
    let first = then_of (number_to 255 a.0.0) _ addr c.2 in
    let second = then_of (number_to 255 b.0.0) _ addr first.2 in
    let third = then_of (number_to 255 c.0.0) _ addr second.2 in
    let fourth = then_of (number_to 255 c.0.1) _ addr third.2 in
    let is = some_is (value first.0 second.0 third.0 fourth.0) addr fourth.2 in
    let na = number_found 255 first.0 a.0.0 (omega arith) first.1 in
    let nb = number_found 255 second.0 b.0.0 (omega arith) second.1 in
    let nc = number_found 255 third.0 c.0.0 (omega arith) third.1 in
    let nd = number_found 255 fourth.0 c.0.1 (omega arith) fourth.1 in
    let whole : text ≡ decimal first.0 ++ (46 ∷ (decimal second.0 ++ (46 ∷ (decimal third.0 ++ (46 ∷ decimal fourth.0))))) =
    cut_found 46 text a.0 a.1 ∙ joined na.1 (cut_found 46 a.0.1 b.0 b.1 ∙ joined nb.1 (cut_found 46 b.0.1 c.0 c.1 ∙ joined nc.1 nd.1)) in
    let parts = text_of_parts first.0 second.0 third.0 fourth.0 na.0 nb.0 nc.0 nd.0 in
    subst (λ (n : ℕ). (n < 2 ^ 32) × (text ≡ address_text n)) is (parts.0, whole ∙ parts.1)
  where
    joined : {x x' y y' : List ℕ} → x ≡ x' → y ≡ y' → x ++ 46 ∷ y ≡ x' ++ (46 ∷ y')
    joined p q = cc

address_back : (addr : ℕ) → addr < 2 ^ 32 → address_of (address_text addr) ≡ Some addr
unfolding address_of
address_back addr small =
    let a = addr / 2 ^ 24 in
    let b = addr / 2 ^ 16 % 256 in
    let c = addr / 2 ^ 8 % 256 in
    let d = addr % 256 in
    let text-d = decimal d in
    let text-c = decimal c ++ (46 ∷ text-d) in
    let text-b = decimal b ++ (46 ∷ text-c) in
    let same : value a b c d ≡ addr = omega arith in
    ap address_of (nested (decimal a) (decimal b) (decimal c) (decimal d))
    ∙ then_some (cut 46 (decimal a ++ (46 ∷ text-b))) _ (decimal a, text-b) _ (cut_at 46 (decimal a) text-b (lacks_decimal 46 a (omega arith) refl))
    (then_some (cut 46 text-b) _ (decimal b, text-c) _ (cut_at 46 (decimal b) text-c (lacks_decimal 46 b (omega arith) refl))
    (then_some (cut 46 text-c) _ (decimal c, text-d) _ (cut_at 46 (decimal c) text-d (lacks_decimal 46 c (omega arith) refl))
    (then_some (number_to 255 (decimal a)) _ a _ (number_back 255 a (omega arith) (omega arith))
    (then_some (number_to 255 (decimal b)) _ b _ (number_back 255 b (omega arith) (omega arith))
    (then_some (number_to 255 (decimal c)) _ c _ (number_back 255 c (omega arith) (omega arith))
    (then_some (number_to 255 text-d) _ d _ (number_back 255 d (omega arith) (omega arith))
    (ap (λ (n : ℕ). let o : Option ℕ = Some n in o) same)))))))

lacks_address : (addr : ℕ) → addr < 2 ^ 32 → Lacks 47 (address_text addr)
lacks_address addr small =
    let a = addr / 2 ^ 24 in
    let b = addr / 2 ^ 16 % 256 in
    let c = addr / 2 ^ 8 % 256 in
    let d = addr % 256 in
    let one = lacks_decimal 47 d (omega arith) refl in
    let two = lacks_both 47 (decimal c) _ (lacks_decimal 47 c (omega arith) refl) (lacks_one 47 46 (decimal d) refl one) in
    let three = lacks_both 47 (decimal b) _ (lacks_decimal 47 b (omega arith) refl) (lacks_one 47 46 _ refl two) in
    let four = lacks_both 47 (decimal a) _ (lacks_decimal 47 a (omega arith) refl) (lacks_one 47 46 _ refl three) in
    subst (Lacks 47) (sym (nested (decimal a) (decimal b) (decimal c) (decimal d))) four

-- ---- prefixes

prefix_found : (text : List ℕ) (addr len : ℕ) → prefix_of text ≡ Some (addr, len) → (addr < 2 ^ 32) × (len ≤ 32) × (text ≡ address_text addr ++ 47 ∷ decimal len)
unfolding prefix_of
prefix_found text addr len e =
    let parts = then_of (cut 47 text) _ (addr, len) e in
    let a = then_of (address_of parts.0.0) _ (addr, len) parts.2 in
    let l = then_of (number_to 32 parts.0.1) _ (addr, len) a.2 in
    let is = some_is (a.0, l.0) (addr, len) l.2 in
    let address = address_found parts.0.0 a.0 a.1 in
    let number = number_found 32 l.0 parts.0.1 (omega arith) l.1 in
    let whole : text ≡ address_text a.0 ++ 47 ∷ decimal l.0 = cut_found 47 text parts.0 parts.1 ∙ joined address.1 number.1 in
    subst (λ (x : ℕ × ℕ). (x.0 < 2 ^ 32) × (x.1 ≤ 32) × (text ≡ address_text x.0 ++ 47 ∷ decimal x.1)) is (address.0, number.0, whole)
  where
    joined : {x x' y y' : List ℕ} → x ≡ x' → y ≡ y' → x ++ 47 ∷ y ≡ x' ++ 47 ∷ y'
    joined p q = cc

prefix_back : (addr len : ℕ) → addr < 2 ^ 32 → len ≤ 32 → prefix_of (address_text addr ++ 47 ∷ decimal len) ≡ Some (addr, len)
unfolding prefix_of
prefix_back addr len small short =
    then_some (cut 47 (address_text addr ++ 47 ∷ decimal len)) _ (address_text addr, decimal len) _ (cut_at 47 (address_text addr) (decimal len) (lacks_address addr small))
    (then_some (address_of (address_text addr)) _ addr _ (address_back addr small)
    (then_some (number_to 32 (decimal len)) _ len _ (number_back 32 len short (omega (arith, short))) refl))

pub taken : (text : List ℕ) (addr len : ℕ) → prefix_of text ≡ Some (addr, len) → (cidr_in text ≡ Some (masked addr len)) × (addr < 2 ^ 32) × (len ≤ 32)
taken text addr len e = let p = prefix_found text addr len e in (ap cidr_in p.2 ∙ written_is_read addr len p.0 p.1, p.0, p.1)

pub takes : (text : List ℕ) (p : Cidr) → cidr_in text ≡ Some p → (addr : ℕ) × (len : ℕ) × (prefix_of text ≡ Some (addr, len)) × (p ≡ masked addr len)
takes text p e =
    let t = read_is_text text p e in
    (t.0, t.1, ap prefix_of t.4 ∙ prefix_back t.0 t.1 t.2 t.3, t.5)
