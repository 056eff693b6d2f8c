-- The text of a prefix and reading it are inverse.
use Rattle.std.proofs.Common.{◌≡◌, ◌≢◌, ℕ, suc, ◌+◌, ◌-◌, ◌*◌, ◌/◌, ◌%◌, ◌^◌, ◌≤◌, ◌<◌, Bool, true, false, ◌&&◌, cond, eqb, leb, List, [], ◌∷◌, ◌++◌, length, take, drop, Option, Some, None, refl, sym, ap, subst, ◌∙◌, arith, inl, inr, append_assoc}
use Rattle.std.specs.List.{AllByRecursion}
use Rattle.std.specs.Char.{is_ascii_digit}
use Rattle.std.specs.Fmt.{decimal}
use Rattle.std.proofs.lemmas.Fmt.{decimal_digit, decimal_step}
use Rattle.std.proofs.lemmas.Bool.{cases_lt, le-leb, leb-true, eqb-true, eqb-false, ne_eqb}
use Rattle.std.proofs.lemmas.List.{take_at, drop_at, append-nil, take-append-drop}
use Rattle.nr_spec_bgp.specs.Prefixes.{Cidr, IsCidr, masked}
use Rattle.nr_spec_wire.specs.Optional.{◌>>=◌}
use Rattle.nr_spec_bgp.specs.PrefixText.{address_text, cidr_text, numeral, digits_len, number_in, behind, address_in, cidr_in}

-- ---- digits

pub both_true : (a b : Bool) → a ≡ true → b ≡ true → (a && b) ≡ true
both_true true true p q = refl
both_true true false p q = absurd cc
both_true false b p q = absurd cc

pub of_both : (a b : Bool) → (a && b) ≡ true → (a ≡ true) × (b ≡ true)
of_both true true e = (refl, refl)
of_both true false e = absurd cc
of_both false b e = absurd cc

pub digit_is : (n : ℕ) → n < 10 → is_ascii_digit (48 + n) ≡ true
digit_is n h = both_true (leb 48 (48 + n)) (leb (48 + n) 57) (le-leb 48 (48 + n) (omega arith)) (le-leb (48 + n) 57 (omega arith))

IsDigit : ℕ → Type 0
IsDigit c = (48 ≤ c) × (c ≤ 57)

pub digit_of : (c : ℕ) → is_ascii_digit c ≡ true → (48 ≤ c) × (c ≤ 57)
digit_of c e = let b = of_both (leb 48 c) (leb c 57) e in (leb-true 48 c b.0, leb-true c 57 b.1)

digit_more : (c : ℕ) (text : List ℕ) → is_ascii_digit c ≡ true → digits_len (c ∷ text) ≡ 1 + digits_len text
digit_more c text e = rw e refl

-- ---- a number in decimal

pub decimal_1 : (n : ℕ) → n < 10 → decimal n ≡ (48 + n) ∷ []
decimal_1 n h = decimal_digit n h

pub decimal_2 : (n : ℕ) → 10 ≤ n → n < 100 → decimal n ≡ (48 + n / 10) ∷ (48 + n % 10) ∷ []
decimal_2 n h k = decimal_step n h (omega arith) ∙ ap (λ (ds : List ℕ). ds ++ (48 + n % 10) ∷ []) (decimal_digit (n / 10) (omega arith))

pub decimal_3 : (n : ℕ) → 100 ≤ n → n < 1000 → decimal n ≡ (48 + n / 10 / 10) ∷ (48 + n / 10 % 10) ∷ (48 + n % 10) ∷ []
decimal_3 n h k = decimal_step n (omega arith) (omega arith) ∙ ap (λ (ds : List ℕ). ds ++ (48 + n % 10) ∷ []) (decimal_2 (n / 10) (omega arith) (omega arith))

some : {A : Type 0} → A → Option A
some x = Some x

numeral_2 : (a b : ℕ) → a ≢ 48 → numeral (a ∷ b ∷ []) ≡ Some ((a - 48) * 10 + (b - 48))
numeral_2 a b h = let e : eqb a 48 ≡ false = ne_eqb a 48 h in rw e refl

numeral_3 : (a b c : ℕ) → a ≢ 48 → numeral (a ∷ b ∷ c ∷ []) ≡ Some ((a - 48) * 100 + (b - 48) * 10 + (c - 48))
numeral_3 a b c h = let e : eqb a 48 ≡ false = ne_eqb a 48 h in rw e refl

number_made : (most n : ℕ) (ds rest : List ℕ) → digits_len (ds ++ rest) ≡ length ds → numeral ds ≡ Some n → n ≤ most → number_in most (ds ++ rest) ≡ Some (n, rest)
unfolding number_in
number_made most n ds rest len is fine =
    let front-is = take_at ds rest (length ds) refl in
    let back-is = drop_at ds rest (length ds) refl in
    let at-most : leb n most ≡ true = le-leb n most fine in
    rw (len, front-is, is, at-most, back-is) refl

number_text : (most n : ℕ) → n < 1000 → n ≤ most → (rest : List ℕ) → digits_len rest ≡ 0 → number_in most (decimal n ++ rest) ≡ Some (n, rest)
number_text most n small fine rest stops =
    elim (cases_lt n 10) [
      | inl one ↦
          let ds = (48 + n) ∷ [] in
          let len : digits_len (ds ++ rest) ≡ 1 = digit_more (48 + n) rest (digit_is n one) ∙ omega (arith, stops) in
          let value : 48 + n - 48 ≡ n = omega arith in
          ap (λ (t : List ℕ). number_in most (t ++ rest)) (decimal_1 n one) ∙ number_made most n ds rest len (ap some' value) fine
      | inr more ↦ elim (cases_lt n 100) [
        | inl two ↦
            let a = 48 + n / 10 in
            let b = 48 + n % 10 in
            let ds = a ∷ b ∷ [] in
            let len : digits_len (ds ++ rest) ≡ 2 = digit_more a (b ∷ rest) (digit_is (n / 10) (omega arith)) ∙ omega (arith, digit_more b rest (digit_is (n % 10) (omega arith)), stops) in
            let value : (a - 48) * 10 + (b - 48) ≡ n = omega arith in
            ap (λ (t : List ℕ). number_in most (t ++ rest)) (decimal_2 n more two) ∙ number_made most n ds rest len (numeral_2 a b (λ e. omega arith) ∙ ap some' value) fine
        | inr many ↦
            let a = 48 + n / 10 / 10 in
            let b = 48 + n / 10 % 10 in
            let c = 48 + n % 10 in
            let ds = a ∷ b ∷ c ∷ [] in
            let len : digits_len (ds ++ rest) ≡ 3 =
            digit_more a (b ∷ c ∷ rest) (digit_is (n / 10 / 10) (omega arith)) ∙ omega (arith, digit_more b (c ∷ rest) (digit_is (n / 10 % 10) (omega arith)), digit_more c rest (digit_is (n % 10) (omega arith)), stops) in
            let value : (a - 48) * 100 + (b - 48) * 10 + (c - 48) ≡ n = omega arith in
            ap (λ (t : List ℕ). number_in most (t ++ rest)) (decimal_3 n many small) ∙ number_made most n ds rest len (numeral_3 a b c (λ e. omega arith) ∙ ap some' value) fine
      ]
    ]
  where
    some' : ℕ → Option ℕ
    some' x = Some x

-- ---- the text of a prefix

then_some : {A B : Type 0} (r : Option A) (f : A → Option B) (x : A) (y : Option B) → r ≡ Some x → f x ≡ y → (r >>= f) ≡ y
then_some r f x y e g = ap (λ q. q >>= f) e ∙ g

behind_it : (byte : ℕ) (text : List ℕ) → eqb byte byte ≡ true → behind byte (byte ∷ text) ≡ Some text
behind_it byte text e = rw e refl

address_parts : (a b c d rest : List ℕ) → (a ++ 46 ∷ b ++ 46 ∷ c ++ 46 ∷ d) ++ rest ≡ a ++ (46 ∷ (b ++ (46 ∷ (c ++ (46 ∷ (d ++ rest))))))
address_parts a b c d rest = simp append_assoc

address_back : (addr : ℕ) → addr < 2 ^ 32 → (rest : List ℕ) → digits_len rest ≡ 0 → address_in (address_text addr ++ rest) ≡ Some (addr, rest)
unfolding address_in
address_back addr small rest stops =
    let a = addr / 2 ^ 24 in
    let b = addr / 2 ^ 16 % 256 in
    let c = addr / 2 ^ 8 % 256 in
    let d = addr % 256 in
    let text-d = decimal d ++ rest in
    let text-c = decimal c ++ (46 ∷ text-d) in
    let text-b = decimal b ++ (46 ∷ text-c) in
    let value : a * 2 ^ 24 + b * 2 ^ 16 + c * 2 ^ 8 + d ≡ addr = omega arith in
    ap address_in (address_parts (decimal a) (decimal b) (decimal c) (decimal d) rest)
    ∙ then_some (number_in 255 (decimal a ++ (46 ∷ text-b))) _ (a, 46 ∷ text-b) _ (number_text 255 a (omega arith) (omega arith) (46 ∷ text-b) refl)
    (then_some (number_in 255 text-b) _ (b, 46 ∷ text-c) _ (number_text 255 b (omega arith) (omega arith) (46 ∷ text-c) refl)
    (then_some (number_in 255 text-c) _ (c, 46 ∷ text-d) _ (number_text 255 c (omega arith) (omega arith) (46 ∷ text-d) refl)
    (then_some (number_in 255 text-d) _ (d, rest) _ (number_text 255 d (omega arith) (omega arith) rest stops)
    (ap (λ (n : ℕ). let r : Option (ℕ × List ℕ) = Some (n, rest) in r) value))))

-- a text of an address and a length is read as the prefix of that address
pub written_is_read : (addr len : ℕ) → addr < 2 ^ 32 → len ≤ 32 → cidr_in (address_text addr ++ 47 ∷ decimal len) ≡ Some (masked addr len)
unfolding cidr_in
written_is_read addr len small short =
    let len-text = decimal len in
    let number : number_in 32 len-text ≡ Some (len, []) = ap (number_in 32) (sym (append-nil len-text)) ∙ number_text 32 len (omega (arith, short)) short [] refl in
    then_some (address_in (address_text addr ++ 47 ∷ len-text)) _ (addr, 47 ∷ len-text) _ (address_back addr small (47 ∷ len-text) refl)
    (then_some (number_in 32 len-text) _ (len, []) _ number refl)

pub text_is_read : (p : Cidr) → IsCidr p → cidr_in (cidr_text p) ≡ Some p
text_is_read p h =
    written_is_read p.addr p.len h.addr h.len ∙ ap (λ (a : ℕ). let r : Option Cidr = Some (record { addr = a; len = p.len }) in r) h.clear

-- ---- what is read is such a text

abbrev pub AreDigits : List ℕ → Type 0
AreDigits ds = AllByRecursion (λ c. is_ascii_digit c ≡ true) ds

taken_of : (c : ℕ) (text : List ℕ) (b : Bool) → is_ascii_digit c ≡ b → AreDigits (take (digits_len text) text) → AreDigits (take (cond b (1 + digits_len text) 0) (c ∷ text))
taken_of c text true e rest = let one : 1 + digits_len text ≡ suc (digits_len text) = omega arith in rw one (e, rest)
taken_of c text false e rest = tt

digits_taken : (text : List ℕ) → AreDigits (take (digits_len text) text)
digits_taken [] = tt
digits_taken (c ∷ text) = taken_of c text (is_ascii_digit c) refl (digits_taken text)

cons_is : (a b : ℕ) (ds es : List ℕ) → a ≡ b → ds ≡ es → a ∷ ds ≡ b ∷ es
cons_is a b ds es p q = cc

some_is : {A : Type 0} (x y : A) → (let o : Option A = Some x in o) ≡ Some y → x ≡ y
some_is x y e = cc

pub numeral_decimal : (ds : List ℕ) (n : ℕ) → AreDigits ds → numeral ds ≡ Some n → decimal n ≡ ds
numeral_decimal [] n h e = absurd cc
numeral_decimal (a ∷ []) n h e =
    let ra = digit_of a h.0 in
    let is : a - 48 ≡ n = some_is (a - 48) n e in
    decimal_1 n (omega arith) ∙ cons_is (48 + n) a [] [] (omega arith) refl
numeral_decimal (a ∷ b ∷ []) n h e = two_of (eqb a 48) refl e
  where
    two_of : (t : Bool) → eqb a 48 ≡ t → cond t None (Some ((a - 48) * 10 + (b - 48))) ≡ Some n → decimal n ≡ a ∷ b ∷ []
    two_of true te e = absurd cc
    two_of false te e =
        let ra = digit_of a h.0 in
        let rb = digit_of b h.1.0 in
        let ne = eqb-false a 48 te in
        let is : (a - 48) * 10 + (b - 48) ≡ n = some_is ((a - 48) * 10 + (b - 48)) n e in
        decimal_2 n (omega arith) (omega arith) ∙ cons_is (48 + n / 10) a _ _ (omega arith) (cons_is (48 + n % 10) b [] [] (omega arith) refl)
numeral_decimal (a ∷ b ∷ c ∷ []) n h e = three_of (eqb a 48) refl e
  where
    three_of : (t : Bool) → eqb a 48 ≡ t → cond t None (Some ((a - 48) * 100 + (b - 48) * 10 + (c - 48))) ≡ Some n → decimal n ≡ a ∷ b ∷ c ∷ []
    three_of true te e = absurd cc
    three_of false te e =
        let ra = digit_of a h.0 in
        let rb = digit_of b h.1.0 in
        let rc = digit_of c h.1.1.0 in
        let ne = eqb-false a 48 te in
        let is : (a - 48) * 100 + (b - 48) * 10 + (c - 48) ≡ n = some_is ((a - 48) * 100 + (b - 48) * 10 + (c - 48)) n e in
        decimal_3 n (omega arith) (omega arith) ∙ cons_is (48 + n / 10 / 10) a _ _ (omega arith) (cons_is (48 + n / 10 % 10) b _ _ (omega arith) (cons_is (48 + n % 10) c [] [] (omega arith) refl))
numeral_decimal (a ∷ b ∷ c ∷ d ∷ more) n h e = absurd cc

-- the value of a step that gave one
then_of : {A B : Type 0} (r : Option A) (f : A → Option B) (y : B) → (r >>= f) ≡ Some y → (x : A) × (r ≡ Some x) × (f x ≡ Some y)
then_of None f y e = absurd cc
then_of (Some x) f y e = (x, refl, e)

if_of : {A : Type 0} (b : Bool) (x y : A) → cond b (Some x) None ≡ Some y → (b ≡ true) × (x ≡ y)
if_of true x y e = (refl, some_is x y e)
if_of false x y e = absurd cc

number_of : (most : ℕ) (text : List ℕ) (x : ℕ × List ℕ) → number_in most text ≡ Some x → (x.0 ≤ most) × (text ≡ decimal x.0 ++ x.1)
unfolding number_in
number_of most text x e =
    let n = then_of (numeral (take (digits_len text) text)) (λ n. cond (leb n most) (Some (n, drop (digits_len text) text)) None) x e in
    let fine = if_of (leb n.0 most) (n.0, drop (digits_len text) text) x n.2 in
    let written = numeral_decimal (take (digits_len text) text) n.0 (digits_taken text) n.1 in
    let whole : text ≡ decimal n.0 ++ drop (digits_len text) text = rw written (sym (take-append-drop (digits_len text) text)) in
    subst (λ (p : ℕ × List ℕ). (p.0 ≤ most) × (text ≡ decimal p.0 ++ p.1)) fine.1 (leb-true n.0 most fine.0, whole)

behind_of : (byte : ℕ) (text rest : List ℕ) → behind byte text ≡ Some rest → text ≡ byte ∷ rest
behind_of byte [] rest e = absurd cc
behind_of byte (x ∷ text) rest e =
    let fine = if_of (eqb x byte) text rest e in
    cons_is x byte text rest (eqb-true x byte fine.0) fine.1

abbrev IsAddress : List ℕ → ℕ × List ℕ → Type 0
IsAddress text x = (x.0 < 2 ^ 32) × (text ≡ address_text x.0 ++ x.1)

address_of_parts : (a b c d : ℕ) (rest : List ℕ) → a ≤ 255 → b ≤ 255 → c ≤ 255 → d ≤ 255
    → IsAddress (decimal a ++ (46 ∷ (decimal b ++ (46 ∷ (decimal c ++ (46 ∷ (decimal d ++ rest))))))) (a * 2 ^ 24 + b * 2 ^ 16 + c * 2 ^ 8 + d, rest)
address_of_parts a b c d rest ha hb hc hd =
    let addr = a * 2 ^ 24 + b * 2 ^ 16 + c * 2 ^ 8 + d in
    let a-is : addr / 2 ^ 24 ≡ a = omega arith in
    let b-is : addr / 2 ^ 16 % 256 ≡ b = omega arith in
    let c-is : addr / 2 ^ 8 % 256 ≡ c = omega arith in
    let d-is : addr % 256 ≡ d = omega arith in
    (omega arith, sym (ap (λ (t : List ℕ). t ++ rest) (text_of a-is b-is c-is d-is) ∙ address_parts (decimal a) (decimal b) (decimal c) (decimal d) rest))
  where
    text_of : {p q r s p' q' r' s' : ℕ} → p ≡ p' → q ≡ q' → r ≡ r' → s ≡ s'
        → decimal p ++ 46 ∷ decimal q ++ 46 ∷ decimal r ++ 46 ∷ decimal s ≡ decimal p' ++ 46 ∷ decimal q' ++ 46 ∷ decimal r' ++ 46 ∷ decimal s'
    text_of e f g h = cc

address_of : (text : List ℕ) (x : ℕ × List ℕ) → address_in text ≡ Some x → IsAddress text x
unfolding address_in
address_of text x e =
    let a = then_of (number_in 255 text) _ x e in
    let ta = then_of (behind 46 a.0.1) _ x a.2 in
    let b = then_of (number_in 255 ta.0) _ x ta.2 in
    let tb = then_of (behind 46 b.0.1) _ x b.2 in
    let c = then_of (number_in 255 tb.0) _ x tb.2 in
    let tc = then_of (behind 46 c.0.1) _ x c.2 in
    let d = then_of (number_in 255 tc.0) _ x tc.2 in
    let made = some_is (a.0.0 * 2 ^ 24 + b.0.0 * 2 ^ 16 + c.0.0 * 2 ^ 8 + d.0.0, d.0.1) x d.2 in
    let na = number_of 255 text a.0 a.1 in
    let nb = number_of 255 ta.0 b.0 b.1 in
    let nc = number_of 255 tb.0 c.0 c.1 in
    let nd = number_of 255 tc.0 d.0 d.1 in
    let parts = address_of_parts a.0.0 b.0.0 c.0.0 d.0.0 d.0.1 na.0 nb.0 nc.0 nd.0 in
    let whole : text ≡ decimal a.0.0 ++ (46 ∷ (decimal b.0.0 ++ (46 ∷ (decimal c.0.0 ++ (46 ∷ (decimal d.0.0 ++ d.0.1)))))) =
    na.1 ∙ ap (λ (t : List ℕ). decimal a.0.0 ++ t) (behind_of 46 a.0.1 ta.0 ta.1 ∙ ap (λ (t : List ℕ). 46 ∷ t) (nb.1 ∙ ap (λ (t : List ℕ). decimal b.0.0 ++ t) (behind_of 46 b.0.1 tb.0 tb.1 ∙ ap (λ (t : List ℕ). 46 ∷ t)
    (nc.1 ∙ ap (λ (t : List ℕ). decimal c.0.0 ++ t) (behind_of 46 c.0.1 tc.0 tc.1 ∙ ap (λ (t : List ℕ). 46 ∷ t) nd.1))))) in
    subst (IsAddress text) made (parts.0, whole ∙ parts.1)

no_more : (rest : List ℕ) → eqb (length rest) 0 ≡ true → rest ≡ []
no_more [] e = refl
no_more (x ∷ rest) e = absurd (omega (arith, eqb-true (length (x ∷ rest)) 0 e))

pub read_is_text : (text : List ℕ) (p : Cidr) → cidr_in text ≡ Some p → (addr : ℕ) × (len : ℕ) × (addr < 2 ^ 32) × (len ≤ 32) × (text ≡ address_text addr ++ 47 ∷ decimal len) × (p ≡ masked addr len)
unfolding cidr_in
read_is_text text p e =
    let addr = then_of (address_in text) _ p e in
    let rest = then_of (behind 47 addr.0.1) _ p addr.2 in
    let len = then_of (number_in 32 rest.0) _ p rest.2 in
    let end = if_of (eqb (length len.0.1) 0) (masked addr.0.0 len.0.0) p len.2 in
    let a = address_of text addr.0 addr.1 in
    let n = number_of 32 rest.0 len.0 len.1 in
    let last : rest.0 ≡ decimal len.0.0 = n.1 ∙ ap (λ (t : List ℕ). decimal len.0.0 ++ t) (no_more len.0.1 end.0) ∙ append-nil (decimal len.0.0) in
    (addr.0.0, len.0.0, a.0, n.0, a.1 ∙ ap (λ (t : List ℕ). address_text addr.0.0 ++ t) (behind_of 47 addr.0.1 rest.0 rest.1 ∙ ap (λ (t : List ℕ). 47 ∷ t) last), sym end.1)
