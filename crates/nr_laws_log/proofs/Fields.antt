-- A field that is read is the field that was written, and what was written is read again.
use Rattle.std.proofs.Common.{◌≡◌, ℕ, ◌+◌, ◌^◌, ◌<◌, ◌≤◌, Bool, true, false, cond, ltb, List, ◌++◌, length, take, drop, Result, Ok, Err, refl, sym, ap, subst, ◌∙◌, append_assoc, arith}
use Rattle.std.proofs.lemmas.Bool.{ltb-false, le-ltb}
use Rattle.std.proofs.lemmas.List.{take_at, drop_at, take-append-drop, length-append, length-take, get_or-drop}
use Rattle.byteorder.specs.Endian.{big_bytes, big_number}
use Rattle.byteorder.specs.Numbers.{big_from-lt, big_number-reads_back, length-bytes_high_first}
use Rattle.nr_spec_wire.specs.Reading.{Spot, Read, ◌>>=◌, number_at, bytes_at, wants, past, IsBytes}
use Rattle.nr_spec_wire.proofs.Steps.{ok_is, bind_ok}
use Rattle.nr_laws_log.specs.Laws.{Takes, ReadsSpelled, SpelledReads, IsPrefixFree}
use Rattle.nr_laws_log.proofs.Bytes.{bytes_of_number}

IsBytes-drop : (n : ℕ) (bytes : List ℕ) → IsBytes bytes → IsBytes (drop n bytes)
IsBytes-drop n bytes h i = rw get_or-drop (h (n + i))

abbrev short : {A : Type 0} → ℕ → Result A ℕ
short place = Err place

-- a field that wasn't short
field_ok : {A : Type 0} (b : Bool) (place : ℕ) (x y : A) → cond b (short place) (Ok x) ≡ Ok y → (b ≡ false) × (x ≡ y)
field_ok true place x y e = absurd cc
field_ok false place x y e = (refl, cc)

pub Takes-then : (a : Spot) (x : List ℕ) (b : Spot) (y : List ℕ) (c : Spot) → Takes a x b → Takes b y c → Takes a (x ++ y) c
Takes-then a x b y c p q = record {
  parts = p.parts ∙ ap (λ (t : List ℕ). x ++ t) q.parts ∙ sym (append_assoc x y c.rest);
  place = omega (arith, p.place, q.place, length-append x y);
  rest_fits = q.rest_fits;
}

-- ---- numbers

pub number_takes : (n : ℕ) (s : Spot) (v : ℕ) (new : Spot) → IsBytes s.rest → number_at n s ≡ Ok (v, new) → (v < 256 ^ n) × Takes s (big_bytes n v) new
number_takes n s v new fits e =
    let g = field_ok (ltb (length s.rest) n) s.at (big_number n s.rest, past n s) (v, new) e in
    let long : n ≤ length s.rest = ltb-false _ _ g.0 in
    let text : big_bytes n (big_number n s.rest) ≡ take n s.rest = bytes_of_number n s.rest long fits in
    let whole : Takes s (big_bytes n (big_number n s.rest)) (past n s) = record {
      parts = rw text (sym (take-append-drop n s.rest));
      place = rw length-bytes_high_first refl;
      rest_fits = IsBytes-drop n s.rest fits;
    } in
    subst (λ (p : ℕ × Spot). (p.0 < 256 ^ n) × Takes s (big_bytes n p.0) p.1) g.1 (big_from-lt 0 n s.rest fits, whole)

pub number_again : (n v at : ℕ) (rest : List ℕ) → v < 256 ^ n → number_at n (record { at = at; rest = big_bytes n v ++ rest }) ≡ Ok (v, record { at = at + length (big_bytes n v); rest = rest })
number_again n v at rest lt =
    let len = length-bytes_high_first n v in
    let long : ltb (length (big_bytes n v ++ rest)) n ≡ false = le-ltb _ _ (omega (arith, len, length-append (big_bytes n v) rest)) in
    rw (long, drop_at (big_bytes n v) rest n len, big_number-reads_back n v rest lt, len) refl

-- ---- bytes as they are

pub bytes_take : (n : ℕ) (s : Spot) (v : List ℕ) (new : Spot) → IsBytes s.rest → bytes_at n s ≡ Ok (v, new) → (length v ≡ n) × Takes s v new
bytes_take n s v new fits e =
    let g = field_ok (ltb (length s.rest) n) s.at (take n s.rest, past n s) (v, new) e in
    let long : n ≤ length s.rest = ltb-false _ _ g.0 in
    let len : length (take n s.rest) ≡ n = omega (arith, length-take n s.rest) in
    let whole : Takes s (take n s.rest) (past n s) = record {
      parts = sym (take-append-drop n s.rest);
      place = rw len refl;
      rest_fits = IsBytes-drop n s.rest fits;
    } in
    subst (λ (p : List ℕ × Spot). (length p.0 ≡ n) × Takes s p.0 p.1) g.1 (len, whole)

pub bytes_again : (n : ℕ) (v : List ℕ) (at : ℕ) (rest : List ℕ) → length v ≡ n → bytes_at n (record { at = at; rest = v ++ rest }) ≡ Ok (v, record { at = at + length v; rest = rest })
bytes_again n v at rest len =
    let long : ltb (length (v ++ rest)) n ≡ false = le-ltb _ _ (omega (arith, len, length-append v rest)) in
    rw (long, take_at v rest n len, drop_at v rest n len, len) refl

-- ---- one field and what is read after it

pub record Step {A B : Type 0} (Fits : A → Type 0) (spell : A → List ℕ) (s : Spot) (f : A × Spot → Result B ℕ) (y : B) : Type 0 where
  pub value : A
  pub next : Spot
  pub value_fits : Fits value
  pub takes : Takes s (spell value) next
  pub goes_on : f (value, next) ≡ Ok y

pub step : {A B : Type 0} (item : Spot → Read A) (Fits : A → Type 0) (spell : A → List ℕ) → ReadsSpelled item Fits spell
    → (s : Spot) (f : A × Spot → Result B ℕ) (y : B) → IsBytes s.rest → (item s >>= f) ≡ Ok y → Step Fits spell s f y
step item Fits spell law s f y fits e =
    let a = bind_ok (item s) f y e in
    let t = law s a.0.0 a.0.1 fits a.1 in
    record { value = a.0.0; next = a.0.1; value_fits = t.0; takes = t.1; goes_on = a.2 }

pub number_step : {B : Type 0} (n : ℕ) (s : Spot) (f : ℕ × Spot → Result B ℕ) (y : B) → IsBytes s.rest → (number_at n s >>= f) ≡ Ok y → Step (λ v. v < 256 ^ n) (big_bytes n) s f y
number_step n s f y fits e = step (number_at n) (λ v. v < 256 ^ n) (big_bytes n) (number_takes n) s f y fits e

-- the bytes of a number, as a word that stays closed
unfoldable pub number_text : ℕ → ℕ → List ℕ
number_text n v = big_bytes n v

pub text_step : {B : Type 0} (n : ℕ) (s : Spot) (f : ℕ × Spot → Result B ℕ) (y : B) → IsBytes s.rest → (number_at n s >>= f) ≡ Ok y → Step (λ v. v < 256 ^ n) (number_text n) s f y
unfolding number_text
text_step n s f y fits e = number_step n s f y fits e

pub text_again : (n v at : ℕ) (rest : List ℕ) → v < 256 ^ n → number_at n (record { at = at; rest = number_text n v ++ rest }) ≡ Ok (v, record { at = at + length (number_text n v); rest = rest })
unfolding number_text
text_again n v at rest lt = number_again n v at rest lt

pub bytes_step : {B : Type 0} (n : ℕ) (s : Spot) (f : List ℕ × Spot → Result B ℕ) (y : B) → IsBytes s.rest → (bytes_at n s >>= f) ≡ Ok y → Step (λ v. length v ≡ n) (λ v. v) s f y
bytes_step n s f y fits e = step (bytes_at n) (λ v. length v ≡ n) (λ v. v) (bytes_take n) s f y fits e

pub wants_step : {A B : Type 0} (test : Bool) (place : ℕ) (x : A) (f : A → Result B ℕ) (y : B) → (wants test place x >>= f) ≡ Ok y → (test ≡ true) × (f x ≡ Ok y)
wants_step true place x f y e = (refl, e)
wants_step false place x f y e = absurd cc

-- the same when what was written is read again
pub reads_then : {A B : Type 0} (r : Result A ℕ) (x : A) (f : A → Result B ℕ) (y : Result B ℕ) → r ≡ Ok x → f x ≡ y → (r >>= f) ≡ y
reads_then r x f y e h = ap (λ (t : Result _ ℕ). t >>= f) e ∙ h

pub wants_then : {A B : Type 0} (test : Bool) (place : ℕ) (x : A) (f : A → Result B ℕ) (y : Result B ℕ) → test ≡ true → f x ≡ y → (wants test place x >>= f) ≡ y
wants_then true place x f y e h = h
wants_then false place x f y e h = absurd cc

-- ---- no spelling is the start of another

pub prefix_free : {A : Type 0} (item : Spot → Read A) (Fits : A → Type 0) (spell : A → List ℕ) → SpelledReads item Fits spell → IsPrefixFree Fits spell
prefix_free {A = A} item Fits spell again v w x y v_fits w_fits e =
    let one = again v 0 x v_fits in
    let two = again w 0 y w_fits in
    let same : item (record { at = 0; rest = spell v ++ x }) ≡ item (record { at = 0; rest = spell w ++ y }) = ap (λ (t : List ℕ). item (record { at = 0; rest = t })) e in
    let p : A × Spot = (v, record { at = 0 + length (spell v); rest = x }) in
    let q : A × Spot = (w, record { at = 0 + length (spell w); rest = y }) in
    let pq : p ≡ q = ok_is p q (sym one ∙ same ∙ two) in
    (ap (λ (r : A × Spot). r.0) pq, ap (λ (r : A × Spot). r.1.rest) pq)
