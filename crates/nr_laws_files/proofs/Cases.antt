-- The steps of a reading that was refused.
use Rattle.std.proofs.Common.{◌≡◌, ℕ, ◌+◌, ◌<◌, ◌≤◌, Bool, true, false, cond, ltb, List, length, take, drop, Result, Ok, Err, ◌⊎◌, inl, inr, refl, sym, ap, subst, ◌∙◌, arith, length-drop, length-take}
use Rattle.std.proofs.lemmas.Bool.{ltb-true, ltb-false, lt-ltb, le-ltb}
use Rattle.std.proofs.lemmas.List.{drop-drop, take-append-drop, get_or-drop}
use Rattle.byteorder.specs.Endian.{big_number}
use Rattle.nr_spec_wire.specs.Reading.{Spot, Read, ◌>>=◌, past, number_at, bytes_at, wants, IsBytes}
use Rattle.nr_spec_wire.proofs.Steps.{ok_is}
use Rattle.nr_laws_log.specs.Laws.{Takes}
use Rattle.nr_laws_files.specs.Cuts.{IsCut}

abbrev failed : {A : Type 0} → ℕ → Result A ℕ
failed place = Err place

pub err_is : {A : Type 0} (p q : ℕ) → failed {A = A} p ≡ Err q → p ≡ q
err_is p q e = cc

-- reading stands so many bytes after a spot
pub record Stands (s : Spot) (k : ℕ) (t : Spot) : Type 0 where
  pub at_is : t.at ≡ s.at + k
  pub rest_is : t.rest ≡ drop k s.rest
  pub long : k ≤ length s.rest

pub stands_first : (s : Spot) → Stands s 0 s
stands_first s = record { at_is = omega arith; rest_is = refl; long = omega arith }

-- the step was refused, or gave a value and what follows was refused
pub bind_case : {A B : Type 0} (r : Result A ℕ) (f : A → Result B ℕ) (p : ℕ) → (r >>= f) ≡ Err p → (r ≡ Err p) ⊎ ((x : A) × (r ≡ Ok x) × (f x ≡ Err p))
bind_case (Ok x) f p e = inr (x, refl, e)
bind_case {A} (Err q) f p e = let same : q ≡ p = err_is q p e in inl (ap (λ (n : ℕ). failed {A = A} n) same)

pub wants_case : {A B : Type 0} (b : Bool) (place : ℕ) (x : A) (f : A → Result B ℕ) (p : ℕ) → (wants b place x >>= f) ≡ Err p → ((b ≡ false) × (p ≡ place)) ⊎ ((b ≡ true) × (f x ≡ Err p))
wants_case true place x f p e = inr (refl, e)
wants_case false place x f p e = inl (refl, sym (err_is place p e))

pub wants_end : {A : Type 0} (b : Bool) (place : ℕ) (x : A) (p : ℕ) → wants b place x ≡ Err p → (b ≡ false) × (p ≡ place)
wants_end true place x p e = absurd cc
wants_end false place x p e = (refl, sym (err_is place p e))

pub if_case : {A : Type 0} (b : Bool) (x y : Result A ℕ) (p : ℕ) → cond b x y ≡ Err p → ((b ≡ true) × (x ≡ Err p)) ⊎ ((b ≡ false) × (y ≡ Err p))
if_case true x y p e = inl (refl, e)
if_case false x y p e = inr (refl, e)

field_case : {A : Type 0} (b : Bool) (d p : ℕ) (x : A) → cond b (failed d) (Ok x) ≡ Err p → (b ≡ true) × (p ≡ d)
field_case true d p x e = (refl, sym (err_is d p e))
field_case false d p x e = absurd cc

field_fine : {A : Type 0} (b : Bool) (d : ℕ) (x y : A) → cond b (failed d) (Ok x) ≡ Ok y → (b ≡ false) × (x ≡ y)
field_fine true d x y e = absurd cc
field_fine false d x y e = (refl, ok_is x y e)

stands_past : (s t : Spot) (k n : ℕ) → Stands s k t → n ≤ length t.rest → Stands s (k + n) (past n t)
stands_past s t k n h enough =
    let len : length t.rest ≡ length (drop k s.rest) = ap length h.rest_is in
    record {
      at_is = omega (arith, h.at_is);
      rest_is = ap (drop n) h.rest_is ∙ drop-drop n k s.rest;
      long = omega (arith, len, length-drop k s.rest, enough, h.long);
    }

cut : (s t : Spot) (k n : ℕ) → Stands s k t → length t.rest < n → IsCut s.rest k n
cut s t k n h short =
    let len : length t.rest ≡ length (drop k s.rest) = ap length h.rest_is in
    record { reaches = h.long; ends = omega (arith, len, length-drop k s.rest, short, h.long) }

-- a number was cut off, or read as it stands there and what follows was refused
pub record NumberRead {B : Type 0} (s : Spot) (k n p : ℕ) (f : ℕ × Spot → Result B ℕ) : Type 0 where
  pub value : ℕ
  pub next : Spot
  pub value_is : value ≡ big_number n (drop k s.rest)
  pub stands : Stands s (k + n) next
  pub goes_on : f (value, next) ≡ Err p

pub number_case : {B : Type 0} (s t : Spot) (k n p : ℕ) (f : ℕ × Spot → Result B ℕ) → Stands s k t → (number_at n t >>= f) ≡ Err p
    → (IsCut s.rest k n × (p ≡ s.at + k)) ⊎ NumberRead s k n p f
number_case s t k n p f h e = elim (bind_case (number_at n t) f p e) [
  | inl short ↦
      let c = field_case (ltb (length t.rest) n) t.at p (big_number n t.rest, past n t) short in
      inl (cut s t k n h (ltb-true _ _ c.0), c.1 ∙ h.at_is)
  | inr x ↦
      let c = field_fine (ltb (length t.rest) n) t.at (big_number n t.rest, past n t) x.0 x.1 in
      inr (record {
        value = big_number n t.rest;
        next = past n t;
        value_is = ap (big_number n) h.rest_is;
        stands = stands_past s t k n h (ltb-false _ _ c.0);
        goes_on = ap f c.1 ∙ x.2;
      })
]

pub record BytesRead {B : Type 0} (s : Spot) (k n p : ℕ) (f : List ℕ × Spot → Result B ℕ) : Type 0 where
  pub value : List ℕ
  pub next : Spot
  pub value_is : value ≡ take n (drop k s.rest)
  pub stands : Stands s (k + n) next
  pub goes_on : f (value, next) ≡ Err p

pub bytes_case : {B : Type 0} (s t : Spot) (k n p : ℕ) (f : List ℕ × Spot → Result B ℕ) → Stands s k t → (bytes_at n t >>= f) ≡ Err p
    → (IsCut s.rest k n × (p ≡ s.at + k)) ⊎ BytesRead s k n p f
bytes_case s t k n p f h e = elim (bind_case (bytes_at n t) f p e) [
  | inl short ↦
      let c = field_case (ltb (length t.rest) n) t.at p (take n t.rest, past n t) short in
      inl (cut s t k n h (ltb-true _ _ c.0), c.1 ∙ h.at_is)
  | inr x ↦
      let c = field_fine (ltb (length t.rest) n) t.at (take n t.rest, past n t) x.0 x.1 in
      inr (record {
        value = take n t.rest;
        next = past n t;
        value_is = ap (take n) h.rest_is;
        stands = stands_past s t k n h (ltb-false _ _ c.0);
        goes_on = ap f c.1 ∙ x.2;
      })
]

pub whole : (s t : Spot) (k n : ℕ) → Stands s k t → n ≤ k → n ≤ length s.rest
whole s t k n h le = omega (arith, h.long, le)

IsBytes-drop : (n : ℕ) (bytes : List ℕ) → IsBytes bytes → IsBytes (drop n bytes)
IsBytes-drop n bytes h i = rw get_or-drop (h (n + i))

-- bytes that were taken
pub bytes_take : (n : ℕ) (s : Spot) (x : List ℕ × Spot) → IsBytes s.rest → bytes_at n s ≡ Ok x → Takes s x.0 x.1
bytes_take n s x fits e =
    let g = field_fine (ltb (length s.rest) n) s.at (take n s.rest, past n s) x e in
    let long : n ≤ length s.rest = ltb-false _ _ g.0 in
    let len : length (take n s.rest) ≡ n = omega (arith, length-take n s.rest, long) in
    let whole : Takes s (take n s.rest) (past n s) = record {
      parts = sym (take-append-drop n s.rest);
      place = rw len refl;
      rest_fits = IsBytes-drop n s.rest fits;
    } in
    subst (λ (p : List ℕ × Spot). Takes s p.0 p.1) g.1 whole

-- where reading stands after a field that was read
pub number_stands : (s t : Spot) (k n : ℕ) (x : ℕ × Spot) → Stands s k t → number_at n t ≡ Ok x → (x.0 ≡ big_number n (drop k s.rest)) × Stands s (k + n) x.1
number_stands s t k n x h e =
    let c = field_fine (ltb (length t.rest) n) t.at (big_number n t.rest, past n t) x e in
    subst (λ (y : ℕ × Spot). (y.0 ≡ big_number n (drop k s.rest)) × Stands s (k + n) y.1) c.1 (ap (big_number n) h.rest_is, stands_past s t k n h (ltb-false _ _ c.0))

pub bytes_stand : (s t : Spot) (k n : ℕ) (x : List ℕ × Spot) → Stands s k t → bytes_at n t ≡ Ok x → (x.0 ≡ take n (drop k s.rest)) × Stands s (k + n) x.1
bytes_stand s t k n x h e =
    let c = field_fine (ltb (length t.rest) n) t.at (take n t.rest, past n t) x e in
    subst (λ (y : List ℕ × Spot). (y.0 ≡ take n (drop k s.rest)) × Stands s (k + n) y.1) c.1 (ap (take n) h.rest_is, stands_past s t k n h (ltb-false _ _ c.0))

-- ---- and the other way: a field that is cut off is refused there, and one that isn't is read

pub then_err : {A B : Type 0} (r : Result A ℕ) (f : A → Result B ℕ) (x : A) (p : ℕ) → r ≡ Ok x → f x ≡ Err p → (r >>= f) ≡ Err p
then_err r f x p e g = ap (λ q. q >>= f) e ∙ g

pub wants_then : {A B : Type 0} (b : Bool) (place : ℕ) (x : A) (f : A → Result B ℕ) (p : ℕ) → b ≡ true → f x ≡ Err p → (wants b place x >>= f) ≡ Err p
wants_then true place x f p e g = g
wants_then false place x f p e g = absurd cc

pub wants_fails : {A B : Type 0} (b : Bool) (place : ℕ) (x : A) (f : A → Result B ℕ) (p : ℕ) → b ≡ false → place ≡ p → (wants b place x >>= f) ≡ Err p
wants_fails {B = B} false place x f p e g = ap (λ (n : ℕ). failed {A = B} n) g
wants_fails true place x f p e g = absurd cc

short_then : {A B : Type 0} (b : Bool) (d p : ℕ) (x : A) (f : A → Result B ℕ) → b ≡ true → d ≡ p → (cond b (failed d) (Ok x) >>= f) ≡ Err p
short_then {B = B} true d p x f e g = ap (λ (n : ℕ). failed {A = B} n) g
short_then false d p x f e g = absurd cc

short_of : (s t : Spot) (k n : ℕ) → Stands s k t → IsCut s.rest k n → ltb (length t.rest) n ≡ true
short_of s t k n h c = lt-ltb _ _ (omega (arith, ap length h.rest_is, length-drop k s.rest, c.ends, c.reaches))

pub number_short : {B : Type 0} (s t : Spot) (k n : ℕ) (f : ℕ × Spot → Result B ℕ) → Stands s k t → IsCut s.rest k n → (number_at n t >>= f) ≡ Err (s.at + k)
number_short s t k n f h c = short_then (ltb (length t.rest) n) t.at (s.at + k) (big_number n t.rest, past n t) f (short_of s t k n h c) h.at_is

pub bytes_short : {B : Type 0} (s t : Spot) (k n : ℕ) (f : List ℕ × Spot → Result B ℕ) → Stands s k t → IsCut s.rest k n → (bytes_at n t >>= f) ≡ Err (s.at + k)
bytes_short s t k n f h c = short_then (ltb (length t.rest) n) t.at (s.at + k) (take n t.rest, past n t) f (short_of s t k n h c) h.at_is

enough_of : (s t : Spot) (k n : ℕ) → Stands s k t → k + n ≤ length s.rest → n ≤ length t.rest
enough_of s t k n h long = omega (arith, ap length h.rest_is, length-drop k s.rest, long)

pub record Long {A : Type 0} (s : Spot) (k n : ℕ) (value : A) (r : Read A) : Type 0 where
  pub next : Spot
  pub is : r ≡ Ok (value, next)
  pub stands : Stands s (k + n) next

long_of : {A : Type 0} (b : Bool) (d : ℕ) (x : A) → b ≡ false → cond b (failed d) (Ok x) ≡ Ok x
long_of false d x e = refl
long_of true d x e = absurd cc

pub number_long : (s t : Spot) (k n : ℕ) → Stands s k t → k + n ≤ length s.rest → Long s k n (big_number n (drop k s.rest)) (number_at n t)
number_long s t k n h long =
    let enough = enough_of s t k n h long in
    record {
      next = past n t;
      is = long_of (ltb (length t.rest) n) t.at (big_number n t.rest, past n t) (le-ltb _ _ enough) ∙ ap (λ (v : List ℕ). let r : Read ℕ = Ok (big_number n v, past n t) in r) h.rest_is;
      stands = stands_past s t k n h enough;
    }

pub bytes_long : (s t : Spot) (k n : ℕ) → Stands s k t → k + n ≤ length s.rest → Long s k n (take n (drop k s.rest)) (bytes_at n t)
bytes_long s t k n h long =
    let enough = enough_of s t k n h long in
    record {
      next = past n t;
      is = long_of (ltb (length t.rest) n) t.at (take n t.rest, past n t) (le-ltb _ _ enough) ∙ ap (λ (v : List ℕ). let r : Read (List ℕ) = Ok (take n v, past n t) in r) h.rest_is;
      stands = stands_past s t k n h enough;
    }
