-- Reading values one after another, as a loop or an iterator does.
use Rattle.std.proofs.Common.{◌≡◌, ℕ, zero, suc, ◌+◌, ◌-◌, ◌<◌, ◌≤◌, Bool, true, false, List, [], ◌∷◌, length, Option, Some, None, Result, Ok, Err, refl, sym, ap, ◌∙◌, arith}
use Rattle.std.proofs.lemmas.Bool.{ne_eqb}
use Rattle.nr_spec_wire.specs.Reading.{Spot, Read, ◌>>=◌, wants, rows_at, rows, fault}

abbrev fine : {A : Type 0} → A → Result A ℕ
fine x = Ok x

-- two readings that went well and are equal have equal values
pub ok_is : {A : Type 0} (x y : A) → fine x ≡ fine y → x ≡ y
ok_is x y e = cc

-- the value of a step that went well
pub bind_ok : {A B : Type 0} (r : Result A ℕ) (f : A → Result B ℕ) (y : B) → (r >>= f) ≡ Ok y → (x : A) × (r ≡ Ok x) × (f x ≡ Ok y)
bind_ok (Ok x) f y e = (x, refl, e)
bind_ok (Err place) f y e = absurd cc

-- a test that was met
pub wants_ok : {A : Type 0} (test : Bool) (place : ℕ) (x y : A) → wants test place x ≡ Ok y → (test ≡ true) × (x ≡ y)
wants_ok true place x y e = (refl, ok_is x y e)
wants_ok false place x y e = absurd cc

-- a value and what is read after it
abbrev pub behind : {A : Type 0} → A → Read (List A) → Read (List A)
behind x read = read >>= λ others. Ok (x ∷ others.0, others.1)

pub fault-behind : {A : Type 0} (x : A) (read : Read (List A)) → fault (behind x read) ≡ fault read
fault-behind x (Ok others) = refl
fault-behind x (Err place) = refl

pub rows-behind : {A : Type 0} (x : A) (read : Read (List A)) → fault read ≡ None → rows (behind x read) ≡ x ∷ rows read
rows-behind x (Ok others) h = refl
rows-behind x (Err place) h = absurd cc

-- nothing more is read
pub record IsEnd {A : Type 0} (read : Read (List A)) : Type 0 where
  pub rows_end : rows read ≡ []

-- one value is read, and the others as before
pub record IsStep {A : Type 0} (x : A) (read next : Read (List A)) : Type 0 where
  pub step_rows : rows read ≡ x ∷ rows next
  pub step_fault : fault next ≡ None

pub steps : {A : Type 0} (x : A) (read next : Read (List A)) → read ≡ behind x next → fault read ≡ None → IsStep x read next
steps x read next e none =
    let next_none : fault next ≡ None = sym (fault-behind x next) ∙ ap fault (sym e) ∙ none in
    record { step_rows = ap rows e ∙ rows-behind x next next_none; step_fault = next_none }

-- ---- values to the end of the bytes

pub values-spent : {A : Type 0} (item : Spot → Read A) (fuel : ℕ) (s : Spot) → fuel ≡ 0 → rows_at item fuel s ≡ Ok ([], s)
unfolding rows_at
values-spent item zero s h = refl
values-spent item (suc fuel) s h = absurd (omega arith)

pub values-end : {A : Type 0} (item : Spot → Read A) (fuel : ℕ) (s : Spot) → length s.rest ≡ 0 → rows_at item fuel s ≡ Ok ([], s)
unfolding rows_at
values-end item zero s h = refl
values-end item (suc fuel) s h = rw h refl

pub values-more : {A : Type 0} (item : Spot → Read A) (fuel : ℕ) (s : Spot) (x : A) (next : Spot) → (fuel ≡ 0 → ⊥) → (length s.rest ≡ 0 → ⊥) → item s ≡ Ok (x, next)
    → rows_at item fuel s ≡ behind x (rows_at item (fuel - 1) next)
unfolding rows_at
values-more item zero s x next left rest e = absurd (left refl)
values-more item (suc fuel) s x next left rest e =
    let one : suc fuel - 1 ≡ fuel = omega arith in
    rw (ne_eqb (length s.rest) 0 rest, e, one) refl

pub values-fault : {A : Type 0} (item : Spot → Read A) (fuel : ℕ) (s : Spot) (place : ℕ) → (fuel ≡ 0 → ⊥) → (length s.rest ≡ 0 → ⊥) → item s ≡ Err place
    → rows_at item fuel s ≡ Err place
unfolding rows_at
values-fault item zero s place left rest e = absurd (left refl)
values-fault item (suc fuel) s place left rest e = rw (ne_eqb (length s.rest) 0 rest, e) refl

-- ---- a loop that keeps only the fault, has counted i of the values and reads the others from s

pub fault-goes : {A : Type 0} (item : Spot → Read A) (count i : ℕ) (s : Spot) (x : A) (next : Spot) (total : Option ℕ) → i < count → (length s.rest ≡ 0 → ⊥) → item s ≡ Ok (x, next)
    → fault (rows_at item (count - i) s) ≡ total → fault (rows_at item (count - (i + 1)) next) ≡ total
fault-goes item count i s x next total lt rest e so_far =
    let one : count - i - 1 ≡ count - (i + 1) = omega arith in
    let more = ap fault (values-more item (count - i) s x next (λ z. omega arith) rest e) in
    ap (λ (n : ℕ). fault (rows_at item n next)) (sym one) ∙ sym (fault-behind x (rows_at item (count - i - 1) next)) ∙ sym more ∙ so_far

pub fault-fails : {A : Type 0} (item : Spot → Read A) (count i : ℕ) (s : Spot) (place : ℕ) (total : Option ℕ) → i < count → (length s.rest ≡ 0 → ⊥) → item s ≡ Err place
    → fault (rows_at item (count - i) s) ≡ total → total ≡ Some place
fault-fails item count i s place total lt rest e so_far =
    sym so_far ∙ ap fault (values-fault item (count - i) s place (λ z. omega arith) rest e)

pub fault-done : {A : Type 0} (item : Spot → Read A) (count i : ℕ) (s : Spot) (total : Option ℕ) → count ≤ i
    → fault (rows_at item (count - i) s) ≡ total → total ≡ None
fault-done item count i s total le so_far = sym so_far ∙ ap fault (values-spent item (count - i) s (omega arith))

pub fault-ends : {A : Type 0} (item : Spot → Read A) (count i : ℕ) (s : Spot) (total : Option ℕ) → length s.rest ≡ 0
    → fault (rows_at item (count - i) s) ≡ total → total ≡ None
fault-ends item count i s total rest so_far = sym so_far ∙ ap fault (values-end item (count - i) s rest)
