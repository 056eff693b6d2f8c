-- A loop over rows: those that were read, joined with what reading the others gives, are what reading all gives.
use Rattle.std.proofs.Common.{◌≡◌, ℕ, zero, suc, ◌+◌, ◌-◌, ◌<◌, ◌≤◌, List, [], ◌∷◌, ◌++◌, Option, Some, Ok, Err, refl, sym, ap, ◌∙◌, append_assoc, append-nil, arith}
use Rattle.nr_spec_wire.specs.Reading.{Spot, Read, ◌>>=◌}
use Rattle.nr_spec_routes.specs.Keys.{Key, Row}
use Rattle.nr_spec_bodies.specs.Reading.{row_at, rows_behind}

abbrev pub behind : List Row → Read (List Row) → Read (List Row)
behind xs (Ok read) = Ok (xs ++ read.0, read.1)
behind xs (Err place) = Err place

done_read : List Row → Spot → Read (List Row)
done_read xs s = Ok (xs, s)

spent : (before : Option Key) (n : ℕ) (s : Spot) → n ≡ 0 → rows_behind before n s ≡ Ok ([], s)
unfolding rows_behind
spent before zero s e = refl
spent before (suc n) s e = absurd (omega arith)

more : (before : Option Key) (n : ℕ) (s next : Spot) (r : Row) (xs : List Row) → (n ≡ 0 → ⊥) → row_at before s ≡ Ok (r, next) → behind xs (rows_behind before n s) ≡ behind (xs ++ r ∷ []) (rows_behind (Some r.0) (n - 1) next)
unfolding rows_behind
more before zero s next r xs left e = absurd (left refl)
more before (suc n) s next r xs left e =
    let one : suc n - 1 ≡ n = omega arith in
    rw (e, one) (by (rows_behind (Some r.0) n next))
  where
    by : (q : Read (List Row)) → behind xs (q >>= λ others. Ok (r ∷ others.0, others.1)) ≡ behind (xs ++ r ∷ []) q
    by (Ok others) = ap (λ (l : List Row). Ok (l, others.1)) (sym (append_assoc xs (r ∷ []) others.0))
    by (Err place) = refl

faulty : (before : Option Key) (n : ℕ) (s : Spot) (place : ℕ) (xs : List Row) → (n ≡ 0 → ⊥) → row_at before s ≡ Err place → behind xs (rows_behind before n s) ≡ Err place
unfolding rows_behind
faulty before zero s place xs left e = absurd (left refl)
faulty before (suc n) s place xs left e = rw e refl

pub row_goes : (before : Option Key) (count i : ℕ) (s next : Spot) (r : Row) (xs new : List Row) (total : Read (List Row)) → new ≡ xs ++ r ∷ [] → i < count → row_at before s ≡ Ok (r, next)
    → behind xs (rows_behind before (count - i) s) ≡ total → behind new (rows_behind (Some r.0) (count - (i + 1)) next) ≡ total
row_goes before count i s next r xs new total is lt e so_far =
    let one : count - (i + 1) ≡ count - i - 1 = omega arith in
    ap (λ (l : List Row). behind l (rows_behind (Some r.0) (count - (i + 1)) next)) is
    ∙ ap (λ (n : ℕ). behind (xs ++ r ∷ []) (rows_behind (Some r.0) n next)) one ∙ sym (more before (count - i) s next r xs (λ z. omega arith) e) ∙ so_far

pub row_fails : (before : Option Key) (count i : ℕ) (s : Spot) (place : ℕ) (xs : List Row) (total : Read (List Row)) → i < count → row_at before s ≡ Err place
    → behind xs (rows_behind before (count - i) s) ≡ total → total ≡ Err place
row_fails before count i s place xs total lt e so_far = sym so_far ∙ faulty before (count - i) s place xs (λ z. omega arith) e

pub row_done : (before : Option Key) (count i : ℕ) (s : Spot) (xs : List Row) (total : Read (List Row)) → count ≤ i → behind xs (rows_behind before (count - i) s) ≡ total → total ≡ Ok (xs, s)
row_done before count i s xs total le so_far =
    sym so_far ∙ ap (behind xs) (spent before (count - i) s (omega arith)) ∙ ap (λ (l : List Row). Ok (l, s)) (append-nil xs)

behind_none : (q : Read (List Row)) → behind [] q ≡ q
behind_none (Ok read) = refl
behind_none (Err place) = refl

pub row_starts : (rows : List Row) (before : Option Key) (count : ℕ) (s : Spot) → rows ≡ [] → behind rows (rows_behind before (count - 0) s) ≡ rows_behind before count s
row_starts rows before count s none =
    let n : count - 0 ≡ count = omega arith in
    ap (λ (l : List Row). behind l (rows_behind before (count - 0) s)) none ∙ behind_none (rows_behind before (count - 0) s) ∙ ap (λ (m : ℕ). rows_behind before m s) n
