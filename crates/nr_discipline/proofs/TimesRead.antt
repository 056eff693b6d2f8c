-- A loop over values of one form.
use Rattle.std.proofs.Common.{◌≡◌, ℕ, zero, suc, ◌+◌, ◌-◌, ◌<◌, ◌≤◌, List, [], ◌∷◌, ◌++◌, Ok, Err, refl, sym, ap, ◌∙◌, append_assoc, append-nil, arith}
use Rattle.nr_spec_wire.specs.Reading.{Spot, Read, ◌>>=◌}
use Rattle.nr_spec_bodies.specs.Reading.{times_at}

abbrev pub after : {A : Type 0} → List A → Read (List A) → Read (List A)
after xs (Ok read) = Ok (xs ++ read.0, read.1)
after xs (Err place) = Err place

module _ {A : Type 0} (item : Spot → Read A) where
  spent : (n : ℕ) (s : Spot) → n ≡ 0 → times_at item n s ≡ Ok ([], s)
  unfolding times_at
  spent zero s e = refl
  spent (suc n) s e = absurd (omega arith)

  joins : (xs : List A) (x : A) (q : Read (List A)) → after xs (q >>= λ others. Ok (x ∷ others.0, others.1)) ≡ after (xs ++ x ∷ []) q
  joins xs x (Ok others) = ap (λ (l : List A). Ok (l, others.1)) (sym (append_assoc xs (x ∷ []) others.0))
  joins xs x (Err place) = refl

  more : (n : ℕ) (s next : Spot) (x : A) (xs : List A) → (n ≡ 0 → ⊥) → item s ≡ Ok (x, next) → after xs (times_at item n s) ≡ after (xs ++ x ∷ []) (times_at item (n - 1) next)
  unfolding times_at
  more zero s next x xs left e = absurd (left refl)
  more (suc n) s next x xs left e = let one : suc n - 1 ≡ n = omega arith in rw (e, one) (joins xs x (times_at item n next))

  faulty : (n : ℕ) (s : Spot) (place : ℕ) (xs : List A) → (n ≡ 0 → ⊥) → item s ≡ Err place → after xs (times_at item n s) ≡ Err place
  unfolding times_at
  faulty zero s place xs left e = absurd (left refl)
  faulty (suc n) s place xs left e = rw e refl

  pub time_fails : (count i : ℕ) (s : Spot) (place : ℕ) (xs : List A) (total : Read (List A)) → i < count → item s ≡ Err place → after xs (times_at item (count - i) s) ≡ total → total ≡ Err place
  time_fails count i s place xs total lt e so_far = sym so_far ∙ faulty (count - i) s place xs (λ z. omega arith) e

  pub time_done : (count i : ℕ) (s : Spot) (xs : List A) (total : Read (List A)) → count ≤ i → after xs (times_at item (count - i) s) ≡ total → total ≡ Ok (xs, s)
  time_done count i s xs total le so_far = sym so_far ∙ ap (after xs) (spent (count - i) s (omega arith)) ∙ ap (λ (l : List A). Ok (l, s)) (append-nil xs)

  after_none : (q : Read (List A)) → after [] q ≡ q
  after_none (Ok read) = refl
  after_none (Err place) = refl

  pub time_starts : (xs : List A) (count : ℕ) (s : Spot) → xs ≡ [] → after xs (times_at item (count - 0) s) ≡ times_at item count s
  time_starts xs count s none =
      let n : count - 0 ≡ count = omega arith in
      ap (λ (l : List A). after l (times_at item (count - 0) s)) none ∙ after_none (times_at item (count - 0) s) ∙ ap (λ m. times_at item m s) n

  pub time_goes : (xs new : List A) (x : A) (count i : ℕ) (s next : Spot) (total : Read (List A)) → new ≡ xs ++ x ∷ [] → i < count → item s ≡ Ok (x, next)
      → after xs (times_at item (count - i) s) ≡ total → after new (times_at item (count - (i + 1)) next) ≡ total
  time_goes xs new x count i s next total is lt e so_far =
      let one : count - (i + 1) ≡ count - i - 1 = omega arith in
      ap (λ (l : List A). after l (times_at item (count - (i + 1)) next)) is
      ∙ ap (λ (n : ℕ). after (xs ++ x ∷ []) (times_at item n next)) one
      ∙ sym (more (count - i) s next x xs (λ z. omega arith) e) ∙ so_far
