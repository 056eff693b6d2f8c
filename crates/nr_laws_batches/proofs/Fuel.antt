-- Each entry and each batch takes a byte or more, so that the number of bytes is fuel enough.
use Rattle.std.proofs.Common.{◌≡◌, ℕ, zero, suc, ◌+◌, ◌<◌, ◌≤◌, Bool, true, false, cond, eqb, leb, ltb, ◌&&◌, List, [], ◌∷◌, length, take, Result, Ok, Err, refl, sym, ap, subst, ◌∙◌, inl, inr, ◌⊎◌, arith}
use Rattle.std.proofs.lemmas.Bool.{ltb-false, eq-eqb, eqb-true, lt-ltb}
use Rattle.std.proofs.lemmas.List.{length-drop, nil_from_length}
use Rattle.byteorder.specs.Endian.{big_number}
use Rattle.nr_spec_wire.specs.Reading.{Spot, Read, ◌>>=◌, number_at, bytes_at, part_at, wants, past}
use Rattle.nr_spec_wire.proofs.Steps.{ok_is, bind_ok, wants_ok}
use Rattle.nr_spec_log.specs.Chain.{LogEntry}
use Rattle.nr_spec_log.specs.Answer.{entry_at, last_time}
use Rattle.nr_spec_store.specs.LogFile.{is_open, entries_to_end, part_of_batch, batch_at, batches_at}

-- ---- what a field leaves is shorter

abbrev short : {A : Type 0} → ℕ → Result A ℕ
short place = Err place

field_ok : {A : Type 0} (b : Bool) (place : ℕ) (x y : A) → cond b (short place) (Ok x) ≡ Ok y → (b ≡ false) × (x ≡ y)
field_ok true place x y e = absurd cc
field_ok false place x y e = (refl, ok_is x y e)

number_eats : (n : ℕ) (s : Spot) (x : ℕ × Spot) → number_at n s ≡ Ok x → length x.1.rest + n ≡ length s.rest
number_eats n s x e =
    let g = field_ok (ltb (length s.rest) n) s.at (big_number n s.rest, past n s) x e in
    let long : n ≤ length s.rest = ltb-false _ _ g.0 in
    subst (λ (p : ℕ × Spot). length p.1.rest + n ≡ length s.rest) g.1 (omega (arith, long, length-drop n s.rest))

bytes_eat : (n : ℕ) (s : Spot) (x : List ℕ × Spot) → bytes_at n s ≡ Ok x → length x.1.rest ≤ length s.rest
bytes_eat n s x e =
    let g = field_ok (ltb (length s.rest) n) s.at (take n s.rest, past n s) x e in
    subst (λ (p : List ℕ × Spot). length p.1.rest ≤ length s.rest) g.1 (omega (arith, length-drop n s.rest))

part_eats : (n : ℕ) (s : Spot) (x : Spot × Spot) → part_at n s ≡ Ok x → length x.1.rest ≤ length s.rest
part_eats n s x e =
    let inner : Spot = record { at = s.at; rest = take n s.rest } in
    let g = field_ok (ltb (length s.rest) n) s.at (inner, past n s) x e in
    subst (λ (p : Spot × Spot). length p.1.rest ≤ length s.rest) g.1 (omega (arith, length-drop n s.rest))

entry_eats : (last : ℕ) (s : Spot) (x : LogEntry × Spot) → entry_at false last s ≡ Ok x → length x.1.rest < length s.rest
unfolding entry_at
entry_eats last s x e =
    let a = bind_ok (number_at 8 s) _ x e in
    let b = bind_ok (wants (leb last a.0.0) s.at a.0) _ x a.2 in
    let same = wants_ok (leb last a.0.0) s.at a.0 b.0 b.1 in
    let c = bind_ok (number_at 1 b.0.1) _ x b.2 in
    let d = bind_ok (number_at 2 c.0.1) _ x c.2 in
    let f = bind_ok (bytes_at d.0.0 d.0.1) _ x d.2 in
    let made : LogEntry = record { time = b.0.0; kind = c.0.0; content = f.0.0 } in
    let last_is : length a.0.1.rest ≡ length b.0.1.rest = ap (λ (p : ℕ × Spot). length p.1.rest) same.1 in
    let left : length f.0.1.rest ≡ length x.1.rest = ap (λ (p : LogEntry × Spot). length p.1.rest) (ok_is (made, f.0.1) x f.2) in
    omega (arith, left, last_is, number_eats 8 s a.0 a.1, number_eats 1 b.0.1 c.0 c.1, number_eats 2 c.0.1 d.0 d.1, bytes_eat d.0.0 d.0.1 f.0 f.1)

batch_eats : (last : ℕ) (s : Spot) (x : List LogEntry × Spot) → batch_at last s ≡ Ok x → length x.1.rest < length s.rest
unfolding batch_at part_of_batch
batch_eats last s x e =
    let a = bind_ok (part_of_batch s) _ x e in
    let b = bind_ok (entries_to_end last (length a.0.0.rest) a.0.0) _ x a.2 in
    let left : length a.0.1.rest ≡ length x.1.rest = ap (λ (p : List LogEntry × Spot). length p.1.rest) (ok_is (b.0.0, a.0.1) x b.2) in
    let n = bind_ok (number_at 4 s) _ a.0 a.1 in
    let w = bind_ok (wants (leb 1 n.0.0 && ltb n.0.0 (length n.0.1.rest)) s.at n.0) _ a.0 n.2 in
    let same = wants_ok (leb 1 n.0.0 && ltb n.0.0 (length n.0.1.rest)) s.at n.0 w.0 w.1 in
    let size_is : length n.0.1.rest ≡ length w.0.1.rest = ap (λ (p : ℕ × Spot). length p.1.rest) same.1 in
    omega (arith, left, size_is, number_eats 4 s n.0 n.1, part_eats w.0.0 w.0.1 a.0 w.2)

-- ---- what goes on alike is alike

bind_same : {A B : Type 0} (r : Result A ℕ) (f g : A → Result B ℕ) → ((x : A) → r ≡ Ok x → f x ≡ g x) → (r >>= f) ≡ (r >>= g)
bind_same (Ok x) f g h = h x refl
bind_same (Err place) f g h = refl

-- ---- entries

no_entries : (last n : ℕ) (s : Spot) → length s.rest ≡ 0 → entries_to_end last n s ≡ Ok ([], s)
unfolding entries_to_end
no_entries last zero s none = refl
no_entries last (suc n) s none = let e : eqb (length s.rest) 0 ≡ true = eq-eqb _ _ none in rw e refl

pub enough_for_entries : (n m last : ℕ) (s : Spot) → length s.rest ≤ n → length s.rest ≤ m → entries_to_end last n s ≡ entries_to_end last m s
unfolding entries_to_end
enough_for_entries zero m last s a b = no_entries last zero s (omega arith) ∙ sym (no_entries last m s (omega arith))
enough_for_entries (suc n) zero last s a b = no_entries last (suc n) s (omega arith) ∙ sym (no_entries last zero s (omega arith))
enough_for_entries (suc n) (suc m) last s a b =
    ap (λ (r : Read (List LogEntry)). cond (eqb (length s.rest) 0) (Ok ([], s)) r)
    (bind_same (entry_at false last s) _ _ (λ x is. ap (λ (r : Read (List LogEntry)). r >>= λ others. Ok (x.0 ∷ others.0, others.1))
    (enough_for_entries n m x.0.time x.1 (omega (arith, a, entry_eats last s x is)) (omega (arith, b, entry_eats last s x is)))))

by_test : {A : Type 0} (test : Bool) (x y z : A) → cond test x y ≡ z → ((test ≡ true) × (x ≡ z)) ⊎ ((test ≡ false) × (y ≡ z))
by_test true x y z e = inl (refl, e)
by_test false x y z e = inr (refl, e)

pub nothing_left : (last n : ℕ) (s new : Spot) (es : List LogEntry) → length s.rest ≤ n → entries_to_end last n s ≡ Ok (es, new) → length new.rest ≡ 0
unfolding entries_to_end
nothing_left last zero s new es enough e = omega (arith, ap (λ (p : List LogEntry × Spot). length p.1.rest) (ok_is ([], s) (es, new) e))
nothing_left last (suc n) s new es enough e =
    elim (by_test (eqb (length s.rest) 0) _ _ _ e) [
      | inl none ↦ omega (arith, eqb-true _ _ none.0, ap (λ (p : List LogEntry × Spot). length p.1.rest) (ok_is ([], s) (es, new) none.1))
      | inr more ↦
          let a = bind_ok (entry_at false last s) _ (es, new) more.1 in
          let b = bind_ok (entries_to_end a.0.0.time n a.0.1) _ (es, new) a.2 in
          let made : List LogEntry = a.0.0 ∷ b.0.0 in
          let left : length b.0.1.rest ≡ length new.rest = ap (λ (p : List LogEntry × Spot). length p.1.rest) (ok_is (made, b.0.1) (es, new) b.2) in
          omega (arith, left, nothing_left a.0.0.time n a.0.1 b.0.1 b.0.0 (omega (arith, enough, entry_eats last s a.0 a.1)) b.1)
    ]

pub nothing_more : (last n : ℕ) (s new : Spot) (es : List LogEntry) → length s.rest ≤ n → entries_to_end last n s ≡ Ok (es, new) → new.rest ≡ []
nothing_more last n s new es enough e = nil_from_length new.rest (nothing_left last n s new es enough e)

-- ---- batches

no_batches : (last n : ℕ) (s : Spot) → length s.rest ≡ 0 → batches_at last n s ≡ Err s.at
unfolding batches_at
no_batches last zero s none = refl
no_batches last (suc n) s none = let e : ltb (length s.rest) 1 ≡ true = lt-ltb _ _ (omega (arith, none)) in rw e refl

pub enough_for_batches : (n m last : ℕ) (s : Spot) → length s.rest ≤ n → length s.rest ≤ m → batches_at last n s ≡ batches_at last m s
unfolding batches_at
enough_for_batches zero m last s a b = no_batches last zero s (omega arith) ∙ sym (no_batches last m s (omega arith))
enough_for_batches (suc n) zero last s a b = no_batches last (suc n) s (omega arith) ∙ sym (no_batches last zero s (omega arith))
enough_for_batches (suc n) (suc m) last s a b =
    bind_same (number_at 1 s) _ _ (λ gate gate_is. ap (λ (r : Read (List (List LogEntry))). cond (is_open gate.0) r (Ok ([], gate.1)))
    (bind_same (batch_at last gate.1) _ _ (λ x is. ap (λ (r : Read (List (List LogEntry))). r >>= λ others. Ok (x.0 ∷ others.0, others.1))
    (enough_for_batches n m (last_time last x.0) x.1 (omega (arith, a, number_eats 1 s gate gate_is, batch_eats last gate.1 x is)) (omega (arith, b, number_eats 1 s gate gate_is, batch_eats last gate.1 x is))))))
