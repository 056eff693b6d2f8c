-- What is matched ends as early as can be, and the receipt that is disputed is the first that can't stand.
use Rattle.std.proofs.Common.{◌≡◌, ℕ, zero, suc, ◌+◌, ◌-◌, ◌≤◌, Bool, true, false, List, [], ◌∷◌, length, take, subst, arith, inl, inr}
use Rattle.std.specs.Str.{bytes_eq}
use Rattle.std.proofs.lemmas.Slice.Eq.{bytes_eq-Decides}
use Rattle.nr_spec_frames.specs.Verdicts.{Accepted, Disputed, matched}
use Rattle.nr_spec_frames.specs.Receipts.{Among, IsFirstLeft, Tight}
use Rattle.nr_laws_frames.proofs.Lists.{by_test, matched_takes}

among_skip : (rs : List (List ℕ)) (s : List ℕ) (ss : List (List ℕ)) → Among rs ss → Among rs (s ∷ ss)
among_skip [] s ss p = tt
among_skip (r ∷ rs) s ss p = inr p

among_tail : (r : List ℕ) (rs ss : List (List ℕ)) → Among (r ∷ rs) ss → Among rs ss
among_tail r rs [] p = absurd p
among_tail r rs (s ∷ ss) (inl p) = among_skip rs s ss p.1
among_tail r rs (s ∷ ss) (inr p) = among_skip rs s ss (among_tail r rs ss p)

accepted_is : (u v : ℕ) → Accepted u ≡ Accepted v → u ≡ v
accepted_is u v e = cc

disputed_is : (u v : ℕ) → Disputed u ≡ Disputed v → u ≡ v
disputed_is u v e = cc

apart : (r s : List ℕ) → bytes_eq r s ≡ false → r ≡ s → ⊥
apart r s e same = clash (bytes_eq r s) ((bytes_eq-Decides r s).1 same) e
  where
    clash : (t : Bool) → t ≡ true → t ≡ false → ⊥
    clash t p q = cc

-- The receipts stand up to the acknowledged number, the last of them at its end.
pub matched_stand : (upto i : ℕ) (rs ss : List (List ℕ)) (u : ℕ) → matched upto i rs ss ≡ Accepted u → (upto ≤ u) × (u ≤ upto + length ss) × Tight rs (take (u - upto) ss)
matched_stand upto i rs ss u e =
    let m = matched_takes upto i rs ss u e in
    let taken : m.taken ≡ u - upto = omega (arith, m.up) in
    (omega (arith, m.up), omega (arith, m.up, m.within), subst (λ (k : ℕ). Tight rs (take k ss)) taken m.tight)

-- The acknowledged number is the least up to which the receipts stand in order.
pub matched_least : (upto i : ℕ) (rs ss : List (List ℕ)) (u k : ℕ) → matched upto i rs ss ≡ Accepted u → Among rs (take k ss) → u ≤ upto + k
unfolding matched
matched_least upto i [] ss u k e p = omega (arith, accepted_is upto u e)
matched_least upto i (r ∷ rs) [] u k e p = absurd cc
matched_least upto i (r ∷ rs) (s ∷ ss) u zero e p = absurd p
matched_least upto i (r ∷ rs) (s ∷ ss) u (suc k) e (inl p) = elim (by_test (bytes_eq r s) _ _ _ e) [
  | inl met ↦ omega (arith, matched_least (upto + 1) (i + 1) rs ss u k met.1 p.1)
  | inr unmet ↦ absurd (apart r s unmet.0 p.0)
]
matched_least upto i (r ∷ rs) (s ∷ ss) u (suc k) e (inr p) = elim (by_test (bytes_eq r s) _ _ _ e) [
  | inl met ↦ omega (arith, matched_least (upto + 1) (i + 1) rs ss u k met.1 (among_tail r rs (take k ss) p))
  | inr unmet ↦ omega (arith, matched_least (upto + 1) i (r ∷ rs) ss u k unmet.1 p)
]

either_fails : (r s : List ℕ) (rs ss : List (List ℕ)) → (Among rs ss → ⊥) → Among (r ∷ rs) (s ∷ ss) → ⊥
either_fails r s rs ss fails (inl p) = fails p.1
either_fails r s rs ss fails (inr p) = fails (among_tail r rs ss p)

other_fails : (r s : List ℕ) (rs ss : List (List ℕ)) → (r ≡ s → ⊥) → (Among (r ∷ rs) ss → ⊥) → Among (r ∷ rs) (s ∷ ss) → ⊥
other_fails r s rs ss other fails (inl p) = other p.0
other_fails r s rs ss other fails (inr p) = fails p

pub matched_disputed : (upto i : ℕ) (rs ss : List (List ℕ)) (j : ℕ) → matched upto i rs ss ≡ Disputed j → IsFirstLeft i j rs ss
unfolding matched
matched_disputed upto i [] ss j e = absurd cc
matched_disputed upto i (r ∷ rs) [] j e = record { before = 0; place = omega (arith, disputed_is i j e); known = omega arith; stand = tt; fails = λ p. p }
matched_disputed upto i (r ∷ rs) (s ∷ ss) j e = elim (by_test (bytes_eq r s) _ _ _ e) [
  | inl met ↦
      let m = matched_disputed (upto + 1) (i + 1) rs ss j met.1 in
      record {
        before = suc m.before;
        place = omega (arith, m.place);
        known = omega (arith, m.known);
        stand = inl ((bytes_eq-Decides r s).0 met.0, m.stand);
        fails = λ p. either_fails r s (take (suc m.before) rs) ss m.fails p;
      }
  | inr unmet ↦
      let m = matched_disputed (upto + 1) i (r ∷ rs) ss j unmet.1 in
      record {
        before = m.before;
        place = omega (arith, m.place);
        known = m.known;
        stand = among_skip (take m.before (r ∷ rs)) s ss m.stand;
        fails = λ p. other_fails r s (take m.before rs) ss (apart r s unmet.0) m.fails p;
      }
]
