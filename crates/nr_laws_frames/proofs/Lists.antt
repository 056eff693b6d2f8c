-- Receipts among what was sent.
use Rattle.std.proofs.Common.{◌≡◌, ℕ, suc, ◌+◌, ◌≤◌, Bool, true, false, cond, List, [], ◌∷◌, ◌++◌, length, take, drop, refl, sym, ap, subst, ◌∙◌, arith, ◌⊎◌, inl, inr}
use Rattle.std.specs.Str.{bytes_eq}
use Rattle.std.proofs.lemmas.List.{length-drop, length-take}
use Rattle.std.proofs.Math.Seq.{take-add}
use Rattle.std.proofs.lemmas.Slice.Eq.{bytes_eq-Decides}
use Rattle.nr_spec_frames.specs.Verdicts.{Accepted, matched}
use Rattle.nr_spec_frames.specs.Receipts.{Among, Tight, Received}

pub by_test : {A : Type 0} (test : Bool) (x y z : A) → cond test x y ≡ z → ((test ≡ true) × (x ≡ z)) ⊎ ((test ≡ false) × (y ≡ z))
by_test true x y z e = inl (refl, e)
by_test false x y z e = inr (refl, e)

-- ---- tight lists

-- Where these stand tight in those, and others behind them in what comes behind those, all stand tight in all.
pub tight_then : (rs ss rs' ss' : List (List ℕ)) → Tight rs ss → Tight rs' ss' → Tight (rs ++ rs') (ss ++ ss')
tight_then [] [] rs' ss' p q = q
tight_then [] (s ∷ ss) rs' ss' p q = absurd p
tight_then (r ∷ rs) [] rs' ss' p q = absurd p
tight_then (r ∷ rs) (s ∷ ss) rs' ss' (inl p) q = inl (p.0, tight_then rs ss rs' ss' p.1 q)
tight_then (r ∷ rs) (s ∷ ss) rs' ss' (inr p) q = inr (tight_then (r ∷ rs) ss rs' ss' p q)

pub tight_among : (rs ss : List (List ℕ)) → Tight rs ss → Among rs ss
tight_among [] ss p = tt
tight_among (r ∷ rs) [] p = absurd p
tight_among (r ∷ rs) (s ∷ ss) (inl p) = inl (p.0, tight_among rs ss p.1)
tight_among (r ∷ rs) (s ∷ ss) (inr p) = inr (tight_among (r ∷ rs) ss p)

pub tight_none : (ss : List (List ℕ)) → Tight [] ss → ss ≡ []
tight_none [] p = refl
tight_none (s ∷ ss) p = absurd p

pub tight_last : (rs : List (List ℕ)) (raw : List ℕ) (ss : List (List ℕ)) → Tight (rs ++ raw ∷ []) ss → (first : List (List ℕ)) × (ss ≡ first ++ raw ∷ [])
tight_last [] raw [] p = absurd p
tight_last [] raw (s ∷ ss) (inl p) = ([], ap (λ (x : List ℕ). x ∷ ss) (sym p.0) ∙ ap (λ (x : List (List ℕ)). raw ∷ x) (tight_none ss p.1))
tight_last [] raw (s ∷ ss) (inr p) =
    let more = tight_last [] raw ss p in
    (s ∷ more.0, ap (λ (x : List (List ℕ)). s ∷ x) more.1)
tight_last (r ∷ rs) raw [] p = absurd p
tight_last (r ∷ rs) raw (s ∷ ss) (inl p) =
    let more = tight_last rs raw ss p.1 in
    (s ∷ more.0, ap (λ (x : List (List ℕ)). s ∷ x) more.1)
tight_last (r ∷ rs) raw (s ∷ ss) (inr p) =
    let more = tight_last (r ∷ rs) raw ss p in
    (s ∷ more.0, ap (λ (x : List (List ℕ)). s ∷ x) more.1)

-- What stands tight in the first u is received up to u.
pub tight_received : (came sends : List (List ℕ)) (u : ℕ) → u ≤ length sends → Tight came (take u sends) → Received came sends u
tight_received came sends u within p = record {
  within = within;
  in_order = tight_among came (take u sends) p;
  last = λ before raw e. tight_last before raw (take u sends) (subst (λ (t : List (List ℕ)). Tight t (take u sends)) e p);
  none = λ e. omega (arith, length-take u sends, ap length (tight_none (take u sends) (subst (λ (t : List (List ℕ)). Tight t (take u sends)) e p)));
}

-- ---- what is matched

pub record Match (upto : ℕ) (rs ss : List (List ℕ)) (u : ℕ) : Type 0 where
  pub taken : ℕ
  pub up : u ≡ upto + taken
  pub within : taken ≤ length ss
  pub tight : Tight rs (take taken ss)

accepted_is : (u v : ℕ) → Accepted u ≡ Accepted v → u ≡ v
accepted_is u v e = cc

pub matched_takes : (upto i : ℕ) (rs ss : List (List ℕ)) (u : ℕ) → matched upto i rs ss ≡ Accepted u → Match upto rs ss u
unfolding matched
matched_takes upto i [] ss u e = record { taken = 0; up = omega (arith, accepted_is upto u e); within = omega arith; tight = tt }
matched_takes upto i (r ∷ rs) [] u e = absurd cc
matched_takes upto i (r ∷ rs) (s ∷ ss) u e = elim (by_test (bytes_eq r s) _ _ _ e) [
  | inl met ↦
      let m = matched_takes (upto + 1) (i + 1) rs ss u met.1 in
      record { taken = suc m.taken; up = omega (arith, m.up); within = omega (arith, m.within); tight = inl ((bytes_eq-Decides r s).0 met.0, m.tight) }
  | inr unmet ↦
      let m = matched_takes (upto + 1) i (r ∷ rs) ss u unmet.1 in
      record { taken = suc m.taken; up = omega (arith, m.up); within = omega (arith, m.within); tight = inr m.tight }
]

-- ---- more behind what stands

-- Receipts that stand tight up to u and others that are matched behind u stand tight up to where these are matched.
pub more_received : (came others sends : List (List ℕ)) (u v : ℕ) → u ≤ length sends → Tight came (take u sends) → Match u others (drop u sends) v
    → (v ≤ length sends) × Tight (came ++ others) (take v sends)
more_received came others sends u v within p m =
    let all = tight_then came (take u sends) others (take m.taken (drop u sends)) p m.tight in
    let both : take v sends ≡ take u sends ++ take m.taken (drop u sends) = ap (λ (k : ℕ). take k sends) m.up ∙ take-add u m.taken sends in
    (omega (arith, m.up, m.within, length-drop u sends), subst (λ (t : List (List ℕ)). Tight (came ++ others) t) (sym both) all)

pub more_stand : (came others sends : List (List ℕ)) (i u v : ℕ) → u ≤ length sends → Tight came (take u sends) → matched u i others (drop u sends) ≡ Accepted v
    → (v ≤ length sends) × Tight (came ++ others) (take v sends)
more_stand came others sends i u v within p e = more_received came others sends u v within p (matched_takes u i others (drop u sends) v e)
