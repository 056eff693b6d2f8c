-- The first value of each type is one of that type.
use Rattle.std.proofs.Common.{◌≡◌, ℕ, zero, suc, Bool, true, false, ◌||◌, cond, eqb, List, [], ◌∷◌, ◌++◌, length, Option, Some, None, Result, Ok, refl, ap, subst, ◌∙◌, inl, inr, ◌⊎◌}
use Rattle.std.specs.Prelude.{is_some}
use Rattle.std.proofs.lemmas.Bool.{eqb-true}
use Rattle.nr_spec_wire.specs.Reading.{Spot, Read, ◌>>=◌, wants}
use Rattle.nr_spec_bgp.specs.Attributes.{Attribute, Placed, attribute_at, first_of, is_value, may_follow, attributes_from, attributes_at}
use Rattle.nr_spec_bgp.proofs.Steps.{bind_ok, ok_is, wants_ok}

abbrev pub AreInRange : Bool → List Attribute → Type 0
AreInRange as4 list = (kind : ℕ) (value : List ℕ) → first_of kind list ≡ Some value → is_value as4 kind value ≡ true

-- the first value with one more attribute is the one before, or the attribute's own where there was none
first_of_more : (kind : ℕ) (before : List Attribute) (a : Attribute) (value : List ℕ) → first_of kind (before ++ a ∷ []) ≡ Some value
    → (first_of kind before ≡ Some value) ⊎ ((first_of kind before ≡ None) × (eqb a.kind kind ≡ true) × (a.value ≡ value))
first_of_more kind [] a value e = last_of (eqb a.kind kind) a.value value e
  where
    last_of : (t : Bool) (v w : List ℕ) → cond t (Some v) None ≡ Some w → (first_of kind [] ≡ Some w) ⊎ ((first_of kind [] ≡ None) × (t ≡ true) × (v ≡ w))
    last_of true v w e = inr (refl, refl, cc)
    last_of false v w e = absurd cc
first_of_more kind (b ∷ before) a value e = more_of (eqb b.kind kind) b.value (first_of kind before) (first_of kind (before ++ a ∷ [])) value (λ h. first_of_more kind before a value h) e
  where
    more_of : (t : Bool) (v : List ℕ) (o p : Option (List ℕ)) (w : List ℕ) → (p ≡ Some w → (o ≡ Some w) ⊎ ((o ≡ None) × (eqb a.kind kind ≡ true) × (a.value ≡ w))) → cond t (Some v) p ≡ Some w
        → (cond t (Some v) o ≡ Some w) ⊎ ((cond t (Some v) o ≡ None) × (eqb a.kind kind ≡ true) × (a.value ≡ w))
    more_of true v o p w h e = inl e
    more_of false v o p w h e = h e

or_of_none : (o : Option (List ℕ)) (b : Bool) → o ≡ None → (is_some o || b) ≡ true → b ≡ true
or_of_none None b n e = e
or_of_none (Some v) b n e = absurd cc

in_range_more : (as4 : Bool) (before : List Attribute) (a : Attribute) → AreInRange as4 before → may_follow as4 before a ≡ true → AreInRange as4 (before ++ a ∷ [])
in_range_more as4 before a h follows kind value e =
    elim (first_of_more kind before a value e) [
      | inl old ↦ h kind value old
      | inr new ↦
          let same : a.kind ≡ kind = eqb-true _ _ new.1 in
          let none : first_of a.kind before ≡ None = ap (λ (k : ℕ). first_of k before) same ∙ new.0 in
          let fine : is_value as4 a.kind a.value ≡ true = or_of_none (first_of a.kind before) (is_value as4 a.kind a.value) none follows in
          let P : ℕ × List ℕ → Type 0 = λ p. is_value as4 p.0 p.1 ≡ true in
          subst P (pair_of same new.2) fine
    ]
  where
    pair_of : {k l : ℕ} {v w : List ℕ} → k ≡ l → v ≡ w → (let x : ℕ × List ℕ = (k, v) in x) ≡ (l, w)
    pair_of p q = cc

step_in_range : (as4 : Bool) (before list : List Attribute) (b : Bool) (item : Read Placed) (others : List Attribute → Spot → Result (List Attribute) ℕ) → AreInRange as4 before
    → ((l : List Attribute) (s : Spot) → AreInRange as4 l → others l s ≡ Ok list → AreInRange as4 list)
    → cond b (Ok before) (item >>= λ a. wants (may_follow as4 before a.0.what) a.0.at a.0.what >>= λ next. others (before ++ next ∷ []) a.1) ≡ Ok list → AreInRange as4 list
step_in_range as4 before list true item others h more e = let same : before ≡ list = ok_is before list e in subst (AreInRange as4) same h
step_in_range as4 before list false item others h more e =
    let a = bind_ok item (λ a. wants (may_follow as4 before a.0.what) a.0.at a.0.what >>= λ next. others (before ++ next ∷ []) a.1) list e in
    let w = bind_ok (wants (may_follow as4 before a.0.0.what) a.0.0.at a.0.0.what) (λ next. others (before ++ next ∷ []) a.0.1) list a.2 in
    let fine = wants_ok (may_follow as4 before a.0.0.what) a.0.0.at a.0.0.what w.0 w.1 in
    let rest : others (before ++ a.0.0.what ∷ []) a.0.1 ≡ Ok list = ap (λ (x : Attribute). others (before ++ x ∷ []) a.0.1) fine.1 ∙ w.2 in
    more (before ++ a.0.0.what ∷ []) a.0.1 (in_range_more as4 before a.0.0.what h fine.0) rest

pub in_range_from : (as4 : Bool) (n : ℕ) (before list : List Attribute) (s : Spot) → AreInRange as4 before → attributes_from n as4 before s ≡ Ok list → AreInRange as4 list
unfolding attributes_from
in_range_from as4 zero before list s h e = let same : before ≡ list = ok_is before list e in subst (AreInRange as4) same h
in_range_from as4 (suc n) before list s h e = step_in_range as4 before list (eqb (length s.rest) 0) (attribute_at s) (attributes_from n as4) h (λ l t. in_range_from as4 n l list t) e

pub in_range : (as4 : Bool) (s : Spot) (list : List Attribute) (kind : ℕ) (value : List ℕ) → attributes_at as4 s ≡ Ok list → first_of kind list ≡ Some value → is_value as4 kind value ≡ true
in_range as4 s list kind value e first = in_range_from as4 (length s.rest) [] list s (λ k v h. absurd cc) e kind value first
