-- The first values of a list of attributes, with one more attribute.
use Rattle.std.proofs.Common.{◌≡◌, ℕ, ◌<◌, ◌^◌, Bool, true, false, ◌||◌, cond, eqb, List, [], ◌∷◌, ◌++◌, length, Option, Some, None, refl, sym, ap, subst, ◌∙◌, inl, inr, ◌⊎◌}
use Rattle.std.specs.Prelude.{is_some, IfSome}
use Rattle.std.proofs.lemmas.Bool.{eqb-true}
use Rattle.nr_spec_bgp.specs.Attributes.{Attribute, is_origin, is_path, is_word, is_words, is_value, first_of, may_follow}
use Rattle.nr_attrs.specs.First.{FirstValues, none_yet, first_after, put, set_origin, set_path, set_next_hop, set_med, set_pref, set_communities, seen_after, StandsFor, IsInRange}

-- ---- the first value of a type

first_other : (k : ℕ) (before : List Attribute) (a : Attribute) → eqb a.kind k ≡ false → first_of k (before ++ a ∷ []) ≡ first_of k before
first_other k [] a e = rw e refl
first_other k (b ∷ before) a e = ap (λ (o : Option (List ℕ)). cond (eqb b.kind k) (Some b.value) o) (first_other k before a e)

first_later : (k : ℕ) (before : List Attribute) (a : Attribute) (old : List ℕ) → first_of k before ≡ Some old → first_of k (before ++ a ∷ []) ≡ Some old
first_later k [] a old e = absurd cc
first_later k (b ∷ before) a old e = later_of (eqb b.kind k) b.value (first_of k before) (first_of k (before ++ a ∷ [])) old (first_later k before a old) e
  where
    later_of : (t : Bool) (v : List ℕ) (o p : Option (List ℕ)) (old : List ℕ) → (o ≡ Some old → p ≡ Some old) → cond t (Some v) o ≡ Some old → cond t (Some v) p ≡ Some old
    later_of true v o p old h e = e
    later_of false v o p old h e = h e

first_new : (k : ℕ) (before : List Attribute) (a : Attribute) → eqb a.kind k ≡ true → first_of k before ≡ None → first_of k (before ++ a ∷ []) ≡ Some a.value
first_new k [] a t e = rw t refl
first_new k (b ∷ before) a t e = new_of (eqb b.kind k) b.value (first_of k before) (first_of k (before ++ a ∷ [])) a.value (first_new k before a t) e
  where
    new_of : (t : Bool) (v : List ℕ) (o p : Option (List ℕ)) (w : List ℕ) → (o ≡ None → p ≡ Some w) → cond t (Some v) o ≡ None → cond t (Some v) p ≡ Some w
    new_of true v o p w h e = absurd cc
    new_of false v o p w h e = h e

-- what becomes of the first value of a type, by an attribute of that type
abbrev FirstStep : ℕ → List Attribute → Bool → List ℕ → Option (Option (List ℕ)) → Type 0
FirstStep k before fine value None = (is_some (first_of k before) || fine) ≡ false
FirstStep k before fine value (Some w) = ((is_some (first_of k before) || fine) ≡ true) × (w ≡ first_of k (before ++ (record { kind = k; value = value }) ∷ []))

first_step : (k : ℕ) (before : List Attribute) (fine : Bool) (value : List ℕ) (o : Option (List ℕ)) → eqb k k ≡ true → o ≡ first_of k before → FirstStep k before fine value (first_after fine o value)
first_step k before true value None t e = (rw (← e) refl, sym (first_new k before (record { kind = k; value = value }) t (sym e)))
first_step k before false value None t e = rw (← e) refl
first_step k before fine value (Some old) t e = (rw (← e) refl, sym (first_later k before (record { kind = k; value = value }) old (sym e)))

-- a first value of a type is one of its type
range_step : (P : List ℕ → Type 0) (fine : Bool) (value : List ℕ) (o : Option (List ℕ)) → IfSome o P → (fine ≡ true → P value) → IfSome (first_after fine o value) (λ w. IfSome w P)
range_step P true value None h p = p refl
range_step P false value None h p = tt
range_step P fine value (Some old) h p = h

-- ---- all of them

-- what becomes of the first values
abbrev pub Step : Bool → List Attribute → Attribute → Option FirstValues → Type 0
Step as4 before a None = may_follow as4 before a ≡ false
Step as4 before a (Some w) = (may_follow as4 before a ≡ true) × StandsFor w (before ++ a ∷ []) × IsInRange as4 w

put_origin : (as4 : Bool) (v : FirstValues) (before : List Attribute) (value : List ℕ) (o : Option (Option (List ℕ))) → StandsFor v before → IsInRange as4 v → FirstStep 1 before (is_origin value) value o → IfSome o (λ w. IfSome w (λ (b : List ℕ). is_origin b ≡ true))
    → Step as4 before (record { kind = 1; value = value }) (put set_origin v o)
put_origin as4 v before value None h r s p = s
put_origin as4 v before value (Some w) h r s p =
    let a : Attribute = record { kind = 1; value = value } in (
      s.0,
      record { origin = s.1; path = h.path ∙ sym (first_other 2 before a refl); next_hop = h.next_hop ∙ sym (first_other 3 before a refl); med = h.med ∙ sym (first_other 4 before a refl); pref = h.pref ∙ sym (first_other 5 before a refl); communities = h.communities ∙ sym (first_other 8 before a refl) },
      record { origin = p; path = r.path; next_hop = r.next_hop; med = r.med; pref = r.pref; communities = r.communities },
    )

see_origin : (as4 : Bool) (v : FirstValues) (before : List Attribute) (value : List ℕ) → length value < 2 ^ 16 → StandsFor v before → IsInRange as4 v → Step as4 before (record { kind = 1; value = value }) (seen_after as4 v (record { kind = 1; value = value }))
see_origin as4 v before value short h r =
    put_origin as4 v before value (first_after (is_origin value) v.origin value) h r (first_step 1 before (is_origin value) value v.origin refl h.origin)
    (range_step (λ (b : List ℕ). is_origin b ≡ true) (is_origin value) value v.origin r.origin (λ t. t))

put_path : (as4 : Bool) (v : FirstValues) (before : List Attribute) (value : List ℕ) (o : Option (Option (List ℕ))) → StandsFor v before → IsInRange as4 v → FirstStep 2 before (is_path as4 value) value o → IfSome o (λ w. IfSome w (λ (b : List ℕ). (is_path as4 b ≡ true) × (length b < 2 ^ 16)))
    → Step as4 before (record { kind = 2; value = value }) (put set_path v o)
put_path as4 v before value None h r s p = s
put_path as4 v before value (Some w) h r s p =
    let a : Attribute = record { kind = 2; value = value } in (
      s.0,
      record { origin = h.origin ∙ sym (first_other 1 before a refl); path = s.1; next_hop = h.next_hop ∙ sym (first_other 3 before a refl); med = h.med ∙ sym (first_other 4 before a refl); pref = h.pref ∙ sym (first_other 5 before a refl); communities = h.communities ∙ sym (first_other 8 before a refl) },
      record { origin = r.origin; path = p; next_hop = r.next_hop; med = r.med; pref = r.pref; communities = r.communities },
    )

see_path : (as4 : Bool) (v : FirstValues) (before : List Attribute) (value : List ℕ) → length value < 2 ^ 16 → StandsFor v before → IsInRange as4 v → Step as4 before (record { kind = 2; value = value }) (seen_after as4 v (record { kind = 2; value = value }))
see_path as4 v before value short h r =
    put_path as4 v before value (first_after (is_path as4 value) v.path value) h r (first_step 2 before (is_path as4 value) value v.path refl h.path)
    (range_step (λ (b : List ℕ). (is_path as4 b ≡ true) × (length b < 2 ^ 16)) (is_path as4 value) value v.path r.path (λ t. (t, short)))

put_next_hop : (as4 : Bool) (v : FirstValues) (before : List Attribute) (value : List ℕ) (o : Option (Option (List ℕ))) → StandsFor v before → IsInRange as4 v → FirstStep 3 before (is_word value) value o → IfSome o (λ w. IfSome w (λ (b : List ℕ). is_word b ≡ true))
    → Step as4 before (record { kind = 3; value = value }) (put set_next_hop v o)
put_next_hop as4 v before value None h r s p = s
put_next_hop as4 v before value (Some w) h r s p =
    let a : Attribute = record { kind = 3; value = value } in (
      s.0,
      record { origin = h.origin ∙ sym (first_other 1 before a refl); path = h.path ∙ sym (first_other 2 before a refl); next_hop = s.1; med = h.med ∙ sym (first_other 4 before a refl); pref = h.pref ∙ sym (first_other 5 before a refl); communities = h.communities ∙ sym (first_other 8 before a refl) },
      record { origin = r.origin; path = r.path; next_hop = p; med = r.med; pref = r.pref; communities = r.communities },
    )

see_next_hop : (as4 : Bool) (v : FirstValues) (before : List Attribute) (value : List ℕ) → length value < 2 ^ 16 → StandsFor v before → IsInRange as4 v → Step as4 before (record { kind = 3; value = value }) (seen_after as4 v (record { kind = 3; value = value }))
see_next_hop as4 v before value short h r =
    put_next_hop as4 v before value (first_after (is_word value) v.next_hop value) h r (first_step 3 before (is_word value) value v.next_hop refl h.next_hop)
    (range_step (λ (b : List ℕ). is_word b ≡ true) (is_word value) value v.next_hop r.next_hop (λ t. t))

put_med : (as4 : Bool) (v : FirstValues) (before : List Attribute) (value : List ℕ) (o : Option (Option (List ℕ))) → StandsFor v before → IsInRange as4 v → FirstStep 4 before (is_word value) value o → IfSome o (λ w. IfSome w (λ (b : List ℕ). is_word b ≡ true))
    → Step as4 before (record { kind = 4; value = value }) (put set_med v o)
put_med as4 v before value None h r s p = s
put_med as4 v before value (Some w) h r s p =
    let a : Attribute = record { kind = 4; value = value } in (
      s.0,
      record { origin = h.origin ∙ sym (first_other 1 before a refl); path = h.path ∙ sym (first_other 2 before a refl); next_hop = h.next_hop ∙ sym (first_other 3 before a refl); med = s.1; pref = h.pref ∙ sym (first_other 5 before a refl); communities = h.communities ∙ sym (first_other 8 before a refl) },
      record { origin = r.origin; path = r.path; next_hop = r.next_hop; med = p; pref = r.pref; communities = r.communities },
    )

see_med : (as4 : Bool) (v : FirstValues) (before : List Attribute) (value : List ℕ) → length value < 2 ^ 16 → StandsFor v before → IsInRange as4 v → Step as4 before (record { kind = 4; value = value }) (seen_after as4 v (record { kind = 4; value = value }))
see_med as4 v before value short h r =
    put_med as4 v before value (first_after (is_word value) v.med value) h r (first_step 4 before (is_word value) value v.med refl h.med)
    (range_step (λ (b : List ℕ). is_word b ≡ true) (is_word value) value v.med r.med (λ t. t))

put_pref : (as4 : Bool) (v : FirstValues) (before : List Attribute) (value : List ℕ) (o : Option (Option (List ℕ))) → StandsFor v before → IsInRange as4 v → FirstStep 5 before (is_word value) value o → IfSome o (λ w. IfSome w (λ (b : List ℕ). is_word b ≡ true))
    → Step as4 before (record { kind = 5; value = value }) (put set_pref v o)
put_pref as4 v before value None h r s p = s
put_pref as4 v before value (Some w) h r s p =
    let a : Attribute = record { kind = 5; value = value } in (
      s.0,
      record { origin = h.origin ∙ sym (first_other 1 before a refl); path = h.path ∙ sym (first_other 2 before a refl); next_hop = h.next_hop ∙ sym (first_other 3 before a refl); med = h.med ∙ sym (first_other 4 before a refl); pref = s.1; communities = h.communities ∙ sym (first_other 8 before a refl) },
      record { origin = r.origin; path = r.path; next_hop = r.next_hop; med = r.med; pref = p; communities = r.communities },
    )

see_pref : (as4 : Bool) (v : FirstValues) (before : List Attribute) (value : List ℕ) → length value < 2 ^ 16 → StandsFor v before → IsInRange as4 v → Step as4 before (record { kind = 5; value = value }) (seen_after as4 v (record { kind = 5; value = value }))
see_pref as4 v before value short h r =
    put_pref as4 v before value (first_after (is_word value) v.pref value) h r (first_step 5 before (is_word value) value v.pref refl h.pref)
    (range_step (λ (b : List ℕ). is_word b ≡ true) (is_word value) value v.pref r.pref (λ t. t))

put_communities : (as4 : Bool) (v : FirstValues) (before : List Attribute) (value : List ℕ) (o : Option (Option (List ℕ))) → StandsFor v before → IsInRange as4 v → FirstStep 8 before (is_words value) value o → IfSome o (λ w. IfSome w (λ (b : List ℕ). is_words b ≡ true))
    → Step as4 before (record { kind = 8; value = value }) (put set_communities v o)
put_communities as4 v before value None h r s p = s
put_communities as4 v before value (Some w) h r s p =
    let a : Attribute = record { kind = 8; value = value } in (
      s.0,
      record { origin = h.origin ∙ sym (first_other 1 before a refl); path = h.path ∙ sym (first_other 2 before a refl); next_hop = h.next_hop ∙ sym (first_other 3 before a refl); med = h.med ∙ sym (first_other 4 before a refl); pref = h.pref ∙ sym (first_other 5 before a refl); communities = s.1 },
      record { origin = r.origin; path = r.path; next_hop = r.next_hop; med = r.med; pref = r.pref; communities = p },
    )

see_communities : (as4 : Bool) (v : FirstValues) (before : List Attribute) (value : List ℕ) → length value < 2 ^ 16 → StandsFor v before → IsInRange as4 v → Step as4 before (record { kind = 8; value = value }) (seen_after as4 v (record { kind = 8; value = value }))
see_communities as4 v before value short h r =
    put_communities as4 v before value (first_after (is_words value) v.communities value) h r (first_step 8 before (is_words value) value v.communities refl h.communities)
    (range_step (λ (b : List ℕ). is_words b ≡ true) (is_words value) value v.communities r.communities (λ t. t))

-- which type an attribute has
data Kind (k : ℕ) : Type 0 where
  is_origin_kind : k ≡ 1 → Kind k
  is_path_kind : k ≡ 2 → Kind k
  is_next_hop_kind : k ≡ 3 → Kind k
  is_med_kind : k ≡ 4 → Kind k
  is_pref_kind : k ≡ 5 → Kind k
  is_communities_kind : k ≡ 8 → Kind k
  is_other : eqb k 1 ≡ false → eqb k 2 ≡ false → eqb k 3 ≡ false → eqb k 4 ≡ false → eqb k 5 ≡ false → eqb k 8 ≡ false → Kind k

test_of : (b : Bool) → (b ≡ true) ⊎ (b ≡ false)
test_of true = inl refl
test_of false = inr refl

kind_of : (k : ℕ) → Kind k
kind_of k =
    elim (test_of (eqb k 1)) [
      | inl e ↦ is_origin_kind (eqb-true _ _ e)
      | inr n1 ↦
          elim (test_of (eqb k 2)) [
            | inl e ↦ is_path_kind (eqb-true _ _ e)
            | inr n2 ↦
                elim (test_of (eqb k 3)) [
                  | inl e ↦ is_next_hop_kind (eqb-true _ _ e)
                  | inr n3 ↦
                      elim (test_of (eqb k 4)) [
                        | inl e ↦ is_med_kind (eqb-true _ _ e)
                        | inr n4 ↦
                            elim (test_of (eqb k 5)) [
                              | inl e ↦ is_pref_kind (eqb-true _ _ e)
                              | inr n5 ↦
                                  elim (test_of (eqb k 8)) [ inl e ↦ is_communities_kind (eqb-true _ _ e) | inr n8 ↦ is_other n1 n2 n3 n4 n5 n8 ]
                            ]
                      ]
                ]
          ]
    ]

or_true : (b : Bool) → (b || true) ≡ true
or_true true = refl
or_true false = refl

see_other : (as4 : Bool) (v : FirstValues) (before : List Attribute) (a : Attribute) → StandsFor v before → IsInRange as4 v
    → eqb a.kind 1 ≡ false → eqb a.kind 2 ≡ false → eqb a.kind 3 ≡ false → eqb a.kind 4 ≡ false → eqb a.kind 5 ≡ false → eqb a.kind 8 ≡ false → Step as4 before a (seen_after as4 v a)
see_other as4 v before a h r n1 n2 n3 n4 n5 n8 =
    let unread : seen_after as4 v a ≡ Some v = rw (n1, n2, n3, n4, n5, n8) refl in
    let fine : is_value as4 a.kind a.value ≡ true = rw (n1, n2, n3, n4, n5, n8) refl in
    let follows : may_follow as4 before a ≡ true = ap (λ (t : Bool). is_some (first_of a.kind before) || t) fine ∙ or_true _ in
    subst (Step as4 before a) (sym unread)
    (follows, record { origin = h.origin ∙ sym (first_other 1 before a n1); path = h.path ∙ sym (first_other 2 before a n2); next_hop = h.next_hop ∙ sym (first_other 3 before a n3); med = h.med ∙ sym (first_other 4 before a n4); pref = h.pref ∙ sym (first_other 5 before a n5); communities = h.communities ∙ sym (first_other 8 before a n8) }, r)

-- one more attribute
pub see_one : (as4 : Bool) (v : FirstValues) (before : List Attribute) (a : Attribute) → length a.value < 2 ^ 16 → StandsFor v before → IsInRange as4 v → Step as4 before a (seen_after as4 v a)
see_one as4 v before a short h r =
    let P : ℕ → Type 0 = λ k. Step as4 before (record { kind = k; value = a.value }) (seen_after as4 v (record { kind = k; value = a.value })) in
    elim (kind_of a.kind) [
      | is_origin_kind e ↦ subst P (sym e) (see_origin as4 v before a.value short h r)
      | is_path_kind e ↦ subst P (sym e) (see_path as4 v before a.value short h r)
      | is_next_hop_kind e ↦ subst P (sym e) (see_next_hop as4 v before a.value short h r)
      | is_med_kind e ↦ subst P (sym e) (see_med as4 v before a.value short h r)
      | is_pref_kind e ↦ subst P (sym e) (see_pref as4 v before a.value short h r)
      | is_communities_kind e ↦ subst P (sym e) (see_communities as4 v before a.value short h r)
      | is_other n1 n2 n3 n4 n5 n8 ↦ see_other as4 v before a h r n1 n2 n3 n4 n5 n8
    ]

pub none_stands : StandsFor none_yet []
none_stands = record { origin = refl; path = refl; next_hop = refl; med = refl; pref = refl; communities = refl }

pub none_in_range : (as4 : Bool) → IsInRange as4 none_yet
none_in_range as4 = record { origin = tt; path = tt; next_hop = tt; med = tt; pref = tt; communities = tt }
