-- What is taken of files, one event after another.
use Rattle.std.proofs.Common.{◌≡◌, ◌⊎◌, inl, inr, ℕ, zero, suc, ◌<◌, ◌≤◌, List, [], ◌∷◌, ◌++◌, Option, Some, None, refl, sym, ap, subst, arith}
use Rattle.std.specs.Prelude.{◌==◌, min, nat_le}
use Rattle.std.specs.List.{AllByRecursion, flat_map}
use Rattle.std.proofs.lemmas.Bool.{cases_Bool, eqb-true, eqb-false, leb-true, leb-false}
use Rattle.std.proofs.lemmas.List.{length-append}
use Rattle.nr_spec_steps.specs.Events.{Event, time_of}
use Rattle.nr_spec_recording.specs.Merging.{Choice, behind, by_least, chosen, count_in, least, merged, merged_by, sooner}
use Rattle.nr_laws_merging.specs.Merged.{AreMerged, IsLater, IsNoSooner, IsTaken}

-- ---- the least time

-- some next one has this time
abbrev HasAt : ℕ → List (List Event) → Type 0
HasAt time [] = ⊥
HasAt time ([] ∷ files) = HasAt time files
HasAt time ((e ∷ es) ∷ files) = (time_of e ≡ time) ⊎ HasAt time files

record IsLeast (time : ℕ) (files : List (List Event)) : Type 0 where
  pub has : HasAt time files
  pub none_sooner : AllByRecursion (IsNoSooner time) files

abbrev Nothing : List (List Event) → Type 0
Nothing files = AllByRecursion (λ file. file ≡ []) files

abbrev IsLeastOf : Option ℕ → List (List Event) → Type 0
IsLeastOf None files = Nothing files
IsLeastOf (Some time) files = IsLeast time files

none_bound : (time : ℕ) (files : List (List Event)) → Nothing files → AllByRecursion (IsNoSooner time) files
none_bound time [] none = tt
none_bound time (file ∷ files) none = (subst (IsNoSooner time) (sym none.0) tt, none_bound time files none.1)

weaker : (less more : ℕ) (files : List (List Event)) → less ≤ more → AllByRecursion (IsNoSooner more) files → AllByRecursion (IsNoSooner less) files
weaker less more [] le bound = tt
weaker less more ([] ∷ files) le bound = (tt, weaker less more files le bound.1)
weaker less more ((e ∷ es) ∷ files) le bound = (omega (arith, le, bound.0), weaker less more files le bound.1)

which : (a b : ℕ) → ((min a b ≡ a) × (a ≤ b)) ⊎ ((min a b ≡ b) × (b ≤ a))
which a b = elim (cases_Bool (nat_le a b)) [
  | inl is ↦ (let le = leb-true a b is in inl (omega (arith, le), le))
  | inr is ↦ (let lt = leb-false a b is in inr (omega (arith, lt), omega (arith, lt)))
]

one_more : (e : Event) (es : List Event) (files : List (List Event)) (found : Option ℕ) → IsLeastOf found files → IsLeast (sooner (time_of e) found) ((e ∷ es) ∷ files)
one_more e es files None none = record { has = inl refl; none_sooner = (omega arith, none_bound (time_of e) files none) }
one_more e es files (Some time) is = elim (which (time_of e) time) [
  | inl h ↦ record { has = inl (sym h.0); none_sooner = (omega (arith, h.0), weaker (min (time_of e) time) time files (omega (arith, h.0, h.1)) is.none_sooner) }
  | inr h ↦ record { has = inr (subst (λ (t : ℕ). HasAt t files) (sym h.0) is.has); none_sooner = (omega (arith, h.0, h.1), weaker (min (time_of e) time) time files (omega (arith, h.0)) is.none_sooner) }
]

empty_more : (files : List (List Event)) (found : Option ℕ) → IsLeastOf found files → IsLeastOf found ([] ∷ files)
empty_more files None none = (refl, none)
empty_more files (Some time) is = record { has = is.has; none_sooner = (tt, is.none_sooner) }

least_is : (files : List (List Event)) → IsLeastOf (least files) files
unfolding least
least_is [] = tt
least_is ([] ∷ files) = empty_more files (least files) (least_is files)
least_is ((e ∷ es) ∷ files) = one_more e es files (least files) (least_is files)

-- ---- the event that is chosen

record IsChosen (time : ℕ) (files : List (List Event)) (c : Choice) : Type 0 where
  pub event : Event
  pub next : c.next ≡ event ∷ []
  pub taken : IsTaken event files c.files
  pub at : time_of event ≡ time

not_at : (time : ℕ) (e : Event) (files : List (List Event)) → (time_of e ≡ time → ⊥) → (time_of e ≡ time) ⊎ HasAt time files → HasAt time files
not_at time e files not (inl is) = absurd (not is)
not_at time e files not (inr has) = has

behind_chosen : (time : ℕ) (file : List Event) (files : List (List Event)) (c : Choice) → IsLater time file → IsChosen time files c → IsChosen time (file ∷ files) (behind file c)
behind_chosen time file files c later is =
    let t = is.taken in
    record {
      event = is.event;
      next = is.next;
      taken = record {
        before = file ∷ t.before;
        rest = t.rest;
        behind = t.behind;
        were = ap (λ (f : List (List Event)). file ∷ f) t.were;
        are = ap (λ (f : List (List Event)). file ∷ f) t.are;
        earlier = (subst (λ (k : ℕ). IsLater k file) (sym is.at) later, t.earlier);
        later = t.later;
      };
      at = is.at;
    }

strictly : (time : ℕ) (e : Event) → time ≤ time_of e → (time_of e ≡ time → ⊥) → time < time_of e
strictly time e le not = elim (cases_Bool (time == time_of e)) [
  | inl is ↦ absurd (not (sym (eqb-true time (time_of e) is)))
  | inr is ↦ (let ne = eqb-false time (time_of e) is in omega (arith, le, ne))
]

chosen_is : (time : ℕ) (files : List (List Event)) → HasAt time files → AllByRecursion (IsNoSooner time) files → IsChosen time files (chosen time files)
unfolding chosen
chosen_is time [] has bound = absurd has
chosen_is time ([] ∷ files) has bound = behind_chosen time [] files (chosen time files) tt (chosen_is time files has bound.1)
chosen_is time ((e ∷ es) ∷ files) has bound =
    elim (cases_Bool (time_of e == time)) [
      | inl is ↦ (
          let same = eqb-true (time_of e) time is in
          rw is (record {
            event = e;
            next = refl;
            taken = record { before = []; rest = es; behind = files; were = refl; are = refl; earlier = tt; later = subst (λ (k : ℕ). AllByRecursion (IsNoSooner k) files) (sym same) bound.1 };
            at = same;
          }))
      | inr is ↦ (
          let not = eqb-false (time_of e) time is in
          rw is (behind_chosen time (e ∷ es) files (chosen time files) (strictly time e bound.0 not) (chosen_is time files (not_at time e files not has) bound.1)))
    ]

-- ---- how many are left

taken_count : (before : List (List Event)) (e : Event) (rest : List Event) (behind : List (List Event)) → count_in (before ++ (e ∷ rest) ∷ behind) ≡ suc (count_in (before ++ rest ∷ behind))
taken_count [] e rest behind = refl
taken_count (file ∷ files) e rest behind =
    omega (arith, taken_count files e rest behind, length-append file (flat_map (λ es. es) (files ++ (e ∷ rest) ∷ behind)), length-append file (flat_map (λ es. es) (files ++ rest ∷ behind)))

one_less : (n : ℕ) (e : Event) (files left : List (List Event)) → IsTaken e files left → count_in files ≡ suc n → count_in left ≡ n
one_less n e files left t is =
    let more = taken_count t.before e t.rest t.behind in
    omega (arith, more, is, ap (λ (f : List (List Event)). count_in f) t.were, ap (λ (f : List (List Event)). count_in f) t.are)

none_left : (files : List (List Event)) → count_in files ≡ 0 → Nothing files
none_left [] is = tt
none_left ([] ∷ files) is = (refl, none_left files is)
none_left ((e ∷ es) ∷ files) is = absurd (omega (arith, is, length-append (e ∷ es) (flat_map (λ xs. xs) files)))

-- ---- all of them

merged_on : (n : ℕ) (files : List (List Event)) (found : Option ℕ) → IsLeastOf found files → count_in files ≡ suc n → ((left : List (List Event)) → count_in left ≡ n → AreMerged (merged_by n left) left)
    → AreMerged (by_least found (λ time. (chosen time files).next ++ merged_by n (chosen time files).files)) files
merged_on n files None none is goes = none
merged_on n files (Some time) found is goes =
    let c = chosen_is time files found.has found.none_sooner in
    let left = (chosen time files).files in
    let rest = goes left (one_less n c.event files left c.taken is) in
    let all : AreMerged (c.event ∷ merged_by n left) files = (left, c.taken, rest) in
    subst (λ (xs : List Event). AreMerged (xs ++ merged_by n left) files) (sym c.next) all

merged_goes : (n : ℕ) (files : List (List Event)) → count_in files ≡ n → AreMerged (merged_by n files) files
unfolding merged_by
merged_goes zero files is = none_left files is
merged_goes (suc n) files is = merged_on n files (least files) (least_is files) is (merged_goes n)

pub merged_is : (files : List (List Event)) → AreMerged (merged files) files
merged_is files = merged_goes (count_in files) files refl
