-- Values to the end of the bytes.
use Rattle.std.proofs.Common.{◌≡◌, ℕ, zero, suc, ◌+◌, ◌≤◌, Bool, true, false, cond, eqb, List, [], ◌∷◌, ◌++◌, length, Ok, refl, sym, ap, subst, ◌∙◌, arith, ◌⊎◌, inl, inr}
use Rattle.std.specs.List.{flat_map, AllByRecursion}
use Rattle.std.specs.Str.{bytes_eq}
use Rattle.std.proofs.lemmas.Bool.{eqb-true, ne_eqb}
use Rattle.std.proofs.lemmas.List.{length-append}
use Rattle.std.proofs.lemmas.List.Concat.{flat_map-cons}
use Rattle.std.proofs.lemmas.Slice.Eq.{bytes_eq-Decides}
use Rattle.nr_spec_wire.specs.Reading.{Spot, Read, wants, rows_at, IsBytes}
use Rattle.nr_spec_wire.proofs.Steps.{ok_is, bind_ok, wants_ok}
use Rattle.nr_spec_log.specs.Authenticator.{magic_at}
use Rattle.nr_laws_log.specs.Laws.{Takes, ReadsSpelled, SpelledReads}
use Rattle.nr_laws_log.proofs.Fields.{Takes-then, step, bytes_step, bytes_again, reads_then}

by_test : {A : Type 0} (test : Bool) (x y z : A) → cond test x y ≡ z → ((test ≡ true) × (x ≡ z)) ⊎ ((test ≡ false) × (y ≡ z))
by_test true x y z e = inl (refl, e)
by_test false x y z e = inr (refl, e)

not_then : {A : Type 0} (test : Bool) (x y z : A) → test ≡ false → y ≡ z → cond test x y ≡ z
not_then false x y z e h = h
not_then true x y z e h = absurd cc

test_then : {A : Type 0} (test : Bool) (place : ℕ) (x : A) → test ≡ true → wants test place x ≡ Ok x
test_then true place x e = refl
test_then false place x e = absurd cc

-- each spelling takes a byte or more
abbrev pub TakesSome : {A : Type 0} → (A → List ℕ) → Type 0
TakesSome {A = A} spell = (v : A) → 1 ≤ length (spell v)

pub record AreRows {A : Type 0} (Fits : A → Type 0) (spell : A → List ℕ) (s : Spot) (vs : List A) (new : Spot) : Type 0 where
  pub fit : AllByRecursion Fits vs
  pub takes : Takes s (flat_map spell vs) new
  pub ended : length new.rest ≡ 0

no_rows : {A : Type 0} (Fits : A → Type 0) (spell : A → List ℕ) (s : Spot) → IsBytes s.rest → length s.rest ≡ 0 → AreRows Fits spell s [] s
no_rows Fits spell s fits none = record { fit = tt; takes = record { parts = refl; place = omega arith; rest_fits = fits }; ended = none }

pub rows_take : {A : Type 0} (item : Spot → Read A) (Fits : A → Type 0) (spell : A → List ℕ) → ReadsSpelled item Fits spell → TakesSome spell
    → (fuel : ℕ) (s : Spot) (vs : List A) (new : Spot) → length s.rest ≤ fuel → IsBytes s.rest → rows_at item fuel s ≡ Ok (vs, new) → AreRows Fits spell s vs new
unfolding rows_at
rows_take {A = A} item Fits spell law some zero s vs new enough fits e =
    subst (λ (p : List A × Spot). AreRows Fits spell s p.0 p.1) (ok_is ([], s) (vs, new) e) (no_rows Fits spell s fits (omega arith))
rows_take {A = A} item Fits spell law some (suc fuel) s vs new enough fits e =
    elim (by_test (eqb (length s.rest) 0) _ _ _ e) [
      | inl none ↦ subst (λ (p : List A × Spot). AreRows Fits spell s p.0 p.1) (ok_is ([], s) (vs, new) none.1) (no_rows Fits spell s fits (eqb-true _ _ none.0))
      | inr more ↦
          let a = step item Fits spell law s _ (vs, new) fits more.1 in
          let b = bind_ok (rows_at item fuel a.next) _ (vs, new) a.goes_on in
          let shorter : length a.next.rest ≤ fuel = omega (arith, ap length a.takes.parts, length-append (spell a.value) a.next.rest, some a.value) in
          let others = rows_take item Fits spell law some fuel a.next b.0.0 b.0.1 shorter a.takes.rest_fits b.1 in
          let both = Takes-then s (spell a.value) a.next (flat_map spell b.0.0) b.0.1 a.takes others.takes in
          let made : List A = a.value ∷ b.0.0 in
          let whole : Takes s (flat_map spell made) b.0.1 = subst (λ (t : List ℕ). Takes s t b.0.1) (sym (flat_map-cons spell a.value b.0.0)) both in
          subst (λ (p : List A × Spot). AreRows Fits spell s p.0 p.1) (ok_is (made, b.0.1) (vs, new) b.2) (record { fit = (a.value_fits, others.fit); takes = whole; ended = others.ended })
    ]

pub rows_again : {A : Type 0} (item : Spot → Read A) (Fits : A → Type 0) (spell : A → List ℕ) → SpelledReads item Fits spell → TakesSome spell
    → (fuel : ℕ) (vs : List A) (at : ℕ) → length (flat_map spell vs) ≤ fuel → AllByRecursion Fits vs
    → rows_at item fuel (record { at = at; rest = flat_map spell vs }) ≡ Ok (vs, record { at = at + length (flat_map spell vs); rest = [] })
unfolding rows_at
rows_again item Fits spell law some zero [] at enough fits = ap (λ (k : ℕ). Ok ([], record { at = k; rest = [] })) (omega arith)
rows_again item Fits spell law some (suc fuel) [] at enough fits = ap (λ (k : ℕ). Ok ([], record { at = k; rest = [] })) (omega arith)
rows_again item Fits spell law some zero (v ∷ vs) at enough fits = absurd (omega (arith, ap length (flat_map-cons spell v vs), length-append (spell v) (flat_map spell vs), some v))
rows_again item Fits spell law some (suc fuel) (v ∷ vs) at enough fits =
    let others = flat_map spell vs in
    let split = ap length (flat_map-cons spell v vs) in
    let long : 1 ≤ length (spell v ++ others) = omega (arith, length-append (spell v) others, some v) in
    let test : eqb (length (spell v ++ others)) 0 ≡ false = ne_eqb _ _ (λ h. omega (arith, h)) in
    let first = law v at others fits.0 in
    let second = rows_again item Fits spell law some fuel vs (at + length (spell v)) (omega (arith, split, length-append (spell v) others, some v)) fits.1 in
    let places : at + length (spell v) + length others ≡ at + length (flat_map spell (v ∷ vs)) = omega (arith, split, length-append (spell v) others) in
    let whole : rows_at item (suc fuel) (record { at = at; rest = spell v ++ others }) ≡ Ok (v ∷ vs, record { at = at + length (spell v) + length others; rest = [] }) =
    not_then (eqb (length (spell v ++ others)) 0) _ _ _ test (reads_then _ _ _ _ first (reads_then _ _ _ _ second refl)) in
    ap (λ (t : List ℕ). rows_at item (suc fuel) (record { at = at; rest = t })) (flat_map-cons spell v vs) ∙ whole ∙ ap (λ (k : ℕ). Ok (v ∷ vs, record { at = k; rest = [] })) places

-- ---- the first bytes of a file

pub magic_takes : (magic : List ℕ) → ReadsSpelled (magic_at magic) (λ v. v ≡ magic) (λ v. v)
magic_takes magic s v new fits e =
    let a = bytes_step 4 s _ (v, new) fits e in
    let is = wants_ok (bytes_eq a.value magic) s.at (a.value, a.next) (v, new) a.goes_on in
    subst (λ (p : List ℕ × Spot). (p.0 ≡ magic) × Takes s p.0 p.1) is.1 ((bytes_eq-Decides a.value magic).0 is.0, a.takes)

pub magic_again : (magic : List ℕ) (at : ℕ) (rest : List ℕ) → length magic ≡ 4 → magic_at magic (record { at = at; rest = magic ++ rest }) ≡ Ok (magic, record { at = at + length magic; rest = rest })
magic_again magic at rest len =
    let read = bytes_again 4 magic at rest len in
    let test : bytes_eq magic magic ≡ true = (bytes_eq-Decides magic magic).1 refl in
    reads_then _ _ _ _ read (test_then (bytes_eq magic magic) at _ test)
