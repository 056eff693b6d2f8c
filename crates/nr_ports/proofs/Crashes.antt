-- A crash goes through the files.
use Rattle.std.proofs.Common.{◌≡◌, ℕ, zero, suc, ◌+◌, ◌<◌, ◌≤◌, false, List, [], ◌∷◌, ◌++◌, length, take, drop, get_or, set, refl, sym, ap, subst, ◌∙◌, inl, inr, arith, add-one}
use Rattle.std.specs.Str.{bytes_eq}
use Rattle.std.proofs.lemmas.Bool.{cases_Bool}
use Rattle.nr_ports.specs.Ports.{Named, absent, stored_in, refilled, crashed_files, IsCrashed}
use Rattle.std.proofs.lemmas.List.{take_all, drop_all, append-nil}
use Rattle.nr_ports.proofs.Filling.{joined}
use Rattle.nr_spec_plans.specs.Disk.{Range}
use Rattle.nr_spec_crash.specs.Images.{is_in}

-- ---- one file

-- how far a crash has gone through a file's bytes
pub record Scrambles (before now fill : List ℕ) (least : ℕ) (written : List Range) (i next turn : ℕ) : Type 0 where
  pub so_far : joined (take i now) (refilled (record { least = least; greatest = length before; written = written }) fill i turn (drop i now)) ≡ refilled (record { least = least; greatest = length before; written = written }) fill 0 next before
  pub place : turn < length fill
  pub size : length now ≡ length before
  pub stays : (place : ℕ) → place < least → is_in place written ≡ false → get_or now place 0 ≡ get_or before place 0

pub scrambled_all : (before now fill : List ℕ) (least : ℕ) (written : List Range) (i next turn : ℕ) → Scrambles before now fill least written i next turn → length now ≤ i
    → (now, turn) ≡ refilled (record { least = least; greatest = length before; written = written }) fill 0 next before
unfolding refilled
scrambled_all before now fill least written i next turn s past =
    let all : take i now ≡ now = take_all i now past in
    let none : drop i now ≡ [] = drop_all i now past in
    let so_far = rw (all, none) at s.so_far in
    ap (λ (l : List ℕ). (l, turn)) (sym (append-nil now)) ∙ so_far

-- ---- all files

-- Of the first so many files a crash has left what it may, and the others are as they were.
abbrev pub CrashedFirst : ℕ → (old new : List Named) → Type 0
CrashedFirst n [] [] = Unit {0}
CrashedFirst n [] (f ∷ new) = ⊥
CrashedFirst n (f ∷ old) [] = ⊥
CrashedFirst zero (f ∷ old) (g ∷ new) = (g ≡ f) × CrashedFirst zero old new
CrashedFirst (suc n) (f ∷ old) (g ∷ new) = (g.name ≡ f.name) × IsCrashed f.stored g.stored × CrashedFirst n old new

pub record Crashing (i : ℕ) (old new : List Named) (turn : ℕ) (fill : List ℕ) (extra : ℕ) : Type 0 where
  pub so_far : take i new ++ crashed_files fill extra turn (drop i new) ≡ crashed_files fill extra 0 old
  pub place : turn < length fill
  pub first : CrashedFirst i old new

pub none_crashed : (files : List Named) → CrashedFirst 0 files files
none_crashed [] = tt
none_crashed (f ∷ files) = (refl, none_crashed files)

next_crashed : (i : ℕ) (old now : List Named) (d g : Named) → CrashedFirst i old now → i < length now → g.name ≡ (get_or now i d).name → IsCrashed (get_or now i d).stored g.stored → CrashedFirst (suc i) old (set now i g)
next_crashed i [] [] d g first less name left = absurd (omega (arith, less))
next_crashed i [] (n ∷ now) d g first less name left = absurd first
next_crashed i (f ∷ old) [] d g first less name left = absurd (omega (arith, less))
next_crashed zero (f ∷ old) (n ∷ now) d g first less name left = (name ∙ ap (λ (m : Named). m.name) first.0, subst (λ (m : Named). IsCrashed m.stored g.stored) first.0 left, first.1)
next_crashed (suc i) (f ∷ old) (n ∷ now) d g first less name left = (first.0, first.1, next_crashed i old now d g first.2 (omega (arith, less)) name left)

pub one_more : (i : ℕ) (old now : List Named) (file g : Named) → CrashedFirst i old now → i < length now → file ≡ get_or now i file → g.name ≡ file.name → IsCrashed file.stored g.stored → CrashedFirst (i + 1) old (set now i g)
one_more i old now file g first less at name left =
    subst (λ (k : ℕ). CrashedFirst k old (set now i g)) (sym (add-one i)) (next_crashed i old now file g first less (name ∙ ap (λ (m : Named). m.name) at) (subst (λ (m : Named). IsCrashed m.stored g.stored) at left))

absent_crashed : IsCrashed absent absent
absent_crashed = record { image = record { no_shorter = omega arith; no_longer = omega arith; stays = λ place less unwritten. refl }; settled = refl }

pub all_crashed : (n : ℕ) (old now : List Named) → CrashedFirst n old now → length now ≤ n → (name : List ℕ) → IsCrashed (stored_in old name) (stored_in now name)
all_crashed n [] [] first past name = absent_crashed
all_crashed n [] (g ∷ now) first past name = absurd first
all_crashed n (f ∷ old) [] first past name = absurd first
all_crashed zero (f ∷ old) (g ∷ now) first past name = absurd (omega (arith, past))
all_crashed (suc n) (f ∷ old) (g ∷ now) first past name =
    let same : bytes_eq g.name name ≡ bytes_eq f.name name = ap (λ (m : List ℕ). bytes_eq m name) first.0 in
    elim (cases_Bool (bytes_eq f.name name)) [
      | inl is ↦ rw (same, is) first.1
      | inr is ↦ rw (same, is) (all_crashed n old now first.2 (omega (arith, past)) name)
    ]
