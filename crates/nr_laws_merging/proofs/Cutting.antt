-- Turns, and what is kept of records.
use Rattle.std.proofs.Common.{◌≡◌, ℕ, zero, suc, ◌+◌, ◌<◌, ◌≤◌, cond, List, [], ◌∷◌, ◌++◌, length, take, drop, Option, Some, None, refl, ap, ◌∙◌, arith}
use Rattle.std.specs.Prelude.{is_some, not}
use Rattle.std.specs.List.{AllByRecursion, cons_option, flat_map}
use Rattle.std.proofs.lemmas.List.{length-take, length-drop, take-append-drop}
use Rattle.std.proofs.lemmas.List.Sums.{sum_by-append}
use Rattle.nr_spec_bgp.specs.Records.{Item}
use Rattle.nr_spec_steps.specs.Events.{Event}
use Rattle.nr_spec_recording.specs.Records.{Speaker, kept, kept_of, skipped_of}
use Rattle.nr_spec_recording.specs.Events.{cut_by, turn_size, turns_of}
use Rattle.nr_laws_merging.specs.Merged.{AreFull}

cut_all : (n : ℕ) (es : List Event) → length es ≤ n → flat_map (λ (turn : List Event). turn) (cut_by n es) ≡ es
unfolding cut_by
cut_all zero [] le = refl
cut_all zero (e ∷ es) le = absurd (omega (arith, le))
cut_all (suc n) [] le = refl
cut_all (suc n) (e ∷ es) le =
    let few : length (drop turn_size (e ∷ es)) ≤ n = omega (arith, le, length-drop turn_size (e ∷ es)) in
    ap (λ (xs : List Event). take turn_size (e ∷ es) ++ xs) (cut_all n (drop turn_size (e ∷ es)) few) ∙ take-append-drop turn_size (e ∷ es)

abbrev IsSized : List Event → Type 0
IsSized turn = (1 ≤ length turn) × (length turn ≤ turn_size)

cut_sized : (n : ℕ) (es : List Event) → AllByRecursion IsSized (cut_by n es)
unfolding cut_by
cut_sized zero es = tt
cut_sized (suc n) [] = tt
cut_sized (suc n) (e ∷ es) =
    let size = length-take turn_size (e ∷ es) in
    ((omega (arith, size), omega (arith, size)), cut_sized n (drop turn_size (e ∷ es)))

-- a turn behind which some are left is full
full_before : (n : ℕ) (turn left : List Event) → (0 < length left → length turn ≡ turn_size) → AreFull (cut_by n left) → AreFull (turn ∷ cut_by n left)
unfolding cut_by
full_before zero turn left full rest = tt
full_before (suc n) turn [] full rest = tt
full_before (suc n) turn (e ∷ es) full rest = (full (omega arith), rest)

cut_full : (n : ℕ) (es : List Event) → AreFull (cut_by n es)
unfolding cut_by
cut_full zero es = tt
cut_full (suc n) [] = tt
cut_full (suc n) (e ∷ es) =
    full_before n (take turn_size (e ∷ es)) (drop turn_size (e ∷ es)) (λ some. omega (arith, some, length-take turn_size (e ∷ es), length-drop turn_size (e ∷ es))) (cut_full n (drop turn_size (e ∷ es)))

pub turns_all : (es : List Event) → flat_map (λ (turn : List Event). turn) (turns_of es) ≡ es
unfolding turns_of
turns_all es = cut_all (length es) es (omega arith)

pub turns_sized : (es : List Event) → AllByRecursion IsSized (turns_of es)
unfolding turns_of
turns_sized es = cut_sized (length es) es

pub turns_full : (es : List Event) → AreFull (turns_of es)
unfolding turns_of
turns_full es = cut_full (length es) es

-- ---- records

skips_more : (neighbours : List Speaker) (item : Item) (items : List Item) → skipped_of neighbours (item ∷ items) ≡ cond (not (is_some (kept neighbours item))) 1 0 + skipped_of neighbours items
skips_more neighbours item items = omega (arith, sum_by-append (λ (x : Item). cond (not (is_some (kept neighbours x))) 1 0) (item ∷ []) items)

one_kept : (neighbours : List Speaker) (item : Item) (items : List Item) (found : Option Event) → kept neighbours item ≡ found → length (kept_of neighbours items) + skipped_of neighbours items ≡ length items
    → length (cons_option found (kept_of neighbours items)) + (cond (not (is_some found)) 1 0 + skipped_of neighbours items) ≡ suc (length items)
one_kept neighbours item items None is rest = omega (arith, rest)
one_kept neighbours item items (Some e) is rest = omega (arith, rest)

pub kept_or_skipped : (neighbours : List Speaker) (items : List Item) → length (kept_of neighbours items) + skipped_of neighbours items ≡ length items
kept_or_skipped neighbours [] = refl
kept_or_skipped neighbours (item ∷ items) =
    ap (λ (n : ℕ). length (kept_of neighbours (item ∷ items)) + n) (skips_more neighbours item items) ∙ one_kept neighbours item items (kept neighbours item) refl (kept_or_skipped neighbours items)
