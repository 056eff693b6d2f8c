-- Items that are written one after another.
use Rattle.std.proofs.Common.{◌≡◌, ℕ, zero, suc, ◌+◌, ◌<◌, List, [], ◌∷◌, ◌++◌, length, map, drop, inl, inr, refl, sym, ap, subst, ◌∙◌, append_assoc, arith}
use Rattle.std.specs.List.{slice_get, flat_map}
use Rattle.std.specs.Prelude.{Some, None}
use Rattle.std.proofs.lemmas.Option.{same_Some, slice_get_cases}
use Rattle.std.proofs.lemmas.List.Concat.{flat_map-cons}
use Rattle.nr_chain.specs.declared.item.Item.{Item}
use Rattle.nr_spec_log.specs.Authenticator.{authenticator}
use Rattle.nr_spec_frames.specs.Frames.{Frame, FrameItem, AreItemsFrom, IsItem, frame, frame_front, frame_item, item_time}
use Rattle.nr_exchange.specs.Views.{frame_item_of}

-- ---- pieces one after another

pub two_pieces : (x a b w1 w2 : List ℕ) → w1 ≡ x ++ a → w2 ≡ w1 ++ b → w2 ≡ x ++ (a ++ b)
two_pieces x a b w1 w2 e1 e2 = e2 ∙ ap (λ (t : List ℕ). t ++ b) e1 ∙ append_assoc x a b

pub three_pieces : (x a b c w1 w2 w3 : List ℕ) → w1 ≡ x ++ a → w2 ≡ w1 ++ b → w3 ≡ w2 ++ c → w3 ≡ x ++ (a ++ (b ++ c))
three_pieces x a b c w1 w2 w3 e1 e2 e3 = two_pieces x a (b ++ c) w1 w3 e1 (two_pieces w1 b c w2 w3 e2 e3)

pub four_pieces : (x a b c d w1 w2 w3 w4 : List ℕ) → w1 ≡ x ++ a → w2 ≡ w1 ++ b → w3 ≡ w2 ++ c → w4 ≡ w3 ++ d → w4 ≡ x ++ (a ++ (b ++ (c ++ d)))
four_pieces x a b c d w1 w2 w3 w4 e1 e2 e3 e4 =
    two_pieces x a (b ++ (c ++ d)) w1 w4 e1 (three_pieces w1 b c d w2 w3 w4 e2 e3 e4)

-- ---- a loop over items

pub item_fits : (last : ℕ) (xs : List Item) (i : ℕ) (x : Item) → AreItemsFrom last (map frame_item_of xs) → slice_get xs i ≡ Some x → IsItem (frame_item_of x)
item_fits last [] i x fits e = absurd cc
item_fits last (y ∷ ys) zero x fits e = subst (λ (t : Item). IsItem (frame_item_of t)) (same_Some y x e) fits.0
item_fits last (y ∷ ys) (suc i) x fits e = item_fits (item_time (frame_item_of y)) ys i x fits.2 e

drop_next : (xs : List Item) (i : ℕ) (x : Item) → slice_get xs i ≡ Some x → drop i (map frame_item_of xs) ≡ frame_item_of x ∷ drop (suc i) (map frame_item_of xs)
drop_next [] i x e = absurd cc
drop_next (y ∷ ys) zero x e = ap (λ (t : Item). frame_item_of t ∷ map frame_item_of ys) (same_Some y x e)
drop_next (y ∷ ys) (suc i) x e = drop_next ys i x e

-- what is left before an item is the item and what is left after it
text_next : (xs : List Item) (i : ℕ) (x : Item) → slice_get xs i ≡ Some x
    → flat_map frame_item (drop i (map frame_item_of xs)) ≡ frame_item (frame_item_of x) ++ flat_map frame_item (drop (i + 1) (map frame_item_of xs))
text_next xs i x got =
    let rest : List FrameItem = drop (i + 1) (map frame_item_of xs) in
    let one : suc i ≡ i + 1 = omega arith in
    let step : drop i (map frame_item_of xs) ≡ frame_item_of x ∷ rest = drop_next xs i x got ∙ ap (λ (k : ℕ). frame_item_of x ∷ drop k (map frame_item_of xs)) one in
    ap (λ (t : List FrameItem). flat_map frame_item t) step ∙ flat_map-cons frame_item (frame_item_of x) rest

pub written_more : (xs : List Item) (i : ℕ) (x : Item) (out new total : List ℕ) → slice_get xs i ≡ Some x → new ≡ out ++ frame_item (frame_item_of x)
    → out ++ flat_map frame_item (drop i (map frame_item_of xs)) ≡ total → new ++ flat_map frame_item (drop (i + 1) (map frame_item_of xs)) ≡ total
written_more xs i x out new total got is so_far =
    let rest = flat_map frame_item (drop (i + 1) (map frame_item_of xs)) in
    ap (λ (t : List ℕ). t ++ rest) is
    ∙ append_assoc out (frame_item (frame_item_of x)) rest
    ∙ ap (λ (t : List ℕ). out ++ t) (sym (text_next xs i x got)) ∙ so_far

pub none_given : (xs : List Item) (i : ℕ) → i < length xs → slice_get xs i ≡ None → ⊥
none_given xs i less none = elim (slice_get_cases xs i).1 [
  | inl found ↦ some_none (sym found.2 ∙ none)
  | inr past ↦ omega (arith, less, past.0)
]
  where
    some_none : {x : Item} → Some x ≡ None → ⊥
    some_none e = cc

-- ---- whole frames

pub count_is : (xs : List Item) → length xs ≡ length (map frame_item_of xs)
count_is [] = refl
count_is (x ∷ xs) = ap (λ (n : ℕ). suc n) (count_is xs)

-- the pieces of a frame's parts are its spelling
pub text_is : (f : Frame) → frame_front f.from_as f.to_as f.number f.first f.prev (length f.items) ++ (flat_map frame_item f.items ++ authenticator f.auth) ≡ frame f
unfolding frame
text_is f = refl
