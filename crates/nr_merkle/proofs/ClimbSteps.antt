-- Climbing a path level by level.
use Rattle.std.proofs.Common.{◌≡◌, ℕ, ◌+◌, ◌/◌, ◌%◌, ◌^◌, List, bit_and, refl, sym, ap, ◌∙◌, add-one}
use Rattle.std.proofs.lemmas.Nat.{and_mask}
use Rattle.nr_spec_keys.specs.Pieces.{piece_of}
use Rattle.nr_spec_keys.specs.OneTime.{beside}
use Rattle.nr_spec_keys.specs.Trees.{node, climbed}

pub climbed-none : (digest path : List ℕ) (leaf : ℕ) → climbed digest path leaf 0 ≡ digest
unfolding climbed
climbed-none digest path leaf = refl

climbed-next : (digest path : List ℕ) (leaf level : ℕ) → climbed digest path leaf (level + 1) ≡ node (beside (leaf / 2 ^ level % 2) (climbed digest path leaf level) (piece_of 32 path level))
unfolding climbed
climbed-next digest path leaf level = ap (climbed digest path leaf) (add-one level)

-- one node further
pub climbed-more : (digest path below above piece : List ℕ) (leaf level : ℕ) → below ≡ climbed digest path leaf level → piece ≡ piece_of 32 path level
    → above ≡ node (beside (bit_and (leaf / 2 ^ level) 1) below piece) → above ≡ climbed digest path leaf (level + 1)
climbed-more digest path below above piece leaf level below_is piece_is above_is =
    above_is
    ∙ ap (λ (bit : ℕ). node (beside bit below piece)) (and_mask (leaf / 2 ^ level) 1)
    ∙ ap (λ (xs : List ℕ). node (beside (leaf / 2 ^ level % 2) xs piece)) below_is
    ∙ ap (λ (xs : List ℕ). node (beside (leaf / 2 ^ level % 2) (climbed digest path leaf level) xs)) piece_is
    ∙ sym (climbed-next digest path leaf level)
