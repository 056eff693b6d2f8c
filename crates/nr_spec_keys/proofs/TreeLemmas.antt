-- The signature of a leaf leads to the root of its tree.
use Rattle.std.proofs.Common.{◌≡◌, ℕ, zero, suc, ◌+◌, ◌-◌, ◌*◌, ◌/◌, ◌%◌, ◌^◌, ◌<◌, ◌≤◌, List, [], ◌++◌, length, refl, sym, ap, ◌∙◌, zero-add, arith, inl, inr}
use Rattle.std.proofs.lemmas.Nat.{shr-shr, shr_below}
use Rattle.nr_spec_log.specs.Authenticator.{IsSignature}
use Rattle.nr_spec_keys.specs.Pieces.{piece_of}
use Rattle.nr_spec_keys.specs.OneTime.{public_leaf_of, leaf_digest, beside}
use Rattle.nr_spec_keys.specs.Trees.{node, node_at, tree_of, root_of, sibling, path_of, climbed, signed_digest_of, root_from, signature_by, IsSigned}
use Rattle.nr_spec_keys.proofs.PieceLemmas.{piece_of-joined, get_or-joined, length-joined}
use Rattle.nr_spec_keys.proofs.LeafLemmas.{length-sha256, one_or_zero, length-pairs_of, leaf_from-pairs_of}

pub pow-more : (n : ℕ) → 2 ^ suc n ≡ 2 * 2 ^ n
pow-more n = omega arith

-- where the other node stands
pub sibling-even : (n m : ℕ) → n ≡ 2 * m → sibling n ≡ 2 * m + 1
sibling-even n m is = let even : (2 * m) % 2 ≡ 0 = omega arith in rw (is, even) refl

pub sibling-odd : (n m : ℕ) → n ≡ 2 * m + 1 → sibling n ≡ 2 * m
sibling-odd n m is = let odd : (2 * m + 1) % 2 ≡ 1 = omega arith in rw (is, odd) (omega arith)

pub sibling_below : (n height : ℕ) → n < 2 ^ suc height → sibling n < 2 ^ suc height
sibling_below n height lt =
    let more = pow-more height in
    elim (one_or_zero n) [
      | inl even ↦ let is : n ≡ 2 * (n / 2) = omega arith in rw (sibling-even n (n / 2) is) (omega arith)
      | inr odd ↦ let is : n ≡ 2 * (n / 2) + 1 = omega arith in rw (sibling-odd n (n / 2) is) (omega arith)
    ]

-- the two nodes below node m, of which n is one and its sibling the other
pub beside-sibling : (row : ℕ → List ℕ) (n : ℕ) → beside (n % 2) (row n) (row (sibling n)) ≡ row (2 * (n / 2)) ++ row (2 * (n / 2) + 1)
beside-sibling row n =
    elim (one_or_zero n) [
      | inl even ↦
          let is : n ≡ 2 * (n / 2) = omega arith in
          rw even (ap (λ (k : ℕ). row k ++ row (k + 1)) is)
      | inr odd ↦
          let is : n ≡ 2 * (n / 2) + 1 = omega arith in
          let before : n - 1 ≡ 2 * (n / 2) = omega arith in
          rw (odd, before) (ap (λ (k : ℕ). row (2 * (n / 2)) ++ row k) is)
    ]

-- every node of a tree of a seed is a digest
pub length-node_at : (seed : List ℕ) (height level n : ℕ) → (level ≡ 0 → n < 2 ^ height) → length (node_at ((tree_of seed height).leaves) level n) ≡ 32
unfolding node_at tree_of node leaf_digest
length-node_at seed height zero n below = ap length (get_or-joined (public_leaf_of seed) n (2 ^ height) [] (below refl)) ∙ length-sha256 _
length-node_at seed height (suc level) n below = length-sha256 _

-- a digest of a leaf's path
pub piece_of-path_of : (seed : List ℕ) (height leaf level : ℕ) → level < height → leaf < 2 ^ height
    → piece_of 32 (path_of (tree_of seed height) leaf) level ≡ node_at ((tree_of seed height).leaves) level (sibling (leaf / 2 ^ level))
unfolding path_of tree_of
piece_of-path_of seed height leaf level lt below =
    piece_of-joined 32 (λ l. node_at ((tree_of seed height).leaves) l (sibling (leaf / 2 ^ l))) level height lt (λ l under. length-node_at seed height l _ (lowest l under))
  where
    in_row : (h : ℕ) → 0 < h → leaf < 2 ^ h → sibling (leaf / 2 ^ 0) < 2 ^ h
    in_row zero up lt = absurd (omega arith)
    in_row (suc h) up lt = sibling_below (leaf / 2 ^ 0) h (omega arith)

    lowest : (l : ℕ) → l < height → l ≡ 0 → sibling (leaf / 2 ^ l) < 2 ^ height
    lowest l under is = rw is (in_row height (omega arith) below)

-- climbing a leaf's path to a level gives the node above the leaf there
pub climbed-path_of : (seed : List ℕ) (height leaf level : ℕ) → level ≤ height → leaf < 2 ^ height
    → climbed (node_at ((tree_of seed height).leaves) 0 leaf) (path_of (tree_of seed height) leaf) leaf level ≡ node_at ((tree_of seed height).leaves) level (leaf / 2 ^ level)
unfolding climbed node_at
climbed-path_of seed height leaf zero le below = ap (λ (n : ℕ). node_at ((tree_of seed height).leaves) 0 n) (omega arith)
climbed-path_of seed height leaf (suc level) le below =
    let row = λ (n : ℕ). node_at ((tree_of seed height).leaves) level n in
    let under = climbed-path_of seed height leaf level (omega arith) below in
    let half : leaf / 2 ^ level / 2 ≡ leaf / 2 ^ suc level = shr-shr leaf level 1 ∙ ap (λ (k : ℕ). leaf / 2 ^ k) (omega arith) in
    rw (under, piece_of-path_of seed height leaf level (omega arith) below)
    (ap node (beside-sibling row (leaf / 2 ^ level)) ∙ ap (λ (m : ℕ). node (row (2 * m) ++ row (2 * m + 1))) half)

-- the leaf itself
pub node_at-leaf : (seed : List ℕ) (height leaf : ℕ) → leaf < 2 ^ height → node_at ((tree_of seed height).leaves) 0 leaf ≡ public_leaf_of seed leaf
unfolding node_at tree_of
node_at-leaf seed height leaf below = get_or-joined (public_leaf_of seed) leaf (2 ^ height) [] below

-- the signature that a leaf makes of a body leads to the root
pub signature_by-leads : (seed body : List ℕ) (height leaf : ℕ) → leaf < 2 ^ height → IsSigned (root_of (tree_of seed height)) body (signature_by seed height leaf body)
unfolding root_from signature_by tree_of
signature_by-leads seed body height leaf below =
    let whole : leaf < 2 ^ (0 + height) = rw zero-add below in
    let top : leaf / 2 ^ height ≡ 0 = omega (arith, shr_below leaf 0 height whole) in
    ap (λ (digest : List ℕ). climbed digest (path_of (tree_of seed height) leaf) leaf height) (leaf_from-pairs_of seed (signed_digest_of body) leaf ∙ sym (node_at-leaf seed height leaf below))
    ∙ climbed-path_of seed height leaf height (omega arith) below
    ∙ ap (node_at ((tree_of seed height).leaves) height) top

-- where the siblings on the way from a leaf stand
pub sibling_in_row : (height leaf level : ℕ) → level < height → leaf < 2 ^ height → sibling (leaf / 2 ^ level) < 2 ^ (height - level)
sibling_in_row height leaf level lt below = in_row (height - level) (omega arith) (shr_below leaf (height - level) level (rw sum below))
  where
    sum : height - level + level ≡ height
    sum = omega arith

    in_row : (d : ℕ) → 0 < d → leaf / 2 ^ level < 2 ^ d → sibling (leaf / 2 ^ level) < 2 ^ d
    in_row zero up under = absurd (omega arith)
    in_row (suc d) up under = sibling_below (leaf / 2 ^ level) d under

-- ---- the parts of a signature have their sizes

pub length-path_of : (seed : List ℕ) (height leaf : ℕ) → leaf < 2 ^ height → length (path_of (tree_of seed height) leaf) ≡ 32 * height
unfolding path_of tree_of
length-path_of seed height leaf below =
    length-joined 32 (λ l. node_at ((tree_of seed height).leaves) l (sibling (leaf / 2 ^ l))) height (λ l under. length-node_at seed height l _ (λ is. lowest l is (sibling_in_row height leaf l under below)))
  where
    lowest : (l : ℕ) → l ≡ 0 → sibling (leaf / 2 ^ l) < 2 ^ (height - l) → sibling (leaf / 2 ^ l) < 2 ^ height
    lowest l is lt = let whole : height - l ≡ height = omega arith in rw whole at lt

pub signature_by-fits : (seed body : List ℕ) (height leaf : ℕ) → 1 ≤ height → height ≤ 16 → leaf < 2 ^ height → IsSignature (signature_by seed height leaf body)
unfolding signature_by
signature_by-fits seed body height leaf least most below = record {
  leaf = below;
  least = least;
  most = most;
  pairs = length-pairs_of seed (signed_digest_of body) leaf;
  path = length-path_of seed height leaf below;
}
