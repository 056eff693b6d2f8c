-- A tree in one list, made and read node by node.
use Rattle.std.proofs.Common.{◌≡◌, ℕ, zero, suc, ◌+◌, ◌-◌, ◌*◌, ◌^◌, ◌<◌, ◌≤◌, List, [], ◌++◌, length, get_or, set, drop, sym, ap, ◌∙◌, arith, inl, inr}
use Rattle.std.proofs.Math.Nat.{pow-le-pow_right}
use Rattle.std.proofs.lemmas.Bool.{cases_lt}
use Rattle.std.proofs.lemmas.List.{get_or-drop, get_or-set_same, get_or-set_other}
use Rattle.std.proofs.lemmas.Nat.{pow_pos}
use Rattle.nr_spec_keys.specs.Trees.{KeyTree, node, node_at}
use Rattle.nr_spec_keys.proofs.TreeLemmas.{pow-more}
use Rattle.nr_merkle.specs.Heap.{IsHeap, IsJoined}

-- one node more, below those that are made
pub is_joined_more : (nodes : List (List ℕ)) (k leaves : ℕ) (made : List ℕ) → 1 ≤ k → k < length nodes
    → made ≡ node (get_or nodes (2 * k) [] ++ get_or nodes (2 * k + 1) []) → IsJoined (k + 1) leaves nodes → IsJoined k leaves (set nodes k made)
is_joined_more nodes k leaves made above room made_is joined j from to =
    let left : get_or (set nodes k made) (2 * j) [] ≡ get_or nodes (2 * j) [] = get_or-set_other nodes k (2 * j) made [] (omega arith) in
    let right : get_or (set nodes k made) (2 * j + 1) [] ≡ get_or nodes (2 * j + 1) [] = get_or-set_other nodes k (2 * j + 1) made [] (omega arith) in
    rw (left, right) (elim (cases_lt k j) [ inl further ↦ later further | inr here ↦ this (omega arith) ])
  where
    Made : Type 0
    Made = get_or (set nodes k made) j [] ≡ node (get_or nodes (2 * j) [] ++ get_or nodes (2 * j + 1) [])

    later : k < j → Made
    later further = get_or-set_other nodes k j made [] (omega arith) ∙ joined j (omega arith) to

    this : k ≡ j → Made
    this here = ap (λ (i : ℕ). get_or (set nodes k made) i []) (sym here) ∙ get_or-set_same nodes k made [] room ∙ made_is ∙ ap (λ (i : ℕ). node (get_or nodes (2 * i) [] ++ get_or nodes (2 * i + 1) [])) here

-- ---- the nodes of a level stand one after another

-- a row of 2^depth nodes ends before the next begins
pub in_heap : (height depth n : ℕ) → depth ≤ height → n < 2 ^ depth → 2 ^ depth + n < 2 * 2 ^ height
in_heap height depth n le lt = omega (arith, pow-le-pow_right {n = 2} (omega arith) {i = depth} {j = height} le)

-- a node above the leaves stands before them
pub above_leaves : (height level depth n : ℕ) → height ≡ suc level + depth → n < 2 ^ depth → 2 ^ depth + n < 2 ^ height
above_leaves height level depth n is lt = omega (arith, pow-more depth, pow-le-pow_right {n = 2} (omega arith) {i = suc depth} {j = height} (omega arith))

pub node_at-heap : (height : ℕ) (nodes : List (List ℕ)) → IsJoined 1 (2 ^ height) nodes → (level depth n : ℕ) → height ≡ level + depth → n < 2 ^ depth
    → get_or nodes (2 ^ depth + n) [] ≡ node_at (drop (2 ^ height) nodes) level n
unfolding node_at
node_at-heap height nodes joined zero depth n is lt =
    let same : depth ≡ height = omega arith in
    ap (λ (d : ℕ). get_or nodes (2 ^ d + n) []) same ∙ sym (get_or-drop (2 ^ height) nodes n [])
node_at-heap height nodes joined (suc level) depth n is lt =
    let more = pow-more depth in
    let made = joined (2 ^ depth + n) (omega (arith, pow_pos depth)) (above_leaves height level depth n is lt) in
    let left : get_or nodes (2 * (2 ^ depth + n)) [] ≡ node_at (drop (2 ^ height) nodes) level (2 * n) =
    ap (λ (i : ℕ). get_or nodes i []) (omega arith) ∙ node_at-heap height nodes joined level (suc depth) (2 * n) (omega arith) (omega arith) in
    let right : get_or nodes (2 * (2 ^ depth + n) + 1) [] ≡ node_at (drop (2 ^ height) nodes) level (2 * n + 1) =
    ap (λ (i : ℕ). get_or nodes i []) (omega arith) ∙ node_at-heap height nodes joined level (suc depth) (2 * n + 1) (omega arith) (omega arith) in
    made ∙ ap (λ (xs : List ℕ). node (xs ++ get_or nodes (2 * (2 ^ depth + n) + 1) [])) left
    ∙ ap (λ (xs : List ℕ). node (node_at (drop (2 ^ height) nodes) level (2 * n) ++ xs)) right

-- a node of a tree in its list
pub record IsRead (tree : KeyTree) (nodes : List (List ℕ)) (level n place : ℕ) : Type 0 where
  pub within : place < length nodes
  pub value : get_or nodes place [] ≡ node_at tree.leaves level n

pub is_read : (tree : KeyTree) (height level n row : ℕ) (nodes : List (List ℕ)) → IsHeap height nodes → height ≡ tree.height → drop (2 ^ height) nodes ≡ tree.leaves
    → level ≤ tree.height → n < 2 ^ (tree.height - level) → row ≡ 2 ^ (height - level) → IsRead tree nodes level n (row + n)
is_read tree height level n row nodes heap height_is leaves_are in_tree in_row row_is =
    let below : n < 2 ^ (height - level) = rw height_is in_row in
    let le : level ≤ height = omega arith in
    record {
      within = rw (row_is, heap.size) (in_heap height (height - level) n (omega arith) below);
      value = ap (λ (r : ℕ). get_or nodes (r + n) []) row_is ∙ node_at-heap height nodes heap.is_joined level (height - level) n (omega arith) below ∙ ap (λ (leaves : List (List ℕ)). node_at leaves level n) leaves_are;
    }
