-- A tree in one list: node 1 is the root, node k stands over the nodes 2k and 2k + 1, and the leaves stand
-- from 2^height on. Node 0 isn't used.
use Rattle.std.specs.Prelude.{◌≡◌, ℕ, ◌+◌, ◌*◌, ◌^◌, ◌<◌, ◌≤◌, List, [], ◌++◌, length, get_or}
use Rattle.nr_spec_keys.specs.Trees.{node}

-- the nodes from 1 up to here are made of the two below them
abbrev pub IsJoined : ℕ → ℕ → List (List ℕ) → Type 0
IsJoined from to nodes =
    (k : ℕ) → from ≤ k → k < to → get_or nodes k [] ≡ node (get_or nodes (2 * k) [] ++ get_or nodes (2 * k + 1) [])

pub record IsHeap (height : ℕ) (nodes : List (List ℕ)) : Type 0 where
  pub least : 1 ≤ height
  pub most : height ≤ 16
  pub size : length nodes ≡ 2 * 2 ^ height
  pub is_joined : IsJoined 1 (2 ^ height) nodes
