-- Trees of one-time keys (R. Merkle, A certified digital signature, 1989), and when a signature is signed
-- under a root. What signed means speaks of neither seed nor tree, which only the signer has.
use Rattle.std.specs.Prelude.{◌≡◌, ℕ, zero, suc, ◌+◌, ◌-◌, ◌*◌, ◌/◌, ◌%◌, ◌^◌, ◌==◌, if◌then◌else◌, List, [], ◌∷◌, ◌++◌, get_or}
use Rattle.sha2.specs.Sha256.{sha256}
use Rattle.nr_spec_log.specs.Authenticator.{Signature}
use Rattle.nr_spec_keys.specs.Pieces.{joined, piece_of}
use Rattle.nr_spec_keys.specs.OneTime.{public_leaf_of, pairs_of, leaf_from, beside}

-- ---- signatures that are signed

-- the digest of two nodes side by side
unfoldable pub node : List ℕ → List ℕ
node both = sha256 (1 ∷ both)

-- A leaf's digest joined with so many digests of a path, by the bits of the leaf's number, the lowest first.
unfoldable pub climbed : List ℕ → List ℕ → ℕ → ℕ → List ℕ
climbed digest path leaf zero = digest
climbed digest path leaf (suc l) = node (beside (leaf / 2 ^ l % 2) (climbed digest path leaf l) (piece_of 32 path l))

-- the digest that is signed for a body
unfoldable pub signed_digest_of : List ℕ → List ℕ
signed_digest_of body = sha256 (2 ∷ body)

-- the root to which a signature of a body leads
unfoldable pub root_from : List ℕ → Signature → List ℕ
root_from body s = climbed (leaf_from s.pairs (signed_digest_of body)) s.path s.leaf s.height

abbrev pub IsSigned : List ℕ → List ℕ → Signature → Type 0
IsSigned root body s = root_from body s ≡ root

-- ---- the trees that sign

-- a tree: its height, and the digests of its 2^height leaves from the left
pub record KeyTree : Type 0 where
  pub height : ℕ
  pub leaves : List (List ℕ)

-- the tree of a seed
unfoldable pub tree_of : List ℕ → ℕ → KeyTree
tree_of seed height = record { height = height; leaves = joined (λ leaf. public_leaf_of seed leaf ∷ []) (2 ^ height) }

-- the n-th node from the left of a level, which is counted from the leaves upwards
unfoldable pub node_at : List (List ℕ) → ℕ → ℕ → List ℕ
node_at leaves zero n = get_or leaves n []
node_at leaves (suc level) n = node (node_at leaves level (2 * n) ++ node_at leaves level (2 * n + 1))

abbrev pub root_of : KeyTree → List ℕ
root_of tree = node_at tree.leaves tree.height 0

-- the other node below the same one
abbrev pub sibling : ℕ → ℕ
sibling n = if n % 2 == 0 then n + 1 else n - 1

-- the siblings on the way from a leaf up to the root
unfoldable pub path_of : KeyTree → ℕ → List ℕ
path_of tree leaf = joined (λ level. node_at tree.leaves level (sibling (leaf / 2 ^ level))) tree.height

-- the signature of a body by a leaf of the tree of this height under a seed
unfoldable pub signature_by : List ℕ → ℕ → ℕ → List ℕ → Signature
signature_by seed height leaf body = record {
  leaf = leaf;
  height = height;
  pairs = pairs_of seed leaf (signed_digest_of body);
  path = path_of (tree_of seed height) leaf;
}
