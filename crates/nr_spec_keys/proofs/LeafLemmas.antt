-- What is recomputed from the pairs of a leaf is its public leaf.
use Rattle.std.proofs.Common.{◌≡◌, ◌⊎◌, ℕ, ◌+◌, ◌-◌, ◌*◌, ◌<◌, ◌/◌, ◌%◌, ◌^◌, List, ◌∷◌, ◌++◌, length, take, drop, refl, sym, ap, ◌∙◌, append_assoc, arith, inl, inr}
use Rattle.std.specs.Prelude.{slice_index}
use Rattle.std.proofs.lemmas.List.{length-append, take_at, drop_at, drop-drop}
use Rattle.std.proofs.lemmas.Bool.{cases_lt}
use Rattle.sha2.specs.Sha256.{sha256, digest_bytes}
use Rattle.rand_chacha.specs.ChaCha.{key_of}
use Rattle.nr_spec_keys.specs.Pieces.{joined, piece_of}
use Rattle.nr_spec_keys.specs.OneTime.{words_of, secret_of, public_of, publics_of, public_leaf_of, bit_of, shown_of, pairs_of, beside, publics_from, leaf_from, leaf_digest}
use Rattle.nr_spec_keys.proofs.PieceLemmas.{length-joined, joined-same, drop-joined, AreOfSize}

pub length-sha256 : (m : List ℕ) → length (sha256 m) ≡ 32
unfolding sha256 digest_bytes
length-sha256 m = refl

pub length-words_of : (key : List ℕ) (stream place : ℕ) → length (words_of key stream place) ≡ 32
unfolding words_of joined
length-words_of key stream place = refl

pub one_or_zero : (n : ℕ) → (n % 2 ≡ 0) ⊎ (n % 2 ≡ 1)
one_or_zero n = elim (cases_lt (n % 2) 1) [ inl lt ↦ inl (omega arith) | inr le ↦ inr (omega arith) ]

pub length-shown_of : (seed digest : List ℕ) (leaf i : ℕ) → length (shown_of seed leaf digest i) ≡ 64
length-shown_of seed digest leaf i =
    omega (arith, length-append (secret_of seed leaf i (bit_of digest i)) (public_of seed leaf i (1 - bit_of digest i)), length-words_of (key_of seed) leaf ((2 * i + bit_of digest i) * 8), length-sha256 (secret_of seed leaf i (1 - bit_of digest i)))

pub length-pairs_of : (seed digest : List ℕ) (leaf : ℕ) → length (pairs_of seed leaf digest) ≡ 16384
unfolding pairs_of
length-pairs_of seed digest leaf = length-joined 64 (shown_of seed leaf digest) 256 (λ k below. length-shown_of seed digest leaf k)

-- the two halves of a pair among pairs
pub halves : (piece : ℕ → List ℕ) (secret public : List ℕ) (i n : ℕ) → i < n → AreOfSize 64 piece n → piece i ≡ secret ++ public → length secret ≡ 32 → length public ≡ 32
    → (piece_of 32 (joined piece n) (2 * i) ≡ secret) × (piece_of 32 (joined piece n) (2 * i + 1) ≡ public)
halves piece secret public i n lt sizes is secret_size public_size =
    let behind = drop-joined 64 piece i n lt sizes in
    let front : drop (32 * (2 * i)) (joined piece n) ≡ secret ++ (public ++ behind.0) =
    ap (λ (k : ℕ). drop k (joined piece n)) (omega arith) ∙ behind.1 ∙ ap (λ (xs : List ℕ). xs ++ behind.0) is ∙ append_assoc secret public behind.0 in
    let second : drop (32 * (2 * i + 1)) (joined piece n) ≡ public ++ behind.0 =
    ap (λ (k : ℕ). drop k (joined piece n)) (omega arith) ∙ sym (drop-drop 32 (32 * (2 * i)) (joined piece n)) ∙ ap (drop 32) front ∙ drop_at secret (public ++ behind.0) 32 secret_size in
    (ap (take 32) front ∙ take_at secret (public ++ behind.0) 32 secret_size, ap (take 32) second ∙ take_at public behind.0 32 public_size)

pub publics_from-pairs_of : (seed digest : List ℕ) (leaf i : ℕ) → i < 256 → publics_from (pairs_of seed leaf digest) digest i ≡ publics_of seed leaf i
unfolding pairs_of
publics_from-pairs_of seed digest leaf i lt =
    let bit = bit_of digest i in
    let both = halves (shown_of seed leaf digest) (secret_of seed leaf i bit) (public_of seed leaf i (1 - bit)) i 256 lt (λ k below. length-shown_of seed digest leaf k) refl (length-words_of (key_of seed) leaf ((2 * i + bit) * 8)) (length-sha256 (secret_of seed leaf i (1 - bit))) in
    rw (both.0, both.1) (in_order bit (one_or_zero (slice_index digest (i / 8) / 2 ^ (7 - i % 8))))
  where
    in_order : (bit : ℕ) → (bit ≡ 0) ⊎ (bit ≡ 1) → beside bit (public_of seed leaf i bit) (public_of seed leaf i (1 - bit)) ≡ publics_of seed leaf i
    in_order bit (inl is) = rw is refl
    in_order bit (inr is) = rw is refl

pub leaf_from-pairs_of : (seed digest : List ℕ) (leaf : ℕ) → leaf_from (pairs_of seed leaf digest) digest ≡ public_leaf_of seed leaf
unfolding leaf_digest
leaf_from-pairs_of seed digest leaf =
    ap (λ (pairs : List ℕ). sha256 (0 ∷ pairs)) (joined-same (publics_from (pairs_of seed leaf digest) digest) (publics_of seed leaf) 256 (λ i lt. publics_from-pairs_of seed digest leaf i lt))
