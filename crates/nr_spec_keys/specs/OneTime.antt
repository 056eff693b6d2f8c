-- One-time keys (L. Lamport, Constructing digital signatures from a one way function, 1979). A leaf is 256
-- pairs of secrets, one pair for each bit of the digest that it signs. A signature shows one secret of each
-- pair, that of the bit's value, and the public digest of the other.
--
-- SHA-256 is that of FIPS 180-4. Secrets are words of the ChaCha20 stream under a seed (RFC 8439, 2.3, with a
-- block counter of 64 bits and a stream number of 64 bits in the last four words of the state).
use Rattle.std.specs.Prelude.{ℕ, ◌+◌, ◌-◌, ◌*◌, ◌/◌, ◌%◌, ◌^◌, ◌==◌, if◌then◌else◌, List, ◌∷◌, ◌++◌, slice_index}
use Rattle.std.specs.Int.{w32, to_le_bytes}
use Rattle.rand_chacha.specs.ChaCha.{word_at, key_of}
use Rattle.sha2.specs.Sha256.{sha256}
use Rattle.nr_spec_keys.specs.Pieces.{joined, piece_of}

-- ---- the keys of a leaf

-- eight words of a stream from a place on, each with its lowest byte first
unfoldable pub words_of : List ℕ → ℕ → ℕ → List ℕ
words_of key stream place = joined (λ k. to_le_bytes w32 (word_at 10 key stream (place + k))) 8

-- the secret for the value b of bit i: the leaf's number is that of the stream
abbrev pub secret_of : List ℕ → ℕ → ℕ → ℕ → List ℕ
secret_of seed leaf i b = words_of (key_of seed) leaf ((2 * i + b) * 8)

-- its public digest
abbrev pub public_of : List ℕ → ℕ → ℕ → ℕ → List ℕ
public_of seed leaf i b = sha256 (secret_of seed leaf i b)

-- the digest of a leaf with these pairs of public digests
unfoldable pub leaf_digest : (ℕ → List ℕ) → List ℕ
leaf_digest pair = sha256 (0 ∷ joined pair 256)

-- the leaf that is published
abbrev pub publics_of : List ℕ → ℕ → ℕ → List ℕ
publics_of seed leaf i = public_of seed leaf i 0 ++ public_of seed leaf i 1

abbrev pub public_leaf_of : List ℕ → ℕ → List ℕ
public_leaf_of seed leaf = leaf_digest (publics_of seed leaf)

-- ---- signing a digest

-- bit i of a digest, the highest bit of the first byte first
abbrev pub bit_of : List ℕ → ℕ → ℕ
bit_of digest i = slice_index digest (i / 8) / 2 ^ (7 - i % 8) % 2

-- what is shown of pair i: the secret of the bit's value, and the public digest of the other value
abbrev pub shown_of : List ℕ → ℕ → List ℕ → ℕ → List ℕ
shown_of seed leaf digest i = secret_of seed leaf i (bit_of digest i) ++ public_of seed leaf i (1 - bit_of digest i)

unfoldable pub pairs_of : List ℕ → ℕ → List ℕ → List ℕ
pairs_of seed leaf digest = joined (shown_of seed leaf digest) 256

-- ---- checking what is shown

-- two digests, the first of them on the side that a bit names: 0 is left
abbrev pub beside : ℕ → List ℕ → List ℕ → List ℕ
beside bit first other = if bit == 0 then first ++ other else other ++ first

-- the public digests of pair i, from what is shown of it for a digest
abbrev pub publics_from : List ℕ → List ℕ → ℕ → List ℕ
publics_from pairs digest i =
    beside (bit_of digest i) (sha256 (piece_of 32 pairs (2 * i))) (piece_of 32 pairs (2 * i + 1))

-- the leaf's digest recomputed from the pairs that are shown for a digest
abbrev pub leaf_from : List ℕ → List ℕ → List ℕ
leaf_from pairs digest = leaf_digest (publics_from pairs digest)
