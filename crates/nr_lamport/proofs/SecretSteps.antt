-- A leaf's secrets, read pair by pair.
use Rattle.std.proofs.Common.{◌≡◌, ◌⊎◌, ℕ, ◌+◌, ◌-◌, ◌*◌, ◌/◌, ◌%◌, ◌^◌, ◌<◌, List, ◌∷◌, ◌++◌, refl, sym, ap, ◌∙◌, arith, inl, inr}
use Rattle.std.specs.Prelude.{◌==◌, if◌then◌else◌, slice_index}
use Rattle.rand_chacha.specs.ChaCha.{ChaCha, key_of}
use Rattle.sha2.specs.Sha256.{sha256}
use Rattle.nr_spec_keys.specs.Pieces.{joined}
use Rattle.nr_spec_keys.specs.OneTime.{words_of, secret_of, public_of, publics_of, bit_of, shown_of}
use Rattle.nr_spec_keys.proofs.PieceLemmas.{joined-more}
use Rattle.nr_spec_keys.proofs.LeafLemmas.{one_or_zero}

-- the stream of a leaf before pair i
abbrev pub before_pair : List ℕ → ℕ → ℕ → ChaCha
before_pair seed leaf i = record { key = key_of seed; stream = leaf; word_pos = 16 * i }

pub begins : (seed : List ℕ) (leaf : ℕ) (secrets : ChaCha) → secrets ≡ record { key = key_of seed; stream = leaf; word_pos = 0 } → secrets ≡ before_pair seed leaf 0
begins seed leaf secrets is = is

pub pair_fits : (seed : List ℕ) (leaf i : ℕ) (secrets : ChaCha) → i < 256 → secrets ≡ before_pair seed leaf i → secrets.word_pos + 16 < 2 ^ 68
pair_fits seed leaf i secrets lt is = rw is (omega arith)

pub goes_on : (seed : List ℕ) (leaf i : ℕ) (secrets new : ChaCha) → secrets ≡ before_pair seed leaf i → new ≡ record secrets { word_pos = secrets.word_pos + 16 } → new ≡ before_pair seed leaf (i + 1)
goes_on seed leaf i secrets new is after =
    after ∙ ap (λ (g : ChaCha). record g { word_pos = g.word_pos + 16 }) is ∙ ap (λ (n : ℕ). record { key = key_of seed; stream = leaf; word_pos = n }) (omega arith)

-- what the stream gives there
pub record IsPair (seed : List ℕ) (leaf i : ℕ) (zero_secret one_secret : List ℕ) : Type 0 where
  pub zero_is : zero_secret ≡ secret_of seed leaf i 0
  pub one_is : one_secret ≡ secret_of seed leaf i 1

pub is_pair : (seed : List ℕ) (leaf i : ℕ) (secrets : ChaCha) (zero_secret one_secret : List ℕ) → secrets ≡ before_pair seed leaf i
    → zero_secret ≡ words_of secrets.key secrets.stream secrets.word_pos → one_secret ≡ words_of secrets.key secrets.stream (secrets.word_pos + 8) → IsPair seed leaf i zero_secret one_secret
is_pair seed leaf i secrets zero_secret one_secret is zero_is one_is = record {
  zero_is = zero_is ∙ ap (λ (g : ChaCha). words_of g.key g.stream g.word_pos) is ∙ ap (words_of (key_of seed) leaf) (omega arith);
  one_is = one_is ∙ ap (λ (g : ChaCha). words_of g.key g.stream (g.word_pos + 8)) is ∙ ap (words_of (key_of seed) leaf) (omega arith);
}

-- the public digests so far, and those of one pair more
pub publics-more : (seed : List ℕ) (leaf i : ℕ) (zero_secret one_secret : List ℕ) → IsPair seed leaf i zero_secret one_secret
    → (0 ∷ joined (publics_of seed leaf) i) ++ (sha256 zero_secret ++ sha256 one_secret) ≡ 0 ∷ joined (publics_of seed leaf) (i + 1)
publics-more seed leaf i zero_secret one_secret pair =
    rw (pair.zero_is, pair.one_is) (ap (λ (xs : List ℕ). 0 ∷ xs) (sym (joined-more (publics_of seed leaf) i)))

-- ---- what is shown of a pair

pub shown-pair : (seed digest : List ℕ) (leaf i bit : ℕ) (zero_secret one_secret : List ℕ) → IsPair seed leaf i zero_secret one_secret → bit ≡ bit_of digest i
    → (if bit == 0 then zero_secret ++ sha256 one_secret else one_secret ++ sha256 zero_secret) ≡ shown_of seed leaf digest i
shown-pair seed digest leaf i bit zero_secret one_secret pair bit_is =
    rw (pair.zero_is, pair.one_is, bit_is) (by_value (bit_of digest i) (one_or_zero (slice_index digest (i / 8) / 2 ^ (7 - i % 8))))
  where
    Shown : ℕ → Type 0
    Shown b = (if b == 0 then secret_of seed leaf i 0 ++ public_of seed leaf i 1 else secret_of seed leaf i 1 ++ public_of seed leaf i 0) ≡ secret_of seed leaf i b ++ public_of seed leaf i (1 - b)

    by_value : (b : ℕ) → (b ≡ 0) ⊎ (b ≡ 1) → Shown b
    by_value b (inl is) = rw is refl
    by_value b (inr is) = rw is refl
