-- What a signature is spelled as reads as that signature.
use Rattle.std.proofs.Common.{◌≡◌, ℕ, ◌+◌, ◌*◌, ◌^◌, ◌<◌, ◌≤◌, Bool, true, false, List, ◌++◌, length, Ok, refl, ap, ◌∙◌, append_assoc, arith}
use Rattle.std.specs.Prelude.{nat_lt}
use Rattle.std.proofs.Math.Nat.{pow-le-pow_right}
use Rattle.std.proofs.lemmas.Bool.{le-ltb, lt-ltb, le-leb}
use Rattle.std.proofs.lemmas.List.{length-append, take_at, drop_at}
use Rattle.byteorder.specs.Endian.{big_bytes, big_number}
use Rattle.nr_spec_wire.specs.Reading.{Spot, Read, ◌>>=◌, number_at, bytes_at, wants}
use Rattle.nr_spec_log.specs.Authenticator.{Signature, IsSignature, signature, signature_at, is_leaf, pairs_size, digest_size}

spot : ℕ → List ℕ → Spot
spot at rest = record { at = at; rest = rest }

-- ---- fields

bytes_again : (at n : ℕ) (piece rest : List ℕ) → length piece ≡ n → bytes_at n (spot at (piece ++ rest)) ≡ Ok (piece, spot (at + n) rest)
unfolding spot
bytes_again at n piece rest size =
    let long : nat_lt (length (piece ++ rest)) n ≡ false = le-ltb _ _ (omega (arith, length-append piece rest)) in
    rw (long, take_at piece rest n size, drop_at piece rest n size) refl

number4_again : (at n : ℕ) (rest : List ℕ) → n < 2 ^ 32 → number_at 4 (spot at (big_bytes 4 n ++ rest)) ≡ Ok (n, spot (at + 4) rest)
unfolding spot
number4_again at n rest fits =
    let long : nat_lt (length (big_bytes 4 n ++ rest)) 4 ≡ false = le-ltb _ _ (omega (arith, length-append (big_bytes 4 n) rest)) in
    let value : big_number 4 (big_bytes 4 n ++ rest) ≡ n = omega arith in
    rw (long, value) refl

number1_again : (at n : ℕ) (rest : List ℕ) → n < 256 → number_at 1 (spot at (big_bytes 1 n ++ rest)) ≡ Ok (n, spot (at + 1) rest)
unfolding spot
number1_again at n rest fits =
    let long : nat_lt (length (big_bytes 1 n ++ rest)) 1 ≡ false = le-ltb _ _ (omega (arith, length-append (big_bytes 1 n) rest)) in
    let value : big_number 1 (big_bytes 1 n ++ rest) ≡ n = omega arith in
    rw (long, value) refl

is_leaf_true : (leaf height : ℕ) → 1 ≤ height → height ≤ 16 → leaf < 2 ^ height → is_leaf leaf height ≡ true
is_leaf_true leaf height least most below = rw (le-leb 1 height least, le-leb height 16 most, lt-ltb leaf (2 ^ height) below) refl

-- ---- the whole

-- what is read after each field
abbrev after_path : ℕ → ℕ → List ℕ → List ℕ × Spot → Read Signature
after_path leaf height pairs path = Ok (record { leaf = leaf; height = height; pairs = pairs; path = path.0 }, path.1)

abbrev after_pairs : ℕ → ℕ → List ℕ × Spot → Read Signature
after_pairs leaf height pairs = bytes_at (digest_size * height) pairs.1 >>= after_path leaf height pairs.0

abbrev after_height : ℕ → ℕ × Spot → Read Signature
after_height leaf height = bytes_at pairs_size height.1 >>= after_pairs leaf height.0

abbrev after_any : ℕ × Spot → ℕ × Spot → Read Signature
after_any leaf any = wants (is_leaf leaf.0 any.0) leaf.1.at any >>= after_height leaf.0

abbrev after_leaf : ℕ × Spot → Read Signature
after_leaf leaf = number_at 1 leaf.1 >>= after_any leaf

-- Reading stops right after the spelling.
pub signature_again : (s : Signature) (at : ℕ) (rest : List ℕ) → IsSignature s → signature_at (record { at = at; rest = signature s ++ rest }) ≡ Ok (s, record { at = at + length (signature s); rest = rest })
unfolding signature_at spot
signature_again s at rest fits =
    let leaf_fits : s.leaf < 2 ^ 32 = below_width in
    let parts : signature s ++ rest ≡ big_bytes 4 s.leaf ++ (big_bytes 1 s.height ++ (s.pairs ++ (s.path ++ rest))) = ap (λ (xs : List ℕ). big_bytes 4 s.leaf ++ (big_bytes 1 s.height ++ xs)) (append_assoc s.pairs s.path rest) in
    let leaf_again = number4_again at s.leaf (big_bytes 1 s.height ++ (s.pairs ++ (s.path ++ rest))) leaf_fits in
    let height_again = number1_again (at + 4) s.height (s.pairs ++ (s.path ++ rest)) (omega (arith, fits.most)) in
    let in_tree = is_leaf_true s.leaf s.height fits.least fits.most fits.leaf in
    let pairs_again = bytes_again (at + 4 + 1) pairs_size s.pairs (s.path ++ rest) fits.pairs in
    let path_again = bytes_again (at + 4 + 1 + pairs_size) (digest_size * s.height) s.path rest fits.path in
    let behind : at + 4 + 1 + pairs_size + digest_size * s.height ≡ at + length (signature s) = omega (arith, fits.pairs, fits.path, length-append s.pairs s.path) in
    ap (λ (xs : List ℕ). signature_at (spot at xs)) parts
    ∙ ap (λ (r : Read ℕ). r >>= after_leaf) leaf_again
    ∙ ap (λ (r : Read ℕ). r >>= after_any (s.leaf, spot (at + 4) (big_bytes 1 s.height ++ (s.pairs ++ (s.path ++ rest))))) height_again
    ∙ ap (λ (b : Bool). wants b (at + 4) (s.height, spot (at + 4 + 1) (s.pairs ++ (s.path ++ rest))) >>= after_height s.leaf) in_tree
    ∙ ap (λ (r : Read (List ℕ)). r >>= after_pairs s.leaf s.height) pairs_again
    ∙ ap (λ (r : Read (List ℕ)). r >>= after_path s.leaf s.height s.pairs) path_again
    ∙ ap (λ (n : ℕ). Ok (s, spot n rest)) behind
  where
    below_width : s.leaf < 2 ^ 32
    below_width = omega (arith, fits.leaf, pow-le-pow_right {n = 2} (omega arith) {i = s.height} {j = 16} fits.most)
