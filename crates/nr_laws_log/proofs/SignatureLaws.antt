-- Signatures.
use Rattle.std.proofs.Common.{◌≡◌, ℕ, ◌+◌, ◌*◌, ◌^◌, ◌<◌, ◌≤◌, Bool, true, false, ltb, leb, ◌&&◌, List, ◌++◌, length, Ok, refl, ap, subst, ◌∙◌, append_assoc, arith}
use Rattle.std.proofs.lemmas.Bool.{ltb-true, leb-true, lt-ltb, le-leb}
use Rattle.std.proofs.lemmas.List.{length-append}
use Rattle.std.proofs.Math.Nat.{pow-le-pow_right}
use Rattle.byteorder.specs.Endian.{big_bytes}
use Rattle.nr_spec_wire.specs.Reading.{Spot}
use Rattle.nr_spec_wire.proofs.Steps.{ok_is}
use Rattle.nr_spec_log.specs.Authenticator.{Signature, IsSignature, signature, signature_at, is_leaf, pairs_size, digest_size}
use Rattle.nr_laws_log.specs.Laws.{Takes, ReadsSpelled, SpelledReads}
use Rattle.nr_laws_log.proofs.Fields.{Takes-then, number_step, number_again, bytes_step, bytes_again, wants_step, reads_then, wants_then}

-- what the test of a leaf and a height says
pub record IsLeaf (leaf height : ℕ) : Type 0 where
  pub lt : leaf < 2 ^ height
  pub least : 1 ≤ height
  pub most : height ≤ 16

both_true : (a b : Bool) → (a && b) ≡ true → (a ≡ true) × (b ≡ true)
both_true true true e = (refl, refl)
both_true true false e = absurd cc
both_true false b e = absurd cc

leaf_is : (leaf height : ℕ) → is_leaf leaf height ≡ true → IsLeaf leaf height
leaf_is leaf height e =
    let a = both_true (leb 1 height) (leb height 16 && ltb leaf (2 ^ height)) e in
    let b = both_true (leb height 16) (ltb leaf (2 ^ height)) a.1 in
    record { lt = ltb-true _ _ b.1; least = leb-true _ _ a.0; most = leb-true _ _ b.0 }

leaf_fits : (leaf height : ℕ) → IsLeaf leaf height → is_leaf leaf height ≡ true
leaf_fits leaf height h =
    let a : leb 1 height ≡ true = le-leb _ _ h.least in
    let b : leb height 16 ≡ true = le-leb _ _ h.most in
    let c : ltb leaf (2 ^ height) ≡ true = lt-ltb _ _ h.lt in
    rw (a, b, c) refl

pub signature_takes : ReadsSpelled signature_at IsSignature signature
unfolding signature_at
signature_takes s v new fits e =
    let a = number_step 4 s _ (v, new) fits e in
    let b = number_step 1 a.next _ (v, new) a.takes.rest_fits a.goes_on in
    let c = wants_step (is_leaf a.value b.value) a.next.at (b.value, b.next) _ (v, new) b.goes_on in
    let d = bytes_step pairs_size b.next _ (v, new) b.takes.rest_fits c.1 in
    let g = bytes_step (digest_size * b.value) d.next _ (v, new) d.takes.rest_fits d.goes_on in
    let leaf = leaf_is a.value b.value c.0 in
    let made : Signature = record { leaf = a.value; height = b.value; pairs = d.value; path = g.value } in
    let made_fits : IsSignature made = record { leaf = leaf.lt; least = leaf.least; most = leaf.most; pairs = d.value_fits; path = g.value_fits } in
    let dg = Takes-then b.next d.value d.next g.value g.next d.takes g.takes in
    let bg = Takes-then a.next (big_bytes 1 b.value) b.next (d.value ++ g.value) g.next b.takes dg in
    let ag = Takes-then s (big_bytes 4 a.value) a.next (big_bytes 1 b.value ++ (d.value ++ g.value)) g.next a.takes bg in
    subst (λ (p : Signature × Spot). IsSignature p.0 × Takes s (signature p.0) p.1) (ok_is (made, g.next) (v, new) g.goes_on) (made_fits, ag)

small_leaf : (leaf height : ℕ) → leaf < 2 ^ height → height ≤ 16 → leaf < 256 ^ 4
small_leaf leaf height lt le = let h : 2 ^ height ≤ 2 ^ 16 = pow-le-pow_right {n = 2} (omega arith) le in omega arith

pub signature_again : SpelledReads signature_at IsSignature signature
unfolding signature_at
signature_again v at rest fits =
    let spelled : signature v ++ rest ≡ big_bytes 4 v.leaf ++ (big_bytes 1 v.height ++ (v.pairs ++ (v.path ++ rest))) = simp append_assoc in
    let a0 = at + length (big_bytes 4 v.leaf) in
    let a1 = a0 + length (big_bytes 1 v.height) in
    let a2 = a1 + length v.pairs in
    let a3 = a2 + length v.path in
    let places : a3 ≡ at + length (signature v) = simp length-append (omega arith) in
    let small = small_leaf v.leaf v.height fits.leaf fits.most in
    let low : v.height < 256 ^ 1 = omega (arith, fits.most) in
    let leaf = number_again 4 v.leaf at (big_bytes 1 v.height ++ (v.pairs ++ (v.path ++ rest))) small in
    let height = number_again 1 v.height a0 (v.pairs ++ (v.path ++ rest)) low in
    let is = leaf_fits v.leaf v.height (record { lt = fits.leaf; least = fits.least; most = fits.most }) in
    let pairs = bytes_again pairs_size v.pairs a1 (v.path ++ rest) fits.pairs in
    let path = bytes_again (digest_size * v.height) v.path a2 rest fits.path in
    let end : Spot = record { at = a3; rest = rest } in
    let whole : signature_at (record { at = at; rest = big_bytes 4 v.leaf ++ (big_bytes 1 v.height ++ (v.pairs ++ (v.path ++ rest))) }) ≡ Ok (v, end) =
    reads_then _ _ _ _ leaf (reads_then _ _ _ _ height (wants_then (is_leaf v.leaf v.height) a0 _ _ _ is (reads_then _ _ _ _ pairs (reads_then _ _ _ _ path refl)))) in
    ap (λ (t : List ℕ). signature_at (record { at = at; rest = t })) spelled ∙ whole ∙ ap (λ (k : ℕ). Ok (v, record { at = k; rest = rest })) places
