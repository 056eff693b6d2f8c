-- Authenticators with a fault are refused there.
use Rattle.std.proofs.Common.{◌≡◌, ℕ, ◌+◌, ◌*◌, true, List, drop, Option, Result, Err, sym, ap, subst, ◌∙◌, arith}
use Rattle.byteorder.specs.Endian.{big_number}
use Rattle.nr_spec_wire.specs.Reading.{Spot, ◌>>=◌, number_at, bytes_at}
use Rattle.nr_spec_log.specs.Authenticator.{Head, signature_at, wanted_at, is_leaf, pairs_size, digest_size}
use Rattle.nr_laws_files.specs.Cuts.{IsCut}
use Rattle.nr_laws_files.specs.Authenticators.{SignatureFault, leaf_cut, height_cut, no_leaf, pairs_cut, path_cut, AuthFault, asn_cut, asn_other, seq_cut, seq_other, time_cut, time_other, hash_cut, sig_fault}
use Rattle.nr_laws_files.proofs.Cases.{stands_first, then_err, wants_then, wants_fails, number_short, bytes_short, number_long, bytes_long}

abbrev IsAt : Spot → ℕ → Type 0
IsAt t d = signature_at t ≡ Err (t.at + d)

signature_faults : (t : Spot) (d : ℕ) → SignatureFault t.rest d → signature_at t ≡ Err (t.at + d)
unfolding signature_at
signature_faults t d (leaf_cut c e) = subst (IsAt t) (sym e) (number_short t t 0 4 _ (stands_first t) c)
signature_faults t d (height_cut c e) =
    let a = number_long t t 0 4 (stands_first t) c.reaches in
    subst (IsAt t) (sym e) (then_err (number_at 4 t) _ _ _ a.is (number_short t a.next 4 1 _ a.stands c))
signature_faults t d (no_leaf w other e) =
    let a = number_long t t 0 4 (stands_first t) (omega (arith, w)) in
    let b = number_long t a.next 4 1 a.stands w in
    subst (IsAt t) (sym e) (then_err (number_at 4 t) _ _ _ a.is (then_err (number_at 1 a.next) _ _ _ b.is (wants_fails _ a.next.at _ _ _ other a.stands.at_is)))
signature_faults t d (pairs_cut h leaf c e) =
    let a = number_long t t 0 4 (stands_first t) (omega (arith, leaf.whole)) in
    let b = number_long t a.next 4 1 a.stands leaf.whole in
    let fits : is_leaf (big_number 4 t.rest) (big_number 1 (drop 4 t.rest)) ≡ true = ap (is_leaf (big_number 4 t.rest)) (sym leaf.height_is) ∙ leaf.fits in
    subst (IsAt t) (sym e) (then_err (number_at 4 t) _ _ _ a.is (then_err (number_at 1 a.next) _ _ _ b.is (wants_then _ a.next.at _ _ _ fits (bytes_short t b.next 5 pairs_size _ b.stands c))))
signature_faults t d (path_cut h leaf c e) =
    let a = number_long t t 0 4 (stands_first t) (omega (arith, leaf.whole)) in
    let b = number_long t a.next 4 1 a.stands leaf.whole in
    let fits : is_leaf (big_number 4 t.rest) (big_number 1 (drop 4 t.rest)) ≡ true = ap (is_leaf (big_number 4 t.rest)) (sym leaf.height_is) ∙ leaf.fits in
    let pairs = bytes_long t b.next 5 pairs_size b.stands c.reaches in
    let cut : IsCut t.rest 16389 (digest_size * big_number 1 (drop 4 t.rest)) = subst (λ (n : ℕ). IsCut t.rest 16389 (32 * n)) leaf.height_is c in
    subst (IsAt t) (sym e)
    (then_err (number_at 4 t) _ _ _ a.is (then_err (number_at 1 a.next) _ _ _ b.is (wants_then _ a.next.at _ _ _ fits
    (then_err (bytes_at pairs_size b.next) _ _ _ pairs.is (bytes_short t pairs.next 16389 (digest_size * big_number 1 (drop 4 t.rest)) _ pairs.stands cut)))))

abbrev IsWantedAt : Option Head → Spot → ℕ → Type 0
IsWantedAt head s d = wanted_at head s ≡ Err (s.at + d)

pub wanted_faults : (head : Option Head) (s : Spot) (d : ℕ) → AuthFault head s.rest d → wanted_at head s ≡ Err (s.at + d)
unfolding wanted_at
wanted_faults head s d (asn_cut c e) = subst (IsWantedAt head s) (sym e) (number_short s s 0 4 _ (stands_first s) c)
wanted_faults head s d (asn_other w other e) =
    let a = number_long s s 0 4 (stands_first s) w in
    subst (IsWantedAt head s) (sym e) (then_err (number_at 4 s) _ _ _ a.is (wants_fails _ s.at _ _ _ other (omega arith)))
wanted_faults head s d (seq_cut asn c e) =
    let a = number_long s s 0 4 (stands_first s) c.reaches in
    subst (IsWantedAt head s) (sym e) (then_err (number_at 4 s) _ _ _ a.is (wants_then _ s.at _ _ _ asn (number_short s a.next 4 8 _ a.stands c)))
wanted_faults head s d (seq_other asn w other e) =
    let a = number_long s s 0 4 (stands_first s) (omega (arith, w)) in
    let b = number_long s a.next 4 8 a.stands w in
    subst (IsWantedAt head s) (sym e) (then_err (number_at 4 s) _ _ _ a.is (wants_then _ s.at _ _ _ asn (then_err (number_at 8 a.next) _ _ _ b.is (wants_fails _ a.next.at _ _ _ other a.stands.at_is))))
wanted_faults head s d (time_cut asn seq c e) =
    let a = number_long s s 0 4 (stands_first s) (omega (arith, c.reaches)) in
    let b = number_long s a.next 4 8 a.stands c.reaches in
    subst (IsWantedAt head s) (sym e)
    (then_err (number_at 4 s) _ _ _ a.is (wants_then _ s.at _ _ _ asn (then_err (number_at 8 a.next) _ _ _ b.is (wants_then _ a.next.at _ _ _ seq (number_short s b.next 12 8 _ b.stands c)))))
wanted_faults head s d (time_other asn seq w other e) =
    let a = number_long s s 0 4 (stands_first s) (omega (arith, w)) in
    let b = number_long s a.next 4 8 a.stands (omega (arith, w)) in
    let t = number_long s b.next 12 8 b.stands w in
    subst (IsWantedAt head s) (sym e)
    (then_err (number_at 4 s) _ _ _ a.is (wants_then _ s.at _ _ _ asn (then_err (number_at 8 a.next) _ _ _ b.is (wants_then _ a.next.at _ _ _ seq
    (then_err (number_at 8 b.next) _ _ _ t.is (wants_fails _ b.next.at _ _ _ other b.stands.at_is))))))
wanted_faults head s d (hash_cut speaks c e) =
    let a = number_long s s 0 4 (stands_first s) (omega (arith, c.reaches)) in
    let b = number_long s a.next 4 8 a.stands (omega (arith, c.reaches)) in
    let t = number_long s b.next 12 8 b.stands c.reaches in
    subst (IsWantedAt head s) (sym e)
    (then_err (number_at 4 s) _ _ _ a.is (wants_then _ s.at _ _ _ speaks.asn (then_err (number_at 8 a.next) _ _ _ b.is (wants_then _ a.next.at _ _ _ speaks.seq
    (then_err (number_at 8 b.next) _ _ _ t.is (wants_then _ b.next.at _ _ _ speaks.time (bytes_short s t.next 20 digest_size _ t.stands c)))))))
wanted_faults head s d (sig_fault speaks w k f e) =
    let a = number_long s s 0 4 (stands_first s) (omega (arith, w)) in
    let b = number_long s a.next 4 8 a.stands (omega (arith, w)) in
    let t = number_long s b.next 12 8 b.stands (omega (arith, w)) in
    let h = bytes_long s t.next 20 digest_size t.stands w in
    let sig : signature_at h.next ≡ Err (h.next.at + k) = signature_faults h.next k (subst (λ (bytes : List ℕ). SignatureFault bytes k) (sym h.stands.rest_is) f) in
    let place : h.next.at + k ≡ s.at + (52 + k) = omega (arith, h.stands.at_is) in
    subst (IsWantedAt head s) (sym e)
    (then_err (number_at 4 s) _ _ _ a.is (wants_then _ s.at _ _ _ speaks.asn (then_err (number_at 8 a.next) _ _ _ b.is (wants_then _ a.next.at _ _ _ speaks.seq
    (then_err (number_at 8 b.next) _ _ _ t.is (wants_then _ b.next.at _ _ _ speaks.time (then_err (bytes_at digest_size t.next) _ _ _ h.is (fails_at (signature_at h.next) _ (h.next.at + k) (s.at + (52 + k)) sig place))))))))
  where
    fails_at : {A B : Type 0} (r : Result A ℕ) (g : A → Result B ℕ) (p q : ℕ) → r ≡ Err p → p ≡ q → (r >>= g) ≡ Err q
    fails_at {B = B} r g p q e is = ap (λ x. x >>= g) e ∙ ap (λ (n : ℕ). let x : Result B ℕ = Err n in x) is
