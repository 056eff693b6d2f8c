-- What stands before the entries, with a fault, is refused there.
use Rattle.std.proofs.Common.{◌≡◌, ◌≢◌, ℕ, ◌+◌, ◌<◌, ◌≤◌, Bool, true, false, leb, List, length, take, drop, Option, Some, None, Result, Ok, Err, refl, sym, ap, subst, ◌∙◌, arith}
use Rattle.std.specs.Str.{bytes_eq}
use Rattle.std.proofs.lemmas.Bool.{le-leb, lt-leb}
use Rattle.std.proofs.lemmas.Slice.Eq.{bytes_eq-Decides}
use Rattle.nr_spec_wire.specs.Reading.{Spot, Read, ◌>>=◌, number_at, bytes_at, wants}
use Rattle.nr_spec_log.specs.Authenticator.{magic_at, digest_size}
use Rattle.nr_spec_log.specs.Answer.{Opening, answer_magic, opening_at, body_at, is_later, most_body}
use Rattle.nr_laws_files.specs.Cuts.{IsCut}
use Rattle.nr_laws_files.specs.Answers.{asn_in, first_in, prev_in, size_in, HasFlag, HasBody, no_body, some_body, OpeningFault, magic_cut, magic_other, asn_cut, first_cut, first_other, prev_cut, prev_other, flag_cut, flag_other, size_cut, size_other, body_cut, count_cut, count_other}
use Rattle.nr_laws_files.proofs.Cases.{Stands, stands_first, then_err, wants_then, wants_fails, number_short, bytes_short, Long, number_long, bytes_long}

-- ---- steps

pub wants_ok : {A : Type 0} (b : Bool) (place : ℕ) (x : A) → b ≡ true → wants b place x ≡ Ok x
wants_ok true place x e = refl
wants_ok false place x e = absurd cc

wants_not : {A : Type 0} (b : Bool) (place : ℕ) (x : A) → b ≡ false → wants b place x ≡ Err place
wants_not false place x e = refl
wants_not true place x e = absurd cc

pub bind_err : {A B : Type 0} (r : Result A ℕ) (f : A → Result B ℕ) (p : ℕ) → r ≡ Err p → (r >>= f) ≡ Err p
bind_err r f p e = ap (λ q. q >>= f) e

not_same : (xs ys : List ℕ) (b : Bool) → bytes_eq xs ys ≡ b → xs ≢ ys → b ≡ false
not_same xs ys true e other = absurd (other ((bytes_eq-Decides xs ys).0 e))
not_same xs ys false e other = refl

magic_long : (s : Spot) → 4 ≤ length s.rest → take 4 s.rest ≡ answer_magic → Long s 0 4 (take 4 s.rest) (magic_at answer_magic s)
magic_long s long same =
    let b = bytes_long s s 0 4 (stands_first s) long in
    record {
      next = b.next;
      is = ap (λ r. r >>= (λ found. wants (bytes_eq found.0 answer_magic) s.at found)) b.is ∙ wants_ok (bytes_eq (take 4 s.rest) answer_magic) s.at (take 4 s.rest, b.next) ((bytes_eq-Decides (take 4 s.rest) answer_magic).1 same);
      stands = b.stands;
    }

pub magic_other_is : (magic : List ℕ) (s : Spot) → 4 ≤ length s.rest → take 4 s.rest ≢ magic → magic_at magic s ≡ Err s.at
magic_other_is magic s long other =
    let b = bytes_long s s 0 4 (stands_first s) long in
    ap (λ r. r >>= (λ found. wants (bytes_eq found.0 magic) s.at found)) b.is
    ∙ wants_not (bytes_eq (take 4 s.rest) magic) s.at (take 4 s.rest, b.next) (not_same (take 4 s.rest) magic (bytes_eq (take 4 s.rest) magic) refl other)

-- ---- what stands behind the flag

abbrev rest_of : ℕ → ℕ → List ℕ → Bool → Spot → Read Opening
rest_of asn first prev later t =
    body_at later t >>= (λ body. number_at 4 body.1 >>= (λ any. wants (leb 1 any.0) body.1.at any >>= (λ count. Ok (record { asn = asn; first = first; prev = prev; body = body.0; count = count.0 }, count.1))))

abbrev behind_flag : Spot → Spot → Read Opening
behind_flag s t = rest_of (asn_in s.rest) (first_in s.rest) (prev_in s.rest) (is_later (first_in s.rest)) t

-- as far as the flag all is read, and what follows is refused
flagged : (s : Spot) (p : ℕ) → HasFlag s.rest → 49 ≤ length s.rest → ((t : Spot) → Stands s 49 t → behind_flag s t ≡ Err p) → opening_at s ≡ Err p
unfolding opening_at
flagged s p has long more =
    let m = magic_long s (omega (arith, long)) has.magic in
    let a = number_long s m.next 4 4 m.stands (omega (arith, long)) in
    let b = number_long s a.next 8 8 a.stands (omega (arith, long)) in
    let v = bytes_long s b.next 16 digest_size b.stands (omega (arith, long)) in
    let g = number_long s v.next 48 1 v.stands long in
    then_err (magic_at answer_magic s) _ _ _ m.is (then_err (number_at 4 m.next) _ _ _ a.is (then_err (number_at 8 a.next) _ _ _ b.is (wants_then _ a.next.at _ _ _ has.first
    (then_err (bytes_at digest_size b.next) _ _ _ v.is (wants_then _ b.next.at _ _ _ has.prev (then_err (number_at 1 v.next) _ _ _ g.is (wants_then _ v.next.at _ _ _ has.flag (more g.next g.stands))))))))

size_short : (s t : Spot) → IsCut s.rest 49 4 → Stands s 49 t → body_at true t ≡ Err (s.at + 49)
unfolding body_at
size_short s t c h = number_short s t 49 4 _ h c

size_over : (s t : Spot) → 53 ≤ length s.rest → most_body < size_in s.rest → Stands s 49 t → body_at true t ≡ Err (s.at + 49)
unfolding body_at
size_over s t long over h =
    let a = number_long s t 49 4 h long in
    then_err (number_at 4 t) _ _ _ a.is (wants_fails _ t.at _ _ _ (lt-leb (size_in s.rest) most_body over) h.at_is)

body_short : (s t : Spot) → size_in s.rest ≤ most_body → IsCut s.rest 53 (size_in s.rest) → Stands s 49 t → body_at true t ≡ Err (s.at + 53)
unfolding body_at
body_short s t small c h =
    let a = number_long s t 49 4 h c.reaches in
    then_err (number_at 4 t) _ _ _ a.is (wants_then _ t.at _ _ _ (le-leb (size_in s.rest) most_body small) (bytes_short s a.next 53 (size_in s.rest) _ a.stands c))

record BodyLong (s t : Spot) (k : ℕ) : Type 0 where
  body : Option (List ℕ)
  next : Spot
  is : body_at (is_later (first_in s.rest)) t ≡ Ok (body, next)
  stands : Stands s k next

whole_body : (s t : Spot) → size_in s.rest ≤ most_body → 53 + size_in s.rest ≤ length s.rest → Stands s 49 t
    → (next : Spot) × (body_at true t ≡ Ok (Some (take (size_in s.rest) (drop 53 s.rest)), next)) × Stands s (53 + size_in s.rest) next
unfolding body_at
whole_body s t small long h =
    let a = number_long s t 49 4 h (omega (arith, long)) in
    let b = bytes_long s a.next 53 (size_in s.rest) a.stands long in
    (b.next, rw (a.is, le-leb (size_in s.rest) most_body small, b.is) refl, b.stands)

body_long : (s t : Spot) (k : ℕ) → HasBody s.rest k → k ≤ length s.rest → Stands s 49 t → BodyLong s t k
unfolding body_at
body_long s t k (no_body flag is e) long h = record {
  body = None;
  next = t;
  is = ap (λ later. body_at later t) is;
  stands = subst (λ n. Stands s n t) (sym e) h;
}
body_long s t k (some_body flag is small e) long h =
    let w = whole_body s t small (omega (arith, e, long)) h in
    record {
      body = Some (take (size_in s.rest) (drop 53 s.rest));
      next = w.0;
      is = ap (λ later. body_at later t) is ∙ w.1;
      stands = subst (λ n. Stands s n w.0) (sym e) w.2;
    }

flag_of : (s : Spot) (k : ℕ) → HasBody s.rest k → HasFlag s.rest × (49 ≤ k)
flag_of s k (no_body flag is e) = (flag, omega (arith, e))
flag_of s k (some_body flag is small e) = (flag, omega (arith, e))

-- ---- every fault

abbrev IsOpeningAt : Spot → ℕ → Type 0
IsOpeningAt s d = opening_at s ≡ Err (s.at + d)

at_start : (s : Spot) → opening_at s ≡ Err s.at → IsOpeningAt s 0
at_start s e = e ∙ ap (λ (n : ℕ). let r : Read Opening = Err n in r) (omega arith)

later_fails : (s t : Spot) (p : ℕ) → is_later (first_in s.rest) ≡ true → body_at true t ≡ Err p → behind_flag s t ≡ Err p
later_fails s t p is e = bind_err (body_at (is_later (first_in s.rest)) t) _ p (ap (λ later. body_at later t) is ∙ e)

pub opening_faults : (s : Spot) (d : ℕ) → OpeningFault s.rest d → opening_at s ≡ Err (s.at + d)
unfolding opening_at
opening_faults s d (magic_cut c e) = subst (IsOpeningAt s) (sym e) (bind_err (magic_at answer_magic s) _ (s.at + 0) (bytes_short s s 0 4 _ (stands_first s) c))
opening_faults s d (magic_other w other e) = subst (IsOpeningAt s) (sym e) (at_start s (bind_err (magic_at answer_magic s) _ s.at (magic_other_is answer_magic s w other)))
opening_faults s d (asn_cut magic c e) =
    let m = magic_long s c.reaches magic in
    subst (IsOpeningAt s) (sym e) (then_err (magic_at answer_magic s) _ _ _ m.is (number_short s m.next 4 4 _ m.stands c))
opening_faults s d (first_cut magic c e) =
    let m = magic_long s (omega (arith, c.reaches)) magic in
    let a = number_long s m.next 4 4 m.stands c.reaches in
    subst (IsOpeningAt s) (sym e) (then_err (magic_at answer_magic s) _ _ _ m.is (then_err (number_at 4 m.next) _ _ _ a.is (number_short s a.next 8 8 _ a.stands c)))
opening_faults s d (first_other magic w other e) =
    let m = magic_long s (omega (arith, w)) magic in
    let a = number_long s m.next 4 4 m.stands (omega (arith, w)) in
    let b = number_long s a.next 8 8 a.stands w in
    subst (IsOpeningAt s) (sym e)
    (then_err (magic_at answer_magic s) _ _ _ m.is (then_err (number_at 4 m.next) _ _ _ a.is (then_err (number_at 8 a.next) _ _ _ b.is (wants_fails _ a.next.at _ _ _ other a.stands.at_is))))
opening_faults s d (prev_cut magic first c e) =
    let m = magic_long s (omega (arith, c.reaches)) magic in
    let a = number_long s m.next 4 4 m.stands (omega (arith, c.reaches)) in
    let b = number_long s a.next 8 8 a.stands c.reaches in
    subst (IsOpeningAt s) (sym e)
    (then_err (magic_at answer_magic s) _ _ _ m.is (then_err (number_at 4 m.next) _ _ _ a.is (then_err (number_at 8 a.next) _ _ _ b.is (wants_then _ a.next.at _ _ _ first
    (bytes_short s b.next 16 digest_size _ b.stands c)))))
opening_faults s d (prev_other magic first w other e) =
    let m = magic_long s (omega (arith, w)) magic in
    let a = number_long s m.next 4 4 m.stands (omega (arith, w)) in
    let b = number_long s a.next 8 8 a.stands (omega (arith, w)) in
    let v = bytes_long s b.next 16 digest_size b.stands w in
    subst (IsOpeningAt s) (sym e)
    (then_err (magic_at answer_magic s) _ _ _ m.is (then_err (number_at 4 m.next) _ _ _ a.is (then_err (number_at 8 a.next) _ _ _ b.is (wants_then _ a.next.at _ _ _ first
    (then_err (bytes_at digest_size b.next) _ _ _ v.is (wants_fails _ b.next.at _ _ _ other b.stands.at_is))))))
opening_faults s d (flag_cut magic first prev c e) =
    let m = magic_long s (omega (arith, c.reaches)) magic in
    let a = number_long s m.next 4 4 m.stands (omega (arith, c.reaches)) in
    let b = number_long s a.next 8 8 a.stands (omega (arith, c.reaches)) in
    let v = bytes_long s b.next 16 digest_size b.stands c.reaches in
    subst (IsOpeningAt s) (sym e)
    (then_err (magic_at answer_magic s) _ _ _ m.is (then_err (number_at 4 m.next) _ _ _ a.is (then_err (number_at 8 a.next) _ _ _ b.is (wants_then _ a.next.at _ _ _ first
    (then_err (bytes_at digest_size b.next) _ _ _ v.is (wants_then _ b.next.at _ _ _ prev (number_short s v.next 48 1 _ v.stands c)))))))
opening_faults s d (flag_other magic first prev w other e) =
    let m = magic_long s (omega (arith, w)) magic in
    let a = number_long s m.next 4 4 m.stands (omega (arith, w)) in
    let b = number_long s a.next 8 8 a.stands (omega (arith, w)) in
    let v = bytes_long s b.next 16 digest_size b.stands (omega (arith, w)) in
    let g = number_long s v.next 48 1 v.stands w in
    subst (IsOpeningAt s) (sym e)
    (then_err (magic_at answer_magic s) _ _ _ m.is (then_err (number_at 4 m.next) _ _ _ a.is (then_err (number_at 8 a.next) _ _ _ b.is (wants_then _ a.next.at _ _ _ first
    (then_err (bytes_at digest_size b.next) _ _ _ v.is (wants_then _ b.next.at _ _ _ prev (then_err (number_at 1 v.next) _ _ _ g.is (wants_fails _ v.next.at _ _ _ other v.stands.at_is))))))))
opening_faults s d (size_cut has is c e) =
    subst (IsOpeningAt s) (sym e) (flagged s (s.at + 49) has c.reaches (λ t h. later_fails s t (s.at + 49) is (size_short s t c h)))
opening_faults s d (size_other has is w over e) =
    subst (IsOpeningAt s) (sym e) (flagged s (s.at + 49) has (omega (arith, w)) (λ t h. later_fails s t (s.at + 49) is (size_over s t w over h)))
opening_faults s d (body_cut has is small c e) =
    subst (IsOpeningAt s) (sym e) (flagged s (s.at + 53) has (omega (arith, c.reaches)) (λ t h. later_fails s t (s.at + 53) is (body_short s t small c h)))
opening_faults s d (count_cut k body c e) =
    let f = flag_of s k body in
    subst (IsOpeningAt s) (sym e) (flagged s (s.at + k) f.0 (omega (arith, c.reaches, f.1))
    (λ t h.
    let b = body_long s t k body c.reaches h in
    then_err (body_at (is_later (first_in s.rest)) t) _ _ _ b.is (number_short s b.next k 4 _ b.stands c)))
opening_faults s d (count_other k body w none e) =
    let f = flag_of s k body in
    subst (IsOpeningAt s) (sym e) (flagged s (s.at + k) f.0 (omega (arith, w, f.1))
    (λ t h.
    let b = body_long s t k body (omega (arith, w)) h in
    let n = number_long s b.next k 4 b.stands w in
    then_err (body_at (is_later (first_in s.rest)) t) _ _ _ b.is (then_err (number_at 4 b.next) _ _ _ n.is (wants_fails _ b.next.at _ _ _ (ap (leb 1) none) b.stands.at_is))))
