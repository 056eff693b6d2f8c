-- Authenticators that are written one after another.
use Rattle.std.proofs.Common.{◌≡◌, ℕ, zero, suc, ◌+◌, List, [], ◌∷◌, ◌++◌, map, drop, sym, ap, ◌∙◌, append_assoc, arith}
use Rattle.std.specs.List.{slice_get, flat_map}
use Rattle.std.specs.Prelude.{Some}
use Rattle.std.proofs.lemmas.Option.{same_Some}
use Rattle.std.proofs.lemmas.List.Concat.{flat_map-cons}
use Rattle.nr_spec_log.specs.Authenticator.{Authenticator, authenticator}
use Rattle.nr_answer.specs.declared.auth.Auth.{Auth}
use Rattle.nr_answer.specs.Views.{auth_of}

drop_next : (xs : List Auth) (i : ℕ) (x : Auth) → slice_get xs i ≡ Some x → drop i (map auth_of xs) ≡ auth_of x ∷ drop (suc i) (map auth_of xs)
drop_next [] i x e = absurd cc
drop_next (y ∷ ys) zero x e = ap (λ (t : Auth). auth_of t ∷ map auth_of ys) (same_Some y x e)
drop_next (y ∷ ys) (suc i) x e = drop_next ys i x e

-- what is left before an authenticator is its spelling and what is left after it
text_next : (xs : List Auth) (i : ℕ) (x : Auth) → slice_get xs i ≡ Some x
    → flat_map authenticator (drop i (map auth_of xs)) ≡ authenticator (auth_of x) ++ flat_map authenticator (drop (i + 1) (map auth_of xs))
text_next xs i x got =
    let rest : List Authenticator = drop (i + 1) (map auth_of xs) in
    let one : suc i ≡ i + 1 = omega arith in
    let step : drop i (map auth_of xs) ≡ auth_of x ∷ rest = drop_next xs i x got ∙ ap (λ (k : ℕ). auth_of x ∷ drop k (map auth_of xs)) one in
    ap (λ (t : List Authenticator). flat_map authenticator t) step ∙ flat_map-cons authenticator (auth_of x) rest

pub written_more : (xs : List Auth) (i : ℕ) (x : Auth) (out new total : List ℕ) → slice_get xs i ≡ Some x → new ≡ out ++ x.whole.now
    → out ++ flat_map authenticator (drop i (map auth_of xs)) ≡ total → new ++ flat_map authenticator (drop (i + 1) (map auth_of xs)) ≡ total
written_more xs i x out new total got is so_far =
    let rest = flat_map authenticator (drop (i + 1) (map auth_of xs)) in
    ap (λ (t : List ℕ). t ++ rest) (is ∙ ap (λ (t : List ℕ). out ++ t) x.spelled)
    ∙ append_assoc out (authenticator (auth_of x)) rest
    ∙ ap (λ (t : List ℕ). out ++ t) (sym (text_next xs i x got)) ∙ so_far
