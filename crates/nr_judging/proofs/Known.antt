-- What is known of a single file.
use Rattle.std.proofs.Common.{◌≡◌, ℕ, zero, suc, ◌<◌, ◌≤◌, List, [], ◌∷◌, true, length, subst, sym, arith}
use Rattle.std.specs.Prelude.{nat_lt, slice_index_or}
use Rattle.std.proofs.lemmas.Bool.Decides.{nat_tests}
use Rattle.std.proofs.lemmas.Option.{same_Some, slice_get_within}
use Rattle.nr_spec_typing.specs.Declarations.{TypedText}
use Rattle.nr_spec_promises.specs.Files.{PromiseFile}
use Rattle.nr_spec_truth.specs.Truths.{is_known}
use Rattle.nr_judging.specs.Views.{AreFew, AreKnown}

is_before : (n m : ℕ) → n < m → nat_lt n m ≡ true
is_before n m h = grind (arith, nat_tests)

abbrev file_by : List ℕ → TypedText → PromiseFile
file_by digest t = record { digest = digest; promises = t.promises }

-- each promise of it is known
pub one_known : (digest : List ℕ) (t : TypedText) → AreKnown (λ i r. is_known (t ∷ []) i r ≡ true) (file_by digest t ∷ [])
one_known digest t zero r g is below =
    is_before r (length t.promises) (subst (λ (f : PromiseFile). r < length f.promises) (sym (same_Some (file_by digest t) g is)) below)
one_known digest t (suc i) r g is below = absurd (out (slice_get_within (file_by digest t ∷ []) (suc i) g is))
  where
    out : suc i < 1 → ⊥
    out h = omega (arith, h)

-- and there are few of them
pub one_few : (digest : List ℕ) (t : TypedText) → length t.promises ≤ 256 → AreFew (file_by digest t ∷ [])
one_few digest t few = record { files = omega arith; promises = each }
  where
    each : (k : ℕ) (d : PromiseFile) → k < 1 → length (slice_index_or (file_by digest t ∷ []) k d).promises ≤ 256
    each zero d h = few
    each (suc k) d h = absurd (omega (arith, h))
