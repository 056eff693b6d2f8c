-- Searching texts for one with a digest.
use Rattle.std.proofs.Common.{◌≡◌, ◌≤◌, ℕ, Bool, true, false, cond, not, ◌||◌, List, [], ◌∷◌, length, get_or, arith, Option, Some, refl}
use Rattle.std.specs.Prelude.{is_none}
use Rattle.std.specs.List.{list_any}
use Rattle.std.specs.Str.{bytes_eq}
use Rattle.nr_spec_counts.specs.Tallies.{Numbers}
use Rattle.nr_spec_counts.specs.Causes.{file_with}
use Rattle.nr_spec_outcome.specs.Outcome.{first_digest, is_of_no_file}
use Rattle.nr_verify_runs.specs.declared.file.Text.{Text}
use Rattle.nr_verify_heads.specs.Views.{numbers_in, numbers_of}

by_test : (b r : Bool) (n : Numbers) (others : Option Numbers) → not r ≡ is_none others → not (b || r) ≡ is_none (cond b (Some n) others)
by_test true r n others ih = refl
by_test false r n others ih = ih

pub of_none : (digest : List ℕ) (texts : List Text) → not (list_any (λ (t : Text). bytes_eq digest t.digest.0) texts) ≡ is_of_no_file (numbers_in texts) digest
of_none digest [] = refl
of_none digest (t ∷ texts) =
    by_test (bytes_eq digest t.digest.0) (list_any (λ (t : Text). bytes_eq digest t.digest.0) texts) (numbers_of t) (file_with digest (numbers_in texts)) (of_none digest texts)

pub first_is : (texts : List Text) (d : Text) (digest : List ℕ) → 1 ≤ length texts → digest ≡ (get_or texts 0 d).digest.0 → digest ≡ first_digest (numbers_in texts)
first_is [] d digest some is = absurd (omega (arith, some))
first_is (t ∷ texts) d digest some is = is
