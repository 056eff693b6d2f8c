-- What a file loads as, by its length and the log that it holds.
use Rattle.std.proofs.Common.{◌≡◌, ℕ, ◌<◌, ◌≤◌, Bool, true, false, List, length, Option, Result, Ok, Err, refl, ap, ◌∙◌}
use Rattle.std.specs.Prelude.{nat_lt}
use Rattle.std.proofs.lemmas.Bool.{lt-ltb, le-ltb, ltb-false}
use Rattle.nr_spec_store.specs.LogFile.{LogFile, log_of, most_log}
use Rattle.nr_spec_store.specs.StorePlans.{Limit, loading, refused_at}

pub loading_within : (file : List ℕ) → length file ≤ most_log → loading file ≡ refused_at (log_of file)
loading_within file within = let h = le-ltb most_log (length file) within in rw h refl

pub loading_past : (file : List ℕ) → most_log < length file → loading file ≡ Err (Limit (length file))
loading_past file past = let h = lt-ltb most_log (length file) past in rw h refl

pub read_as : (file : List ℕ) (given : Option LogFile) → loading file ≡ Ok given → log_of file ≡ Ok given
read_as file given is = by_limit (nat_lt most_log (length file)) refl
  where
    ok_of : (r : Result (Option LogFile) ℕ) → refused_at r ≡ Ok given → r ≡ Ok given
    ok_of (Ok value) e = let same : value ≡ given = cc in ap (λ (v : Option LogFile). Ok v) same
    ok_of (Err place) e = absurd cc

    by_limit : (b : Bool) → nat_lt most_log (length file) ≡ b → log_of file ≡ Ok given
    by_limit true test = absurd (let e = rw test at is in cc)
    by_limit false test = ok_of (log_of file) (let e = rw test at is in e)

pub small_as : (file : List ℕ) (given : Option LogFile) → loading file ≡ Ok given → length file ≤ most_log
small_as file given is = by_limit (nat_lt most_log (length file)) refl
  where
    by_limit : (b : Bool) → nat_lt most_log (length file) ≡ b → length file ≤ most_log
    by_limit true test = absurd (let e = rw test at is in cc)
    by_limit false test = ltb-false _ _ test

-- and the other way round
pub loads_as : (file : List ℕ) (given : Option LogFile) → length file ≤ most_log → log_of file ≡ Ok given → loading file ≡ Ok given
loads_as file given small is = loading_within file small ∙ ap refused_at is
