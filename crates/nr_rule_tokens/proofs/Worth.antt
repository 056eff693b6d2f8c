-- Digits only make a number greater.
use Rattle.std.proofs.Common.{◌≡◌, ℕ, suc, ◌+◌, ◌*◌, ◌-◌, ◌<◌, ◌≤◌, [], ◌∷◌, List, length, drop, get_or, false, nat_le, ap, arith}
use Rattle.std.proofs.Math.Seq.{drop-cons}
use Rattle.std.proofs.lemmas.Bool.Decides.{nat_tests}
use Rattle.nr_spec_rules.specs.Figures.{worth_from}

pub worth_grows : (n : ℕ) (ds : List ℕ) → n ≤ worth_from n ds
worth_grows n [] = omega arith
worth_grows n (d ∷ ds) = omega (arith, worth_grows (10 * n + (d - 48)) ds)

above : (a b : ℕ) → b < a → nat_le a b ≡ false
above a b h = grind (arith, nat_tests)

-- a number is too large once the digits so far are
pub too_large : (text : List ℕ) (i n most : ℕ) → i < length text → worth_from n (drop i text) ≡ worth_from 0 text
    → most < 10 * n + (get_or text i 0 - 48) → nat_le (worth_from 0 text) most ≡ false
too_large text i n most h e over =
    let next : worth_from n (drop i text) ≡ worth_from (10 * n + (get_or text i 0 - 48)) (drop (suc i) text) = ap (worth_from n) (drop-cons text i 0 h) in
    let grows = worth_grows (10 * n + (get_or text i 0 - 48)) (drop (suc i) text) in
    above _ _ (omega (arith, grows, next, e))
