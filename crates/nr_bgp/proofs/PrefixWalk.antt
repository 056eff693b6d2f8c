-- Prefixes one after another.
use Rattle.std.proofs.Common.{◌≡◌, ◌≢◌, ℕ, ◌≤◌, ◌<◌, leb, List, [], ◌∷◌, length, Some, None, Result, Ok, Err, refl, ◌∙◌, arith}
use Rattle.std.specs.Result.{result_unwrap_or}
use Rattle.nr_spec_wire.specs.Reading.{Spot, ◌>>=◌, fault}
use Rattle.nr_spec_bgp.specs.Prefixes.{Cidr, cidr_at}
use Rattle.nr_spec_bgp.specs.Messages.{cidrs_at}
use Rattle.nr_spec_bgp.proofs.Walks.{cidr_eats, goes_on, all_of, all_step, all_end}
use Rattle.nr_bgp.specs.Left.{cidrs_from}

pub cidr_shorter : (s : Spot) (x : Cidr) (t : Spot) → cidr_at s ≡ Ok (x, t) → length t.rest < length s.rest
cidr_shorter s x t e = cidr_eats s (x, t) e

none_of : (s : Spot) (place : ℕ) → 0 < length s.rest → cidr_at s ≡ Err place → cidrs_at s ≡ Err place
none_of s place some e = all_step cidr_at cidr_eats s (omega arith) ∙ rw e refl

-- ---- whether a part is made of prefixes

fault_of : (first : Cidr) (others : Result (List Cidr) ℕ) → fault (goes_on first others) ≡ fault others
fault_of first (Ok o) = refl
fault_of first (Err place) = refl

pub fine_step : (s : Spot) (x : Cidr) (t : Spot) → 0 < length s.rest → cidr_at s ≡ Ok (x, t) → fault (cidrs_at s) ≡ fault (cidrs_at t)
fine_step s x t some e = let all = all_of s x t some e in rw all (fault_of x (cidrs_at t))

pub fault_here : (s : Spot) (place : ℕ) → 0 < length s.rest → cidr_at s ≡ Err place → fault (cidrs_at s) ≡ Some place
fault_here s place some e = let all = none_of s place some e in rw all refl

pub fine_end : (s : Spot) → length s.rest ≤ 0 → fault (cidrs_at s) ≡ None
fine_end s none = let all = all_end cidr_at s (omega arith) in rw all refl

-- ---- the prefixes

others_fine : (first : Cidr) (others : Result (List Cidr) ℕ) → fault (goes_on first others) ≡ None → (result_unwrap_or (goes_on first others) [] ≡ first ∷ result_unwrap_or others []) × (fault others ≡ None)
others_fine first (Ok o) e = (refl, refl)
others_fine first (Err place) e = absurd cc

pub cidrs_step : (s : Spot) (x : Cidr) (t : Spot) → length s.rest ≢ 0 → cidr_at s ≡ Ok (x, t) → fault (cidrs_at s) ≡ None → (cidrs_from s ≡ x ∷ cidrs_from t) × (fault (cidrs_at t) ≡ None)
cidrs_step s x t some e fine =
    let all = all_of s x t (omega arith) e in
    let o = others_fine x (cidrs_at t) (rw all at fine) in
    (rw all o.0, o.1)

pub cidrs_fault : (s : Spot) (place : ℕ) → length s.rest ≢ 0 → cidr_at s ≡ Err place → fault (cidrs_at s) ≡ None → ⊥
cidrs_fault s place some e fine = let here = fault_here s place (omega arith) e in cc

pub cidrs_end : (s : Spot) → length s.rest ≡ 0 → cidrs_from s ≡ []
cidrs_end s none = let all = all_end cidr_at s none in rw all refl

-- ---- what a part reads as

fine_of : (r : Result (List Cidr) ℕ) → fault r ≡ None → r ≡ Ok (result_unwrap_or r [])
fine_of (Ok l) e = refl
fine_of (Err place) e = absurd cc

faulty_of : (r : Result (List Cidr) ℕ) (place : ℕ) → fault r ≡ Some place → r ≡ Err place
faulty_of (Ok l) place e = absurd cc
faulty_of (Err p) place e = let same : p ≡ place = cc in rw same refl

pub read_fine : (s : Spot) → fault (cidrs_at s) ≡ None → cidrs_at s ≡ Ok (cidrs_from s)
read_fine s e = fine_of (cidrs_at s) e

pub read_fault : (s : Spot) (place : ℕ) → fault (cidrs_at s) ≡ Some place → cidrs_at s ≡ Err place
read_fault s place e = faulty_of (cidrs_at s) place e
