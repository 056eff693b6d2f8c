-- So many claims that fit.
use Rattle.std.specs.Prelude.{◌≡◌, ℕ, List, length}
use Rattle.std.specs.List.{AllByRecursion}
use Rattle.nr_spec_report.specs.Claims.{Claim}
use Rattle.nr_spec_evidence.specs.Evidence.{IsClaim}

pub record AreClaims (count : ℕ) (claims : List Claim) : Type 0 where
  pub each : AllByRecursion IsClaim claims
  pub as_many : length claims ≡ count
