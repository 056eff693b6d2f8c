-- What this crate's types stand for in the definitions.
use Rattle.nr_spec_history.specs.Conflicts as conflicts
use Rattle.nr_spec_report.specs.Claims as claims
use Rattle.nr_answer.specs.Views.{auth_of}
use Rattle.nr_evidence.specs.declared.claim.Claim.{Claim}
use Rattle.nr_evidence.specs.declared.claim.Claim.TheVariants.{Conflict, Wrong, Broken}
use Rattle.nr_evidence.specs.declared.period.Period.{Period}

abbrev pub period_of : Period → conflicts.Period
period_of p = record { from = p.from; to = p.to }

-- a claim without where it lies in memory
abbrev pub claim_of : Claim → claims.Claim
claim_of (Conflict auth) = claims.Conflict (auth_of auth)
claim_of (Wrong seq cause) = claims.Wrong seq cause
claim_of (Broken file promise prefix begin end) = claims.Broken file promise prefix begin end
