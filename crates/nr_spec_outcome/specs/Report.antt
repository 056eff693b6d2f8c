-- What an audit finds, and what it claims by that.
use Rattle.std.specs.Prelude.{◌++◌, List, map}
use Rattle.nr_spec_log.specs.Authenticator.{Authenticator}
use Rattle.nr_spec_counts.specs.Causes.{cause_number}
use Rattle.nr_spec_report.specs.Wrong.{WrongEntry}
use Rattle.nr_spec_report.specs.Claims.{Broken, Claim, Conflict, Wrong}
use Rattle.nr_spec_runs.specs.Runs.{Run}

-- the conflicts in file order, repeats included, the wrong entries by their numbers, and the broken runs by file,
-- promise, prefix and the order in which they begin
pub record Report : Type 0 where
  pub conflicts : List Authenticator
  pub wrong : List WrongEntry
  pub broken : List Run

abbrev pub wrong_claim : WrongEntry → Claim
wrong_claim w = Wrong w.seq (cause_number w.cause)

abbrev pub broken_claim : Run → Claim
broken_claim r = Broken r.key.file r.key.promise r.key.prefix r.span.begin r.span.end

-- one claim for each member of the report, in order
abbrev pub claims_of : Report → List Claim
claims_of report =
    map Conflict report.conflicts ++ map wrong_claim report.wrong ++ map broken_claim report.broken
