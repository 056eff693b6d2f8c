-- What an audit answers.
use Rattle.std.specs.Prelude.{◌≡◌, List, Result, Ok, Err, option_map}
use Rattle.nr_spec_log.specs.Authenticator.{Authenticator}
use Rattle.nr_spec_outcome.specs.Report as report
use Rattle.nr_spec_outcome.specs.Outcome as outcome
use Rattle.nr_chain.specs.Views.{digest_bytes}
use Rattle.nr_audit.specs.Views.{report_of}
use Rattle.nr_audit.specs.declared.report.Report.{Report}
use Rattle.nr_audit.specs.declared.refusal.Refusal.{Refusal}
use Rattle.nr_audit.specs.declared.refusal.Refusal.TheVariants as refusal

-- The report on these authenticators; or the fact that refuses the answer, with its values. Memory may run out.
abbrev pub Answers : List Authenticator → Result Report Refusal → Result report.Report outcome.Fact → Type 0
Answers auths (Ok report) o = o ≡ Ok (report_of auths report)
Answers auths (Err (refusal.Network answer promise)) o = o ≡ Err (outcome.Network answer promise)
Answers auths (Err refusal.Unsigned) o = o ≡ Err outcome.Unsigned
Answers auths (Err (refusal.Head head chain)) o = o ≡ Err (outcome.Head head.0 chain.0)
Answers auths (Err (refusal.Short head to)) o = o ≡ Err (outcome.Short head to)
Answers auths (Err (refusal.Promise found file)) o = o ≡ Err (outcome.Promise (option_map digest_bytes found) file.0)
Answers auths (Err refusal.Memory) o = Unit {0}
