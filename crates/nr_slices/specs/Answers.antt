-- What the audit of a slice answers.
use Rattle.std.specs.Prelude.{◌≡◌, List, None, Option, Result, Ok, Err, Some, option_map}
use Rattle.nr_spec_log.specs.Authenticator.{Authenticator}
use Rattle.nr_spec_outcome.specs.Report as report
use Rattle.nr_spec_outcome.specs.Outcome as outcome
use Rattle.nr_spec_slices.specs.Audits as slices
use Rattle.nr_chain.specs.Views.{digest_bytes}
use Rattle.nr_audit.specs.Views.{report_of}
use Rattle.nr_audit.specs.declared.report.Report.{Report}
use Rattle.nr_audit.specs.declared.refusal.Refusal.{Refusal}
use Rattle.nr_audit.specs.declared.refusal.Refusal.TheVariants as refusal
use Rattle.nr_slices.specs.declared.late.Late as declared_late
use Rattle.nr_slices.specs.declared.auditing.SliceRefusal.{SliceRefusal}
use Rattle.nr_slices.specs.declared.auditing.SliceRefusal.TheVariants.{Audit, Late}
use Rattle.nr_slices.specs.Views.{late_of}

-- The report on these authenticators; or what refuses the answer, with its values. Memory may run out.
abbrev pub Tells : List Authenticator → Result Report SliceRefusal → Result report.Report slices.Refusal → Type 0
Tells auths (Ok report) o = o ≡ Ok (report_of auths report)
Tells auths (Err (Audit (refusal.Network answer promise))) o = o ≡ Err (slices.Refused (outcome.Network answer promise))
Tells auths (Err (Audit refusal.Unsigned)) o = o ≡ Err (slices.Refused outcome.Unsigned)
Tells auths (Err (Audit (refusal.Head head chain))) o = o ≡ Err (slices.Refused (outcome.Head head.0 chain.0))
Tells auths (Err (Audit (refusal.Short head to))) o = o ≡ Err (slices.Refused (outcome.Short head to))
Tells auths (Err (Audit (refusal.Promise found file))) o =
    o ≡ Err (slices.Refused (outcome.Promise (option_map digest_bytes found) file.0))
Tells auths (Err (Audit refusal.Memory)) o = Unit {0}
Tells auths (Err (Late late)) o = o ≡ Err (slices.Checkpoint (late_of late))

-- a late checkpoint is told before the promises in force, and after every other fact
abbrev pub told_of : Option declared_late.Late → Result Report Refusal → Result Report SliceRefusal
told_of None (Ok report) = Ok report
told_of None (Err refusal) = Err (Audit refusal)
told_of (Some late) (Ok report) = Err (Late late)
told_of (Some late) (Err (refusal.Promise found file)) = Err (Late late)
told_of (Some late) (Err refusal) = Err (Audit refusal)
