-- An audit by one promise file.
use Rattle.std.proofs.Common.{◌≡◌, ℕ, ◌≤◌, List, [], ◌∷◌, true, length, Result, Err, refl, sym, subst}
use Rattle.nr_spec_log.specs.Authenticator.{Authenticator}
use Rattle.nr_spec_truth.specs.Truths.{is_known}
use Rattle.nr_spec_outcome.specs.Outcome.{Audited, promise_files}
use Rattle.nr_spec_outcome.specs.Report as spec
use Rattle.nr_spec_slices.specs.Audits as slices
use Rattle.nr_audit.specs.Views.{report_of}
use Rattle.nr_audit.specs.declared.refusal.Refusal.TheVariants as unaudited
use Rattle.nr_slices.specs.declared.late.Late.TheVariants as found
use Rattle.nr_slices.specs.declared.auditing.SliceRefusal.{SliceRefusal}
use Rattle.nr_slices.specs.declared.auditing.SliceRefusal.TheVariants.{Audit, Late}
use Rattle.nr_slices.specs.Answers.{Tells}
use Rattle.nr_command_parts.specs.declared.refusal.Stop.{Stop}
use Rattle.nr_command_parts.specs.Views.{Judges}
use Rattle.nr_commands.specs.Unaudited.{unsliced_of}
use Rattle.nr_spec_texts.specs.Promises.{PromiseFile, audited_by}
use Rattle.nr_spec_program.specs.Command.{concluded}
use Rattle.nr_judging.specs.Views.{AreFew, AreKnown}
use Rattle.nr_judging.proofs.Known as known

-- what an audit tells is what the plan concludes
pub told_stops : (auths : List Authenticator) (fault : SliceRefusal) (o : Result spec.Report slices.Refusal) (s : Stop) → Tells auths (Err fault) o → s ≡ unsliced_of fault → Judges (report_of auths) (Err s) (concluded o)
told_stops auths (Audit (unaudited.Network answer promise)) o s is same = rw (same, is) refl
told_stops auths (Audit unaudited.Unsigned) o s is same = rw (same, is) refl
told_stops auths (Audit (unaudited.Head head chain)) o s is same = rw (same, is) refl
told_stops auths (Audit (unaudited.Short head to)) o s is same = rw (same, is) refl
told_stops auths (Audit (unaudited.Promise found file)) o s is same = rw (same, is) refl
told_stops auths (Audit unaudited.Memory) o s is same = rw same tt
told_stops auths (Late (found.Time checkpoint from)) o s is same = rw (same, is) refl
told_stops auths (Late (found.Body body entry)) o s is same = rw (same, is) refl

-- the promises of the one file are known, and few
pub one_known : (audited : Audited) (promise : PromiseFile) → audited ≡ audited_by promise
    → AreKnown (λ i r. is_known (promise.says ∷ []) i r ≡ true) (promise_files (audited ∷ []))
one_known audited promise is =
    subst (λ (a : Audited). AreKnown (λ i r. is_known (promise.says ∷ []) i r ≡ true) (promise_files (a ∷ []))) (sym is) (known.one_known promise.digest promise.says)

pub one_few : (audited : Audited) (promise : PromiseFile) → audited ≡ audited_by promise → length promise.says.promises ≤ 256 → AreFew (promise_files (audited ∷ []))
one_few audited promise is few = subst (λ (a : Audited). AreFew (promise_files (a ∷ []))) (sym is) (known.one_few promise.digest promise.says few)
