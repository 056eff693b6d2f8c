-- What a run of `verify` makes of the evidence that a run of `audit` left.
use Rattle.std.proofs.Common.{◌≡◌, ◌≢◌, ℕ, ◌<◌, ◌≤◌, ◌^◌, Bool, true, List, length, map, take, Option, Some, Result, Ok, Err, refl, ap, ◌∙◌, inl, inr, ◌⊎◌, ⊎_elim, arith}
use Rattle.std.specs.Prelude.{option_map}
use Rattle.std.proofs.lemmas.Bool.{le-leb}
use Rattle.std.proofs.Math.Seq.{take-length}
use Rattle.nr_spec_plans.specs.Disk as disk
use Rattle.nr_spec_plans.specs.Plans.{Ask, Room, act, want}
use Rattle.nr_spec_plans.specs.Laws.{outcome}
use Rattle.nr_spec_plans.proofs.SaveLaws.{outcome_goes}
use Rattle.nr_spec_report.specs.Claims.{Claim}
use Rattle.nr_spec_evidence.specs.Evidence.{evidence_file}
use Rattle.nr_spec_outcome.specs.Report.{Report, claims_of}
use Rattle.nr_spec_verify.specs.Verified.{verified}
use Rattle.nr_spec_commands.specs.Words.{Audit, AuditRequest, Request, Verify, VerifyRequest, most_number, request_in}
use Rattle.nr_spec_program.specs.Command.{Ending, EvidenceInput, Input, fault_ending, input_limit, load, sized}
use Rattle.nr_spec_program.specs.Verifying.{checked, verified_ending, verify_plan}
use Rattle.nr_spec_program.specs.Running.{Answers, RunsTo}
use Rattle.nr_spec_program.specs.Table.{plan_for, plan_of}
use Rattle.nr_spec_program.specs.Causes.{Answered, EndsAs, NoneRose, ended}
use Rattle.nr_laws_words.specs.Commands.{Asks}
use Rattle.nr_laws_program.proofs.FileLaws.{run_ends_as, run_ends_by}
use Rattle.nr_laws_verify.specs.Audits as audits
use Rattle.nr_laws_handed.specs.Handed.{Accepts, HoldsBytes, HoldsWhole, IsHanded, LeavesEvidence, accepted_ending, audit_of, evidence_by}
use Rattle.nr_laws_handed.proofs.Left.{run_leaves}
use Rattle.nr_laws_handed.proofs.Whole.{shown_whole}
use Rattle.nr_laws_handed.proofs.Periods.{InOrder, asked_in_order}
use Rattle.nr_laws_handed.proofs.Values.{all_accepted}

-- ---- what the plan gives

sized_is : (held : disk.Contents) (input : Input) (size : Option ℕ) (n : ℕ) → size ≡ Some n → n ≤ input_limit input → outcome held (sized input size) ≡ Ok n
sized_is held input size n is fits = rw (is, le-leb n (input_limit input) fits) refl

load_is : (held : disk.Contents) (input : Input) (name bytes : List ℕ) → held name ≡ Some bytes → length bytes ≤ input_limit input → outcome held (load input name) ≡ Ok bytes
unfolding load
load_is held input name bytes is fits =
    outcome_goes held (act (Ask name)) _ (option_map length (held name)) refl
    ∙ (outcome_goes held (sized input (option_map length (held name))) _ (length bytes) (sized_is held input (option_map length (held name)) (length bytes) (ap (option_map length) is) fits)
    ∙ (ap (λ (file : Option (List ℕ)). Ok (take (length bytes) (disk.bytes_of file))) is ∙ ap (λ (b : List ℕ). Ok b) (take-length bytes)))

verify_gives : (held : disk.Contents) (r : VerifyRequest) (bytes : List ℕ) (values : List Bool) → held r.evidence ≡ Some bytes → length bytes ≤ input_limit EvidenceInput → verified r.root bytes ≡ Ok values
    → outcome held (plan_of (Verify r)) ≡ Ok (verified_ending values)
unfolding plan_of verify_plan
verify_gives held r bytes values is fits accepts =
    outcome_goes held (load EvidenceInput r.evidence) _ bytes (load_is held EvidenceInput r.evidence bytes is fits)
    ∙ (outcome_goes held (Room (checked (verified r.root bytes))) _ values (ap (λ f. outcome held (checked f)) accepts)
    ∙ outcome_goes held want _ tt refl)

-- ---- the evidence that was left

abbrev Accepted : Type 0
Accepted =
    (audit : audits.Audit) (report : Report) → audits.HasBytes audit → audits.Reports audit report → audits.HasRoom audit report → audit.period.from ≤ audit.period.to
    → verified audit.root (evidence_file (audits.evidence_of_report audit report)) ≡ Ok (map (λ claim. true) (claims_of report))

eight : (from to : ℕ) → from ≤ to → to ≤ most_number → (from < 2 ^ 64) × (to < 2 ^ 64)
eight from to order small = (omega (arith, order, small), omega (arith, order, small))

one_told : (told : Option disk.Told) (t u : disk.Told) → told ≡ Some t → told ≡ Some u → t ≡ u
one_told told t u is at = cc

given_is : (q : AuditRequest) (r : VerifyRequest) (name : List ℕ) (t : disk.Told) (new start : disk.Disk) (e : Ending) (left : LeavesEvidence q name t new e) (handed : IsHanded q r name new start)
    → handed.found.holds r.evidence ≡ Some (evidence_by t.holds q left.report)
given_is q r name t new start e left handed =
    handed.same ∙ (ap (λ (u : disk.Told). u.holds name) (one_told new.told handed.written left.now handed.left_tells left.told) ∙ left.saved.holds)

handed_gives : Accepted → (q : AuditRequest) (r : VerifyRequest) (name : List ℕ) (t : disk.Told) (new start : disk.Disk) (e : Ending) → HoldsBytes t.holds q → HoldsWhole t.holds q → InOrder q.period
    → (left : LeavesEvidence q name t new e) (handed : IsHanded q r name new start) → outcome handed.found.holds (plan_of (Verify r)) ≡ Ok (accepted_ending (claims_of left.report))
handed_gives accepted q r name t new start e bytes whole order left handed =
    let fits = eight q.period.from q.period.to order.order order.small in
    let accepts = accepted (audit_of t.holds q) left.report (record { answer = bytes.answer; auths = bytes.auths; from = fits.0; to = fits.1 }) (shown_whole (audit_of t.holds q) left.report whole left.by) left.room order.order in
    let by_root : verified r.root (evidence_by t.holds q left.report) ≡ Ok (map (λ claim. true) (claims_of left.report)) = ap (λ (root : List ℕ). verified root (evidence_by t.holds q left.report)) handed.root ∙ accepts in
    verify_gives handed.found.holds r (evidence_by t.holds q left.report) (map (λ claim. true) (claims_of left.report)) (given_is q r name t new start e left handed) left.room.whole by_root
    ∙ ap (λ (ending : Ending). Ok ending) (all_accepted (claims_of left.report))

-- ---- the run of `verify`

-- the whole text was taken, where the status is that of an ending
taken : (e : Ending) (got : Result (Unit {0}) disk.Fault) (before after : disk.Tape) (status : ℕ) → status ≡ 0 → disk.Offers e.text before after got → Answers e got status → after ≡ disk.taking e.text before
taken e (Ok x) before after status zero offers is = offers
taken e (Err disk.ReadFault) before after status zero offers is = absurd is
taken e (Err disk.WriteFault) before after status zero offers is = absurd (omega (arith, zero, is))
taken e (Err disk.Memory) before after status zero offers is = absurd (omega (arith, zero, is))

-- with memory, the ending is that of the plan
own : (e last : Ending) (status : ℕ) → last.status ≡ 0 → status ≢ 6 → (e ≡ last) ⊎ (e ≡ fault_ending disk.Memory) → (status ≡ e.status) ⊎ (status ≡ 6) → (status ≡ 0) × (e ≡ last)
own e last status zero room ending (inr is) = absurd (room is)
own e last status zero room (inl same) (inl is) = (is ∙ (ap (λ (x : Ending). x.status) same ∙ zero), same)
own e last status zero room (inr same) (inl is) = absurd (room (is ∙ ap (λ (x : Ending). x.status) same))

accepts : (checking : List (List ℕ)) (r : VerifyRequest) (claims : List Claim) (found : disk.Told) (start end : disk.Disk) (begin done : disk.Tape) (answered : ℕ)
    → request_in checking ≡ Some (Verify r) → start.told ≡ Some found → outcome found.holds (plan_of (Verify r)) ≡ Ok (accepted_ending claims)
    → (run : RunsTo (plan_for checking) start end begin done answered) → Accepts claims start end begin done answered run.result run.ending
accepts checking r claims found start end begin done answered is told gives run = record {
  ending = ⊎_elim (λ same. inl (same ∙ ap ended gives)) (λ other. inr other) (run_ends_by checking (Verify r) found.holds start end begin done answered is holds run);
  whole = λ none room. by_own (own run.ending (accepted_ending claims) answered refl room (⊎_elim (λ same. inl (same ∙ ap ended gives)) (λ other. inr other) (by_files none).ending) (by_files none).answers);
}
  where
    holds : option_map (λ t. t.holds) start.told ≡ Some found.holds
    holds = ap (option_map (λ (t : disk.Told). t.holds)) told

    by_files : NoneRose start end begin done → EndsAs found.holds (plan_of (Verify r)) run.ending answered
    by_files none = run_ends_as checking (Verify r) found.holds start end begin done answered is holds run none

    by_own : (answered ≡ 0) × (run.ending ≡ accepted_ending claims) → (answered ≡ 0) × (done ≡ disk.taking (accepted_ending claims).text begin)
    by_own o = (o.0, taken run.ending run.delivers.got begin done answered o.0 run.delivers.offers run.delivers.answers ∙ ap (λ (x : Ending). disk.taking x.text begin) o.1)

pub run_accepts : ((words : List (List ℕ)) (request : Request) → (request_in words ≡ Some request → Asks words request) × (Asks words request → request_in words ≡ Some request)) → Accepted
    → (words checking : List (List ℕ)) (q : AuditRequest) (r : VerifyRequest) (name : List ℕ) (old new start end : disk.Disk) (before after begin done : disk.Tape) (status answered : ℕ) (t : disk.Told)
    → request_in words ≡ Some (Audit q) → q.evidence ≡ Some name → old.told ≡ Some t → HoldsBytes t.holds q → HoldsWhole t.holds q
    → (run : RunsTo (plan_for words) old new before after status) → Answered (λ s. (s ≡ 0) ⊎ (s ≡ 1)) run.ending status
    → request_in checking ≡ Some (Verify r) → IsHanded q r name new start
    → (verifying : RunsTo (plan_for checking) start end begin done answered)
    → (left : LeavesEvidence q name t new run.ending) × Accepts (claims_of left.report) start end begin done answered verifying.result verifying.ending
run_accepts asks accepted words checking q r name old new start end before after begin done status answered t is given told bytes whole run low asked handed verifying =
    let left = run_leaves words q name old new before after status t is given told run low in
    (left, accepts checking r (claims_of left.report) handed.found start end begin done answered asked handed.given_tells (handed_gives accepted q r name t new start run.ending bytes whole (asked_in_order asks words q is) left handed) verifying)
