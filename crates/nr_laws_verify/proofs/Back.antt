-- Evidence of a report is read back.
use Rattle.std.proofs.Common.{◌≡◌, ℕ, ◌≤◌, List, [], ◌∷◌, ◌++◌, length, Ok, arith}
use Rattle.std.specs.List.{AllByRecursion, flat_map}
use Rattle.std.proofs.lemmas.List.{length-append}
use Rattle.byteorder.specs.Endian.{big_bytes}
use Rattle.byteorder.specs.Numbers.{length-bytes_high_first}
use Rattle.nr_spec_log.specs.Authenticator.{authenticator}
use Rattle.nr_spec_report.specs.Claims.{Broken, Claim, Conflict, Wrong}
use Rattle.nr_spec_outcome.specs.Report.{Report, claims_of}
use Rattle.nr_spec_evidence.specs.Evidence.{EvidenceFile, IsClaim, IsEvidence, claim_bytes, evidence_file, evidence_front, evidence_of, sized}
use Rattle.nr_laws_verify.specs.Audits.{Audit, HasBytes, HasRoom, Reports, evidence_of_report}

-- ---- there are fewer claims than bytes

tagged : (tag : ℕ) (rest : List ℕ) → 1 ≤ length (big_bytes 1 tag ++ rest)
tagged tag rest = omega (arith, length-append (big_bytes 1 tag) rest, length-bytes_high_first 1 tag)

some_bytes : (c : Claim) → 1 ≤ length (claim_bytes c)
some_bytes (Conflict a) = tagged 1 (authenticator a)
some_bytes (Wrong seq cause) = tagged 2 (big_bytes 8 seq ++ big_bytes 1 cause)
some_bytes (Broken file promise p begin end) = tagged 3 (big_bytes 2 promise ++ (big_bytes 1 p.len ++ (big_bytes 4 p.addr ++ (big_bytes 8 begin ++ big_bytes 8 end))))

at_least : (claims : List Claim) → length claims ≤ length (flat_map claim_bytes claims)
at_least [] = omega arith
at_least (c ∷ claims) = omega (arith, some_bytes c, at_least claims, length-append (claim_bytes c) (flat_map claim_bytes claims))

behind : (n : ℕ) (xs ys : List ℕ) → n ≤ length ys → n ≤ length (xs ++ ys)
behind n xs ys le = omega (arith, le, length-append xs ys)

fewer : (e : EvidenceFile) → length e.claims ≤ length (evidence_file e)
unfolding evidence_file
fewer e =
    let n = length e.claims in
    let r4 = big_bytes 4 n ++ flat_map claim_bytes e.claims in
    let r3 = big_bytes 8 e.period.to ++ r4 in
    let r2 = big_bytes 8 e.period.from ++ r3 in
    let r1 = sized e.promise ++ r2 in
    behind n (evidence_front e.answer) (e.answer ++ r1) (behind n e.answer r1 (behind n (sized e.promise) r2
    (behind n (big_bytes 8 e.period.from) r3 (behind n (big_bytes 8 e.period.to) r4 (behind n (big_bytes 4 n) (flat_map claim_bytes e.claims) (at_least e.claims))))))

-- ---- the evidence

abbrev pub ClaimsFit : Type 0
ClaimsFit = (audit : Audit) (report : Report) → HasBytes audit → Reports audit report → AllByRecursion IsClaim (claims_of report)

pub evidence_fits : ClaimsFit → (audit : Audit) (report : Report) → HasBytes audit → Reports audit report → HasRoom audit report → IsEvidence (evidence_of_report audit report)
evidence_fits law audit report has reports room = record {
  answer = room.answer;
  promise = room.promise;
  from = has.from;
  to = has.to;
  count = omega (arith, room.whole, fewer (evidence_of_report audit report));
  claims = law audit report has reports;
}

abbrev pub EvidenceAgain : Type 0
EvidenceAgain = (e : EvidenceFile) → IsEvidence e → evidence_of (evidence_file e) ≡ Ok e

pub read_back : ClaimsFit → EvidenceAgain → (audit : Audit) (report : Report) → HasBytes audit → Reports audit report → HasRoom audit report
    → evidence_of (evidence_file (evidence_of_report audit report)) ≡ Ok (evidence_of_report audit report)
read_back law again audit report has reports room = again (evidence_of_report audit report) (evidence_fits law audit report has reports room)
