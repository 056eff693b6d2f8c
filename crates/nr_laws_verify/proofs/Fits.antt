-- Each claim of a report has a spelling.
use Rattle.std.proofs.Common.{◌≡◌, ℕ, suc, ◌+◌, ◌^◌, ◌<◌, ◌≤◌, Bool, true, false, cond, List, [], ◌∷◌, ◌++◌, length, map, Option, Some, None, Ok, refl, subst, arith}
use Rattle.std.specs.Prelude.{filter}
use Rattle.std.specs.List.{AllByRecursion}
use Rattle.std.proofs.lemmas.List.{length-append}
use Rattle.nr_spec_wire.specs.Reading.{IsBytes}
use Rattle.nr_spec_log.specs.Chain.{LogEntry}
use Rattle.nr_spec_log.specs.Authenticator.{AreAuthenticators, Authenticator, IsAuthenticator, auths_file, auths_of}
use Rattle.nr_spec_log.specs.Answer.{AnswerFile, IsAnswer, answer_file, answer_of}
use Rattle.nr_spec_bgp.specs.Prefixes.{Cidr, IsCidr}
use Rattle.nr_spec_history.specs.Conflicts.{Period, answer_links, conflicts_of, is_conflict}
use Rattle.nr_spec_counts.specs.declared.cause.Cause.{Cause}
use Rattle.nr_spec_counts.specs.declared.cause.Cause.TheVariants as causes
use Rattle.nr_spec_counts.specs.Causes.{cause_number}
use Rattle.nr_spec_counts.specs.Tallies.{Numbers}
use Rattle.nr_spec_bounds.specs.Bounds.{AreStated}
use Rattle.nr_laws_bounds.proofs.RowsFit.{no_rows_fit}
use Rattle.nr_spec_report.specs.Wrong.{Base, WrongEntry, cause_after, is_within, nothing_before, wrong_after, wrong_by, wrong_entries, wrong_next}
use Rattle.nr_spec_report.specs.Claims.{Conflict}
use Rattle.nr_spec_runs.specs.Runs.{Key, Run, Span, key_of, runs_of}
use Rattle.nr_spec_typing.specs.declared.text.Promise.{Promise}
use Rattle.nr_spec_truth.specs.Truths.{Truth, meant}
use Rattle.nr_spec_promises.specs.Files as files
use Rattle.nr_spec_promises.specs.Moments.{Mark, moments}
use Rattle.nr_spec_promises.specs.Broken.{is_broken, moment_at}
use Rattle.nr_spec_promises.specs.Found.{broken_at, broken_runs, keys_from, keys_in, prefixes_over, run_at}
use Rattle.nr_spec_outcome.specs.Report.{Report, broken_claim, claims_of, wrong_claim}
use Rattle.nr_spec_outcome.specs.Outcome.{numbers_of_all, promise_files, report_of}
use Rattle.nr_spec_evidence.specs.Evidence.{IsClaim, most_cause}
use Rattle.nr_spec_texts.specs.Promises.{PromiseFile, audited_by}
use Rattle.nr_laws_verify.specs.Audits.{Audit, HasBytes, Reports}
use Rattle.nr_laws_verify.proofs.Given.{given}
use Rattle.nr_laws_verify.proofs.Each.{each_appended, each_filtered, each_flat, each_mapped, each_weaker}
use Rattle.nr_laws_verify.proofs.Stated.{answer_stated}
use Rattle.nr_laws_verify.proofs.Named.{IsSaid, SaysWhatIsDeclared, promise_said}
use Rattle.nr_laws_verify.proofs.Prefixes.{AreCidrs, all_cidrs}
use Rattle.nr_laws_verify.proofs.Spans.{IsMark, IsMoment, IsSpan, IsTime, marks, spans}

-- ---- wrong entries

cause_fits : (c : Cause) → (1 ≤ cause_number c) × (cause_number c ≤ most_cause)
cause_fits causes.Content = (omega arith, omega arith)
cause_fits causes.First = (omega arith, omega arith)
cause_fits causes.Neighbour = (omega arith, omega arith)
cause_fits causes.Ack = (omega arith, omega arith)
cause_fits causes.Leaf = (omega arith, omega arith)
cause_fits causes.Checkpoint = (omega arith, omega arith)
cause_fits causes.Numbers = (omega arith, omega arith)
cause_fits causes.Overdue = (omega arith, omega arith)

abbrev FitsWrong : WrongEntry → Type 0
FitsWrong w = IsClaim (wrong_claim w)

wrong_by_fits : (seq : ℕ) (cause : Option Cause) → IsTime seq → AllByRecursion FitsWrong (wrong_by seq cause)
wrong_by_fits seq None h = tt
wrong_by_fits seq (Some cause) h = let c = cause_fits cause in ((h, c.0, c.1), tt)

next_fits : (within : Bool) (seq : ℕ) (cause : Option Cause) → IsTime seq → AllByRecursion FitsWrong (cond within (wrong_by seq cause) [])
next_fits true seq cause h = wrong_by_fits seq cause h
next_fits false seq cause h = tt

wrong_fit : (numbers : List Numbers) (base : Base) (period : Period) (first : ℕ) (past later : List LogEntry) → first + length past + length later ≤ 2 ^ 64
    → AllByRecursion FitsWrong (wrong_after numbers base period first past later)
wrong_fit numbers base period first past [] few = tt
wrong_fit numbers base period first past (e ∷ later) few =
    let here : IsTime (first + length past) = omega (arith, few) in
    let more : first + length (past ++ e ∷ []) + length later ≤ 2 ^ 64 = omega (arith, few, length-append past (e ∷ [])) in
    each_appended FitsWrong (wrong_next numbers base period first past e) (wrong_after numbers base period first (past ++ e ∷ []) later)
    (next_fits (is_within period e.time) (first + length past) (cause_after numbers base past (first + length past) e) here)
    (wrong_fit numbers base period first (past ++ e ∷ []) later more)

-- ---- broken runs

pub record IsOurs (k : Key) : Type 0 where
  pub file : k.file ≡ 0
  pub promise : k.promise < 2 ^ 16
  pub prefix : IsCidr k.prefix

keyed : (r : ℕ) (prefixes : List Cidr) → r < 2 ^ 16 → AreCidrs prefixes → AllByRecursion IsOurs (map (key_of 0 r) prefixes)
keyed r [] lt h = tt
keyed r (p ∷ prefixes) lt h = (record { file = refl; promise = lt; prefix = h.0 }, keyed r prefixes lt h.1)

ours_in : (prefixes : List Cidr) (r : ℕ) (promises : List Promise) → AreCidrs prefixes → r + length promises ≤ 256 → AllByRecursion IsOurs (keys_in prefixes 0 r promises)
ours_in prefixes r [] h few = tt
ours_in prefixes r (p ∷ promises) h few =
    let lt : r < 2 ^ 16 = omega (arith, few) in
    let more : suc r + length promises ≤ 256 = omega (arith, few) in
    each_appended IsOurs (map (key_of 0 r) prefixes) (keys_in prefixes 0 (suc r) promises) (keyed r prefixes lt h) (ours_in prefixes (suc r) promises h more)

ours : (prefixes : List Cidr) (f : files.PromiseFile) → AreCidrs prefixes → length f.promises ≤ 256 → AllByRecursion IsOurs (keys_from prefixes 0 (f ∷ []))
ours prefixes f h few = each_appended IsOurs (keys_in prefixes 0 0 f.promises) [] (ours_in prefixes 0 f.promises h (omega (arith, few))) tt

abbrev FitsRun : Run → Type 0
FitsRun r = IsClaim (broken_claim r)

abbrev FitsAt : Key → Span → Type 0
FitsAt k s = FitsRun (run_at k s)

fits_at : (k : Key) → IsOurs k → (s : Span) → IsSpan s → FitsAt k s
fits_at k is s h = (is.file, is.promise, is.prefix, h.begin, h.end)

at_fits : (fs : List files.PromiseFile) (truth : Truth) (ms : List Mark) (to : ℕ) → IsTime to → AllByRecursion IsMark ms → (k : Key) → IsOurs k → AllByRecursion FitsRun (broken_at fs truth ms to k)
at_fits fs truth ms to end begins k is =
    let runs = runs_of to (map (moment_at fs truth k) ms) in
    let fit : AllByRecursion IsSpan runs = spans false to (map (moment_at fs truth k) ms) end (each_mapped IsMoment (moment_at fs truth k) ms begins) in
    each_mapped FitsRun (run_at k) (filter (is_broken fs k) runs)
    (each_weaker (FitsAt k) IsSpan (fits_at k is) (filter (is_broken fs k) runs) (each_filtered IsSpan (is_broken fs k) runs fit))

broken_fit : (f : files.PromiseFile) (truth : Truth) (base : Base) (period : Period) (entries : List LogEntry) → IsTime period.from → IsTime period.to → AreStated entries
    → length f.promises ≤ 256 → AreCidrs (prefixes_over (f ∷ []) base period entries) → AllByRecursion FitsRun (broken_runs (f ∷ []) truth base period entries)
unfolding broken_runs
broken_fit f truth base period entries from to stated few cidrs =
    let fs = f ∷ [] in
    let ms = moments fs base period entries in
    let keys = keys_from (prefixes_over fs base period entries) 0 fs in
    each_flat FitsRun (broken_at fs truth ms period.to) keys
    (each_weaker (λ (k : Key). AllByRecursion FitsRun (broken_at fs truth ms period.to k)) IsOurs (at_fits fs truth ms period.to to (marks fs base period entries from stated)) keys
    (ours (prefixes_over fs base period entries) f cidrs few))

-- ---- all of them

report_fits : (root : List ℕ) (promise : PromiseFile) (truth : Truth) (answer : AnswerFile) (period : Period) (auths : List Authenticator)
    → IsSaid promise.says → IsAnswer answer → AreStated answer.entries → AreAuthenticators auths → IsTime period.from → IsTime period.to
    → AllByRecursion IsClaim (claims_of (report_of root (audited_by promise ∷ []) truth nothing_before answer period auths))
report_fits root promise truth answer period auths said is stated signed from to =
    let audited = audited_by promise ∷ [] in
    let conflicts = conflicts_of root answer period auths in
    let wrong = wrong_entries (numbers_of_all audited) nothing_before period answer.first answer.entries in
    let broken = broken_runs (promise_files audited) truth nothing_before period answer.entries in
    let few : answer.first + 0 + length answer.entries ≤ 2 ^ 64 = omega (arith, is.first, is.most) in
    let cidrs : AreCidrs (prefixes_over (promise_files audited) nothing_before period answer.entries) = all_cidrs (promise_files audited) nothing_before period answer.entries (said.name, tt) no_rows_fit stated in
    let c : AllByRecursion IsClaim (map Conflict conflicts) = each_mapped IsClaim Conflict conflicts (each_filtered IsAuthenticator (is_conflict root answer.asn period (answer_links answer)) auths signed) in
    let w : AllByRecursion IsClaim (map wrong_claim wrong) = each_mapped IsClaim wrong_claim wrong (wrong_fit (numbers_of_all audited) nothing_before period answer.first [] answer.entries few) in
    let b : AllByRecursion IsClaim (map broken_claim broken) = each_mapped IsClaim broken_claim broken (broken_fit _ truth nothing_before period answer.entries from to stated said.few cidrs) in
    each_appended IsClaim (map Conflict conflicts ++ map wrong_claim wrong) (map broken_claim broken) (each_appended IsClaim (map Conflict conflicts) (map wrong_claim wrong) c w) b

abbrev pub AnswersAreFound : Type 0
AnswersAreFound = (bytes : List ℕ) (answer : AnswerFile) → IsBytes bytes → answer_of bytes ≡ Ok answer → IsAnswer answer × (bytes ≡ answer_file answer)

abbrev pub AuthsAreFound : Type 0
AuthsAreFound = (bytes : List ℕ) (auths : List Authenticator) → IsBytes bytes → auths_of bytes ≡ Ok auths → AreAuthenticators auths × (bytes ≡ auths_file auths)

pub claims_fit : AnswersAreFound → AuthsAreFound → SaysWhatIsDeclared → (audit : Audit) (report : Report) → HasBytes audit → Reports audit report → AllByRecursion IsClaim (claims_of report)
claims_fit answers auths says audit report has r =
    let a = answers audit.answer r.answer has.answer r.answer_reads in
    let s = auths audit.auths r.auths has.auths r.auths_read in
    let stated = answer_stated audit.answer r.answer has.answer a in
    subst (λ (x : Report). AllByRecursion IsClaim (claims_of x)) (given audit.root (audited_by r.promise ∷ []) (meant (r.promise.says ∷ [])) r.answer audit.period r.auths [] report r.outcome_is).0
    (report_fits audit.root r.promise (meant (r.promise.says ∷ [])) r.answer audit.period r.auths (promise_said says audit.promise r.promise r.promise_reads) a.0 stated s.0 has.from has.to)
