-- The answers that a network gives from a checkpoint on are true of its log.
use Rattle.std.proofs.Common.{◌≡◌, ℕ, zero, suc, ◌+◌, ◌≤◌, Bool, true, false, cond, List, [], ◌∷◌, length, take, drop, Option, Some, None, Result, Ok, Err, refl, sym, ap, subst, ◌∙◌}
use Rattle.std.specs.Prelude.{option_map}
use Rattle.std.proofs.lemmas.List.{take-append-drop}
use Rattle.nr_spec_log.specs.Chain.{LogEntry}
use Rattle.nr_spec_log.specs.Authenticator.{Authenticator}
use Rattle.nr_spec_log.specs.Answer.{AnswerFile, IsAnswer, most_body}
use Rattle.nr_spec_history.specs.Conflicts.{Period}
use Rattle.nr_spec_history.specs.KeyFiles.{Key}
use Rattle.nr_spec_entry.specs.Contents.{auditor}
use Rattle.nr_spec_truth.specs.Truths.{Truth}
use Rattle.nr_spec_outcome.specs.Report.{Report}
use Rattle.nr_spec_outcome.specs.Outcome.{Audited, outcome}
use Rattle.nr_spec_steps.specs.Heads.{answer_from_first, last_commit, whole_answer}
use Rattle.nr_spec_slices.specs.Slices.{IsLog, IsTrue, whole}
use Rattle.nr_spec_slices.specs.Audits.{outcome_of}
use Rattle.nr_spec_starts.specs.Starts.{NoAnswer, NoCheckpoint, answer_at, answer_behind, answer_up_to, begins_with_checkpoint, started_answer}
use Rattle.nr_spec_report.specs.Wrong.{nothing_before}
use Rattle.nr_spec_bodies.specs.Bases.{body_of, state_after}
use Rattle.nr_laws_true_answers.proofs.Fitting.{behind_fits}
use Rattle.nr_laws_true_answers.proofs.Outcomes.{not_refused, true_report, whole_given}

answered_is : (x y : AnswerFile) → (let r : Result AnswerFile NoAnswer = Ok x in r) ≡ Ok y → x ≡ y
answered_is x y e = cc

found_is : (x y : AnswerFile) → (let o : Option AnswerFile = Some x in o) ≡ Some y → x ≡ y
found_is x y e = cc

-- a checkpoint stands behind as many entries as are asked for
taken_long : (n : ℕ) (log : List LogEntry) → begins_with_checkpoint (drop n log) ≡ true → length (take n log) ≡ n
taken_long zero log is = refl
taken_long (suc n) [] is = absurd cc
taken_long (suc n) (e ∷ log) is = ap suc (taken_long n log is)

behind_true : (key : Key) (n : ℕ) (log : List LogEntry) → begins_with_checkpoint (drop n log) ≡ true → IsTrue log (answer_behind key n log)
behind_true key n log is = record {
  before = take n log;
  behind = record { entries = sym (take-append-drop n log); first = ap (λ (k : ℕ). k + 1) (sym (taken_long n log is)); prev = refl };
  body = refl;
}

-- an answer is the whole log's, or it is true of the log and its whole is the whole log's
pub data IsOf (key : Key) (log : List LogEntry) (answer : AnswerFile) : Type 0 where
  IsWhole : answer_from_first key log ≡ answer → IsOf key log answer
  IsPart : IsTrue log answer → whole log answer ≡ answer_from_first key log → IsOf key log answer

at_is : (key : Key) (log : List LogEntry) (start : ℕ) (answer : AnswerFile) → answer_at key log start ≡ Ok answer → IsOf key log answer
at_is key log zero answer is = absurd cc
at_is key log (suc zero) answer is = IsWhole (answered_is (answer_from_first key log) answer is)
at_is key log (suc (suc n)) answer is = by (begins_with_checkpoint (drop (suc n) log)) refl is
  where
    none : NoAnswer → Result AnswerFile NoAnswer
    none why = Err why

    by : (b : Bool) → begins_with_checkpoint (drop (suc n) log) ≡ b → cond b (Ok (answer_behind key (suc n) log)) (none (NoCheckpoint (suc (suc n)))) ≡ Ok answer → IsOf key log answer
    by true begins h =
        let same = answered_is (answer_behind key (suc n) log) answer h in
        subst (λ (a : AnswerFile). IsOf key log a) same (IsPart (behind_true key (suc n) log begins) refl)
    by false begins h = absurd (no h)
      where
        no : none (NoCheckpoint (suc (suc n))) ≡ Ok answer → ⊥
        no e = absurd cc

-- the log up to its head, which the whole answer has
record Sealed (key : Key) (w answer : AnswerFile) : Type 0 where
  log : List LogEntry
  is : answer_from_first key log ≡ w
  of : IsOf key log answer

sealed : (key : Key) (log : List LogEntry) (start : ℕ) (w answer : AnswerFile) → whole_answer key log ≡ Some w → started_answer key log start ≡ Ok answer → Sealed key w answer
unfolding whole_answer started_answer
sealed key log start w answer whole_is started = by (last_commit auditor log) whole_is started
  where
    by : (head : Option ℕ) → option_map (λ k. answer_from_first key (take k log)) head ≡ Some w → answer_up_to key log start head ≡ Ok answer → Sealed key w answer
    by None h k = absurd cc
    by (Some head) h k = record { log = take head log; is = found_is (answer_from_first key (take head log)) w h; of = at_is key (take head log) start answer k }

pub started_true : (key : Key) (log : List LogEntry) (start : ℕ) (w answer : AnswerFile) → whole_answer key log ≡ Some w → started_answer key log start ≡ Ok answer
    → (answer.body ≡ None → ⊥) → IsTrue w.entries answer × (whole w.entries answer ≡ w)
started_true key log start w answer whole_is started some =
    let s = sealed key log start w answer whole_is started in
    by s.log s.is s.of
  where
    by : (l : List LogEntry) → answer_from_first key l ≡ w → IsOf key l answer → IsTrue w.entries answer × (whole w.entries answer ≡ w)
    by l is (IsWhole same) = absurd (some (ap (λ (a : AnswerFile). a.body) (sym same)))
    by l is (IsPart true_of whole_of) =
        let entries : l ≡ w.entries = ap (λ (a : AnswerFile). a.entries) is in
        (subst (λ (x : List LogEntry). IsTrue x answer) entries true_of, ap (λ (x : List LogEntry). whole x answer) (sym entries) ∙ whole_of ∙ is)

pub started_report : (key : Key) (log : List LogEntry) (start : ℕ) (w answer : AnswerFile) (root : List ℕ) (files : List Audited) (truth : Truth) (period : Period) (auths : List Authenticator) (report : Report)
    → whole_answer key log ≡ Some w → started_answer key log start ≡ Ok answer → IsLog w.entries → IsAnswer answer
    → outcome_of root files truth answer period auths ≡ Ok report → outcome root files truth w period auths ≡ Ok report
started_report key log start w answer root files truth period auths report whole_is started log_is a given =
    let s = sealed key log start w answer whole_is started in
    by s.log s.is s.of
  where
    by : (l : List LogEntry) → answer_from_first key l ≡ w → IsOf key l answer → outcome root files truth w period auths ≡ Ok report
    by l is (IsWhole same) =
        let none : answer.body ≡ None = ap (λ (x : AnswerFile). x.body) (sym same) in
        let told : outcome root files truth answer period auths ≡ Ok report =
        not_refused None (outcome root files truth answer period auths) report (sym (whole_given root files truth answer period auths a none) ∙ given) in
        ap (λ (x : AnswerFile). outcome root files truth x period auths) (sym is ∙ same) ∙ told
    by l is (IsPart true_of whole_of) =
        let entries : w.entries ≡ l = ap (λ (x : AnswerFile). x.entries) (sym is) in
        ap (λ (x : AnswerFile). outcome root files truth x period auths) (sym is ∙ sym whole_of)
        ∙ true_report root files truth l answer period auths report (subst IsLog entries log_is) true_of a given

-- ---- it is an answer

fits_at : (key : Key) (log : List LogEntry) (start : ℕ) (answer : AnswerFile) (body : List ℕ) → answer_at key log start ≡ Ok answer → IsAnswer (answer_from_first key log) → IsLog log
    → answer.body ≡ Some body → length body ≤ most_body → IsAnswer answer
fits_at key log zero answer body is a log_is some small = absurd cc
fits_at key log (suc zero) answer body is a log_is some small = subst IsAnswer (answered_is (answer_from_first key log) answer is) a
fits_at key log (suc (suc n)) answer body is a log_is some small = by (begins_with_checkpoint (drop (suc n) log)) refl is
  where
    none : NoAnswer → Result AnswerFile NoAnswer
    none why = Err why

    body_is : (x y : List ℕ) → (let o : Option (List ℕ) = Some x in o) ≡ Some y → x ≡ y
    body_is x y e = cc

    by : (b : Bool) → begins_with_checkpoint (drop (suc n) log) ≡ b → cond b (Ok (answer_behind key (suc n) log)) (none (NoCheckpoint (suc (suc n)))) ≡ Ok answer → IsAnswer answer
    by true begins h =
        let same = answered_is (answer_behind key (suc n) log) answer h in
        let stated = body_is (body_of (state_after nothing_before (take (suc n) log))) body (ap (λ (x : AnswerFile). x.body) same ∙ some) in
        subst IsAnswer same (behind_fits key n log a log_is begins (subst (λ (l : List ℕ). length l ≤ most_body) (sym stated) small))
    by false begins h = absurd (no h)
      where
        no : none (NoCheckpoint (suc (suc n))) ≡ Ok answer → ⊥
        no e = absurd cc

pub started_fits : (key : Key) (log : List LogEntry) (start : ℕ) (all answer : AnswerFile) (body : List ℕ) → whole_answer key log ≡ Some all → started_answer key log start ≡ Ok answer
    → IsAnswer all → IsLog all.entries → answer.body ≡ Some body → length body ≤ most_body → IsAnswer answer
unfolding whole_answer started_answer
started_fits key log start all answer body whole_is started a log_is some small = by (last_commit auditor log) whole_is started
  where
    by : (head : Option ℕ) → option_map (λ k. answer_from_first key (take k log)) head ≡ Some all → answer_up_to key log start head ≡ Ok answer → IsAnswer answer
    by None h k = absurd cc
    by (Some head) h k =
        let is = found_is (answer_from_first key (take head log)) all h in
        fits_at key (take head log) start answer body k (subst IsAnswer (sym is) a) (subst IsLog (ap (λ (x : AnswerFile). x.entries) (sym is)) log_is) some small
