-- What the answers of a network aren't refused for.
use Rattle.std.proofs.Common.{◌≡◌, ℕ, zero, suc, Bool, true, false, cond, List, take, drop, Option, Some, None, Result, Ok, Err, refl, sym, ap, subst, ◌∙◌}
use Rattle.std.specs.Prelude.{option_map}
use Rattle.nr_spec_log.specs.Chain.{LogEntry}
use Rattle.nr_spec_log.specs.Answer.{AnswerFile, IsAnswer}
use Rattle.nr_spec_log.specs.Authenticator.{Authenticator}
use Rattle.nr_spec_history.specs.Conflicts.{Period}
use Rattle.nr_spec_history.specs.KeyFiles.{Key, key_root}
use Rattle.nr_spec_entry.specs.Contents.{auditor}
use Rattle.nr_spec_truth.specs.Truths.{Truth}
use Rattle.nr_spec_outcome.specs.Report.{Report}
use Rattle.nr_spec_outcome.specs.Outcome.{Audited, Fact, Form, Head, Network, Promise, Short, Unsigned, outcome}
use Rattle.nr_spec_steps.specs.Heads.{answer_from_first, last_commit, whole_answer}
use Rattle.nr_spec_slices.specs.Slices.{IsLog, IsTrue, whole}
use Rattle.nr_spec_slices.specs.Late.{Late, late_fact}
use Rattle.nr_spec_slices.specs.Audits.{outcome_of, with_late}
use Rattle.nr_spec_starts.specs.Starts.{NoAnswer, NoCheckpoint, answer_at, answer_behind, answer_up_to, begins_with_checkpoint, started_answer}
use Rattle.nr_laws_answers.specs.Refusals as first
use Rattle.nr_laws_started.specs.Refusals.{IsNotOfItself}

-- ---- a late checkpoint changes nothing of this

passes : (late : Option Late) (r : Result Report Fact) → first.IsNotOfItself r → IsNotOfItself (with_late late r)
passes None (Ok report) fine = tt
passes None (Err fact) fine = fine
passes (Some late) (Ok report) fine = tt
passes (Some late) (Err Form) fine = fine
passes (Some late) (Err (Network found wanted)) fine = tt
passes (Some late) (Err Unsigned) fine = fine
passes (Some late) (Err (Head head chain)) fine = fine
passes (Some late) (Err (Short head to)) fine = tt
passes (Some late) (Err (Promise found file)) fine = tt

-- ---- an answer without a body is the whole one

given_is : (x y : AnswerFile) → (let r : Result AnswerFile NoAnswer = Ok x in r) ≡ Ok y → x ≡ y
given_is x y e = cc

found_is : (x y : AnswerFile) → (let o : Option AnswerFile = Some x in o) ≡ Some y → x ≡ y
found_is x y e = cc

at_is : (key : Key) (log : List LogEntry) (start : ℕ) (answer : AnswerFile) → answer.body ≡ None → answer_at key log start ≡ Ok answer → answer_from_first key log ≡ answer
at_is key log zero answer none is = absurd cc
at_is key log (suc zero) answer none is = given_is (answer_from_first key log) answer is
at_is key log (suc (suc n)) answer none is = by (begins_with_checkpoint (drop (suc n) log)) is
  where
    refused : NoAnswer → Result AnswerFile NoAnswer
    refused why = Err why

    by : (b : Bool) → cond b (Ok (answer_behind key (suc n) log)) (refused (NoCheckpoint (suc (suc n)))) ≡ Ok answer → answer_from_first key log ≡ answer
    by true h =
        let body = ap (λ (a : AnswerFile). a.body) (given_is (answer_behind key (suc n) log) answer h) ∙ none in
        absurd cc
    by false h = absurd cc

whole_is : (key : Key) (log : List LogEntry) (start : ℕ) (all answer : AnswerFile) → whole_answer key log ≡ Some all → started_answer key log start ≡ Ok answer → answer.body ≡ None → all ≡ answer
unfolding whole_answer started_answer
whole_is key log start all answer found started none = by (last_commit auditor log) found started
  where
    by : (head : Option ℕ) → option_map (λ k. answer_from_first key (take k log)) head ≡ Some all → answer_up_to key log start head ≡ Ok answer → all ≡ answer
    by None h k = absurd cc
    by (Some head) h k = sym (found_is (answer_from_first key (take head log)) all h) ∙ at_is key (take head log) start answer none k

-- ---- the laws that are used

abbrev pub WholeIsFine : Type 0
WholeIsFine =
    (key : Key) (log : List LogEntry) (answer : AnswerFile) (files : List Audited) (truth : Truth) (period : Period) (auths : List Authenticator) → whole_answer key log ≡ Some answer
    → first.IsNotOfItself (outcome (key_root key) files truth answer period auths)

abbrev pub StartedIsTrue : Type 0
StartedIsTrue =
    (key : Key) (log : List LogEntry) (start : ℕ) (all answer : AnswerFile) → whole_answer key log ≡ Some all → started_answer key log start ≡ Ok answer → (answer.body ≡ None → ⊥)
    → IsTrue all.entries answer × (whole all.entries answer ≡ all)

abbrev pub TrueIsWhole : Type 0
TrueIsWhole =
    (root : List ℕ) (files : List Audited) (truth : Truth) (log : List LogEntry) (answer : AnswerFile) (period : Period) (auths : List Authenticator) → IsLog log → IsTrue log answer → IsAnswer answer
    → outcome_of root files truth answer period auths ≡ with_late (late_fact answer period) (outcome root files truth (whole log answer) period auths)

abbrev pub WholeIsWhole : Type 0
WholeIsWhole =
    (root : List ℕ) (files : List Audited) (truth : Truth) (answer : AnswerFile) (period : Period) (auths : List Authenticator) → IsAnswer answer → answer.body ≡ None
    → outcome_of root files truth answer period auths ≡ with_late None (outcome root files truth answer period auths)

-- ---- the answers of a network

pub started_fine : WholeIsFine → StartedIsTrue → TrueIsWhole → WholeIsWhole
    → (key : Key) (log : List LogEntry) (start : ℕ) (all answer : AnswerFile) (files : List Audited) (truth : Truth) (period : Period) (auths : List Authenticator) → whole_answer key log ≡ Some all
    → started_answer key log start ≡ Ok answer → IsLog all.entries → IsAnswer answer → IsNotOfItself (outcome_of (key_root key) files truth answer period auths)
started_fine fine is_true told told_whole key log start all answer files truth period auths found started log_is a = by answer.body refl
  where
    by : (body : Option (List ℕ)) → answer.body ≡ body → IsNotOfItself (outcome_of (key_root key) files truth answer period auths)
    by None none =
        let same = whole_is key log start all answer found started none in
        let own = subst (λ (x : AnswerFile). first.IsNotOfItself (outcome (key_root key) files truth x period auths)) same (fine key log all files truth period auths found) in
        subst IsNotOfItself (sym (told_whole (key_root key) files truth answer period auths a none)) (passes None _ own)
    by (Some body) some =
        let t = is_true key log start all answer found started (λ none. absurd (let both = sym some ∙ none in cc)) in
        let own = subst (λ (x : AnswerFile). first.IsNotOfItself (outcome (key_root key) files truth x period auths)) (sym t.1) (fine key log all files truth period auths found) in
        subst IsNotOfItself (sym (told (key_root key) files truth all.entries answer period auths log_is t.0 a)) (passes (late_fact answer period) _ own)
