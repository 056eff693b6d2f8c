-- What stands before an answer whose checkpoint stands before the period.
use Rattle.std.proofs.Common.{◌≡◌, ℕ, ◌<◌, ◌≤◌, Bool, true, false, cond, List, [], ◌∷◌, ◌++◌, length, Option, Some, None, refl, sym, ap, subst, ◌∙◌, arith}
use Rattle.std.specs.Prelude.{nat_lt}
use Rattle.std.specs.Str.{bytes_eq}
use Rattle.std.proofs.lemmas.Bool.Decides.{nat_tests}
use Rattle.sha2.specs.Sha256.{sha256}
use Rattle.nr_spec_log.specs.Chain.{LogEntry}
use Rattle.nr_spec_log.specs.Answer.{AnswerFile, AreEntriesFrom, IsAnswer}
use Rattle.nr_spec_history.specs.Conflicts.{Period}
use Rattle.nr_spec_slices.specs.Slices.{AreBefore, IsLog, IsTrue}
use Rattle.nr_spec_slices.specs.Late.{Body, Time, late_by, late_fact, late_of}

reach : (last : ℕ) (xs : List LogEntry) (e : LogEntry) (es : List LogEntry) → AreEntriesFrom last (xs ++ e ∷ es) → last ≤ e.time
reach last [] e es h = h.1
reach last (x ∷ xs) e es h = let later = reach x.time xs e es h.2 in omega (arith, h.1, later)

pub low_before : (period : Period) (last : ℕ) (xs : List LogEntry) (e : LogEntry) (es : List LogEntry) → AreEntriesFrom last (xs ++ e ∷ es) → e.time < period.from → AreBefore period xs
low_before period last [] e es h lt = tt
low_before period last (x ∷ xs) e es h lt = let later = reach x.time xs e es h.2 in (omega (arith, later, lt), low_before period x.time xs e es h.2 lt)

less : (n m : ℕ) → nat_lt n m ≡ true → n < m
less n m h = grind (arith, nat_tests)

-- the checkpoint of an answer that isn't late stands before the period
in_time : (period : Period) (body : List ℕ) (e : LogEntry) → late_by period body e ≡ None → e.time < period.from
in_time period body e h = by (nat_lt e.time period.from) refl h
  where
    by : (b : Bool) → nat_lt e.time period.from ≡ b
        → cond b (cond (bytes_eq (sha256 body) e.content) None (Some (Body (sha256 body) e.content))) (Some (Time e.time period.from)) ≡ None → e.time < period.from
    by true is h = less e.time period.from is
    by false is h = absurd cc

low_by : (period : Period) (log before es : List LogEntry) (body : List ℕ) → AreEntriesFrom 0 log → log ≡ before ++ es → 1 ≤ length es → late_of period (Some body) es ≡ None → AreBefore period before
low_by period log before [] body h is some none = absurd (omega (arith, some))
low_by period log before (e ∷ es) body h is some none = low_before period 0 before e es (subst (AreEntriesFrom 0) is h) (in_time period body e none)

pub timely : (period : Period) (log : List LogEntry) (answer : AnswerFile) → IsLog log → (t : IsTrue log answer) → IsAnswer answer → late_fact answer period ≡ None → AreBefore period t.before
timely period log answer log_is t a none =
    low_by period log t.before answer.entries _ log_is.entries t.behind.entries a.least (ap (λ (b : Option (List ℕ)). late_of period b answer.entries) (sym t.body) ∙ none)
