-- The base that the body of a true answer states is the state before its entries.
use Rattle.std.proofs.Common.{◌≡◌, ℕ, zero, suc, ◌+◌, ◌<◌, ◌≤◌, Bool, true, false, cond, List, [], ◌∷◌, ◌++◌, length, Option, Some, Result, Ok, Err, refl, sym, ap, subst, ◌∙◌, arith}
use Rattle.std.specs.List.{AllByRecursion}
use Rattle.std.proofs.lemmas.Bool.{le-leb}
use Rattle.nr_spec_wire.specs.Reading.{IsBytes}
use Rattle.nr_spec_log.specs.Chain.{LogEntry}
use Rattle.nr_spec_log.specs.Answer.{AnswerFile, AreEntriesFrom, IsAnswer, StartsAt, body_offset, most_body}
use Rattle.nr_spec_bounds.specs.Bounds.{AreStated, HasRoom, most_counted}
use Rattle.nr_spec_report.specs.Wrong.{Base, nothing_before}
use Rattle.nr_spec_bodies.specs.Reading.{base_of}
use Rattle.nr_spec_bodies.specs.Bases.{body_of, state_after}
use Rattle.nr_spec_slices.specs.Slices.{IsLog, IsTrue}
use Rattle.nr_spec_slices.specs.Audits.{Malformed, Refusal, base_by, is_in_time, stated}
use Rattle.nr_laws_bodies.proofs.States.{nothing_is, state_reads}
use Rattle.nr_laws_checkpoint.proofs.Taken.{last_in_time}

-- the first entries of a log can be stated
stated_before : (last : ℕ) (xs ys : List LogEntry) → AreEntriesFrom last (xs ++ ys) → AllByRecursion (λ e. IsBytes e.content) (xs ++ ys) → AreStated xs
stated_before last [] ys h bytes = tt
stated_before last (x ∷ xs) ys h bytes = (record { time = h.0.time; content = bytes.0 }, stated_before x.time xs ys h.2 bytes.1)

some_is : (x y : List ℕ) → (let r : Option (List ℕ) = Some x in r) ≡ Some y → x ≡ y
some_is x y e = cc

-- the body of an answer has the size that the format allows
body_small : (answer : AnswerFile) (body : List ℕ) (first : ℕ) → StartsAt first answer → answer.body ≡ Some body → length body ≤ most_body
body_small answer body zero starts some = absurd starts
body_small answer body (suc zero) starts some = absurd (let no = sym some ∙ starts.1 in cc)
body_small answer body (suc (suc n)) starts some = subst (λ (l : List ℕ). length l ≤ most_body) (some_is starts.0 body (sym starts.1 ∙ some)) starts.2

pub true_base : (log : List LogEntry) (answer : AnswerFile) → IsLog log → (t : IsTrue log answer) → IsAnswer answer
    → base_of (body_of (state_after nothing_before t.before)) ≡ Ok (state_after nothing_before t.before)
true_base log answer log_is t a =
    let small = body_small answer (body_of (state_after nothing_before t.before)) answer.first a.start t.body in
    let fits = subst (AreEntriesFrom 0) t.behind.entries log_is.entries in
    let bytes = subst (AllByRecursion (λ (e : LogEntry). IsBytes e.content)) t.behind.entries log_is.bytes in
    let number = t.behind.first in
    let most = a.first in
    let few : length t.before < most_counted = omega (arith, number, most) in
    let room : HasRoom nothing_before.tally (length t.before) = record { commits = omega (arith, few); sends = λ n. omega (arith, few) } in
    state_reads nothing_before t.before nothing_is (stated_before 0 t.before answer.entries fits bytes) room small

-- ---- with its last time

in_time_by : (log : List LogEntry) (answer : AnswerFile) (entries : List LogEntry) → IsLog log → (t : IsTrue log answer) → answer.entries ≡ entries
    → is_in_time (state_after nothing_before t.before).tally.last entries ≡ true
in_time_by log answer [] log_is t first = refl
in_time_by log answer (e ∷ es) log_is t first = le-leb _ _ (last_in_time log answer e es log_is t first)

taken : (body : List ℕ) (entries : List LogEntry) (read : Result Base ℕ) (base : Base) → read ≡ Ok base → is_in_time base.tally.last entries ≡ true → stated body entries read ≡ Ok base
taken body entries read base is time = ap (stated body entries) is ∙ by (is_in_time base.tally.last entries) time
  where
    by : (b : Bool) → b ≡ true → (let late : ℕ → Result Base Refusal = λ place. Err (Malformed place) in cond b (Ok base) (late (body_offset + length body + 4))) ≡ Ok base
    by true h = refl
    by false h = absurd cc

pub true_base_by : (log : List LogEntry) (answer : AnswerFile) → IsLog log → (t : IsTrue log answer) → IsAnswer answer
    → base_by answer.body answer.entries ≡ Ok (state_after nothing_before t.before)
true_base_by log answer log_is t a =
    let base = state_after nothing_before t.before in
    ap (λ (b : Option (List ℕ)). base_by b answer.entries) t.body
    ∙ taken (body_of base) answer.entries (base_of (body_of base)) base (true_base log answer log_is t a) (in_time_by log answer answer.entries log_is t refl)
