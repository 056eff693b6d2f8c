-- What isn't refused of a true answer.
use Rattle.std.proofs.Common.{◌≡◌, ℕ, suc, zero, ◌<◌, ◌≤◌, Bool, true, false, cond, not, List, [], ◌∷◌, ◌++◌, length, Option, Some, None, refl, sym, ap, subst, ◌∙◌, arith}
use Rattle.std.specs.Prelude.{nat_lt}
use Rattle.std.specs.Str.{bytes_eq}
use Rattle.std.proofs.lemmas.Bool.Decides.{nat_tests}
use Rattle.std.proofs.lemmas.Slice.Eq.{bytes_eq-Decides}
use Rattle.sha2.specs.Sha256.{sha256}
use Rattle.nr_spec_log.specs.Chain.{LogEntry}
use Rattle.nr_spec_log.specs.Authenticator.{digest_size}
use Rattle.nr_spec_log.specs.Answer.{AnswerFile, AreEntriesFrom, IsAnswer, IsCheckpointFirst, StartsAt, checkpoint_kind, last_time}
use Rattle.nr_spec_history.specs.Conflicts.{Period}
use Rattle.nr_spec_entry.specs.Contents.{Checkpoint}
use Rattle.nr_spec_entry.specs.ContentReading.{content_in, content_of}
use Rattle.nr_spec_routes.specs.Keys.{Row}
use Rattle.nr_spec_counts.specs.declared.cause.Cause.{Cause}
use Rattle.nr_spec_counts.specs.Bodies.{checkpoint_body}
use Rattle.nr_spec_counts.specs.Causes.{cause_in}
use Rattle.nr_spec_counts.specs.Tallies.{Numbers, Tally}
use Rattle.nr_spec_report.specs.Wrong.{cause_after, nothing_before}
use Rattle.nr_laws_entry.proofs.Spelled.{content_again}
use Rattle.nr_laws_accuracy.proofs.Times.{known_last}
use Rattle.nr_spec_bodies.specs.Bases.{state_after}
use Rattle.nr_spec_slices.specs.Slices.{IsLog, IsTrue}
use Rattle.nr_spec_slices.specs.Late.{Body, Time, late_by, late_fact, late_of}

-- ---- the last time

last_before : (last : ℕ) (xs : List LogEntry) (e : LogEntry) (es : List LogEntry) → AreEntriesFrom last (xs ++ e ∷ es) → last_time last xs ≤ e.time
last_before last [] e es h = h.1
last_before last (x ∷ xs) e es h = last_before x.time xs e es h.2

pub last_in_time : (log : List LogEntry) (answer : AnswerFile) (e : LogEntry) (es : List LogEntry) → IsLog log → (t : IsTrue log answer) → answer.entries ≡ e ∷ es
    → (state_after nothing_before t.before).tally.last ≤ e.time
last_in_time log answer e es log_is t first =
    let split : log ≡ t.before ++ e ∷ es = t.behind.entries ∙ ap (λ (l : List LogEntry). t.before ++ l) first in
    let low = last_before 0 t.before e es (subst (AreEntriesFrom 0) split log_is.entries) in
    subst (λ (k : ℕ). k ≤ e.time) (sym (known_last t.before)) low

-- ---- the digest

checkpoint_read : (e : LogEntry) → e.kind ≡ checkpoint_kind → length e.content ≡ digest_size → content_of e ≡ Some (Checkpoint e.content)
checkpoint_read e kind size = ap (λ (k : ℕ). content_in k e.content) kind ∙ content_again (Checkpoint e.content) size

passed : (b : Bool) (cause : Cause) (rest : Option Cause) → cond b (Some cause) rest ≡ None → (b ≡ false) × (rest ≡ None)
passed true cause rest h = absurd cc
passed false cause rest h = (refl, h)

not_false : (b : Bool) → not b ≡ false → b ≡ true
not_false true h = refl
not_false false h = absurd cc

right_digest : (files : List Numbers) (t : Tally) (rows : List Row) (seq time kind : ℕ) (body : List ℕ) → cause_in files t rows seq time kind (Some (Checkpoint body)) ≡ None
    → body ≡ sha256 (checkpoint_body t rows)
unfolding cause_in
right_digest files t rows seq time kind body h =
    let first = passed _ _ _ h in
    let digest = passed _ _ _ first.1 in
    (bytes_eq-Decides body (sha256 (checkpoint_body t rows))).0 (not_false (bytes_eq body (sha256 (checkpoint_body t rows))) digest.0)

less : (n m : ℕ) → n < m → nat_lt n m ≡ true
less n m h = grind (arith, nat_tests)

none_late : (period : Period) (body : List ℕ) (e : LogEntry) → e.time < period.from → e.content ≡ sha256 body → late_by period body e ≡ None
none_late period body e early same =
    ap (λ b. cond b (cond (bytes_eq (sha256 body) e.content) None (Some (Body (sha256 body) e.content))) (Some (Time e.time period.from))) (less e.time period.from early)
    ∙ ap (λ b. cond b None (Some (Body (sha256 body) e.content))) ((bytes_eq-Decides (sha256 body) e.content).1 (sym same))

-- the first entry of an answer that has a body is a checkpoint
first_kind : (answer : AnswerFile) (body : List ℕ) (e : LogEntry) (es : List LogEntry) (first : ℕ) → StartsAt first answer → answer.body ≡ Some body → answer.entries ≡ e ∷ es
    → (e.kind ≡ checkpoint_kind) × (length e.content ≡ digest_size)
first_kind answer body e es zero starts some is = absurd starts
first_kind answer body e es (suc zero) starts some is = absurd (let no = sym some ∙ starts.1 in cc)
first_kind answer body e es (suc (suc n)) starts some is = subst IsCheckpointFirst is starts.3

pub digest_in_time : (files : List Numbers) (period : Period) (log : List LogEntry) (answer : AnswerFile) (e : LogEntry) (es : List LogEntry)
    → (t : IsTrue log answer) → IsAnswer answer → answer.entries ≡ e ∷ es → cause_after files nothing_before t.before answer.first e ≡ None → e.time < period.from
    → late_fact answer period ≡ None
digest_in_time files period log answer e es t a is right early =
    let state = state_after nothing_before t.before in
    let body = checkpoint_body state.tally state.rows in
    let kind = first_kind answer body e es answer.first a.start t.body is in
    let same : e.content ≡ sha256 body =
    right_digest files state.tally state.rows answer.first e.time e.kind e.content
    (ap (cause_in files state.tally state.rows answer.first e.time e.kind) (sym (checkpoint_read e kind.0 kind.1)) ∙ right) in
    ap (λ (b : Option (List ℕ)). late_of period b answer.entries) t.body
    ∙ ap (late_of period (Some body)) is ∙ none_late period body e early same
