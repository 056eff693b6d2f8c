-- The answer of a whole log.
use Rattle.std.proofs.Common.{◌≡◌, ◌↔◌, ℕ, zero, suc, ◌^◌, ◌<◌, ◌≤◌, List, [], ◌∷◌, length, take, Some, None, refl, ap, sym, subst, ◌∙◌, arith}
use Rattle.std.specs.Prelude.{option_map}
use Rattle.std.proofs.lemmas.List.{length-append, length-take-le}
use Rattle.std.proofs.lemmas.Nat.{mod_below, pow_pos}
use Rattle.nr_spec_log.specs.Chain.{Chain, LogEntry, chained, genesis_value, link_value, shown, value_after}
use Rattle.nr_spec_log.specs.Authenticator.{IsAuthenticator}
use Rattle.nr_spec_log.specs.Answer.{AnswerFile, AreEntriesFrom, IsAnswer, last_time}
use Rattle.nr_spec_keys.proofs.LeafLemmas.{length-sha256}
use Rattle.nr_spec_keys.proofs.TreeLemmas.{signature_by-fits}
use Rattle.nr_spec_history.specs.KeyFiles.{Key}
use Rattle.nr_spec_entry.specs.Contents.{auditor}
use Rattle.nr_spec_steps.specs.Heads.{answer_from_first, head_body, head_of, last_commit, last_leaf, log_chain, whole_answer}
use Rattle.nr_laws_answers.specs.Commits.{HasNoCommit, IsLastCommit}
use Rattle.nr_laws_answers.specs.Ranges.{HasRanges, IsLog}
use Rattle.nr_laws_answers.proofs.Looking.{Found, found, last_found, last_of_found, mapped, no_commit, none_found, unmapped}

-- ---- the number with which it ends

pub none_answered : (key : Key) (log : List LogEntry) → (whole_answer key log ≡ None) ↔ HasNoCommit auditor log
unfolding whole_answer
none_answered key log =
    let answered : ℕ → AnswerFile = λ k. answer_from_first key (take k log) in (
      λ is. no_commit auditor log (unmapped answered (last_commit auditor log) is),
      λ none. ap (λ o. option_map answered o) (none_found auditor log none),
    )

pub answered : (key : Key) (log : List LogEntry) (seq leaf : ℕ) → IsLastCommit auditor log seq leaf → whole_answer key log ≡ Some (answer_from_first key (take seq log))
unfolding whole_answer
answered key log seq leaf last = ap (λ o. option_map (λ k. answer_from_first key (take k log)) o) (last_found auditor log seq leaf last)

-- what an answer is made of
pub record Made (key : Key) (log : List LogEntry) (answer : AnswerFile) : Type 0 where
  pub seq : ℕ
  pub at : Found auditor log seq
  pub is : answer_from_first key (take seq log) ≡ answer

pub made : (key : Key) (log : List LogEntry) (answer : AnswerFile) → whole_answer key log ≡ Some answer → Made key log answer
unfolding whole_answer
made key log answer is =
    let m = mapped (λ (k : ℕ). answer_from_first key (take k log)) (last_commit auditor log) answer is in
    record { seq = m.0; at = found auditor log m.0 m.1; is = m.2 }

pub entries_answered : (key : Key) (log : List LogEntry) (answer : AnswerFile) → whole_answer key log ≡ Some answer
    → (seq : ℕ) × (leaf : ℕ) × IsLastCommit auditor log seq leaf × (answer.entries ≡ take seq log)
entries_answered key log answer is =
    let m = made key log answer is in
    (m.seq, m.at.at.leaf, last_of_found auditor log m.seq m.at, ap (λ (a : AnswerFile). a.entries) (sym m.is))

-- ---- it is an answer

take_fits : (last n : ℕ) (es : List LogEntry) → AreEntriesFrom last es → AreEntriesFrom last (take n es)
take_fits last zero es fits = tt
take_fits last (suc n) [] fits = tt
take_fits last (suc n) (e ∷ es) fits = (fits.0, fits.1, take_fits e.time n es fits.2)

time_fits : (last : ℕ) (es : List LogEntry) → last < 2 ^ 64 → AreEntriesFrom last es → last_time last es < 2 ^ 64
time_fits last [] before fits = before
time_fits last (e ∷ es) before fits = time_fits e.time es fits.0.time fits.2

length-value_after : (chain : Chain) (es : List LogEntry) → length chain.value ≡ 32 → length (value_after chain es) ≡ 32
unfolding link_value
length-value_after chain [] size = size
length-value_after chain (e ∷ es) size = length-value_after (chained chain (shown e)) es (length-sha256 _)

length-genesis_value : (asn : ℕ) → length (genesis_value asn) ≡ 32
unfolding genesis_value
length-genesis_value asn = length-sha256 _

head_fits : (key : Key) (log : List LogEntry) → HasRanges key → IsLog log → IsAuthenticator (head_of key log)
unfolding head_of
head_fits key log ranges fits = record {
  asn = ranges.asn;
  seq = omega (arith, fits.few);
  time = time_fits 0 log (omega arith) fits.entries;
  hash = length-value_after (log_chain key.asn) log (length-genesis_value key.asn);
  sig = signature_by-fits key.seed (head_body key.asn (length log) (last_time 0 log) (value_after (log_chain key.asn) log))
      key.height (last_leaf key.height log) ranges.least ranges.most (mod_below _ (2 ^ key.height) (pow_pos key.height));
}

answer_fits : (key : Key) (log : List LogEntry) → HasRanges key → IsLog log → 1 ≤ length log → IsAnswer (answer_from_first key log)
unfolding head_of
answer_fits key log ranges fits some = record {
  asn = ranges.asn;
  first = omega arith;
  prev = length-genesis_value key.asn;
  start = (refl, refl);
  least = some;
  most = fits.few;
  entries = fits.entries;
  head = head_fits key log ranges fits;
  head_asn = refl;
  head_seq = omega arith;
  head_time = refl;
}

front_fits : (log : List LogEntry) (seq : ℕ) → seq ≤ length log → IsLog log → IsLog (take seq log)
front_fits log seq within fits = record {
  entries = take_fits 0 seq log fits.entries;
  few = omega (arith, length-take-le seq log within, within, fits.few);
}

pub within_log : (log : List LogEntry) (seq : ℕ) → Found auditor log seq → seq ≤ length log
within_log log seq f =
    let long = ap length f.at.is ∙ length-append f.at.before (f.at.entry ∷ f.later) in
    omega (arith, long, f.number)

pub whole_fits : (key : Key) (log : List LogEntry) (answer : AnswerFile) → HasRanges key → IsLog log → whole_answer key log ≡ Some answer → IsAnswer answer
whole_fits key log answer ranges fits is =
    let m = made key log answer is in
    let within = within_log log m.seq m.at in
    let long = length-take-le m.seq log within in
    let some : 1 ≤ length (take m.seq log) = omega (arith, long, m.at.number) in
    subst IsAnswer m.is (answer_fits key (take m.seq log) ranges (front_fits log m.seq within fits) some)
