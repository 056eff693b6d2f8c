-- An answer that a network gives from a checkpoint on is an answer, where its body is as short as the format asks.
use Rattle.std.proofs.Common.{◌≡◌, ℕ, zero, suc, ◌+◌, ◌≤◌, true, List, [], ◌∷◌, length, take, drop, Option, Some, None, refl, sym, ap, subst, ◌∙◌, arith}
use Rattle.std.specs.List.{AllByRecursion}
use Rattle.nr_spec_wire.specs.Reading.{IsBytes}
use Rattle.nr_spec_log.specs.Chain.{Chain, LogEntry, chained, genesis_value, link_value, shown, value_after}
use Rattle.nr_spec_log.specs.Authenticator.{digest_size}
use Rattle.nr_spec_log.specs.Answer.{AnswerFile, AreEntriesFrom, IsAnswer, IsCheckpointFirst, StartsAt, checkpoint_kind, last_time, most_body}
use Rattle.nr_spec_keys.proofs.LeafLemmas.{length-sha256}
use Rattle.nr_spec_history.specs.KeyFiles.{Key}
use Rattle.nr_spec_entry.specs.Contents.{Ack, Checkpoint, Commit, Content, Promise, Recv, Send, State}
use Rattle.nr_spec_entry.specs.ContentReading.{content_of}
use Rattle.nr_spec_report.specs.Wrong.{nothing_before}
use Rattle.nr_spec_steps.specs.Heads.{answer_from_first, log_chain}
use Rattle.nr_spec_bodies.specs.Bases.{body_of, state_after}
use Rattle.nr_spec_slices.specs.Slices.{IsLog}
use Rattle.nr_spec_starts.specs.Starts.{answer_behind, begins_with_checkpoint, is_checkpoint}
use Rattle.nr_laws_entry.proofs.Found.{content_found}

-- ---- the previous value

length-value_after : (chain : Chain) (es : List LogEntry) → length chain.value ≡ 32 → length (value_after chain es) ≡ 32
unfolding link_value
length-value_after chain [] size = size
length-value_after chain (e ∷ es) size = length-value_after (chained chain (shown e)) es (length-sha256 _)

length-genesis_value : (asn : ℕ) → length (genesis_value asn) ≡ 32
unfolding genesis_value
length-genesis_value asn = length-sha256 _

-- ---- the entries

-- the content of a checkpoint
digest_long : (e : LogEntry) (c : Content) → IsBytes e.content → content_of e ≡ Some c → is_checkpoint (Some c) ≡ true → (e.kind ≡ checkpoint_kind) × (length e.content ≡ digest_size)
digest_long e (Checkpoint body) bytes is h =
    let found = content_found e.kind e.content (Checkpoint body) bytes is in
    (found.0, ap length found.1 ∙ found.2)
digest_long e (Send n as4 raw) bytes is h = absurd cc
digest_long e (Recv n as4 raw) bytes is h = absurd cc
digest_long e (State n old new) bytes is h = absurd cc
digest_long e (Ack n upto seq time hash sig) bytes is h = absurd cc
digest_long e (Commit n leaf) bytes is h = absurd cc
digest_long e (Promise file count delay) bytes is h = absurd cc

checkpoint_first : (es : List LogEntry) → AllByRecursion (λ e. IsBytes e.content) es → begins_with_checkpoint es ≡ true → IsCheckpointFirst es
checkpoint_first [] bytes h = tt
checkpoint_first (e ∷ es) bytes h = by (content_of e) refl h
  where
    by : (o : Option Content) → content_of e ≡ o → is_checkpoint o ≡ true → (e.kind ≡ checkpoint_kind) × (length e.content ≡ digest_size)
    by None is k = absurd cc
    by (Some c) is k = digest_long e c bytes.0 is k

bytes_behind : (n : ℕ) (es : List LogEntry) → AllByRecursion (λ e. IsBytes e.content) es → AllByRecursion (λ e. IsBytes e.content) (drop n es)
bytes_behind zero es bytes = bytes
bytes_behind (suc n) [] bytes = tt
bytes_behind (suc n) (e ∷ es) bytes = bytes_behind n es bytes.1

fit_lower : (last : ℕ) (es : List LogEntry) → AreEntriesFrom last es → AreEntriesFrom 0 es
fit_lower last [] fits = tt
fit_lower last (e ∷ es) fits = (fits.0, omega arith, fits.2)

fit_behind : (last n : ℕ) (es : List LogEntry) → AreEntriesFrom last es → AreEntriesFrom 0 (drop n es)
fit_behind last zero es fits = fit_lower last es fits
fit_behind last (suc n) [] fits = tt
fit_behind last (suc n) (e ∷ es) fits = fit_behind e.time n es fits.2

some_behind : (es : List LogEntry) → begins_with_checkpoint es ≡ true → 1 ≤ length es
some_behind [] h = absurd cc
some_behind (e ∷ es) h = omega arith

last_lower : (last other : ℕ) (es : List LogEntry) → begins_with_checkpoint es ≡ true → last_time last es ≡ last_time other es
last_lower last other [] h = absurd cc
last_lower last other (e ∷ es) h = refl

last_behind : (last n : ℕ) (es : List LogEntry) → begins_with_checkpoint (drop n es) ≡ true → last_time 0 (drop n es) ≡ last_time last es
last_behind last zero es h = last_lower 0 last es h
last_behind last (suc n) [] h = absurd cc
last_behind last (suc n) (e ∷ es) h = last_behind e.time n es h

long_behind : (n : ℕ) (es : List LogEntry) → begins_with_checkpoint (drop n es) ≡ true → length es ≡ n + length (drop n es)
long_behind zero es h = omega arith
long_behind (suc n) [] h = absurd cc
long_behind (suc n) (e ∷ es) h = let rest = long_behind n es h in omega (arith, rest)

-- ---- the answer

starts_behind : (n first : ℕ) (answer : AnswerFile) → first ≡ suc (suc n) → (body : List ℕ) → answer.body ≡ Some body → length body ≤ most_body → IsCheckpointFirst answer.entries → StartsAt first answer
starts_behind n first answer is body some small begins = subst (λ (k : ℕ). StartsAt k answer) (sym is) (body, some, small, begins)

pub behind_fits : (key : Key) (n : ℕ) (log : List LogEntry) → IsAnswer (answer_from_first key log) → IsLog log → begins_with_checkpoint (drop (suc n) log) ≡ true
    → length (body_of (state_after nothing_before (take (suc n) log))) ≤ most_body → IsAnswer (answer_behind key (suc n) log)
behind_fits key n log a log_is begins small =
    let long = long_behind (suc n) log begins in
    let some = some_behind (drop (suc n) log) begins in
    let most = a.most in
    let seq = a.head_seq in
    let second : suc n + 1 ≡ suc (suc n) = omega arith in
    record {
      asn = a.asn;
      first = omega (arith, long, some, most);
      prev = length-value_after (log_chain key.asn) (take (suc n) log) (length-genesis_value key.asn);
      start = starts_behind n (suc n + 1) (answer_behind key (suc n) log) second (body_of (state_after nothing_before (take (suc n) log))) refl small (checkpoint_first (drop (suc n) log) (bytes_behind (suc n) log log_is.bytes) begins);
      least = some;
      most = omega (arith, long, most);
      entries = fit_behind 0 (suc n) log log_is.entries;
      head = a.head;
      head_asn = a.head_asn;
      head_seq = omega (arith, seq, long);
      head_time = a.head_time ∙ sym (last_behind 0 (suc n) log begins);
    }
