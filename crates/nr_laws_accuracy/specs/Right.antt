-- What an entry is that is allowed, in the words of a reader.
use Rattle.std.specs.Prelude.{ℕ, ◌*◌, ◌+◌, ◌<◌, ◌≡◌, ◌≢◌, ◌≤◌, List, Option, Some, length}
use Rattle.nr_spec_log.specs.Chain.{LogEntry}
use Rattle.nr_spec_entry.specs.Contents.{Ack, Checkpoint, Commit, Content, Promise, Recv, Send, State, auditor, most_neighbours, promise_kind}
use Rattle.nr_spec_entry.specs.ContentReading.{content_of}
use Rattle.nr_spec_counts.specs.Tallies.{Numbers, Tally}
use Rattle.nr_spec_steps.specs.Steps.{body_digest, known}

-- the neighbour that a content names; the auditor is none
abbrev pub Names : Content → ℕ → Type 0
Names (Send n as4 raw) m = m ≡ n
Names (Recv n as4 raw) m = m ≡ n
Names (State n old new) m = m ≡ n
Names (Ack n upto seq time hash sig) m = m ≡ n
Names (Commit n leaf) m = (m ≡ n) × (n ≢ auditor)
Names (Checkpoint body) m = ⊥
Names (Promise file count delay) m = ⊥

-- a promise is in force, and the neighbour is below its count
pub record IsDeclared (in_force : Option Numbers) (n : ℕ) : Type 0 where
  pub force : Numbers
  pub is : in_force ≡ Some force
  pub below : n < force.count

-- it is declared, and its oldest message waits for longer than the commit delay in force
pub record IsOverdue (t : Tally) (time n : ℕ) : Type 0 where
  pub force : Numbers
  pub is : t.in_force ≡ Some force
  pub below : n < force.count
  pub since : ℕ
  pub waits : t.oldest n ≡ Some since
  pub late : since + force.delay * 1000000 < time

-- the content is a COMMIT to the neighbour
pub record IsCommitTo (content : Content) (n : ℕ) : Type 0 where
  pub leaf : ℕ
  pub is : content ≡ Commit n leaf

-- the content is the COMMIT to a neighbour that is overdue itself, and none that is overdue is lower than it
pub record CommitsLowest (t : Tally) (time : ℕ) (content : Content) (n : ℕ) : Type 0 where
  pub lowest : ℕ
  pub late : IsOverdue t time lowest
  pub commit : IsCommitTo content lowest
  pub least : lowest ≤ n

-- an entry that stands after others: one field for each cause
pub record IsRight (own : Numbers) (before : List LogEntry) (e : LogEntry) : Type 0 where
  -- its content is in the grammar of its kind
  pub content : Content
  pub read : content_of e ≡ Some content
  -- the first entry of a log is a PROMISE
  pub first : length before ≡ 0 → e.kind ≡ promise_kind
  -- a neighbour that it names is declared by the promise in force
  pub neighbour : (n : ℕ) → Names content n → IsDeclared (known before).in_force n
  -- an ACK isn't below the last one, nor above the number of messages sent
  pub ack : (n upto seq time : ℕ) (hash sig : List ℕ) → content ≡ Ack n upto seq time hash sig
      → ((known before).acked n ≤ upto) × (upto ≤ (known before).sends n)
  -- the leaf of a COMMIT is the number of COMMITs before it
  pub leaf : (n leaf : ℕ) → content ≡ Commit n leaf → leaf ≡ (known before).commits
  -- a CHECKPOINT has the digest of the body of the state before it
  pub checkpoint : (body : List ℕ) → content ≡ Checkpoint body → body ≡ body_digest before
  -- a PROMISE with the digest of the own file has its numbers
  pub numbers : (file : List ℕ) (count delay : ℕ) → content ≡ Promise file count delay → file ≡ own.digest
      → (count ≡ own.count) × (delay ≡ own.delay)
  -- where a neighbour is overdue, the entry is the COMMIT to the lowest that is
  pub overdue : (n : ℕ) → n < most_neighbours → IsOverdue (known before) e.time n
      → CommitsLowest (known before) e.time content n
