-- Why an entry is wrong.
use Rattle.std.specs.Prelude.{if◌then◌else◌, ℕ, ◌&&◌, ◌*◌, ◌+◌, ◌==◌, ◌||◌, Bool, List, None, Option, Some, false, nat_lt, not}
use Rattle.std.specs.Str.{bytes_eq}
use Rattle.std.specs.List.{find, range_with_len}
use Rattle.sha2.specs.Sha256.{sha256}
use Rattle.nr_spec_log.specs.Chain.{LogEntry}
use Rattle.nr_spec_entry.specs.Contents.{Ack, Checkpoint, Commit, Content, Promise, Recv, Send, State, auditor, most_neighbours, promise_kind}
use Rattle.nr_spec_entry.specs.ContentReading.{content_of}
use Rattle.nr_spec_routes.specs.Keys.{Row}
use Rattle.nr_spec_counts.specs.declared.cause.Cause.{Cause}
use Rattle.nr_spec_counts.specs.declared.cause.Cause.TheVariants as causes
use Rattle.nr_spec_counts.specs.Tallies.{Numbers, Tally, is_commit_to}
use Rattle.nr_spec_counts.specs.Bodies.{checkpoint_body}

-- a neighbour is declared where it is below the count of the promise in force
abbrev pub is_declared : Option Numbers → ℕ → Bool
is_declared None n = false
is_declared (Some force) n = nat_lt n force.count

-- a content that names a neighbour which isn't declared; the auditor always is in a COMMIT
abbrev pub is_stranger : Option Numbers → Content → Bool
is_stranger force (Send n as4 raw) = not (is_declared force n)
is_stranger force (Recv n as4 raw) = not (is_declared force n)
is_stranger force (State n old new) = not (is_declared force n)
is_stranger force (Ack n upto seq time hash sig) = not (is_declared force n)
is_stranger force (Commit n leaf) = not (n == auditor || is_declared force n)
is_stranger force (Checkpoint body) = false
is_stranger force (Promise file count delay) = false

-- an ACK below the last one, or above the number of messages sent
abbrev pub is_wrong_ack : Tally → Content → Bool
is_wrong_ack t (Ack n upto seq time hash sig) = nat_lt upto (t.acked n) || nat_lt (t.sends n) upto
is_wrong_ack t other = false

-- a COMMIT whose leaf isn't the number of COMMITs before it
abbrev pub is_wrong_leaf : Tally → Content → Bool
is_wrong_leaf t (Commit n leaf) = not (leaf == t.commits)
is_wrong_leaf t other = false

-- a CHECKPOINT of another body than that of the state before it
abbrev pub is_wrong_checkpoint : Tally → List Row → Content → Bool
is_wrong_checkpoint t rows (Checkpoint body) = not (bytes_eq body (sha256 (checkpoint_body t rows)))
is_wrong_checkpoint t rows other = false

-- the first of promise files that has the digest
abbrev pub file_with : List ℕ → List Numbers → Option Numbers
file_with digest files = find (λ (f : Numbers). bytes_eq digest f.digest) files

-- a neighbour count and a commit delay that aren't the file's
abbrev pub are_other_numbers : ℕ → ℕ → Option Numbers → Bool
are_other_numbers count delay None = false
are_other_numbers count delay (Some file) = not (count == file.count && delay == file.delay)

-- a PROMISE with the digest of an audited promise file, and other numbers than the first file with that digest
abbrev pub is_wrong_promise : List Numbers → Content → Bool
is_wrong_promise files (Promise file count delay) = are_other_numbers count delay (file_with file files)
is_wrong_promise files other = false

-- a time is later than another by more than so many seconds
abbrev pub is_later_by : ℕ → ℕ → ℕ → Bool
is_later_by seconds time since = nat_lt (since + seconds * 1000000) time

-- a declared neighbour is overdue where its oldest message waits for longer than the commit delay
abbrev pub waits_too_long : ℕ → ℕ → Option ℕ → Bool
waits_too_long delay time None = false
waits_too_long delay time (Some since) = is_later_by delay time since

abbrev pub is_overdue : Tally → ℕ → Option Numbers → ℕ → Bool
is_overdue t time None n = false
is_overdue t time (Some force) n = nat_lt n force.count && waits_too_long force.delay time (t.oldest n)

-- the lowest number below a bound that passes
unfoldable pub lowest : ℕ → (ℕ → Bool) → Option ℕ
lowest bound test = find test (range_with_len 0 bound)

-- the lowest neighbour that is overdue at a time
abbrev pub lowest_overdue : Tally → ℕ → Option ℕ
lowest_overdue t time = lowest most_neighbours (is_overdue t time t.in_force)

-- some neighbour is overdue, and this isn't the COMMIT to the lowest of them
abbrev pub leaves_overdue : Option ℕ → Content → Bool
leaves_overdue None content = false
leaves_overdue (Some n) content = not (is_commit_to n (Some content))

-- The first cause that holds of a content, or of none where it isn't in the grammar of its kind.
unfoldable pub cause_in : List Numbers → Tally → List Row → ℕ → ℕ → ℕ → Option Content → Option Cause
cause_in files t rows seq time kind None = Some causes.Content
cause_in files t rows seq time kind (Some content) =
    if seq == 1 && not (kind == promise_kind) then Some causes.First else
    (if is_stranger t.in_force content then Some causes.Neighbour else
    (if is_wrong_ack t content then Some causes.Ack else
    (if is_wrong_leaf t content then Some causes.Leaf else
    (if is_wrong_checkpoint t rows content then Some causes.Checkpoint else
    (if is_wrong_promise files content then Some causes.Numbers else
    (if leaves_overdue (lowest_overdue t time) content then Some causes.Overdue else None))))))

-- why entry number seq is wrong, by the state before it and the numbers of the audited promise files
abbrev pub cause_of : List Numbers → Tally → List Row → ℕ → LogEntry → Option Cause
cause_of files t rows seq e = cause_in files t rows seq e.time e.kind (content_of e)

-- the number by which a cause is told
abbrev pub cause_number : Cause → ℕ
cause_number causes.Content = 1
cause_number causes.First = 2
cause_number causes.Neighbour = 3
cause_number causes.Ack = 4
cause_number causes.Leaf = 5
cause_number causes.Checkpoint = 6
cause_number causes.Numbers = 7
cause_number causes.Overdue = 8
