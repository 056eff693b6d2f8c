-- What a recorder appends to its log for one event.
use Rattle.std.specs.Prelude.{if◌then◌else◌, ℕ, ◌&&◌, ◌+◌, ◌++◌, ◌||◌, [], ◌∷◌, Bool, Err, List, None, Ok, Option, Result, Some, false, filter, is_some, length, max, nat_lt, not}
use Rattle.std.specs.List.{range_with_len}
use Rattle.std.specs.Str.{bytes_eq}
use Rattle.sha2.specs.Sha256.{sha256}
use Rattle.nr_spec_log.specs.Chain.{LogEntry}
use Rattle.nr_spec_entry.specs.Contents.{Checkpoint, Commit, Content, Promise, Recv, Send, State, auditor, content_bytes, kind_of, most_neighbours}
use Rattle.nr_spec_routes.specs.Rows.{rows_after}
use Rattle.nr_spec_counts.specs.Tallies.{Numbers, Tally, nothing_yet, tally_after}
use Rattle.nr_spec_counts.specs.Causes.{is_declared, is_overdue}
use Rattle.nr_spec_counts.specs.Bodies.{checkpoint_body}
use Rattle.nr_spec_steps.specs.Events.{Begin, Close, Event, FrameCame, Heard, Said, StateChanged, is_close, time_of}

-- a recorder: its own promise, how many leaves its key has, and what it acknowledges of a frame behind a log
pub record Recorder : Type 0 where
  pub own : Numbers
  pub leaves : ℕ
  pub acknowledged : List LogEntry → List ℕ → Option Content

-- ---- what is known after a log

abbrev pub known : List LogEntry → Tally
known log = tally_after nothing_yet log

-- the digest of the checkpoint body of the state after a log
abbrev pub body_digest : List LogEntry → List ℕ
body_digest log = sha256 (checkpoint_body (known log) (rows_after [] log))

-- the time of what is appended: that of the event, and never before the last entry
abbrev pub moment : List LogEntry → ℕ → ℕ
moment log time = max (known log).last time

-- the promise in force is this one
abbrev pub is_in_force : Numbers → Option Numbers → Bool
is_in_force own None = false
is_in_force own (Some force) = bytes_eq force.digest own.digest

-- ---- to whom is committed

-- the numbers below a bound that pass, lowest first
unfoldable pub passing : ℕ → (ℕ → Bool) → List ℕ
passing bound test = filter test (range_with_len 0 bound)

abbrev pub neighbours_with : (ℕ → Bool) → List ℕ
neighbours_with test = passing most_neighbours test

-- a neighbour that is overdue at a time
abbrev pub is_due : Tally → ℕ → ℕ → Bool
is_due t time n = is_overdue t time t.in_force n

-- a neighbour that waits for a head, overdue or not
abbrev pub waits : Tally → ℕ → Bool
waits t n = is_declared t.in_force n && is_some (t.oldest n)

-- An event commits to all that are overdue, and at the end to all others that wait.
abbrev pub heads_for : Tally → ℕ → Event → List ℕ
heads_for t now (Close time) =
    neighbours_with (is_due t now) ++ neighbours_with (λ n. waits t n && not (is_due t now n))
heads_for t now event = neighbours_with (is_due t now)

-- ---- what is appended

abbrev pub made : ℕ → Content → LogEntry
made time content = record { time = time; kind = kind_of content; content = content_bytes content }

-- COMMITs to these, one behind another, with the next leaves
abbrev pub commits_to : ℕ → ℕ → List ℕ → List LogEntry
commits_to time leaf [] = []
commits_to time leaf (n ∷ others) = made time (Commit n leaf) ∷ commits_to time (leaf + 1) others

-- the one entry that an event is about, if it is about one: under the recorder's own promise nothing begins
abbrev pub told : Recorder → List LogEntry → Event → Option Content
told r log (Begin time) =
    if is_in_force r.own (known log).in_force then None else Some (Promise r.own.digest r.own.count r.own.delay)
told r log (Heard time n as4 raw) = Some (Recv n as4 raw)
told r log (Said time n as4 raw) = Some (Send n as4 raw)
told r log (StateChanged time n old new) = Some (State n old new)
told r log (FrameCame bytes) = r.acknowledged log bytes
told r log (Close time) = None

-- Nothing is appended where an event is about no entry, but at the end.
abbrev pub is_idle : Event → Option Content → Bool
is_idle event content = not (is_some content || is_close event)

abbrev pub entry_for : ℕ → Option Content → List LogEntry
entry_for now (Some content) = made now content ∷ []
entry_for now None = []

-- at the end a checkpoint of the state that the heads leave, and a head for the auditor
abbrev pub sealed : List LogEntry → ℕ → ℕ → Event → List LogEntry
sealed log now leaf (Close time) =
    made now (Checkpoint (body_digest log)) ∷ made now (Commit auditor leaf) ∷ []
sealed log now leaf event = []

-- what an event that isn't idle appends: the COMMITs that are due, its entry, and at the end the seal
unfoldable pub spoken : Recorder → List LogEntry → Event → List LogEntry
spoken r log event =
    let t = known log in
    let now = moment log (time_of event) in
    let heads = heads_for t now event in
    let committed = commits_to now t.commits heads in
    committed ++ (entry_for now (told r log event)
    ++ sealed (log ++ committed) now (t.commits + length heads) event)

abbrev pub appended : Recorder → List LogEntry → Event → List LogEntry
appended r log event = if is_idle event (told r log event) then [] else spoken r log event

-- ---- the key

-- how many leaves an event takes
abbrev pub leaves_for : Recorder → List LogEntry → Event → ℕ
leaves_for r log event =
    let heads = heads_for (known log) (moment log (time_of event)) event in
    if is_idle event (told r log event) then 0 else length heads + (if is_close event then 1 else 0)

-- how many COMMITs there were when the first without a leaf was due, and how many leaves the key has
pub record Spent : Type 0 where
  pub commits : ℕ
  pub leaves : ℕ

-- Some leaf that an event takes is one that the key doesn't have.
abbrev pub is_spent : ℕ → ℕ → ℕ → Bool
is_spent leaves before taken = nat_lt 0 taken && nat_lt leaves (before + taken)

-- the entries that an event appends, or the key is spent
unfoldable pub core_step : Recorder → List LogEntry → Event → Result (List LogEntry) Spent
core_step r log event =
    if is_spent r.leaves (known log).commits (leaves_for r log event)
    then Err (record { commits = max (known log).commits r.leaves; leaves = r.leaves })
    else Ok (appended r log event)
