-- What is known after entries besides the routes, by looking back over them.
use Rattle.std.specs.Prelude.{if◌then◌else◌, ℕ, ◌+◌, ◌==◌, Bool, List, None, Option, Some, false, true, unwrap_or}
use Rattle.std.specs.List.{count_by}
use Rattle.nr_spec_log.specs.Chain.{LogEntry}
use Rattle.nr_spec_entry.specs.Contents.{Ack, Commit, Content, Promise, Recv, Send}
use Rattle.nr_spec_entry.specs.ContentReading.{content_of}
use Rattle.nr_spec_routes.specs.LookBack.{after_last, later_or, first_of, last_of}

-- a promise: the digest of its file, how many neighbours the file has, and its commit delay in seconds
pub record Numbers : Type 0 where
  pub digest : List ℕ
  pub count : ℕ
  pub delay : ℕ

-- what is known after an entry
pub record Tally : Type 0 where
  pub sends : ℕ → ℕ  -- how many messages were sent to a neighbour
  pub acked : ℕ → ℕ  -- how many of them it has acknowledged
  pub oldest : ℕ → Option ℕ  -- the time of the oldest message to or from it since the last COMMIT to it
  pub commits : ℕ  -- how many COMMITs there are
  pub in_force : Option Numbers  -- the promise in force
  pub last : ℕ  -- the time of the last entry

abbrev pub nothing_yet : Tally
nothing_yet = record { sends = λ n. 0; acked = λ n. 0; oldest = λ n. None; commits = 0; in_force = None; last = 0 }

-- ---- what one content is

abbrev pub is_send_to : ℕ → Option Content → Bool
is_send_to n (Some (Send neighbour as4 raw)) = neighbour == n
is_send_to n other = false

abbrev pub is_exchange_with : ℕ → Option Content → Bool
is_exchange_with n (Some (Send neighbour as4 raw)) = neighbour == n
is_exchange_with n (Some (Recv neighbour as4 raw)) = neighbour == n
is_exchange_with n other = false

abbrev pub is_commit_to : ℕ → Option Content → Bool
is_commit_to n (Some (Commit neighbour leaf)) = neighbour == n
is_commit_to n other = false

abbrev pub is_commit : Option Content → Bool
is_commit (Some (Commit neighbour leaf)) = true
is_commit other = false

abbrev pub ack_from : ℕ → Option Content → Option ℕ
ack_from n (Some (Ack neighbour upto seq time hash sig)) = if neighbour == n then Some upto else None
ack_from n other = None

abbrev pub promise_in : Option Content → Option Numbers
promise_in (Some (Promise file count delay)) = Some (record { digest = file; count = count; delay = delay })
promise_in other = None

-- ---- after entries

abbrev pub exchange_time : ℕ → LogEntry → Option ℕ
exchange_time n e = if is_exchange_with n (content_of e) then Some e.time else None

-- the oldest exchange after the last COMMIT; where there is no COMMIT, that of the base, or else the oldest of all
abbrev pub oldest_since : Option (List LogEntry) → Option ℕ → List LogEntry → ℕ → Option ℕ
oldest_since (Some later) base entries n = first_of (exchange_time n) later
oldest_since None base entries n = later_or base (first_of (exchange_time n) entries)

unfoldable pub tally_after : Tally → List LogEntry → Tally
tally_after base entries = record {
  sends = λ n. base.sends n + count_by (λ e. is_send_to n (content_of e)) entries;
  acked = λ n. unwrap_or (last_of (λ e. ack_from n (content_of e)) entries) (base.acked n);
  oldest = λ n. oldest_since (after_last (λ e. is_commit_to n (content_of e)) entries) (base.oldest n) entries n;
  commits = base.commits + count_by (λ e. is_commit (content_of e)) entries;
  in_force = later_or (last_of (λ e. promise_in (content_of e)) entries) base.in_force;
  last = unwrap_or (last_of (λ e. Some e.time) entries) base.last;
}
