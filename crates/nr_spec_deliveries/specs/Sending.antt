-- The frame that a recorder makes of its log for a neighbour.
use Rattle.std.specs.Prelude.{ℕ, ◌+◌, ◌-◌, ◌≡◌, ◌≤◌, List, None, Option, Some, drop, map, slice_get, take, true, unwrap_or, option_map}
use Rattle.nr_spec_log.specs.Chain.{LogEntry, value_after}
use Rattle.nr_spec_history.specs.KeyFiles.{Key}
use Rattle.nr_spec_entry.specs.ContentReading.{content_of}
use Rattle.nr_spec_counts.specs.Tallies.{is_commit_to}
use Rattle.nr_spec_steps.specs.Heads.{head_of, log_chain}
use Rattle.nr_spec_frames.specs.Frames.{Frame}
use Rattle.nr_spec_frames.specs.Showing.{seen_by}

-- the root of a neighbour's key, and the number that the neighbour uses for this session
pub record PeerKey : Type 0 where
  pub root : List ℕ
  pub number : ℕ

-- a neighbour of the own promise file: its AS, and its key where it is known
pub record Peer : Type 0 where
  pub asn : ℕ
  pub key : Option PeerKey

-- the AS of a neighbour, by its number
abbrev pub as_of : List Peer → ℕ → ℕ
as_of peers n = unwrap_or (option_map (λ (p : Peer). p.asn) (slice_get peers n)) 0

-- Entry k of a log, counted from 1, is a COMMIT to neighbour n.
pub record CommitsAt (n : ℕ) (log : List LogEntry) (k : ℕ) : Type 0 where
  pub start : 1 ≤ k
  pub entry : LogEntry
  pub place : slice_get log (k - 1) ≡ Some entry
  pub commits : is_commit_to n (content_of entry) ≡ true

-- The frame that shows neighbour n, whose AS is `to_as`, the entries after + 1 to k of a log. Entry k is a COMMIT to it,
-- and the frame has the head that this COMMIT signs.
unfoldable pub frame_for : Key → (to_as n : ℕ) → List LogEntry → (after k : ℕ) → Frame
frame_for key to_as n log after k = record {
  from_as = key.asn;
  to_as = to_as;
  number = n;
  first = after + 1;
  prev = value_after (log_chain key.asn) (take after log);
  items = map (seen_by n) (drop after (take k log));
  auth = head_of key (take k log);
}
