-- What the frames of a recorder show.
use Rattle.std.proofs.Common.{◌≡◌, ℕ, ◌<◌, ◌≤◌, List, length, take, refl}
use Rattle.std.proofs.lemmas.List.{length-take-le}
use Rattle.nr_spec_log.specs.Chain.{LogEntry, value_after}
use Rattle.nr_spec_history.specs.KeyFiles.{Key}
use Rattle.nr_spec_frames.specs.Showing.{Shows}
use Rattle.nr_spec_steps.specs.Heads.{head_of, log_chain}
use Rattle.nr_spec_deliveries.specs.Sending.{frame_for}

pub shows : (key : Key) (to_as n : ℕ) (log : List LogEntry) (after k : ℕ) → after < k → k ≤ length log → Shows n log after k (frame_for key to_as n log after k)
unfolding frame_for
shows key to_as n log after k less within = record { some = less; within = within; first = refl; items = refl }

pub signed : (key : Key) (to_as n : ℕ) (log : List LogEntry) (after k : ℕ) → k ≤ length log
    → ((frame_for key to_as n log after k).auth.seq ≡ k) × ((frame_for key to_as n log after k).auth.hash ≡ value_after (log_chain key.asn) (take k log))
unfolding frame_for head_of
signed key to_as n log after k within = (length-take-le k log within, refl)
