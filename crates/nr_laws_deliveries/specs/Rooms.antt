-- When what a recorder shows a neighbour has room in a frame.
use Rattle.std.specs.Prelude.{ℕ, ◌+◌, ◌<◌, ◌≤◌, ◌^◌, List, length}
use Rattle.nr_spec_log.specs.Chain.{LogEntry}
use Rattle.nr_spec_log.specs.Answer.{AreEntriesFrom, most_first}
use Rattle.nr_spec_history.specs.KeyFiles.{Key}
use Rattle.nr_spec_entry.specs.Contents.{most_neighbours}
use Rattle.nr_spec_frames.specs.Frames.{most_items}

-- A key of an AS and a height, an AS and a number of a neighbour, and a log whose entries fit; of these there are some
-- between the two numbers, no more than a frame has items, and the first has a number that a frame has room for.
pub record HasRoom (key : Key) (to_as n : ℕ) (log : List LogEntry) (after k : ℕ) : Type 0 where
  pub asn : key.asn < 2 ^ 32
  pub least : 1 ≤ key.height
  pub most : key.height ≤ 16
  pub to : to_as < 2 ^ 32
  pub neighbour : n < most_neighbours
  pub entries : AreEntriesFrom 0 log
  pub some : after < k
  pub within : k ≤ length log
  pub items : k ≤ after + most_items
  pub first : after + 1 ≤ most_first
