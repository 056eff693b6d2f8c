-- The ranges of what a network answers from.
use Rattle.std.specs.Prelude.{◌<◌, ◌≤◌, ◌^◌, List, length}
use Rattle.nr_spec_log.specs.Chain.{LogEntry}
use Rattle.nr_spec_log.specs.Answer.{AreEntriesFrom}
use Rattle.nr_spec_history.specs.KeyFiles.{Key}

-- The AS has four bytes, and the height is that of a tree.
pub record HasRanges (key : Key) : Type 0 where
  pub asn : key.asn < 2 ^ 32
  pub least : 1 ≤ key.height
  pub most : key.height ≤ 16

-- Its entries fit, their times don't run back, and they are no more than an answer may have.
pub record IsLog (log : List LogEntry) : Type 0 where
  pub entries : AreEntriesFrom 0 log
  pub few : length log < 2 ^ 32
