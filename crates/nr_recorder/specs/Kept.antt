-- What a recorder keeps.
use Rattle.std.specs.Prelude.{ℕ, zero, suc, ◌++◌, ◌^◌, List, None, Option, slice_get}
use Rattle.nr_spec_log.specs.Chain.{LogEntry}
use Rattle.nr_spec_entry.specs.Contents.{Content}
use Rattle.nr_spec_history.specs.KeyFiles.{Key}
use Rattle.nr_spec_counts.specs.Tallies.{Numbers}
use Rattle.nr_spec_steps.specs.Steps.{Recorder}
use Rattle.nr_spec_deliveries.specs.Sending.{Peer}

pub record Kept : Type 0 where
  pub own : Numbers  -- of its own promise file
  pub peers : List Peer  -- the neighbours of that file
  pub key : Key
  pub log : List LogEntry

-- the recorder that keeps it, by what it acknowledges of frames
abbrev pub recorder_of : (List LogEntry → List ℕ → Option Content) → Kept → Recorder
recorder_of acknowledged core = record { own = core.own; leaves = 2 ^ core.key.height; acknowledged = acknowledged }

-- entries more
abbrev pub with_entries : Kept → List LogEntry → Kept
with_entries core batch = record { own = core.own; peers = core.peers; key = core.key; log = core.log ++ batch }

-- the entry of a number, counted from 1
abbrev pub entry_number : ℕ → List LogEntry → Option LogEntry
entry_number zero log = None
entry_number (suc n) log = slice_get log n
