-- The wrong entries of a period: each by the state that the base and the entries before it leave.
use Rattle.std.specs.Prelude.{if◌then◌else◌, ℕ, ◌&&◌, ◌+◌, [], ◌∷◌, ◌++◌, Bool, List, None, Option, Some, length, nat_le}
use Rattle.nr_spec_log.specs.Chain.{LogEntry}
use Rattle.nr_spec_history.specs.Conflicts.{Period}
use Rattle.nr_spec_routes.specs.Keys.{Row}
use Rattle.nr_spec_routes.specs.Rows.{rows_after}
use Rattle.nr_spec_counts.specs.declared.cause.Cause.{Cause}
use Rattle.nr_spec_counts.specs.Tallies.{Numbers, Tally, nothing_yet, tally_after}
use Rattle.nr_spec_counts.specs.Causes.{cause_of}

-- what stands before the first entry of a slice: the routes, and what is known besides
pub record Base : Type 0 where
  pub rows : List Row
  pub tally : Tally

-- before the first entry of a log nothing stands
abbrev pub nothing_before : Base
nothing_before = record { rows = []; tally = nothing_yet }

-- whether a time is in a period, both ends included
abbrev pub is_within : Period → ℕ → Bool
is_within period time = nat_le period.from time && nat_le time period.to

-- the cause of entry number seq, which stands after these entries, by the numbers of the audited promise files
abbrev pub cause_after : List Numbers → Base → List LogEntry → ℕ → LogEntry → Option Cause
cause_after files base past seq e = cause_of files (tally_after base.tally past) (rows_after base.rows past) seq e

pub record WrongEntry : Type 0 where
  pub seq : ℕ
  pub cause : Cause

abbrev pub wrong_by : ℕ → Option Cause → List WrongEntry
wrong_by seq None = []
wrong_by seq (Some cause) = record { seq = seq; cause = cause } ∷ []

-- the entry that stands after these, where it is wrong and its time is in the period
abbrev pub wrong_next : List Numbers → Base → Period → ℕ → List LogEntry → LogEntry → List WrongEntry
wrong_next files base period first past e =
    if is_within period e.time
    then wrong_by (first + length past) (cause_after files base past (first + length past) e) else []

-- the wrong ones of the entries that stand after others
abbrev pub wrong_after : List Numbers → Base → Period → ℕ → List LogEntry → List LogEntry → List WrongEntry
wrong_after files base period first past [] = []
wrong_after files base period first past (e ∷ later) =
    wrong_next files base period first past e ++ wrong_after files base period first (past ++ e ∷ []) later

-- The wrong entries of a slice, whose first entry has this number: those with a cause and a time in the period, in
-- order.
abbrev pub wrong_entries : List Numbers → Base → Period → ℕ → List LogEntry → List WrongEntry
wrong_entries files base period first entries = wrong_after files base period first [] entries
