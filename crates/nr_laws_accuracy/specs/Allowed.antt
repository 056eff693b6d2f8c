-- Logs of which every entry is allowed, and the leaves that their COMMITs name.
use Rattle.std.specs.Prelude.{ℕ, ◌+◌, ◌++◌, ◌≡◌, [], ◌∷◌, List, None, Option, length}
use Rattle.std.specs.List.{filter_map}
use Rattle.nr_spec_log.specs.Chain.{LogEntry}
use Rattle.nr_spec_entry.specs.ContentReading.{content_of}
use Rattle.nr_spec_routes.specs.Rows.{rows_after}
use Rattle.nr_spec_counts.specs.declared.cause.Cause.{Cause}
use Rattle.nr_spec_counts.specs.Tallies.{Numbers}
use Rattle.nr_spec_report.specs.Wrong.{Base, cause_after, nothing_before}
use Rattle.nr_spec_steps.specs.Heads.{leaf_in}
use Rattle.nr_spec_steps.specs.Steps.{known}

-- why the entry of a log that stands after these is wrong, by the numbers of the audited promise files
abbrev pub cause_in_log : List Numbers → List LogEntry → LogEntry → Option Cause
cause_in_log files past e = cause_after files nothing_before past (1 + length past) e

-- none of the entries that stand after others is wrong
abbrev pub AreAllowedAfter : List Numbers → List LogEntry → List LogEntry → Type 0
AreAllowedAfter files past [] = Unit {0}
AreAllowedAfter files past (e ∷ later) =
    (cause_in_log files past e ≡ None) × AreAllowedAfter files (past ++ e ∷ []) later

-- every entry of a log is allowed for its own promise file
abbrev pub IsAllowed : Numbers → List LogEntry → Type 0
IsAllowed own log = AreAllowedAfter (own ∷ []) [] log

-- the leaves that the COMMITs of a log name, in order
abbrev pub leaves_of : List LogEntry → List ℕ
leaves_of log = filter_map (λ e. leaf_in (content_of e)) log

-- the state that a log leaves, as what stands before the entries that follow
abbrev pub state_after : List LogEntry → Base
state_after past = record { rows = rows_after [] past; tally = known past }
