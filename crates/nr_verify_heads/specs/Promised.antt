-- The digest of an entry that is a PROMISE, by its time.
use Rattle.std.specs.Prelude.{if◌then◌else◌, ℕ, List, None, Option, nat_lt}
use Rattle.nr_spec_log.specs.Chain.{LogEntry}
use Rattle.nr_spec_history.specs.Conflicts.{Period}
use Rattle.nr_spec_report.specs.Wrong.{is_within}
use Rattle.nr_spec_promises.specs.Files.{promised}

-- where its time is before the period
abbrev pub promised_before : Period → LogEntry → Option (List ℕ)
promised_before period e = if nat_lt e.time period.from then promised e else None

-- where its time is in the period
abbrev pub promised_within : Period → LogEntry → Option (List ℕ)
promised_within period e = if is_within period e.time then promised e else None
