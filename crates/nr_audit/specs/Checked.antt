-- What is checked of the entries so far.
use Rattle.std.specs.Prelude.{if◌then◌else◌, ◌≡◌, ◌*◌, ℕ, List, None, Option, map}
use Rattle.nr_spec_log.specs.Chain.{LogEntry}
use Rattle.nr_spec_history.specs.Conflicts.{Period}
use Rattle.nr_spec_routes.specs.Keys.{Row}
use Rattle.nr_spec_counts.specs.declared.cause.Cause.{Cause}
use Rattle.nr_spec_counts.specs.Tallies.{Numbers, Tally, tally_after}
use Rattle.nr_spec_counts.specs.Causes.{cause_of}
use Rattle.nr_spec_report.specs.Wrong.{Base, is_within, wrong_entries}
use Rattle.nr_spec_truth.specs.Truths.{Truth}
use Rattle.nr_spec_promises.specs.Files.{PromiseFile}
use Rattle.nr_spec_promises.specs.Counted.{most_promises}
use Rattle.nr_discipline.specs.Kept.{IsKeptOf}
use Rattle.nr_judging.specs.Asked.{prefixes_asked}
use Rattle.nr_judging.specs.Seen.{stages_seen}
use Rattle.nr_judging.specs.Follows.{Follows as Judged}
use Rattle.nr_audit.specs.declared.checked.Checked.{Checked}
use Rattle.nr_audit.specs.Views.{wrong_of}

-- the cause of an entry within the period
abbrev pub cause_within : Period → List Numbers → Tally → List Row → ℕ → LogEntry → Option Cause
cause_within period files t rows seq e = if is_within period e.time then cause_of files t rows seq e else None

-- It is what the base and these entries leave, with the wrong ones among these. The digest is that of the first PROMISE
-- of all entries.
pub record Follows (files : List Numbers) (promises : List PromiseFile) (truth : Truth) (base : Base) (period : Period)
    (opening : Option (List ℕ)) (first : ℕ) (past : List LogEntry) (c : Checked) : Type 0 where
  pub judged : Judged promises truth period base opening past c.judging
  pub kept : IsKeptOf (tally_after base.tally past) c.counts
  pub wrong : map wrong_of c.wrong.items ≡ wrong_entries files base period first past

-- how often a judge was asked by then, at most
abbrev pub asked_by : List PromiseFile → Base → Option (List ℕ) → Period → List LogEntry → ℕ
asked_by promises base opening period past =
    most_promises promises * prefixes_asked (stages_seen promises base opening period past)
