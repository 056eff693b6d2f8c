-- How far a walk over the entries of an answer has come.
use Rattle.std.specs.Prelude.{◌≡◌, ◌≤◌, ◌+◌, ◌++◌, ℕ, List, length}
use Rattle.nr_spec_log.specs.Authenticator.{Authenticator}
use Rattle.nr_spec_log.specs.Chain.{LogEntry}
use Rattle.nr_spec_log.specs.Answer.{AnswerFile}
use Rattle.nr_spec_history.specs.Conflicts.{Period, answer_links, answer_value}
use Rattle.nr_spec_counts.specs.Tallies.{Numbers}
use Rattle.nr_spec_truth.specs.Truths.{Truth}
use Rattle.nr_spec_report.specs.Wrong.{Base}
use Rattle.nr_spec_promises.specs.Files.{PromiseFile, first_promised}
use Rattle.nr_judging.specs.Times.{NeverBack}
use Rattle.nr_audit.specs.declared.walk.Walked.{Walked}
use Rattle.nr_audit.specs.Links.{Links}
use Rattle.nr_audit.specs.Checked.{Follows, asked_by}
use Rattle.nr_audit.specs.Force.{seen_after}

-- The entries so far and those that are left are all, and their times never run back; each part is what the entries so
-- far leave, and a judge was asked no more often since the count was this.
pub record Walks (files : List Numbers) (promises : List PromiseFile) (truth : Truth) (base : Base)
    (period : Period) (answer : AnswerFile) (auths : List Authenticator) (before steps : ℕ) (rest : List LogEntry) (w : Walked)
    : Type 0 where
  pub past : List LogEntry
  pub all : past ++ rest ≡ answer.entries
  pub order : NeverBack 0 answer.entries
  pub number : w.links.walk.seq ≡ answer.first + length past
  pub links : Links auths (answer_links answer) (answer_value answer) rest w.links
  pub checked : Follows files promises truth base period (first_promised answer.entries) answer.first past
      w.checked
  pub force : w.force ≡ seen_after files base period past
  pub counted : steps ≤ before + asked_by promises base (first_promised answer.entries) period past
