use Rattle.std.proofs.Common.{subst, sym}
use Rattle.nr_spec_log.specs.Answer.{AreEntriesFrom}
use Rattle.nr_log_commands.proofs.Answered.{fits_first}
use Rattle.nr_log_commands.proofs.answering.first_entries.Goals as goal

pub returns-then-left-eq0-clause-fit : goal.returns-then-left-eq0-clause-fit
returns-then-left-eq0-clause-fit c =
    fits_first 0 _ _ (subst (AreEntriesFrom 0) (sym c.loop-entry.invariant.split) (subst (AreEntriesFrom 0) c.entries-entry-items.ensures.value c.entries-entry-items.ensures.fit))
