use Rattle.std.proofs.Common.{List, subst, sym}
use Rattle.nr_spec_log.specs.Chain.{LogEntry}
use Rattle.nr_spec_log.specs.Answer.{AreEntriesFrom}
use Rattle.nr_recorder.proofs.book.Book.log_to.Goals as goal
use Rattle.nr_recorder.proofs.Booking.{fit_to}

pub returns-clause-fit : goal.returns-clause-fit
returns-clause-fit c =
    subst (λ (l : List LogEntry). AreEntriesFrom 0 l) (sym c.in_ok-entries.ensures) (fit_to c.args.count 0 c.self.inside.log c.self.invariant.fit)
