use Rattle.std.proofs.Common.{List, drop, subst, sym, take}
use Rattle.nr_spec_log.specs.Chain.{LogEntry}
use Rattle.nr_spec_log.specs.Answer.{AreEntriesFrom, last_time}
use Rattle.nr_recorder.proofs.book.Book.log_from.Goals as goal
use Rattle.nr_recorder.proofs.Booking.{fit_from}

pub returns-clause-fit : goal.returns-clause-fit
returns-clause-fit c =
    subst (λ (l : List LogEntry). AreEntriesFrom (last_time 0 (take c.args.at c.args.self.now)) l) (sym c.in_ok-entries.ensures)
    (subst (λ (l : List LogEntry). AreEntriesFrom (last_time 0 (take c.args.at l)) (drop c.args.at c.self.inside.log)) c.self.view_is
    (fit_from c.args.at 0 c.self.inside.log c.self.invariant.fit))
