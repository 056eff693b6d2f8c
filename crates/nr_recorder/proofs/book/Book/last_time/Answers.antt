use Rattle.std.proofs.Common.{◌∙◌}
use Rattle.nr_recorder.proofs.book.Book.last_time.Goals as goal
use Rattle.nr_recorder.proofs.Booking.{last_known}

pub returns-clause-last : goal.returns-clause-last
returns-clause-last c = c.last_time.ensures ∙ (c.counts.ensures.last ∙ last_known c.args.self.now)
