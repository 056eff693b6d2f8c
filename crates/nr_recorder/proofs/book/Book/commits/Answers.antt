use Rattle.std.proofs.Common.{arith}
use Rattle.nr_recorder.proofs.book.Book.commits.Goals as goal
use Rattle.nr_recorder.proofs.Booking.{most_commits}

pub returns-clause-few : goal.returns-clause-few
returns-clause-few c = omega (arith, c.commits.ensures, c.counts.ensures.commits, most_commits c.args.self.now)
