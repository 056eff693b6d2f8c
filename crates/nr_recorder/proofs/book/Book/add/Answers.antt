use Rattle.nr_recorder.proofs.book.Book.add.Goals as goal
use Rattle.nr_recorder.proofs.Booking.{last_added}

pub returns-clause-last : goal.returns-clause-last
returns-clause-last c = last_added c.append.result c.args.self c.new.result c.args.time (λ i. (c.new.ensures i).time) c.append.ensures
