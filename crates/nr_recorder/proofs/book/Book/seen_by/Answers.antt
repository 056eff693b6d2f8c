use Rattle.nr_recorder.proofs.book.Book.seen_by.Goals as goal
use Rattle.nr_recorder.proofs.Shown.{seen_fit}

pub returns-clause-fit : goal.returns-clause-fit
returns-clause-fit c = seen_fit c.args.neighbour c.self.inside.log c.args.from c.args.to c.in_ok-items.items c.self.invariant.fit c.in_ok-items.ensures
