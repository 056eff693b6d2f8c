use Rattle.std.proofs.Common.{length, ◌≤◌, ℕ, subst, sym, List}
use Rattle.nr_spec_steps.specs.Steps.{known}
use Rattle.nr_events.specs.Views.{event_of}
use Rattle.nr_recorder.proofs.book.Book.heads.Goals as goal
use Rattle.nr_recorder.proofs.Passing.{few_heads}

pub returns-clause-few : goal.returns-clause-few
returns-clause-few c =
    subst (λ (heads : List ℕ). length heads ≤ 512) (sym (c.in_ok-heads.ensures (known c.args.self.now) c.counts.ensures))
    (few_heads (known c.args.self.now) c.args.now (event_of c.args.event.now))
