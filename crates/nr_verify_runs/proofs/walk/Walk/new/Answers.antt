use Rattle.nr_verify_runs.proofs.walk.Walk.new.Goals as goal
use Rattle.std.proofs.Common.{[], List, ap, sym, subst, ◌∙◌}
use Rattle.nr_verify_routes.specs.Held.{Held, held}
use Rattle.nr_verify_runs.specs.Walked.{Watch, Watched}
use Rattle.nr_verify_runs.proofs.Files.{file_none}
use Rattle.nr_verify_runs.proofs.Watching.{nothing_yet}

pub returns-clause-walked : goal.returns-clause-walked
returns-clause-walked c charge h = record {
  routes = λ d n. ap (λ (rows : List Held). held rows d n) c.new.ensures;
  file = h ∙ sym (file_none charge.files charge.first);
  before = λ e. (tt, subst (λ (w : Watch). Watched [] w) (sym c.new-2.ensures) (nothing_yet (record { begin = c.args.begin; end = c.args.end })));
  within = λ e. absurd (cc);
}
