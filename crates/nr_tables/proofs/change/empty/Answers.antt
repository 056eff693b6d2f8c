use Rattle.std.proofs.Common.{◌||◌, ap, ◌∙◌}
use Rattle.nr_spec_bgp.specs.Prefixes.{Cidr}
use Rattle.nr_tables.proofs.change.empty.Goals as goal
use Rattle.nr_spec_routes.specs.Keys.{is_named, prefixes_in}
use Rattle.nr_spec_routes.proofs.Once.{only_once}
use Rattle.nr_spec_routes.specs.Touched.{rows_with}
use Rattle.nr_tables.proofs.Removed.{or_none}

pub returns-clause-touched : goal.returns-clause-touched
returns-clause-touched c =
    c.in_ok-list.ensures.same ∙ only_once c.empty.new.gathered (prefixes_in (rows_with c.args.neighbour c.args.table.now.rows)) c.list.ensures.order (λ (p : Cidr).
    c.in_ok-empty.ensures.named p ∙ ap (λ l. is_named (prefixes_in (rows_with c.args.neighbour c.args.table.now.rows)) p || is_named l p) c.new-gathered.ensures
    ∙ or_none (is_named (prefixes_in (rows_with c.args.neighbour c.args.table.now.rows)) p))
