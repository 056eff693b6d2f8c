use Rattle.std.proofs.Common.{◌||◌, ap, sym, ◌∙◌}
use Rattle.nr_spec_bgp.specs.Prefixes.{Cidr}
use Rattle.nr_tables.proofs.table.empty_rows.Goals as goal
use Rattle.nr_spec_routes.specs.Keys.{is_named}
use Rattle.nr_tables.proofs.Removed.{none_held, none_with}

pub returns-clause-named : goal.returns-clause-named
returns-clause-named c = λ (p : Cidr).
    ap (λ t. t || is_named c.loop-key.gathered p) (sym (none_with c.args.neighbour c.loop-key.rows.rows p (none_held c.args.neighbour c.loop-key.rows.rows c.loop-key.places c.loop-key.invariant.held c.in_default.ensures)))
    ∙ c.loop-key.invariant.named p
