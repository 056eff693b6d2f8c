use Rattle.std.proofs.Common.{◌||◌, ◌++◌, ap, sym, ◌∙◌}
use Rattle.nr_spec_bgp.specs.Prefixes.{Cidr}
use Rattle.nr_tables.proofs.change.named.Goals as goal
use Rattle.nr_spec_routes.specs.Keys.{is_named}
use Rattle.nr_spec_routes.proofs.Once.{named_append, only_once}
use Rattle.nr_tables.proofs.Removed.{turned}

pub returns : goal.returns
returns c =
    c.in_ok-list.ensures.same ∙ only_once c.add_all-2.new.self (c.args.withdrawn ++ c.args.announced) c.list.ensures.order (λ (p : Cidr).
    c.in_ok-add_all-2.ensures p
    ∙ ap (λ t. is_named c.args.announced p || t) (c.in_ok-add_all.ensures p ∙ ap (λ l. is_named c.args.withdrawn p || is_named l p) c.new-gathered.ensures)
    ∙ turned (is_named c.args.announced p) (is_named c.args.withdrawn p) ∙ sym (named_append c.args.withdrawn c.args.announced p))
