use Rattle.std.proofs.Common.{◌∙◌, ap, sym, subst}
use Rattle.std.specs.Prelude.{get_or}
use Rattle.nr_tables.specs.Shared.{named_rows, AreCounted, Shared}
use Rattle.nr_tables.proofs.Named.{all_named, renamed_counted, renamed_rows}
use Rattle.nr_tables.proofs.shared.SharedRows.settle.Goals as goal

pub invariant_of-self-2 : goal.invariant_of-self-2
invariant_of-self-2 c =
    subst (AreCounted c.renew.new.self.numbers) (sym c.rename.ensures)
    (renamed_counted c.self.inside.blocks.numbers c.renew.new.self.numbers c.self.inside.rows.entries (λ place. get_or c.in_ok-names.names.items place 0) c.self.invariant
    (λ i used. (c.in_ok-names.ensures.names i used).1) c.in_ok-names.ensures.apart c.in_ok-names.ensures.all)

pub returns : goal.returns
returns c =
    ap (named_rows c.renew.new.self.blocks) c.rename.ensures
    ∙ renamed_rows c.self.inside.blocks.blocks c.renew.new.self.blocks c.self.inside.blocks.numbers (λ place. get_or c.in_ok-names.names.items place 0) c.self.inside.rows.entries
    (all_named c.self.inside.blocks.numbers c.self.inside.rows.entries c.self.invariant) (λ i used. (c.in_ok-names.ensures.names i used).0)
    ∙ ap (λ (s : Shared). s.rows) c.self.view_is
