use Rattle.std.proofs.Common.{◌<◌, ◌^◌, length, sym, subst}
use Rattle.nr_tables.proofs.block.Block.attrs.Goals as goal
use Rattle.nr_spec_bgp.specs.Attributes.{AttributeBlock}
use Rattle.nr_tables.proofs.ReadAgain.{read_err, read_ok}

pub unreachable-requires : goal.unreachable-requires
unreachable-requires c = read_err _ _ _ _ c.requires.reads (rw c.deref.ensures.value at c.in-Err.ensures)

pub returns-clause-same : goal.returns-clause-same
returns-clause-same c = read_ok _ _ _ _ c.requires.reads (rw c.deref.ensures.value at c.in-Ok.ensures)

pub returns-clause-short : goal.returns-clause-short
returns-clause-short c =
    subst (λ (a : AttributeBlock). length a.block < 2 ^ 16) (sym (read_ok _ _ _ _ c.requires.reads (rw c.deref.ensures.value at c.in-Ok.ensures))) c.requires.short
