use Rattle.std.proofs.Common.{◌≡◌, ◌+◌, ◌-◌, length, subst, arith}
use Rattle.std.specs.List.{IsDistinct}
use Rattle.std.specs.Map.{keys_of}
use Rattle.nr_tables.specs.Shared.{same_block, unnamed, Pool}
use Rattle.nr_tables.proofs.Stock.{distinct_kept, numbers_count, unused_most}
use Rattle.nr_tables.proofs.blocks.Blocks.in_use.Goals as goal

pub overflow_sub-result : goal.overflow_sub-result
overflow_sub-result c =
    let most = unused_most c.self.inside.places.entries c.self.inside.unused c.self.invariant.unused in
    let len = c.len.ensures.len in
    omega (arith, most, len)

pub returns-clause-value : goal.returns-clause-value
returns-clause-value c =
    subst (λ (p : Pool). c.len.result - c.self.inside.unused + unnamed p.numbers ≡ length p.numbers) c.self.view_is
    (let most = unused_most c.self.inside.places.entries c.self.inside.unused c.self.invariant.unused in
    let counted = c.self.invariant.unused in
    let size = numbers_count c.self.inside.places.entries in
    let len = c.len.ensures.len in
    omega (arith, most, counted, size, len))

pub returns-clause-distinct : goal.returns-clause-distinct
returns-clause-distinct c = subst (λ (p : Pool). IsDistinct same_block p.blocks) c.self.view_is (distinct_kept (keys_of c.self.inside.places.entries) c.len.ensures.unique)
