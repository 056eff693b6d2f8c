use Rattle.std.proofs.Common.{◌≡◌, ℕ, ◌<◌, length, sym, subst, ◌∙◌, arith}
use Rattle.std.specs.Map.{values_of}
use Rattle.indexmap.proofs.CallerLemmas.{insert_entry-new}
use Rattle.nr_tables.specs.Shared.{block_at, number_at, Pool}
use Rattle.nr_tables.proofs.Stock.{blocks_of, found, new_block, none_some, old_block, old_number, pool_more, unused_most}
use Rattle.nr_tables.proofs.blocks.Blocks.place_of.Goals as goal

pub returns-in-Some-clause-place : goal.returns-in-Some-clause-place
returns-in-Some-clause-place c =
    subst (λ (p : Pool). (c.in-Some.place < length p.blocks) × (block_at p.blocks c.in-Some.place ≡ c.args.attrs.now)) c.self.view_is
    (found c.in_ok-block.block c.args.attrs.now c.self.inside.places.entries c.in-Some.place c.in_ok-block.ensures.same (sym c.in-Some.ensures.index))

pub overflow_add-self : goal.overflow_add-self
overflow_add-self c =
    let most = unused_most c.self.inside.places.entries c.self.inside.unused c.self.invariant.unused in
    let len = c.len-place.ensures.len in
    let small = c.len-place.ensures.small in
    omega (arith, most, len, small)

pub invariant_of-self-2 : goal.invariant_of-self-2
invariant_of-self-2 c =
    pool_more c.self.inside.places.entries c.insert.new.self.entries c.in_ok-block.block c.self.inside.unused
    (c.in_ok-insert.ensures.entries ∙ insert_entry-new _ c.self.inside.places c.in_ok-block.block 0 (none_some _ c.in_default.ensures.found)) c.self.invariant c.in_ok-block.ensures.stored

pub returns-clause-place : goal.returns-clause-place
returns-clause-place c =
    new_block c.self.inside.places.entries c.insert.new.self.entries c.in_ok-block.block c.args.attrs.now c.len-place.result
    (c.in_ok-insert.ensures.entries ∙ insert_entry-new _ c.self.inside.places c.in_ok-block.block 0 (none_some _ c.in_default.ensures.found)) c.in_ok-block.ensures.same c.len-place.ensures.len

pub returns-clause-blocks : goal.returns-clause-blocks
returns-clause-blocks c =
    subst (λ (p : Pool). (i : ℕ) → 0 < number_at p.numbers i → block_at (blocks_of c.insert.new.self.entries) i ≡ block_at p.blocks i) c.self.view_is
    (λ i h. old_block c.self.inside.places.entries c.insert.new.self.entries c.in_ok-block.block i
    (c.in_ok-insert.ensures.entries ∙ insert_entry-new _ c.self.inside.places c.in_ok-block.block 0 (none_some _ c.in_default.ensures.found)) h)

pub returns-clause-numbers : goal.returns-clause-numbers
returns-clause-numbers c =
    subst (λ (p : Pool). (i : ℕ) → number_at (values_of c.insert.new.self.entries) i ≡ number_at p.numbers i) c.self.view_is
    (λ i. old_number c.self.inside.places.entries c.insert.new.self.entries c.in_ok-block.block i
    (c.in_ok-insert.ensures.entries ∙ insert_entry-new _ c.self.inside.places c.in_ok-block.block 0 (none_some _ c.in_default.ensures.found)))
