use Rattle.std.proofs.Common.{◌≡◌, ◌==◌, ℕ, ◌+◌, ◌<◌, cond, sym, subst, ◌∙◌, arith}
use Rattle.std.specs.Map.{values_of}
use Rattle.std.proofs.lemmas.Option.{get_or_from_slice_get}
use Rattle.nr_tables.specs.Shared.{number_at, unnamed, Pool}
use Rattle.nr_tables.proofs.Stock.{not_one, one_less, others_left, pool_set, unused_most}
use Rattle.nr_tables.proofs.blocks.Blocks.leave.Goals as goal

pub overflow_add-self : goal.overflow_add-self
overflow_add-self c =
    let most = unused_most c.self.inside.places.entries c.self.inside.unused c.self.invariant.unused in
    let len = c.len.ensures.len in
    let small = c.len.ensures.small in
    omega (arith, most, len, small)

pub invariant_of-self-else-number-eq1 : goal.invariant_of-self-else-number-eq1
invariant_of-self-else-number-eq1 c =
    pool_set c.self.inside.places.entries c.set_number.new.places.entries c.self.inside.unused c.self.inside.unused c.set_number.ensures.keys c.self.invariant
    (c.self.invariant.unused ∙ sym (others_left _ c.index-number.result.now (unnamed (values_of c.set_number.new.places.entries)) (unnamed (values_of c.self.inside.places.entries))
    (get_or_from_slice_get (values_of c.self.inside.places.entries) c.args.place _ 0 c.index-number.ensures)
    (subst (λ (p : Pool). 0 < number_at p.numbers c.args.place) (sym c.self.view_is) c.requires)
    c.set_number.ensures.unnamed (not_one c.index-number.result.now c.if-number-eq1.false)))

pub returns-then-number-eq1-clause-numbers : goal.returns-then-number-eq1-clause-numbers
returns-then-number-eq1-clause-numbers c =
    subst (λ (p : Pool). (i : ℕ) → number_at (values_of c.set_number.new.places.entries) i + cond (i == c.args.place) 1 0 ≡ number_at p.numbers i) c.self.view_is
    (λ i. one_less (values_of c.self.inside.places.entries) i c.args.place c.index-number.result.now (number_at (values_of c.set_number.new.places.entries) i)
    (subst (λ (p : Pool). 0 < number_at p.numbers c.args.place) (sym c.self.view_is) c.requires)
    (get_or_from_slice_get (values_of c.self.inside.places.entries) c.args.place _ 0 c.index-number.ensures) (c.set_number.ensures.numbers i))

pub returns-else-number-eq1-clause-numbers : goal.returns-else-number-eq1-clause-numbers
returns-else-number-eq1-clause-numbers c =
    subst (λ (p : Pool). (i : ℕ) → number_at (values_of c.set_number.new.places.entries) i + cond (i == c.args.place) 1 0 ≡ number_at p.numbers i) c.self.view_is
    (λ i. one_less (values_of c.self.inside.places.entries) i c.args.place c.index-number.result.now (number_at (values_of c.set_number.new.places.entries) i)
    (subst (λ (p : Pool). 0 < number_at p.numbers c.args.place) (sym c.self.view_is) c.requires)
    (get_or_from_slice_get (values_of c.self.inside.places.entries) c.args.place _ 0 c.index-number.ensures) (c.set_number.ensures.numbers i))
