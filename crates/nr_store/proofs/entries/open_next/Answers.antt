use Rattle.std.proofs.Common.{◌≡◌, ◌-◌, ℕ, ◌||◌, eqb, false, true, refl, sym, ap, ◌∙◌, arith}
use Rattle.std.proofs.lemmas.Bool.{ne_eqb}
use Rattle.nr_spec_wire.specs.Reading.{Spot, number_at, rows}
use Rattle.nr_spec_store.specs.LogFile.{is_open}
use Rattle.nr_store.specs.Walks.{left_at}
use Rattle.nr_store.proofs.Left.{spent_by, left-empty, left-short, left-closed, left-opens, left-torn, part_some, no_fault}
use Rattle.nr_store.proofs.entries.open_next.Goals as goal

pub unreachable-requires : goal.unreachable-requires
unreachable-requires c = no_fault _ _ c.requires.read (left-empty c.args.left.now.last c.args.left.now.count c.args.left.now.part c.args.left.now.fuel c.args.left.now.beyond (spent_by c.args.left.now.count c.args.left.now.part (ap (λ (k : ℕ). eqb c.args.left.now.count 0 || eqb k 0) (sym c.left.ensures) ∙ sym c.is_spent.ensures ∙ c.if-not-is_spent.false)) c.if-left-eq0.true)

pub unreachable-requires-in-Err : goal.unreachable-requires-in-Err
unreachable-requires-in-Err c =
    let short = ap (λ (s : Spot). number_at 1 s) (sym c.fork-ahead.ensures.same) ∙ c.in-Err.ensures.value.0 in
    no_fault _ _ c.requires.read (left-short c.args.left.now.last c.args.left.now.count c.args.left.now.part c.args.left.now.fuel c.args.left.now.beyond _ (spent_by c.args.left.now.count c.args.left.now.part (ap (λ (k : ℕ). eqb c.args.left.now.count 0 || eqb k 0) (sym c.left.ensures) ∙ sym c.is_spent.ensures ∙ c.if-not-is_spent.false)) c.if-left-eq0.false short)

pub returns-then-gate-ne-OPEN-clause-none : goal.returns-then-gate-ne-OPEN-clause-none
returns-then-gate-ne-OPEN-clause-none c = λ is.
    let closed : is_open c.in-Ok.gate ≡ false = ne_eqb _ _ c.if-gate-ne-OPEN.true in
    (refl, ap rows (left-closed c.args.left.now.last c.args.left.now.count c.args.left.now.part c.args.left.now.fuel c.args.left.now.beyond c.in-Ok.gate c.read_u8.new.self (spent_by c.args.left.now.count c.args.left.now.part (ap (λ (k : ℕ). eqb c.args.left.now.count 0 || eqb k 0) (sym c.left.ensures) ∙ sym c.is_spent.ensures ∙ c.if-not-is_spent.false)) c.if-left-eq0.false (ap (λ (s : Spot). number_at 1 s) (sym c.fork-ahead.ensures.same) ∙ c.in-Ok.ensures.value) closed))

pub unreachable-requires-in-Err-read_part : goal.unreachable-requires-in-Err-read_part
unreachable-requires-in-Err-read_part c =
    let opens : is_open c.in-Ok.gate ≡ true = ap is_open c.if-gate-ne-OPEN.false in
    no_fault _ _ c.requires.read (left-torn c.args.left.now.last c.args.left.now.count c.args.left.now.part c.args.left.now.fuel c.args.left.now.beyond c.read_u8.new.self c.in-Ok.gate _ (spent_by c.args.left.now.count c.args.left.now.part (ap (λ (k : ℕ). eqb c.args.left.now.count 0 || eqb k 0) (sym c.left.ensures) ∙ sym c.is_spent.ensures ∙ c.if-not-is_spent.false)) c.if-left-eq0.false (ap (λ (s : Spot). number_at 1 s) (sym c.fork-ahead.ensures.same) ∙ c.in-Ok.ensures.value) opens c.in-Err-read_part.ensures.value)

pub returns-clause-more : goal.returns-clause-more
returns-clause-more c = λ is.
    let opens : is_open c.in-Ok.gate ≡ true = ap is_open c.if-gate-ne-OPEN.false in
    let some = part_some c.read_u8.new.self c.in-Ok-read_part.part c.read_part.new.cursor c.in-Ok-read_part.ensures.value in (
      λ none. absurd (omega (arith, some, c.left-left.ensures, none)),
      λ none. absurd (omega (arith, some, none)),
      ap (λ (k : ℕ). left_at c.args.left.now.last k c.in-Ok-read_part.part (c.args.left.now.fuel - 1) c.read_part.new.cursor) c.left-left.ensures
          ∙ sym (left-opens c.args.left.now.last c.args.left.now.count c.args.left.now.part c.args.left.now.fuel c.args.left.now.beyond c.read_u8.new.self c.in-Ok.gate c.in-Ok-read_part.part c.read_part.new.cursor (spent_by c.args.left.now.count c.args.left.now.part (ap (λ (k : ℕ). eqb c.args.left.now.count 0 || eqb k 0) (sym c.left.ensures) ∙ sym c.is_spent.ensures ∙ c.if-not-is_spent.false)) c.if-left-eq0.false (ap (λ (s : Spot). number_at 1 s) (sym c.fork-ahead.ensures.same) ∙ c.in-Ok.ensures.value) opens c.in-Ok-read_part.ensures.value),
    )
