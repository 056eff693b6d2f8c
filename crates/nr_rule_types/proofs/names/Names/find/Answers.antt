use Rattle.std.proofs.Common.{sym}
use Rattle.nr_rule_types.proofs.Placed.{find_none, find_missing, find_some}
use Rattle.nr_rule_types.proofs.names.Names.find.Goals as goal

pub returns-in_err-place : goal.returns-in_err-place
returns-in_err-place c =
    rw (c.from_residual.ensures, ← c.self.view_is) (sym (find_none c.self.inside.list c.args.word.now _ (c.self.invariant c.args.word.now) c.in_err-place.ensures.value))

pub returns-in_err-declared : goal.returns-in_err-declared
returns-in_err-declared c =
    rw (c.from_residual-in_err-declared.ensures, ← c.self.view_is)
    (sym (find_missing c.self.inside.list c.args.word.now _ c.in_ok-place.place.now (c.self.invariant c.args.word.now) c.in_ok-place.ensures.value c.in_err-declared.ensures.value))

pub returns : goal.returns
returns c =
    rw (← c.self.view_is)
    (sym (find_some c.self.inside.list c.args.word.now _ c.in_ok-place.place.now c.in_ok-declared.declared.now (c.self.invariant c.args.word.now) c.in_ok-place.ensures.value c.in_ok-declared.ensures.value))
