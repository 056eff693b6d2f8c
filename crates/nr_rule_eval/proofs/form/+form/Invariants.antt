use Rattle.std.proofs.Common.{◌≡◌, true, false, take}
use Rattle.std.specs.List.{list_all, list_any}
use Rattle.nr_spec_typing.specs.Meaning.{holds_where, of_neighbour}
use Rattle.nr_rule_eval.specs.Variables.{things_of}
use Rattle.nr_rule_eval.proofs.form.+form.Given as goal

abbrev pub invariant-all_hold-loop-member : goal.invariant-all_hold-loop-member
invariant-all_hold-loop-member g l = record {
  same : l.variables ≡ l.initial.variables;
  held : list_all (λ member. holds_where l.neighbours (g.S.Scene.seen l.scene) member (things_of (g.S.Scene.seen l.scene) l.initial.variables)) (take l.member-index l.members) ≡ true;
}

abbrev pub invariant-one_holds-loop-member : goal.invariant-one_holds-loop-member
invariant-one_holds-loop-member g l = record {
  same : l.variables ≡ l.initial.variables;
  held : list_any (λ member. holds_where l.neighbours (g.S.Scene.seen l.scene) member (things_of (g.S.Scene.seen l.scene) l.initial.variables)) (take l.member-index l.members) ≡ false;
}

abbrev pub invariant-holds_for_all-loop-n : goal.invariant-holds_for_all-loop-n
invariant-holds_for_all-loop-n g l = record {
  same : l.variables ≡ l.initial.variables;
  held : list_all (of_neighbour (holds_where l.neighbours (g.S.Scene.seen l.scene) l.form) (things_of (g.S.Scene.seen l.scene) l.initial.variables)) (take l.n-index l.group) ≡ true;
}

abbrev pub invariant-holds_for_one-loop-n : goal.invariant-holds_for_one-loop-n
invariant-holds_for_one-loop-n g l = record {
  same : l.variables ≡ l.initial.variables;
  held : list_any (of_neighbour (holds_where l.neighbours (g.S.Scene.seen l.scene) l.form) (things_of (g.S.Scene.seen l.scene) l.initial.variables)) (take l.n-index l.group) ≡ false;
}
