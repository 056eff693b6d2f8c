use Rattle.std.proofs.Common.{◌≡◌, true, false, take}
use Rattle.std.specs.List.{list_all, list_any}
use Rattle.nr_spec_typing.specs.Meaning.{holds_where, of_neighbour}
use Rattle.nr_verify_eval.specs.Views.{scene_of}
use Rattle.nr_verify_eval.proofs.form.+form.Given as goal

abbrev pub invariant-all_hold-loop-member : goal.invariant-all_hold-loop-member
invariant-all_hold-loop-member l = record {
  same : l.things ≡ l.initial.things;
  held : list_all (λ member. holds_where l.neighbours (scene_of l.prefix l.routes) member l.initial.things) (take l.member-index l.members) ≡ true;
}

abbrev pub invariant-one_holds-loop-member : goal.invariant-one_holds-loop-member
invariant-one_holds-loop-member l = record {
  same : l.things ≡ l.initial.things;
  held : list_any (λ member. holds_where l.neighbours (scene_of l.prefix l.routes) member l.initial.things) (take l.member-index l.members) ≡ false;
}

abbrev pub invariant-holds_for_all-loop-n : goal.invariant-holds_for_all-loop-n
invariant-holds_for_all-loop-n l = record {
  same : l.things ≡ l.initial.things;
  held : list_all (of_neighbour (holds_where l.neighbours (scene_of l.prefix l.routes) l.form) l.initial.things) (take l.n-index l.group) ≡ true;
}

abbrev pub invariant-holds_for_one-loop-n : goal.invariant-holds_for_one-loop-n
invariant-holds_for_one-loop-n l = record {
  same : l.things ≡ l.initial.things;
  held : list_any (of_neighbour (holds_where l.neighbours (scene_of l.prefix l.routes) l.form) l.initial.things) (take l.n-index l.group) ≡ false;
}
