use Rattle.nr_verify_routes.proofs.place.is_named.Given as goal
use Rattle.nr_spec_routes.specs.Keys.{is_named}
use Rattle.std.proofs.Common.{◌≡◌}

abbrev pub invariant-loop-p : goal.invariant-loop-p
invariant-loop-p l = record {
  callable : (goal.iterator-loop-p).can_next l.p-iterator;
  finite : (goal.iterator-loop-p).is_finite l.p-iterator;
  left : is_named l.p-iterator l.prefix ≡ is_named l.fn.prefixes l.prefix;
}
