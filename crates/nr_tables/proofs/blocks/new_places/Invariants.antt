use Rattle.std.proofs.Common.{◌≡◌, ◌++◌, ◌+◌, ◌≤◌, length}
use Rattle.std.specs.Map.{values_of}
use Rattle.nr_tables.specs.Shared.{renamed}
use Rattle.nr_tables.proofs.blocks.new_places.Given as goal

abbrev pub invariant-loop-number : goal.invariant-loop-number
invariant-loop-number l = record {
  names : l.names.items ++ renamed l.next l.number-iterator ≡ renamed 0 (values_of l.places.entries);
  fits : l.next + length l.number-iterator ≤ length l.places.entries;
}
