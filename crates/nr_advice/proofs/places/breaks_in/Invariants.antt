use Rattle.std.proofs.Common.{◌≡◌, ◌≤◌, take}
use Rattle.std.specs.List.{count_by}
use Rattle.nr_advice.specs.Places.{is_break}
use Rattle.nr_advice.proofs.places.breaks_in.Given as goal

abbrev pub invariant-loop-byte : goal.invariant-loop-byte
invariant-loop-byte l = (l.count ≡ count_by is_break (take l.byte-index l.bytes)) × (l.count ≤ l.byte-index)
