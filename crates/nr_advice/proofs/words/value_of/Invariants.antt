use Rattle.std.proofs.Common.{◌≡◌, length, map}
use Rattle.std.specs.String.{string_bytes}
use Rattle.nr_advice.specs.Words.{value_in}
use Rattle.nr_advice.proofs.words.value_of.Given as goal

abbrev pub invariant-loop-first : goal.invariant-loop-first
invariant-loop-first l = value_in l.name (map string_bytes l.rest) ≡ value_in l.name (map string_bytes l.words)

abbrev pub decreases-loop-first : goal.decreases-loop-first
decreases-loop-first l = length l.rest
