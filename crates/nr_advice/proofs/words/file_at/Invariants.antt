use Rattle.std.proofs.Common.{◌≡◌, length, map, true, false}
use Rattle.std.specs.String.{string_bytes}
use Rattle.nr_advice.specs.Words.{file_in}
use Rattle.nr_advice.proofs.words.file_at.Given as goal

abbrev pub invariant-loop-first : goal.invariant-loop-first
invariant-loop-first l = file_in l.passed l.files l.left (map string_bytes l.rest) ≡ file_in true false l.number (map string_bytes l.words)

abbrev pub decreases-loop-first : goal.decreases-loop-first
decreases-loop-first l = length l.rest
