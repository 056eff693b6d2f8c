use Rattle.std.proofs.Common.{◌≡◌}
use Rattle.nr_attrs.proofs.NumberWalk.{last_or}
use Rattle.nr_attrs.proofs.numbers.Numbers.last.Given as goal

abbrev pub invariant-loop-n : goal.invariant-loop-n
invariant-loop-n l = last_or l.last l.self ≡ last_or 0 l.initial.self
