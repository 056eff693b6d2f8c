use Rattle.std.proofs.Common.{◌≡◌, ◌++◌, replicate}
use Rattle.nr_advice.proofs.page.Page.blanks.Given as goal

abbrev pub invariant-loop-i : goal.invariant-loop-i
invariant-loop-i l = l.self ≡ l.fn.self ++ replicate l.i 32
