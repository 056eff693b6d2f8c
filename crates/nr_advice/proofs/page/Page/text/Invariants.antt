use Rattle.std.proofs.Common.{◌≡◌, ◌++◌, drop, map}
use Rattle.nr_advice.specs.Plain.{spoken}
use Rattle.nr_advice.proofs.page.Page.text.Given as goal

abbrev pub invariant-loop-byte : goal.invariant-loop-byte
invariant-loop-byte l = l.self ++ map spoken (drop l.byte-index l.text) ≡ l.fn.self ++ map spoken l.text
