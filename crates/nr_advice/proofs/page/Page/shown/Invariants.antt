use Rattle.std.proofs.Common.{◌≡◌, ◌++◌, drop, map}
use Rattle.nr_advice.specs.Plain.{shown}
use Rattle.nr_advice.proofs.page.Page.shown.Given as goal

abbrev pub invariant-loop-byte : goal.invariant-loop-byte
invariant-loop-byte l = l.self ++ map shown (drop l.byte-index l.bytes) ≡ l.fn.self ++ map shown l.bytes
