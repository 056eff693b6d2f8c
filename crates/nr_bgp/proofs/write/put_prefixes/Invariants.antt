use Rattle.std.proofs.Common.{◌≡◌, ◌++◌, take}
use Rattle.nr_spec_bgp.specs.Messages.{cidrs_bytes}
use Rattle.nr_bgp.proofs.write.put_prefixes.Given as goal

abbrev pub invariant-loop-p : goal.invariant-loop-p
invariant-loop-p l = l.out.items ≡ l.fn.out.items ++ cidrs_bytes (take l.p-index l.prefixes)
