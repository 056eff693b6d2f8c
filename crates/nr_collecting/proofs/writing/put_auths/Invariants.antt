use Rattle.std.proofs.Common.{◌≡◌, ◌++◌, drop, map}
use Rattle.std.specs.List.{flat_map}
use Rattle.nr_answer.specs.Views.{auth_of}
use Rattle.nr_spec_log.specs.Authenticator.{authenticator}
use Rattle.nr_collecting.proofs.writing.put_auths.Given as goal

-- What is there so far, joined with what is made of the rest, is what is made of all.
abbrev pub invariant-loop-i : goal.invariant-loop-i
invariant-loop-i l = l.out.items ++ flat_map authenticator (drop l.i (map auth_of l.auths)) ≡ l.fn.out.items ++ flat_map authenticator (map auth_of l.auths)
