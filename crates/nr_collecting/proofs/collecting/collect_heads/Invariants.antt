use Rattle.std.proofs.Common.{◌≡◌, ◌++◌, map}
use Rattle.nr_answer.specs.Views.{auth_of}
use Rattle.nr_spec_collecting.specs.Collecting.{heads_from}
use Rattle.nr_collecting.proofs.collecting.collect_heads.Given as goal

-- Those so far, and those of the rest, are those of all.
abbrev pub invariant-loop-bytes : goal.invariant-loop-bytes
invariant-loop-bytes l = map auth_of l.heads ++ heads_from l.asn l.bytes-iterator ≡ heads_from l.asn l.frames
