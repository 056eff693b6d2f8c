use Rattle.std.proofs.Common.{◌≡◌, ◌+◌}
use Rattle.nr_spec_bgp.specs.Paths.{path_len}
use Rattle.nr_attrs.proofs.segments.Segments.path_len.Given as goal

abbrev pub invariant-loop-segment : goal.invariant-loop-segment
invariant-loop-segment l = l.len + path_len l.self ≡ path_len l.initial.self
