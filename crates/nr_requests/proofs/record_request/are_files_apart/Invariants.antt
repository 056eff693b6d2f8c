use Rattle.std.proofs.Common.{◌≡◌, drop, map}
use Rattle.nr_spec_commands.specs.Words.{are_apart}
use Rattle.nr_requests.proofs.record_request.are_files_apart.Given as goal

abbrev pub invariant-loop-i : goal.invariant-loop-i
invariant-loop-i l = are_apart (map (λ s. s.now) (drop l.i l.files)) ≡ are_apart (map (λ s. s.now) l.files)
