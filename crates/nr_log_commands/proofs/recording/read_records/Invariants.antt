use Rattle.std.proofs.Common.{◌+◌, drop, map}
use Rattle.nr_log_commands.proofs.FilePlans.{Leads}
use Rattle.nr_log_commands.proofs.recording.read_records.Given as goal

abbrev pub invariant-loop-i : goal.invariant-loop-i
invariant-loop-i g l =
    Leads l.fn.recording l.recording (map (λ s. s.now) l.names) (l.i + 1) (map (λ s. s.now) (drop l.i l.names)) (g.F.Files.disk l.fn.files) (g.F.Files.disk l.files)
