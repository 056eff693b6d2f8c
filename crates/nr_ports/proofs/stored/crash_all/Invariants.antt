use Rattle.nr_ports.proofs.Crashes.{Crashing}
use Rattle.nr_ports.proofs.stored.crash_all.Given as goal

abbrev pub invariant-loop-i : goal.invariant-loop-i
invariant-loop-i l = Crashing l.i l.fn.files.items l.files.items l.turn l.fill l.extra
