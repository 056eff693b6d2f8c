use Rattle.nr_ports.proofs.Crashes.{Scrambles}
use Rattle.nr_ports.proofs.file.scramble.Given as goal

abbrev pub invariant-loop-i : goal.invariant-loop-i
invariant-loop-i l = Scrambles l.fn.bytes.items l.bytes.items l.fill l.least l.written l.i l.next l.turn
