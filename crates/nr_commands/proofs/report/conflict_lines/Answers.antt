use Rattle.std.proofs.Common.{arith}
use Rattle.std.specs.String.{string_bytes}
use Rattle.nr_commands.proofs.ReportLemmas.{all_printed}
use Rattle.nr_commands.proofs.report.conflict_lines.Goals as goal

pub returns : goal.returns
returns c =
    all_printed (string_bytes c.loop-mark.text) c.loop-mark.left c.args.auths.now c.args.marks.now c.loop-mark.mark-index (omega (arith, c.loop-mark-test.false)) c.loop-mark.invariant
