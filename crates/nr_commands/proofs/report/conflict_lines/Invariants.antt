use Rattle.std.proofs.Common.{◌≡◌, ◌++◌, drop}
use Rattle.std.specs.List.{flat_map}
use Rattle.std.specs.String.{string_bytes}
use Rattle.nr_spec_history.specs.Lines.{conflict_line}
use Rattle.nr_audit.specs.Views.{marked}
use Rattle.nr_commands.proofs.report.conflict_lines.Given as goal

-- The lines so far and those of the authenticators that are left are those of all.
abbrev pub invariant-loop-mark : goal.invariant-loop-mark
invariant-loop-mark l =
    string_bytes l.text ++ flat_map conflict_line (marked l.left (drop l.mark-index l.marks))
    ≡ flat_map conflict_line (marked l.auths l.marks)
