use Rattle.std.proofs.Common.{◌≡◌, ◌++◌, drop}
use Rattle.std.specs.Prelude.{map}
use Rattle.std.specs.List.{flat_map}
use Rattle.std.specs.String.{string_bytes}
use Rattle.nr_spec_outcome.specs.Lines.{wrong_line}
use Rattle.nr_audit.specs.Views.{wrong_of}
use Rattle.nr_commands.proofs.report.add_wrong_lines.Given as goal

-- The lines so far and those of the entries that are left are those of all.
abbrev pub invariant-loop-entry : goal.invariant-loop-entry
invariant-loop-entry l =
    string_bytes l.text ++ flat_map wrong_line (map wrong_of (drop l.entry-index l.wrong))
    ≡ string_bytes l.fn.text ++ flat_map wrong_line (map wrong_of l.wrong)
