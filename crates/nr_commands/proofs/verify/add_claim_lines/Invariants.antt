use Rattle.std.proofs.Common.{◌≡◌, ◌++◌, drop}
use Rattle.std.specs.List.{flat_map}
use Rattle.std.specs.String.{string_bytes}
use Rattle.nr_spec_program.specs.Verifying.{claim_line}
use Rattle.nr_commands.proofs.verify.add_claim_lines.Given as goal

-- The lines so far and those of the claims that are left are those of all.
abbrev pub invariant-loop-is_true : goal.invariant-loop-is_true
invariant-loop-is_true l =
    string_bytes l.text ++ flat_map claim_line (drop l.is_true-index l.claims)
    ≡ string_bytes l.fn.text ++ flat_map claim_line l.claims
