use Rattle.nr_verify_counts.proofs.counts.Counts.lowest_overdue.Goals as goal
use Rattle.std.proofs.Common.{sym, ◌∙◌, arith}
use Rattle.nr_spec_counts.specs.Causes.{is_overdue, lowest_overdue}
use Rattle.nr_verify_counts.proofs.Lowest.{found_here, found_nowhere, from_start, passed_over}

pub loop-n-init : goal.loop-n-init
loop-n-init c = λ t kept. from_start 256 (is_overdue t c.args.time t.in_force)

pub loop-n-preserved : goal.loop-n-preserved
loop-n-preserved c = λ t kept. passed_over 256 (is_overdue t c.args.time t.in_force) c.loop-n.n (lowest_overdue t c.args.time) (omega arith) (sym (c.is_overdue.ensures t kept) ∙ c.if-is_overdue.false) (c.loop-n.invariant t kept)

pub returns-then-is_overdue : goal.returns-then-is_overdue
returns-then-is_overdue c = λ t kept. found_here 256 (is_overdue t c.args.time t.in_force) c.loop-n.n (lowest_overdue t c.args.time) (omega arith) (sym (c.is_overdue.ensures t kept) ∙ c.if-is_overdue.true) (c.loop-n.invariant t kept)

pub returns : goal.returns
returns c = λ t kept. found_nowhere 256 (is_overdue t c.args.time t.in_force) c.loop-n.n (lowest_overdue t c.args.time) (omega arith) (c.loop-n.invariant t kept)
