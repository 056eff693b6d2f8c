use Rattle.std.proofs.Common.{◌≡◌, ◌≤◌, ◌-◌, ◌∷◌, ◌∙◌, arith, rules}
use Rattle.std.specs.Prelude.{map}
use Rattle.nr_chain.specs.Views.{entry_of}
use Rattle.nr_evidence.specs.Views.{period_of}
use Rattle.nr_spec_counts.specs.Tallies.{nothing_yet}
use Rattle.nr_spec_report.specs.Wrong.{nothing_before}
use Rattle.nr_verify_counts.specs.Views.{numbers_of}
use Rattle.nr_verify_wrong.specs.Passed.{Counted}
use Rattle.nr_verify_wrong.proofs.Passing.{counted_more, counted_none, kept_there, no_number, room_commits, room_sends, wrong_found, wrong_nowhere}
use Rattle.nr_verify_wrong.proofs.walk.is_wrong.Goals as goal

pub returns-then-seq-eq0 : goal.returns-then-seq-eq0
returns-then-seq-eq0 c = no_number (map numbers_of c.args.files.now) nothing_before (period_of c.args.period.now) c.args.entries c.args.seq c.args.cause (omega arith)

pub loop-entry-init : goal.loop-entry-init
loop-entry-init c = counted_none c.args.entries c.into_iter-entry-iterator.result (c.args.seq - 1) c.new-counts.result (search rules) c.new-counts.ensures

pub returns-then-left-eq0 : goal.returns-then-left-eq0
returns-then-left-eq0 c =
    let e = entry_of c.in-Some.entry in
    let k : Counted c.args.entries (e ∷ c.next.new.self) (c.args.seq - 1) c.loop-entry.left c.loop-entry.counts = rw c.in-Some.ensures.steps at c.loop-entry.invariant in
    let done : c.loop-entry.left ≡ 0 = omega arith in
    let there : 1 ≤ c.args.seq = omega arith in
    c.in_ok-found.ensures (kept_there c.args.entries (e ∷ c.next.new.self) (c.args.seq - 1) c.loop-entry.left c.loop-entry.counts done k)
    ∙ wrong_found (map numbers_of c.args.files.now) nothing_before (period_of c.args.period.now) c.args.entries c.next.new.self e c.args.seq c.args.cause c.loop-entry.left c.loop-entry.counts there done k

pub step-requires-clause-sends : goal.step-requires-clause-sends
step-requires-clause-sends c = room_sends c.args.entries c.loop-entry.entry-iterator (c.args.seq - 1) c.loop-entry.left c.loop-entry.counts c.loop-entry.invariant c.requires.few

pub step-requires-clause-commits : goal.step-requires-clause-commits
step-requires-clause-commits c = room_commits c.args.entries c.loop-entry.entry-iterator (c.args.seq - 1) c.loop-entry.left c.loop-entry.counts c.loop-entry.invariant c.requires.few

pub loop-entry-preserved : goal.loop-entry-preserved
loop-entry-preserved c =
    let e = entry_of c.in-Some.entry in
    let k : Counted c.args.entries (e ∷ c.next.new.self) (c.args.seq - 1) c.loop-entry.left c.loop-entry.counts = rw c.in-Some.ensures.steps at c.loop-entry.invariant in
    counted_more c.args.entries c.next.new.self e (c.args.seq - 1) c.loop-entry.left (c.loop-entry.left - 1) c.loop-entry.counts c.step.new.self (omega arith) k (c.step.ensures nothing_yet k.past k.kept)

pub returns : goal.returns
returns c =
    let there : 1 ≤ c.args.seq = omega arith in
    wrong_nowhere (map numbers_of c.args.files.now) nothing_before (period_of c.args.period.now) c.args.entries c.loop-entry.entry-iterator c.args.seq c.args.cause c.loop-entry.left c.loop-entry.counts there (search rules) c.loop-entry.invariant
