use Rattle.std.specs.Prelude.{map}
use Rattle.nr_discipline.specs.Decoded.{base_view}
use Rattle.nr_discipline.specs.Views.{numbers_of}
use Rattle.nr_evidence.specs.Views.{period_of}
use Rattle.nr_judging.specs.Views.{files_in}
use Rattle.nr_audit.proofs.Before.{stated, stated_commits, stated_sends}
use Rattle.nr_audit.proofs.Walking.{few_asked, room_commits, room_number, room_sends}
use Rattle.nr_audit.proofs.walk.walk.Goals as goal

pub take-requires-clause-number : goal.take-requires-clause-number
take-requires-clause-number g c =
    let base = base_view (c.args.state, c.args.counts) in
    let so_far = c.loop-entry.invariant base (stated c.args.state c.args.counts) in
    room_number (map numbers_of c.args.files.now) (files_in c.args.promises.now) (g.J.Judge.truth c.args.judge.now) base (period_of c.args.period.now) c.args.answer.now c.args.auths.now _ _ _ _ _
    (rw c.in-Some.ensures.steps at so_far) c.requires.first c.requires.short

pub take-requires-clause-sends : goal.take-requires-clause-sends
take-requires-clause-sends g c = λ n below.
    let base = base_view (c.args.state, c.args.counts) in
    let so_far = c.loop-entry.invariant base (stated c.args.state c.args.counts) in
    room_sends (map numbers_of c.args.files.now) (files_in c.args.promises.now) (g.J.Judge.truth c.args.judge.now) base (period_of c.args.period.now) c.args.answer.now c.args.auths.now _ _ _ _ _
    (rw c.in-Some.ensures.steps at so_far) c.requires.short n below (stated_sends c.args.state c.args.counts c.requires.room n below)

pub take-requires-clause-commits : goal.take-requires-clause-commits
take-requires-clause-commits g c =
    let base = base_view (c.args.state, c.args.counts) in
    let so_far = c.loop-entry.invariant base (stated c.args.state c.args.counts) in
    room_commits (map numbers_of c.args.files.now) (files_in c.args.promises.now) (g.J.Judge.truth c.args.judge.now) base (period_of c.args.period.now) c.args.answer.now c.args.auths.now _ _ _ _ _
    (rw c.in-Some.ensures.steps at so_far) c.requires.short (stated_commits c.args.state c.args.counts c.requires.room)

pub returns-in_err-walked-2-clause-counted : goal.returns-in_err-walked-2-clause-counted
returns-in_err-walked-2-clause-counted g c = λ base before.
    let so_far = c.loop-entry.invariant base before in
    c.take.ensures.counted base c.args.answer.now c.args.auths.now c.args.steps.now _ (rw c.in-Some.ensures.steps at so_far)

pub loop-entry-preserved : goal.loop-entry-preserved
loop-entry-preserved g c = λ base before.
    let so_far = c.loop-entry.invariant base before in
    c.in_ok-walked-2.ensures.walks base c.args.answer.now c.args.auths.now c.args.steps.now _ (rw c.in-Some.ensures.steps at so_far)

pub returns-clause-counted : goal.returns-clause-counted
returns-clause-counted g c = λ base before.
    few_asked (map numbers_of c.args.files.now) (files_in c.args.promises.now) (g.J.Judge.truth c.args.judge.now) base (period_of c.args.period.now) c.args.answer.now c.args.auths.now _ _ _ _ (c.loop-entry.invariant base before)
