use Rattle.std.proofs.Common.{◌<◌, ◌≤◌, ◌^◌, ap, length, arith}
use Rattle.nr_spec_log.specs.Answer.{last_time}
use Rattle.nr_chain.specs.Views.{entry_of}
use Rattle.nr_recorder.proofs.book.Book.append.Goals as goal
use Rattle.nr_recorder.proofs.Booking.{book_at, book_more, room_commits, room_sends}

pub step-requires-2-clause-sends : goal.step-requires-2-clause-sends
step-requires-2-clause-sends c =
    let few : length c.self.inside.log < 2 ^ 62 = omega (arith, ap length c.self.view_is, c.requires.room) in
    let was = book_at c.self.inside.log c.self.inside.counts.value c.deref_mut.result.now c.self.inside.state c.deref_mut.ensures.value c.self.invariant in
    room_sends c.self.inside.log c.deref_mut.result.now was.counted few

pub step-requires-2-clause-commits : goal.step-requires-2-clause-commits
step-requires-2-clause-commits c =
    let few : length c.self.inside.log < 2 ^ 62 = omega (arith, ap length c.self.view_is, c.requires.room) in
    let was = book_at c.self.inside.log c.self.inside.counts.value c.deref_mut.result.now c.self.inside.state c.deref_mut.ensures.value c.self.invariant in
    room_commits c.self.inside.log c.deref_mut.result.now was.counted few

pub invariant_of-result : goal.invariant_of-result
invariant_of-result c =
    let later : last_time 0 c.self.inside.log ≤ c.args.entry.time = omega (arith, ap (last_time 0) c.self.view_is, c.requires.time) in
    let was = book_at c.self.inside.log c.self.inside.counts.value c.deref_mut.result.now c.self.inside.state c.deref_mut.ensures.value c.self.invariant in
    book_more c.self.inside.log c.push.new.self c.deref_mut.result.now c.step-2.new.self c.self.inside.state c.in_ok-state.state
    c.args.entry (entry_of c.entry-2.result) (entry_of c.entry-3.result) was c.in_ok-push.ensures c.requires.fits later
    c.entry-2.ensures c.entry-3.ensures c.in_ok-state.ensures.rows c.step-2.ensures
