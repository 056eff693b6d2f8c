use Rattle.std.proofs.Common.{sym, subst}
use Rattle.nr_chain.specs.Views.{entry_of}
use Rattle.nr_before.specs.Behinds.{IsLeftBy}
use Rattle.nr_before.proofs.Leaving.{left_more, room_commits, room_sends}
use Rattle.nr_before.proofs.behind.Behind.push.Goals as goal

pub step-requires-2-clause-sends : goal.step-requires-2-clause-sends
step-requires-2-clause-sends c =
    let left = subst (IsLeftBy c.requires.asn c.requires.log) (sym c.self.view_is) c.requires.left in
    room_sends c.requires.log c.self.inside.counts left.counts c.requires.few

pub step-requires-2-clause-commits : goal.step-requires-2-clause-commits
step-requires-2-clause-commits c =
    let left = subst (IsLeftBy c.requires.asn c.requires.log) (sym c.self.view_is) c.requires.left in
    room_commits c.requires.log c.self.inside.counts left.counts c.requires.few

pub returns : goal.returns
returns c = λ asn log left.
    left_more asn log (entry_of c.args.entry.now) _ _ (subst (IsLeftBy asn log) (sym c.self.view_is) left) c.in_ok-state.ensures.rows c.step-2.ensures c.push.ensures.walk
