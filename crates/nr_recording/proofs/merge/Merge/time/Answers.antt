use Rattle.std.proofs.Common.{sym, ap, ◌∙◌}
use Rattle.nr_recording.specs.Merges.{first_time}
use Rattle.nr_recording.proofs.Order.{merged-none, merged-time}
use Rattle.nr_recording.proofs.merge.Merge.time.Goals as goal

pub returns-in-None : goal.returns-in-None
returns-in-None c = sym (ap first_time (sym c.self.view_is ∙ merged-none c.self.inside.sources.items (rw c.deref.ensures.value at c.in-None.ensures)))

pub returns-in-Some : goal.returns-in-Some
returns-in-Some c = sym (ap first_time (sym c.self.view_is) ∙ merged-time c.in-Some.found c.self.inside.sources.items (rw c.deref.ensures.value at c.in-Some.ensures))
