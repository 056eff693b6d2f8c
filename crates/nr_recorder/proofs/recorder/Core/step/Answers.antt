use Rattle.std.proofs.Common.{◌∙◌, ◌+◌, ◌^◌, cond, length, ap, sym, ℕ, List, option_map}
use Rattle.nr_entry.specs.Views.{content_view}
use Rattle.nr_discipline.specs.Views.{numbers_of}
use Rattle.nr_spec_steps.specs.Events.{is_close}
use Rattle.nr_events.specs.Views.{event_of}
use Rattle.nr_recorder.proofs.recorder.Core.step.Goals as goal
use Rattle.nr_recorder.proofs.Asked.{idles, speaks, spends}

pub returns-then-is_idle : goal.returns-then-is_idle
returns-then-is_idle c = λ acknowledged.
    idles acknowledged c.args.self (event_of c.args.event.now) (numbers_of c.numbers.result) c.self.inside.book c.counts.result.now (option_map content_view c.told-content.result) c.is_idle.result
    (c.numbers.ensures ∙ (λ i. (c.self.view_is i).own)) (λ i. (c.self.view_is i).log) c.counts.ensures c.told-content.ensures.value c.is_idle.ensures
    c.nothing-out.result c.nothing-out.ensures c.if-is_idle.true

pub returns-then-is_spent : goal.returns-then-is_spent
returns-then-is_spent c = λ acknowledged.
    spends acknowledged c.args.self (event_of c.args.event.now) (numbers_of c.numbers.result) c.self.inside.book c.counts.result.now (option_map content_view c.told-content.result) c.is_idle.result
    (c.numbers.ensures ∙ (λ i. (c.self.view_is i).own)) (λ i. (c.self.view_is i).log) c.counts.ensures c.told-content.ensures.value c.is_idle.ensures
    c.moment-now.result c.commits-commits.result c.leaves-leaves.result c.taken.result c.max.result c.deref.result.now c.is_spent.result c.if-is_idle.false
    c.moment-now.ensures.value c.commits-commits.ensures.value (c.deref.ensures.value ∙ c.in-Ok.ensures.value)
    (c.leaves-leaves.ensures.value ∙ (λ i. 2 ^ (c.self.view_is i).key.height)) c.taken.ensures c.is_spent.ensures c.max.ensures c.if-is_spent.true

pub returns-in-Ok-speak : goal.returns-in-Ok-speak
returns-in-Ok-speak c = λ acknowledged.
    speaks acknowledged c.args.self (event_of c.args.event.now) (numbers_of c.numbers.result) c.self.inside.book c.counts.result.now (option_map content_view c.told-content.result) c.is_idle.result
    (c.numbers.ensures ∙ (λ i. (c.self.view_is i).own)) (λ i. (c.self.view_is i).log) c.counts.ensures c.told-content.ensures.value c.is_idle.ensures
    c.moment-now.result c.commits-commits.result c.leaves-leaves.result c.taken.result 0 c.deref-2.result.now c.is_spent.result c.if-is_idle.false
    c.moment-now.ensures.value c.commits-commits.ensures.value (c.deref-2.ensures.value ∙ c.in-Ok.ensures.value)
    (c.leaves-leaves.ensures.value ∙ (λ i. 2 ^ (c.self.view_is i).key.height))
    (c.taken.ensures ∙ ap (λ (l : List ℕ). length l + cond (is_close (event_of c.args.event.now)) 1 0) (c.deref.ensures.value ∙ sym c.deref-2.ensures.value)) c.is_spent.ensures
    c.in-Ok-speak.done.0 c.in-Ok-speak.done.1 c.if-is_spent.false c.in-Ok-speak.ensures.core c.in-Ok-speak.ensures.commits
