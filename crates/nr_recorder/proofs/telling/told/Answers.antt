use Rattle.std.proofs.Common.{ap, sym, ◌∙◌}
use Rattle.nr_events.specs.Views.{event_of}
use Rattle.nr_events.specs.declared.event.Event.{Event}
use Rattle.nr_spec_steps.specs.Steps.{told}
use Rattle.nr_recorder.proofs.telling.told.Goals as goal

pub returns-in-Begin-clause-value : goal.returns-in-Begin-clause-value
returns-in-Begin-clause-value c = λ r log own kept.
    c.promise.ensures.value r log c.in-Begin.time own kept ∙ ap (λ (e : Event). told r log (event_of e)) (sym c.in-Begin.is)
