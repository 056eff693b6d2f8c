-- What this crate's types stand for in the definitions.
use Rattle.nr_spec_steps.specs.Events as events
use Rattle.nr_events.specs.declared.event.Event.{Event}
use Rattle.nr_events.specs.declared.event.Event.TheVariants.{Begin, Close, Heard, Said, StateChanged}

-- an event without where its message lies in memory
abbrev pub event_of : Event → events.Event
event_of (Begin time) = events.Begin time
event_of (Heard time neighbour as4 raw) = events.Heard time neighbour as4 raw.now
event_of (Said time neighbour as4 raw) = events.Said time neighbour as4 raw.now
event_of (StateChanged time neighbour old new) = events.StateChanged time neighbour old new
event_of (Close time) = events.Close time
