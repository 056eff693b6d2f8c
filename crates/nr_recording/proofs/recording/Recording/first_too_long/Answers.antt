use Rattle.std.proofs.Common.{◌≡◌, false, map, sym, ap, ◌∙◌}
use Rattle.nr_spec_recording.specs.Events.{too_long, records_in_order}
use Rattle.nr_recording.specs.Recordings.{Recorded}
use Rattle.nr_recording.specs.Views.{speakers_of, items_of}
use Rattle.nr_recording.proofs.Long.{none_long}
use Rattle.nr_recording.proofs.recording.Recording.first_too_long.Goals as goal

pub returns-then-not-self : goal.returns-then-not-self
returns-then-not-self c =
    let short : c.self.inside.too_long ≡ false = c.if-not-self.true in
    sym (ap (λ (r : Recorded). too_long (records_in_order r.neighbours r.files)) (sym c.self.view_is)
    ∙ none_long (speakers_of c.self.inside.neighbours.items) (map items_of c.self.inside.files.items) (sym c.self.invariant.too_long ∙ short))
