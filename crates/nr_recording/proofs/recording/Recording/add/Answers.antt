use Rattle.std.proofs.Common.{◌≡◌, ◌+◌, rules, List, map, length, ap, ◌∙◌}
use Rattle.std.proofs.lemmas.List.{map-append}
use Rattle.nr_recording.specs.declared.mrt_file.MrtFile.{MrtFile}
use Rattle.nr_recording.specs.Recordings.{recorded}
use Rattle.nr_recording.specs.Views.{speakers_of, items_of}
use Rattle.nr_recording.proofs.Summed.{summed-more}
use Rattle.nr_recording.proofs.recording.Recording.add.Goals as goal

pub invariant_of-self-2 : goal.invariant_of-self-2
invariant_of-self-2 c =
    let files = ap (λ (l : List MrtFile). map items_of l) c.in_ok-push.ensures.items ∙ map-append items_of c.self.inside.files.items _ in
    let sum : c.in-Some.skipped ≡ c.self.inside.skipped + c.in_ok-file.facts.skipped = search rules in
    rw files (summed-more (length c.self.inside.neighbours.items) c.self.inside.skipped c.self.inside.too_long
    (recorded (speakers_of c.self.inside.neighbours.items) (map items_of c.self.inside.files.items)) c.in_ok-file.facts (items_of c.in_ok-file.file) _
    c.self.invariant (rw c.deref.ensures.value at c.in_ok-file.ensures.facts) sum)
