use Rattle.std.proofs.Common.{length, ◌≤◌, rules}
use Rattle.nr_recording.specs.Views.{speakers_of}
use Rattle.nr_recording.proofs.Summed.{summed-none}
use Rattle.nr_recording.proofs.recording.Recording.new.Goals as goal

pub invariant_of-result : goal.invariant_of-result
invariant_of-result c =
    let few : length c.args.neighbours.items ≤ 65536 = search rules in
    rw c.new.ensures.items (summed-none (length c.args.neighbours.items) (speakers_of c.args.neighbours.items) few)
