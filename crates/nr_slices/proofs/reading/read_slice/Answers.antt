use Rattle.std.proofs.Common.{◌≡◌, Ok, subst}
use Rattle.std.specs.Option.{option_map}
use Rattle.nr_spec_wire.specs.Reading.{Spot}
use Rattle.nr_spec_slices.specs.Reading.{front_at}
use Rattle.nr_slices.proofs.Before.{stands}
use Rattle.nr_slices.proofs.reading.read_slice.Goals as goal

pub returns-clause-before : goal.returns-clause-before
returns-clause-before c =
    let bytes = c.args.bytes.now in
    let body = option_map (λ body. body.now) c.in_ok-body.body in
    let answer = c.in_ok-answer.answer in
    stands bytes answer body c.read_front.new.cursor c.in_ok-state.last (c.in_ok-read_first_time.field-0, c.read_first_time.new.cursor) c.in_ok-state.state c.in_ok-state.counts
    (subst (λ (s : Spot). front_at s ≡ Ok (body, c.read_front.new.cursor)) c.new-cursor.ensures c.in_ok-body.ensures)
    c.in_ok-state.ensures.value
    c.in_ok-read_first_time.ensures
    c.in_ok-answer.ensures
    (c.answer_file_found.ensures bytes answer c.are_bytes.ensures c.in_ok-answer.ensures).0
    c.in_ok-state.ensures.stated
