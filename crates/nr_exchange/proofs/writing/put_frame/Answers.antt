use Rattle.std.proofs.Common.{ℕ, List, ◌++◌, length, map, ap, ◌∙◌}
use Rattle.std.specs.List.{flat_map}
use Rattle.nr_spec_frames.specs.Frames.{frame_front, frame_item}
use Rattle.nr_exchange.specs.Views.{frame_item_of}
use Rattle.nr_exchange.specs.Writing.{frame_made}
use Rattle.nr_exchange.proofs.Written.{text_is, three_pieces}
use Rattle.nr_exchange.proofs.writing.put_frame.Goals as goal

pub returns : goal.returns
returns c = λ head spelled.
    let items = map frame_item_of c.args.items.now in
    let made = frame_made c.args.from_as c.args.to_as c.args.number c.args.first c.args.prev.now.0 items head in
    let old = c.args.out.now.items in
    three_pieces _ _ _ _ _ _ _ c.in_ok-put_front.ensures c.in_ok-put_items.ensures c.in_ok-put_bytes.ensures.ok
    ∙ ap (λ (n : ℕ). old ++ (frame_front c.args.from_as c.args.to_as c.args.number c.args.first c.args.prev.now.0 n
    ++ (flat_map frame_item items ++ c.args.auth.now))) c.count_of.ensures
    ∙ ap (λ (a : List ℕ). old ++ (frame_front c.args.from_as c.args.to_as c.args.number c.args.first c.args.prev.now.0 (length items)
    ++ (flat_map frame_item items ++ a))) spelled
    ∙ ap (λ (t : List ℕ). old ++ t) (text_is made)
