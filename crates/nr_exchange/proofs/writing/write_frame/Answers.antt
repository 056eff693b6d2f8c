use Rattle.std.proofs.Common.{◌++◌, List, ℕ, map, ap, ◌∙◌, arith}
use Rattle.std.proofs.lemmas.List.{length-map}
use Rattle.nr_spec_frames.specs.Frames.{frame}
use Rattle.nr_exchange.specs.Views.{frame_item_of}
use Rattle.nr_exchange.specs.Writing.{frame_made}
use Rattle.nr_exchange.proofs.writing.write_frame.Goals as goal

pub returns-then-count-gt-MOST-clause-frame : goal.returns-then-count-gt-MOST-clause-frame
returns-then-count-gt-MOST-clause-frame c = λ head spelled.
    let as_many = length-map c.args.items.now frame_item_of in
    (omega (arith, as_many, c.len-count.ensures), omega (arith, as_many, c.len-count.ensures, c.if-count-gt-MOST.true))

pub returns-clause-frame : goal.returns-clause-frame
returns-clause-frame c = λ head spelled.
    let made = frame_made c.args.from_as c.args.to_as c.args.number c.args.first c.args.prev.now.0 (map frame_item_of c.args.items.now) head in
    let as_many = length-map c.args.items.now frame_item_of in
    (c.in_ok-put_frame.ensures head spelled ∙ ap (λ (t : List ℕ). t ++ frame made) c.in_ok-out.ensures.items, omega (arith, as_many, c.len-count.ensures, c.if-count-gt-MOST.false))
