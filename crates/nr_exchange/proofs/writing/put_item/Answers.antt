use Rattle.std.proofs.Common.{◌≡◌, [], ◌∷◌, ◌++◌, sym, subst}
use Rattle.nr_spec_log.specs.Answer.{entry}
use Rattle.nr_chain.specs.Views.{entry_of}
use Rattle.nr_chain.specs.declared.item.Item.TheVariants.{the_data}
use Rattle.nr_spec_frames.specs.Frames.{frame_item}
use Rattle.nr_exchange.specs.Views.{frame_item_of}
use Rattle.nr_exchange.proofs.Written.{two_pieces}
use Rattle.nr_exchange.proofs.writing.put_item.Goals as goal

pub returns-in_ok-put_entry-in-Shown : goal.returns-in_ok-put_entry-in-Shown
returns-in_ok-put_entry-in-Shown c =
    subst (λ (i : the_data). c.put_entry.new.out.items ≡ c.args.out.now.items ++ frame_item (frame_item_of i)) (sym c.in-Shown.is)
    (two_pieces c.args.out.now.items (1 ∷ []) (entry (entry_of c.in-Shown.entry)) _ _ c.in_ok-put_u8-in-Shown.ensures.ok c.in_ok-put_entry-in-Shown.ensures)
