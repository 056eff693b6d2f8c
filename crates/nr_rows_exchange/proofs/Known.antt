-- Two entries that fit make items that fit.
use Rattle.std.proofs.Common.{◌≡◌, ◌≤◌, List, [], ◌∷◌, ◌++◌, map, sym, ap, subst, ◌∙◌, arith}
use Rattle.nr_chain.specs.Views.{entry_of}
use Rattle.nr_chain.specs.declared.item.Entry.{Entry}
use Rattle.nr_chain.specs.declared.item.Item.{Item}
use Rattle.nr_chain.specs.declared.item.Item.TheVariants.{Shown}
use Rattle.nr_spec_log.specs.Answer.{IsEntry}
use Rattle.nr_spec_frames.specs.Frames.{AreItemsFrom}
use Rattle.nr_exchange.specs.Views.{frame_item_of}

pub two_fit : (none one two : List Item) (a b : Entry) → none ≡ [] → one ≡ none ++ Shown a ∷ [] → two ≡ one ++ Shown b ∷ [] → IsEntry (entry_of a) → IsEntry (entry_of b) → a.time ≤ b.time
    → AreItemsFrom 0 (map frame_item_of two)
two_fit none one two a b e1 e2 e3 fa fb le =
    let all : two ≡ Shown a ∷ Shown b ∷ [] = e3 ∙ ap (λ (t : List Item). t ++ Shown b ∷ []) (e2 ∙ ap (λ (t : List Item). t ++ Shown a ∷ []) e1) in
    subst (λ (t : List Item). AreItemsFrom 0 (map frame_item_of t)) (sym all) (fa, omega arith, (fb, le, tt))
