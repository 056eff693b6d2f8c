-- What this crate's types stand for in the definitions.
use Rattle.std.specs.Prelude.{map}
use Rattle.nr_chain.specs.Views.{entry_of}
use Rattle.nr_chain.specs.declared.item.Item.{Item}
use Rattle.nr_chain.specs.declared.item.Item.TheVariants.{Shown, Hidden}
use Rattle.nr_spec_frames.specs.Frames as frames
use Rattle.nr_spec_frames.specs.Verdicts as verdicts
use Rattle.nr_exchange.specs.declared.accepting.View as declared_view
use Rattle.nr_exchange.specs.declared.accepting.Verdict as declared_verdict
use Rattle.nr_exchange.specs.declared.accepting.Verdict.TheVariants.{Accepted, Old, Unsigned, Unlinked, Conflict, Disputed}

-- an item without where it lies in memory
abbrev pub frame_item_of : Item → frames.FrameItem
frame_item_of (Shown e) = frames.Shown (entry_of e)
frame_item_of (Hidden time kind digest) = frames.Hidden time kind digest.0

abbrev pub view_seen : declared_view.View → verdicts.View
view_seen v = record {
  root = v.root.0;
  number = v.number;
  seq = v.seq;
  hash = v.hash.0;
  upto = v.upto;
  pending = map (λ p. p.now) v.pending.now;
}

abbrev pub verdict_of : declared_verdict.Verdict → verdicts.Verdict
verdict_of (Accepted upto) = verdicts.Accepted upto
verdict_of Old = verdicts.Old
verdict_of Unsigned = verdicts.Unsigned
verdict_of Unlinked = verdicts.Unlinked
verdict_of (Conflict seq kept found) = verdicts.Conflict seq kept.0 found.0
verdict_of (Disputed i) = verdicts.Disputed i
