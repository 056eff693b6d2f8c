use Rattle.std.proofs.Common.{◌≡◌, ◌∙◌, ◌+◌, Some, map, sym, arith}
use Rattle.std.specs.List.{slice_get}
use Rattle.std.specs.Option.{unwrap_or}
use Rattle.nr_chain.specs.Views.{entry_of}
use Rattle.nr_spec_log.specs.Chain.{value_after}
use Rattle.nr_spec_log.specs.Answer.{last_time}
use Rattle.nr_spec_entry.specs.ContentReading.{content_of}
use Rattle.nr_spec_routes.specs.LookBack.{last_of}
use Rattle.nr_spec_steps.specs.Heads.{leaf_in, log_chain}
use Rattle.nr_recorder.proofs.answering.tip_of.Goals as goal
use Rattle.nr_recorder.proofs.Tips.{leaf_next, time_next, value_next}

pub loop-i-preserved : goal.loop-i-preserved
loop-i-preserved c =
    let is : slice_get c.args.entries.now c.loop-i.i ≡ Some c.in-Some.entry = sym c.get.ensures ∙ c.in-Some.is in
    record {
      value = value_next c.args.entries.now c.loop-i.i c.in-Some.entry is c.loop-i.walk c.push.new.self (value_after (log_chain c.args.asn) (map entry_of c.args.entries.now)) c.push.ensures.walk c.loop-i.invariant.value;
      time = time_next c.args.entries.now c.loop-i.i c.in-Some.entry is c.loop-i.time (last_time 0 (map entry_of c.args.entries.now)) c.loop-i.invariant.time;
      leaf = leaf_next c.args.entries.now c.loop-i.i c.in-Some.entry is c.loop-i.leaf c.leaf_after-leaf.result (unwrap_or (last_of (λ e. leaf_in (content_of e)) (map entry_of c.args.entries.now)) 0) c.leaf_after-leaf.ensures c.loop-i.invariant.leaf;
      seq = let one = c.push.ensures.walk in let number : c.push.new.self.seq ≡ c.loop-i.walk.seq + 1 = (λ i. (one i).seq) in omega (arith, number, c.loop-i.invariant.seq);
    }
