use Rattle.std.proofs.Common.{◌≡◌, ◌+◌, drop, map}
use Rattle.std.specs.Option.{unwrap_or}
use Rattle.nr_chain.specs.Views.{entry_of}
use Rattle.nr_spec_log.specs.Chain.{value_after}
use Rattle.nr_spec_log.specs.Answer.{last_time}
use Rattle.nr_spec_entry.specs.ContentReading.{content_of}
use Rattle.nr_spec_routes.specs.LookBack.{last_of}
use Rattle.nr_spec_steps.specs.Heads.{leaf_in, log_chain}
use Rattle.nr_recorder.proofs.answering.tip_of.Given as goal

abbrev pub invariant-loop-i : goal.invariant-loop-i
invariant-loop-i l = record {
  value : value_after l.walk (map entry_of (drop l.i l.entries)) ≡ value_after (log_chain l.asn) (map entry_of l.entries);
  time : last_time l.time (map entry_of (drop l.i l.entries)) ≡ last_time 0 (map entry_of l.entries);
  leaf : unwrap_or (last_of (λ e. leaf_in (content_of e)) (map entry_of (drop l.i l.entries))) l.leaf ≡ unwrap_or (last_of (λ e. leaf_in (content_of e)) (map entry_of l.entries)) 0;
  seq : l.walk.seq ≡ 1 + l.i;
}
