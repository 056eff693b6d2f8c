use Rattle.std.proofs.Common.{◌≡◌, ◌+◌, take}
use Rattle.nr_spec_log.specs.Chain.{value_after}
use Rattle.nr_spec_steps.specs.Heads.{log_chain}
use Rattle.nr_recorder.specs.Links.{AreLinks}
use Rattle.nr_recorder.proofs.links.follow.Given as goal

abbrev pub invariant-loop-place : goal.invariant-loop-place
invariant-loop-place l = record {
  so_far : AreLinks l.asn (take l.place l.log) l.values.items;
  value : l.walk.value ≡ value_after (log_chain l.asn) (take l.place l.log);
  seq : l.walk.seq ≡ l.place + 1;
}
