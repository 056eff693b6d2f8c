use Rattle.std.proofs.Common.{◌≡◌, map, take}
use Rattle.nr_chain.specs.Views.{entry_of}
use Rattle.nr_recorder.proofs.log.Log.first.Given as goal

abbrev pub invariant-loop-place : goal.invariant-loop-place
invariant-loop-place l = map entry_of l.entries ≡ take l.place l.self
