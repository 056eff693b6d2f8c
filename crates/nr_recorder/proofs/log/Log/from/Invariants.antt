use Rattle.std.proofs.Common.{◌≡◌, ◌++◌, drop, map}
use Rattle.nr_chain.specs.Views.{entry_of}
use Rattle.nr_recorder.proofs.log.Log.from.Given as goal

abbrev pub invariant-loop-place : goal.invariant-loop-place
invariant-loop-place l = map entry_of l.entries ++ drop l.place l.self ≡ drop l.at l.self
