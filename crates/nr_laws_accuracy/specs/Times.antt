-- Times that never run back.
use Rattle.std.specs.Prelude.{ℕ, ◌≤◌, [], ◌∷◌, List}
use Rattle.nr_spec_log.specs.Chain.{LogEntry}

-- no entry is older than the one before it, and the first isn't older than this time
abbrev pub AreOrdered : ℕ → List LogEntry → Type 0
AreOrdered last [] = Unit {0}
AreOrdered last (e ∷ es) = (last ≤ e.time) × AreOrdered e.time es
