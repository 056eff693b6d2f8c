-- Times that never run back.
use Rattle.std.specs.Prelude.{ℕ, ◌≤◌, List, [], ◌∷◌}
use Rattle.nr_spec_log.specs.Chain.{LogEntry}

-- the times of entries, which begin no earlier than one
abbrev pub NeverBack : ℕ → List LogEntry → Type 0
NeverBack last [] = Unit {0}
NeverBack last (e ∷ entries) = (last ≤ e.time) × NeverBack e.time entries
