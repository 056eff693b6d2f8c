-- A period in two parts, which share no time.
use Rattle.std.specs.Prelude.{ℕ, ◌+◌, ◌<◌, ◌≤◌, [], ◌∷◌, List, drop}
use Rattle.nr_spec_history.specs.Conflicts.{Period}
use Rattle.nr_spec_runs.specs.Runs.{Span}
use Rattle.nr_spec_promises.specs.Moments.{Mark, View}

-- up to a time, and from the one after it
abbrev pub first_part : Period → ℕ → Period
first_part period last = record { from = period.from; to = last }

abbrev pub second_part : Period → ℕ → Period
second_part period last = record { from = last + 1; to = period.to }

-- the time is in the period, and not its last
pub record Cuts (period : Period) (last : ℕ) : Type 0 where
  pub from : period.from ≤ last
  pub to : last < period.to

-- what the last of these moments shows, or another view where there is none
abbrev pub last_view : View → List Mark → View
last_view view [] = view
last_view view (m ∷ marks) = last_view m.view marks

-- The last of some spans and the first of others are one, from where the one begins to where the other ends.
abbrev pub as_one : List Span → List Span → List Span
as_one [] later = drop 1 later
as_one (s ∷ []) [] = s ∷ []
as_one (s ∷ []) (t ∷ later) = record { begin = s.begin; end = t.end } ∷ later
as_one (s ∷ next ∷ others) later = s ∷ as_one (next ∷ others) later
