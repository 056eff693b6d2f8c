-- Longest rows of neighbouring bad moments.
use Rattle.std.specs.Prelude.{◌≡◌, ◌⊎◌, ℕ, Bool, true, false, List, [], ◌∷◌, ◌++◌}
use Rattle.nr_spec_runs.specs.Runs.{Moment, Span, last_after}

abbrev pub IsAmong : Span → List Span → Type 0
IsAmong s [] = ⊥
IsAmong s (x ∷ spans) = (s ≡ x) ⊎ IsAmong s spans

-- when the first of these moments begins, or the close
abbrev pub begin_of : ℕ → List Moment → ℕ
begin_of close [] = close
begin_of close (m ∷ moments) = m.begin

abbrev pub starts_bad : List Moment → Bool
starts_bad [] = false
starts_bad (m ∷ moments) = m.bad

abbrev pub AreBad : List Moment → Type 0
AreBad [] = Unit {0}
AreBad (m ∷ moments) = (m.bad ≡ true) × AreBad moments

-- The span of a row of bad moments, beside which no other bad moment stands. The first is whether the moment before
-- all of them is bad. It begins where its first moment begins, and ends where the moment after its last one does, or
-- at the close.
pub record IsRowAfter (bad_before : Bool) (close : ℕ) (moments : List Moment) (s : Span) : Type 0 where
  pub before : List Moment
  pub first : Moment
  pub row : List Moment
  pub after : List Moment
  pub split : moments ≡ before ++ first ∷ (row ++ after)
  pub bad : AreBad (first ∷ row)
  pub left : last_after bad_before before ≡ false
  pub right : starts_bad after ≡ false
  pub begins : s.begin ≡ first.begin
  pub ends : s.end ≡ begin_of close after

abbrev pub IsLongestRow : ℕ → List Moment → Span → Type 0
IsLongestRow = IsRowAfter false
