-- What stands before the entries of an answer.
use Rattle.std.specs.Prelude.{◌≡◌, ℕ, List, None, Ok, Option, Some}
use Rattle.nr_spec_log.specs.Answer.{AnswerFile, IsCheckpointFirst}
use Rattle.nr_spec_routes.specs.Keys.{AreAscending, Row}
use Rattle.nr_spec_report.specs.Wrong.{Base, nothing_before}
use Rattle.nr_spec_bodies.specs.Reading.{base_of}
use Rattle.nr_spec_slices.specs.Audits.{base_by}
use Rattle.nr_discipline.specs.Decoded.{HasRoom}
use Rattle.nr_discipline.specs.Kept.{IsKeptOf, Kept}

-- these routes, in order, and counts are those of a base, and have room for the entries of an answer
pub record IsStateOf (base : Base) (state : List Row) (counts : Kept) : Type 0 where
  pub rows : state ≡ base.rows
  pub kept : IsKeptOf base.tally counts
  pub order : AreAscending state
  pub room : HasRoom counts

-- the base that a body states; without one nothing stands before
abbrev pub IsBaseOf : Option (List ℕ) → Base → Type 0
IsBaseOf None base = base ≡ nothing_before
IsBaseOf (Some body) base = base_of body ≡ Ok base

pub record IsStatedBy (body : Option (List ℕ)) (state : List Row) (counts : Kept) : Type 0 where
  pub base : Base
  pub of : IsBaseOf body base
  pub state_of : IsStateOf base state counts

-- They are what stands before the entries of this answer, which begins with a checkpoint where it has a body.
pub record StandsBefore (answer : AnswerFile) (state : List Row) (counts : Kept) : Type 0 where
  pub base : Base
  pub based : base_by answer.body answer.entries ≡ Ok base
  pub state_of : IsStateOf base state counts
  pub checkpoint : (body : List ℕ) → answer.body ≡ Some body → IsCheckpointFirst answer.entries
