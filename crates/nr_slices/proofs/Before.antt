-- What stands before an answer that was read.
use Rattle.std.proofs.Common.{◌≡◌, ℕ, zero, suc, ◌<◌, ◌^◌, arith, [], List, Option, Some, None, Ok, true, refl, sym, ap, subst, ◌∙◌}
use Rattle.nr_spec_wire.specs.Reading.{Spot, start_of}
use Rattle.nr_spec_wire.proofs.Steps.{ok_is}
use Rattle.nr_spec_log.specs.Chain.{LogEntry}
use Rattle.nr_spec_log.specs.Answer.{AnswerFile, IsAnswer, IsCheckpointFirst, StartsAt, answer_of}
use Rattle.std.specs.List.Sorted.{IsStrictlySortedBy}
use Rattle.nr_spec_routes.specs.Keys.{AreAscending, Row}
use Rattle.nr_spec_counts.specs.Tallies.{nothing_yet}
use Rattle.nr_spec_report.specs.Wrong.{Base, nothing_before}
use Rattle.nr_spec_bodies.specs.Reading.{base_of}
use Rattle.nr_spec_slices.specs.Audits.{base_by, is_in_time}
use Rattle.nr_spec_slices.specs.Reading.{first_time_at, front_at, last_before, last_in}
use Rattle.nr_spec_slices.proofs.Sliced.{sliced_by, stated_by}
use Rattle.nr_discipline.specs.Decoded.{HasRoom}
use Rattle.nr_discipline.specs.Kept.{IsKeptOf, Kept}
use Rattle.nr_audit.specs.Before.{IsBefore}
use Rattle.nr_slices.specs.Before.{IsBaseOf, IsStatedBy, StandsBefore}

based : (body : Option (List ℕ)) (entries : List LogEntry) (base : Base) (last : ℕ) → IsBaseOf body base → last_before body ≡ Ok last → is_in_time last entries ≡ true → base_by body entries ≡ Ok base
based None entries base last of is fits = ap (λ (b : Base). Ok b) (sym of)
based (Some body) entries base last of is fits =
    let same : base.tally.last ≡ last = ok_is base.tally.last last (sym (ap last_in of) ∙ is) in
    stated_by body entries base (subst (λ (n : ℕ). is_in_time n entries ≡ true) (sym same) fits) of

-- an answer that has a body begins with a checkpoint
starts_with : (first : ℕ) (answer : AnswerFile) (body : List ℕ) → StartsAt first answer → answer.body ≡ Some body → IsCheckpointFirst answer.entries
starts_with zero answer body starts has = absurd starts
starts_with (suc zero) answer body starts has = absurd (let none = sym starts.1 ∙ has in cc)
starts_with (suc (suc n)) answer body starts has = starts.3

pub stands : (bytes : List ℕ) (answer : AnswerFile) (body : Option (List ℕ)) (t : Spot) (last : ℕ) (time : ℕ × Spot) (state : List Row) (counts : Kept)
    → front_at (start_of bytes) ≡ Ok (body, t) → last_before body ≡ Ok last → first_time_at last t ≡ Ok time → answer_of bytes ≡ Ok answer → IsAnswer answer → IsStatedBy body state counts → StandsBefore answer state counts
stands bytes answer body t last time state counts begins is times reads are stated =
    let b = sliced_by bytes answer (body, t) last time begins times reads in
    record {
      base = stated.base;
      based = ap (λ (x : Option (List ℕ)). base_by x answer.entries) b.body_is ∙ based body answer.entries stated.base last stated.of is b.in_time_is;
      state_of = stated.state_of;
      checkpoint = λ b has. starts_with answer.first answer b are.start has;
    }

-- before a whole answer nothing stands
pub none_stand : (body : Option (List ℕ)) (state : List Row) (counts : Kept) → body ≡ None → state ≡ [] → IsKeptOf nothing_yet counts → IsStatedBy body state counts
unfolding IsStrictlySortedBy
none_stand (Some body) state counts none rows kept = absurd cc
none_stand None state counts none rows kept = record {
  base = nothing_before;
  of = refl;
  state_of = record {
    rows = rows;
    kept = kept;
    order = subst AreAscending (sym rows) tt;
    room = record { sends = λ n below. subst (λ m. m < 2 ^ 63) (sym (kept.sends n below)) (omega arith); commits = subst (λ m. m < 2 ^ 63) (sym kept.commits) (omega arith) };
  };
}

pub decoded_stand : (body : List ℕ) (base : Base) (state : List Row) (counts : Kept) → base_of body ≡ Ok base → state ≡ base.rows → IsKeptOf base.tally counts → AreAscending state → HasRoom counts → IsStatedBy (Some body) state counts
decoded_stand body base state counts of rows kept order room =
    record { base = base; of = of; state_of = record { rows = rows; kept = kept; order = order; room = room } }

-- an audit goes by them
pub before_is : (answer : AnswerFile) (state : List Row) (counts : Kept) → StandsBefore answer state counts → (base : Base) → base_by answer.body answer.entries ≡ Ok base → IsBefore base state counts
before_is answer state counts before base is =
    let same : before.base ≡ base = (let e = sym before.based ∙ is in cc) in
    subst (λ (b : Base). IsBefore b state counts) same (record { rows = before.state_of.rows; kept = before.state_of.kept })
