-- The events of a recording, and its turns.
use Rattle.std.proofs.Common.{◌≡◌, ℕ, zero, suc, ◌+◌, ◌≤◌, List, [], ◌∷◌, ◌++◌, length, take, drop, Option, refl, sym, ap, ◌∙◌, arith}
use Rattle.std.specs.Prelude.{unwrap_or}
use Rattle.std.proofs.lemmas.List.{append-nil, take_at, drop_at, take_all, drop_all, drop-drop, length-take, length-drop}
use Rattle.nr_spec_steps.specs.Events.{Begin, Close, Event}
use Rattle.nr_spec_recording.specs.Events.{begins, events_of, turn_size, cut_by, turns_of}
use Rattle.nr_recording.specs.Merges.{first_time}

begun : (records : List Event) (end : ℕ) → unwrap_or (first_time records) end ≡ begins records end
begun [] end = refl
begun (first ∷ others) end = refl

abbrev whole : ℕ → List Event → ℕ → List Event
whole begin records end = Begin begin ∷ (records ++ Close end ∷ [])

pub events-are : (records all : List Event) (until time : Option ℕ) (begin end : ℕ) → records ≡ all → end ≡ unwrap_or until 0 → time ≡ first_time records → begin ≡ unwrap_or time end
    → Begin begin ∷ (records ++ Close end ∷ []) ≡ events_of all until
unfolding events_of
events-are records all until time begin end all_is end_is time_is begin_is =
    let start : begin ≡ begins records end = begin_is ∙ ap (λ (t : Option ℕ). unwrap_or t end) time_is ∙ begun records end in
    ap (λ (n : ℕ). whole n records end) start
    ∙ ap (λ (n : ℕ). whole (begins records n) records n) end_is
    ∙ ap (λ (l : List Event). whole (begins l (unwrap_or until 0)) l (unwrap_or until 0)) all_is

-- ---- a turn

-- the first of the events, and those that are left
pub record IsTurn (turn left old : List Event) : Type 0 where
  pub first : turn ≡ take turn_size old
  pub others : left ≡ drop turn_size old

pub turn-full : (turn left old : List Event) → turn ++ left ≡ old → length turn ≡ turn_size → IsTurn turn left old
turn-full turn left old all full = record {
  first = sym (take_at turn left turn_size full) ∙ ap (λ (l : List Event). take turn_size l) all;
  others = sym (drop_at turn left turn_size full) ∙ ap (λ (l : List Event). drop turn_size l) all;
}

pub turn-last : (turn left end old : List Event) → turn ++ left ≡ old → length turn ≤ turn_size → left ≡ [] → end ≡ [] → IsTurn turn end old
turn-last turn left end old all few none nothing =
    let whole_is : turn ≡ old = sym (append-nil turn) ∙ ap (λ (l : List Event). turn ++ l) (sym none) ∙ all in
    record {
      first = sym (take_all turn_size turn few) ∙ ap (λ (l : List Event). take turn_size l) whole_is;
      others = nothing ∙ sym (drop_all turn_size turn few) ∙ ap (λ (l : List Event). drop turn_size l) whole_is;
    }

-- what is left where the next one is lost too
pub lost : (turn left old : List Event) (event : Event) (others : List Event) → turn ++ left ≡ old → left ≡ event ∷ others → others ≡ drop (length turn + 1) old
lost turn left old event others all some =
    let all_is : turn ++ (event ∷ others) ≡ old = ap (λ (l : List Event). turn ++ l) (sym some) ∙ all in
    sym (ap (λ (l : List Event). drop 1 l) (drop_at turn (event ∷ others) (length turn) refl)) ∙ drop-drop 1 (length turn) (turn ++ (event ∷ others)) ∙ ap (λ (l : List Event). drop (length turn + 1) l) all_is

-- ---- the turns, one after another

-- more fuel than events cuts the same
cut-enough : (n m : ℕ) (events : List Event) → length events ≤ n → length events ≤ m → cut_by n events ≡ cut_by m events
unfolding cut_by
cut-enough zero zero events few also = refl
cut-enough zero (suc m) [] few also = refl
cut-enough zero (suc m) (event ∷ events) few also = absurd (omega arith)
cut-enough (suc n) zero [] few also = refl
cut-enough (suc n) zero (event ∷ events) few also = absurd (omega arith)
cut-enough (suc n) (suc m) [] few also = refl
cut-enough (suc n) (suc m) (event ∷ events) few also =
    let left = length-drop turn_size (event ∷ events) in
    ap (λ (l : List (List Event)). take turn_size (event ∷ events) ∷ l)
    (cut-enough n m (drop turn_size (event ∷ events)) (omega (arith, left, few)) (omega (arith, left, also)))

-- without events there is no turn
pub turns-none : turns_of [] ≡ []
unfolding turns_of cut_by
turns-none = refl

-- else the first turn has the first events, and the others are those of what is left
pub turns-more : (event : Event) (events : List Event) → turns_of (event ∷ events) ≡ take turn_size (event ∷ events) ∷ turns_of (drop turn_size (event ∷ events))
unfolding turns_of cut_by
turns-more event events =
    let left = length-drop turn_size (event ∷ events) in
    ap (λ (l : List (List Event)). take turn_size (event ∷ events) ∷ l)
    (cut-enough (length events) (length (drop turn_size (event ∷ events))) (drop turn_size (event ∷ events)) (omega (arith, left)) (omega arith))

-- by a turn that was given, and what was left then
first_some : (event : Event) (events : List Event) → take turn_size (event ∷ events) ≡ [] → ⊥
first_some event events none =
    let size = length-take turn_size (event ∷ events) in
    let none_is : length (take turn_size (event ∷ events)) ≡ 0 = ap length none in
    absurd (omega (arith, size, none_is))

pub turns-end : (turn old : List Event) → turn ≡ take turn_size old → turn ≡ [] → turns_of old ≡ []
turns-end turn [] first none = turns-none
turns-end turn (event ∷ events) first none = absurd (first_some event events (sym first ∙ none))

pub turns-next : (turn left old : List Event) → turn ≡ take turn_size old → left ≡ drop turn_size old → (turn ≡ [] → ⊥) → turns_of old ≡ turn ∷ turns_of left
turns-next turn left [] first others some = absurd (some first)
turns-next turn left (event ∷ events) first others some =
    turns-more event events
    ∙ ap (λ (l : List Event). l ∷ turns_of (drop turn_size (event ∷ events))) (sym first)
    ∙ ap (λ (l : List Event). turn ∷ turns_of l) (sym others)
