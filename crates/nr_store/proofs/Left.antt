-- The entries that are left to give: those of a part, and those of the batches after it.
use Rattle.std.proofs.Common.{◌≡◌, ℕ, zero, suc, ◌+◌, ◌-◌, ◌<◌, ◌≤◌, Bool, true, false, List, [], ◌∷◌, ◌++◌, length, Some, None, Result, Ok, Err, refl, sym, ap, ◌∙◌, arith}
use Rattle.std.proofs.lemmas.List.Concat.{flat_map-cons}
use Rattle.nr_spec_wire.specs.Reading.{Spot, Read, ◌>>=◌, number_at, wants, rows, fault}
use Rattle.nr_spec_wire.proofs.Steps.{behind, bind_ok, fault-behind, ok_is, wants_ok}
use Rattle.std.proofs.Common.{inl, inr, ◌||◌, ◌&&◌, cond, eqb, leb, ltb, take, drop}
use Rattle.std.proofs.lemmas.Bool.{cases_Bool, eqb-true, leb-true, ltb-true}
use Rattle.std.proofs.lemmas.List.{length-take}
use Rattle.nr_laws_store.proofs.BatchLaws.{both_true}
use Rattle.nr_spec_log.specs.Chain.{LogEntry}
use Rattle.nr_spec_log.specs.Answer.{entry_at, last_time}
use Rattle.nr_spec_store.specs.LogFile.{entries_of, entries_to_end, part_of_batch, batch_at, batches_at, is_open}
use Rattle.nr_store.specs.Walks.{joined, left_at}
use Rattle.nr_store.proofs.Steps.{rest-none, rest-spent, rest-more, rest-fault, batches-spent, batches-short, batches-closed}

-- ---- the part has entries

joined-behind : (last : ℕ) (e : LogEntry) (part : Read (List LogEntry)) (batches : ℕ → Read (List (List LogEntry))) → joined last (behind e part) batches ≡ behind e (joined e.time part batches)
joined-behind last e (Ok es) batches = then_batches (batches (last_time e.time es.0))
  where
    then_batches : (read : Read (List (List LogEntry))) → (read >>= λ bs. Ok (e ∷ es.0 ++ entries_of bs.0, bs.1)) ≡ behind e (read >>= λ bs. Ok (es.0 ++ entries_of bs.0, bs.1))
    then_batches (Ok bs) = refl
    then_batches (Err place) = refl
joined-behind last e (Err place) batches = refl

pub left-more : (last n : ℕ) (part : Spot) (fuel : ℕ) (beyond : Spot) (e : LogEntry) (next : Spot) → (n ≡ 0 → ⊥) → (length part.rest ≡ 0 → ⊥) → entry_at false last part ≡ Ok (e, next)
    → left_at last n part fuel beyond ≡ behind e (left_at e.time (n - 1) next fuel beyond)
left-more last n part fuel beyond e next left some is =
    ap (λ (r : Read (List LogEntry)). joined last r (λ time. batches_at time fuel beyond)) (rest-more last n part e next left some is) ∙ joined-behind last e (entries_to_end e.time (n - 1) next) (λ time. batches_at time fuel beyond)

pub left-fault : (last n : ℕ) (part : Spot) (fuel : ℕ) (beyond : Spot) (place : ℕ) → (n ≡ 0 → ⊥) → (length part.rest ≡ 0 → ⊥) → entry_at false last part ≡ Err place → left_at last n part fuel beyond ≡ Err place
left-fault last n part fuel beyond place left some is = ap (λ (r : Read (List LogEntry)). joined last r (λ time. batches_at time fuel beyond)) (rest-fault last n part place left some is)

-- ---- the part has none

-- A part is spent.
abbrev pub IsSpent : ℕ → Spot → Type 0
IsSpent n part = (last : ℕ) → entries_to_end last n part ≡ Ok ([], part)

pub spent_count : (n : ℕ) (part : Spot) → n ≡ 0 → IsSpent n part
spent_count n part none = λ last. rest-spent last n part none

pub spent_bytes : (n : ℕ) (part : Spot) → length part.rest ≡ 0 → IsSpent n part
spent_bytes n part none = λ last. rest-none last n part none

-- the batches alone
abbrev pub rest_of : Read (List (List LogEntry)) → Read (List LogEntry)
rest_of read = read >>= λ bs. Ok (entries_of bs.0, bs.1)

pub left-spent : (last n : ℕ) (part : Spot) (fuel : ℕ) (beyond : Spot) → IsSpent n part → left_at last n part fuel beyond ≡ rest_of (batches_at last fuel beyond)
left-spent last n part fuel beyond spent = ap (λ (r : Read (List LogEntry)). joined last r (λ time. batches_at time fuel beyond)) (spent last)

pub left-empty : (last n : ℕ) (part : Spot) (fuel : ℕ) (beyond : Spot) → IsSpent n part → fuel ≡ 0 → left_at last n part fuel beyond ≡ Err beyond.at
left-empty last n part fuel beyond spent none = left-spent last n part fuel beyond spent ∙ ap rest_of (batches-spent last fuel beyond none)

pub left-short : (last n : ℕ) (part : Spot) (fuel : ℕ) (beyond : Spot) (place : ℕ) → IsSpent n part → (fuel ≡ 0 → ⊥) → number_at 1 beyond ≡ Err place → left_at last n part fuel beyond ≡ Err place
left-short last n part fuel beyond place spent left is = left-spent last n part fuel beyond spent ∙ ap rest_of (batches-short last fuel beyond place left is)

pub left-closed : (last n : ℕ) (part : Spot) (fuel : ℕ) (beyond : Spot) (gate : ℕ) (next : Spot) → IsSpent n part → (fuel ≡ 0 → ⊥) → number_at 1 beyond ≡ Ok (gate, next) → is_open gate ≡ false → left_at last n part fuel beyond ≡ Ok ([], next)
left-closed last n part fuel beyond gate next spent left is closed = left-spent last n part fuel beyond spent ∙ ap rest_of (batches-closed last fuel beyond gate next left is closed)

-- the entries of a part, and where reading goes on after it
abbrev with_next : Spot → List LogEntry × Spot → Read (List LogEntry)
with_next next es = Ok (es.0, next)

-- a batch, and those after it
abbrev and_others : ℕ → (ℕ → Spot → Read (List (List LogEntry))) → List LogEntry × Spot → Read (List (List LogEntry))
and_others last batches first = batches (last_time last first.0) first.1 >>= λ others. Ok (first.0 ∷ others.0, others.1)

-- a batch more
opens-then : (last : ℕ) (part : Read (List LogEntry)) (next : Spot) (batches : ℕ → Spot → Read (List (List LogEntry))) → rest_of ((part >>= with_next next) >>= and_others last batches) ≡ joined last part (λ time. batches time next)
opens-then last (Ok es) next batches = then_batches (batches (last_time last es.0) next)
  where
    then_batches : (read : Read (List (List LogEntry))) → rest_of (read >>= λ others. Ok (es.0 ∷ others.0, others.1)) ≡ (read >>= λ bs. Ok (es.0 ++ entries_of bs.0, bs.1))
    then_batches (Ok bs) = ap (λ (l : List LogEntry). Ok (l, bs.1)) (flat_map-cons (λ (b : List LogEntry). b) es.0 bs.0)
    then_batches (Err place) = refl
opens-then last (Err place) next batches = refl

batches-open : (last n : ℕ) (s opened : Spot) (gate : ℕ) (part next : Spot) → (n ≡ 0 → ⊥) → number_at 1 s ≡ Ok (gate, opened) → is_open gate ≡ true → part_of_batch opened ≡ Ok (part, next)
    → batches_at last n s ≡ ((entries_to_end last (length part.rest) part >>= with_next next) >>= and_others last (λ time t. batches_at time (n - 1) t))
unfolding batches_at batch_at
batches-open last zero s opened gate part next left is open_is part_is = absurd (left refl)
batches-open last (suc n) s opened gate part next left is open_is part_is =
    let one : suc n - 1 ≡ n = omega arith in
    rw (is, open_is, part_is, one) refl

pub left-opens : (last n : ℕ) (part : Spot) (fuel : ℕ) (beyond opened : Spot) (gate : ℕ) (fresh next : Spot) → IsSpent n part → (fuel ≡ 0 → ⊥) → number_at 1 beyond ≡ Ok (gate, opened) → is_open gate ≡ true → part_of_batch opened ≡ Ok (fresh, next)
    → left_at last n part fuel beyond ≡ left_at last (length fresh.rest) fresh (fuel - 1) next
left-opens last n part fuel beyond opened gate fresh next spent left is open_is part_is =
    left-spent last n part fuel beyond spent ∙ ap rest_of (batches-open last fuel beyond opened gate fresh next left is open_is part_is)
    ∙ opens-then last (entries_to_end last (length fresh.rest) fresh) next (λ time s. batches_at time (fuel - 1) s)

batches-torn : (last n : ℕ) (s opened : Spot) (gate place : ℕ) → (n ≡ 0 → ⊥) → number_at 1 s ≡ Ok (gate, opened) → is_open gate ≡ true → part_of_batch opened ≡ Err place → batches_at last n s ≡ Err place
unfolding batches_at batch_at
batches-torn last zero s opened gate place left is open_is part_is = absurd (left refl)
batches-torn last (suc n) s opened gate place left is open_is part_is = rw (is, open_is, part_is) refl

pub left-torn : (last n : ℕ) (part : Spot) (fuel : ℕ) (beyond opened : Spot) (gate place : ℕ) → IsSpent n part → (fuel ≡ 0 → ⊥) → number_at 1 beyond ≡ Ok (gate, opened) → is_open gate ≡ true → part_of_batch opened ≡ Err place → left_at last n part fuel beyond ≡ Err place
left-torn last n part fuel beyond opened gate place spent left is open_is part_is = left-spent last n part fuel beyond spent ∙ ap rest_of (batches-torn last fuel beyond opened gate place left is open_is part_is)

-- ---- by what the code has tested

pub spent_by : (n : ℕ) (part : Spot) → (eqb n 0 || eqb (length part.rest) 0) ≡ true → IsSpent n part
spent_by n part is = elim (cases_Bool (eqb n 0)) [
  | inl none ↦ spent_count n part (eqb-true n 0 none)
  | inr some ↦ spent_bytes n part (eqb-true (length part.rest) 0 (let h = rw some at is in h))
]

pub unspent_count : (n k : ℕ) → (eqb n 0 || eqb k 0) ≡ false → n ≡ 0 → ⊥
unspent_count n k is none = absurd (let h = rw none at is in cc)

pub unspent_bytes : (n k : ℕ) → (eqb n 0 || eqb k 0) ≡ false → k ≡ 0 → ⊥
unspent_bytes n k is none = elim (cases_Bool (eqb n 0)) [
  | inl first ↦ absurd (let h = rw first at is in cc)
  | inr second ↦ absurd (let h = rw (second, none) at is in cc)
]

-- ---- a part has bytes

abbrev failed : ℕ → Result (Spot × Spot) ℕ
failed place = Err place

abbrev went : Spot × Spot → Result (Spot × Spot) ℕ
went x = Ok x

first_of : (b : Bool) (place : ℕ) (p q part next : Spot) → cond b (failed place) (went (p, q)) ≡ went (part, next) → p ≡ part
first_of true place p q part next e = absurd cc
first_of false place p q part next e = ap (λ (r : Spot × Spot). r.0) (ok_is (p, q) (part, next) e)

pub part_some : (s part next : Spot) → part_of_batch s ≡ Ok (part, next) → 1 ≤ length part.rest
unfolding part_of_batch
part_some s part next e =
    let a = bind_ok (number_at 4 s) _ (part, next) e in
    let w = bind_ok (wants (leb 1 a.0.0 && ltb a.0.0 (length a.0.1.rest)) s.at a.0) _ (part, next) a.2 in
    let t = wants_ok (leb 1 a.0.0 && ltb a.0.0 (length a.0.1.rest)) s.at a.0 w.0 w.1 in
    let sizes = both_true (leb 1 a.0.0) (ltb a.0.0 (length a.0.1.rest)) t.0 in
    let least : 1 ≤ a.0.0 = leb-true 1 a.0.0 sizes.0 in
    let most : a.0.0 < length a.0.1.rest = ltb-true a.0.0 (length a.0.1.rest) sizes.1 in
    let number : w.0.0 ≡ a.0.0 = ap (λ (r : ℕ × Spot). r.0) (sym t.1) in
    let rest : length w.0.1.rest ≡ length a.0.1.rest = ap (λ (r : ℕ × Spot). length r.1.rest) (sym t.1) in
    let p = first_of (ltb (length w.0.1.rest) w.0.0) w.0.1.at (record { at = w.0.1.at; rest = take w.0.0 w.0.1.rest }) (record { at = w.0.1.at + w.0.0; rest = drop w.0.0 w.0.1.rest }) part next w.2 in
    omega (arith, ap (λ (r : Spot). length r.rest) p, length-take w.0.0 w.0.1.rest, number, rest, least, most)

-- ---- where reading has no fault

pub no_fault : (read : Read (List LogEntry)) (place : ℕ) → fault read ≡ None → read ≡ Err place → ⊥
no_fault read place none is = absurd (let h : fault read ≡ Some place = ap fault is in let e : Some place ≡ None = sym h ∙ none in cc)

pub goes_on : (e : LogEntry) (read next : Read (List LogEntry)) → read ≡ behind e next → fault read ≡ None → fault next ≡ None
goes_on e read next is none = sym (fault-behind e next) ∙ ap fault (sym is) ∙ none

-- ---- from the start

begun_by : (read : Read (List (List LogEntry))) → fault read ≡ None → (rows (rest_of read) ≡ entries_of (rows read)) × (fault (rest_of read) ≡ None)
begun_by (Ok bs) none = (refl, refl)
begun_by (Err place) none = absurd cc

pub begun : (part : Spot) (fuel : ℕ) (beyond : Spot) → fault (batches_at 0 fuel beyond) ≡ None → (rows (left_at 0 0 part fuel beyond) ≡ entries_of (rows (batches_at 0 fuel beyond))) × (fault (left_at 0 0 part fuel beyond) ≡ None)
begun part fuel beyond none =
    let b = begun_by (batches_at 0 fuel beyond) none in
    let is = left-spent 0 0 part fuel beyond (spent_count 0 part refl) in
    (ap rows is ∙ b.0, ap fault is ∙ b.1)
