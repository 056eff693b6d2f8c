-- What a body states.
use Rattle.std.proofs.Common.{◌≡◌, ℕ, ◌+◌, List, Some, Result, Ok, Err, refl, sym, ap, ◌∙◌}
use Rattle.nr_spec_wire.specs.Reading.{Spot, ◌>>=◌, number_at, start_of, wants}
use Rattle.nr_spec_wire.proofs.Steps.{ok_is, wants_ok}
use Rattle.nr_spec_log.specs.Answer.{body_offset}
use Rattle.nr_spec_entry.specs.Contents.{most_neighbours}
use Rattle.nr_spec_report.specs.Wrong.{Base}
use Rattle.nr_spec_counts.specs.Tallies.{Tally}
use Rattle.nr_spec_bounds.specs.Bounds.{most_counted}
use Rattle.std.specs.Prelude.{nat_lt}
use Rattle.nr_spec_bodies.specs.Reading.{base_of, force_at, known_at, table_at, tally_at, tally_from, times_at}
use Rattle.nr_spec_slices.specs.Reading.{last_before, last_in}

-- what a step gave, where it went well and so did what goes on after it
then : {A B : Type 0} (r : Result A ℕ) (f : A → Result B ℕ) (y : B) (P : Type 0) → (r >>= f) ≡ Ok y → ((x : A) → r ≡ Ok x → f x ≡ Ok y → P) → P
then (Ok x) f y P e k = k x refl e
then (Err place) f y P e k = absurd cc

pub last_stated : (body : List ℕ) (base : Base) (last : ℕ) → base_of body ≡ Ok base → last ≡ base.tally.last → last_before (Some body) ≡ Ok last
last_stated body base last is same = ap last_in is ∙ ap (λ (n : ℕ). Ok n) (sym same)

pub last_refused : (body : List ℕ) (place found : ℕ) → base_of body ≡ Err place → found ≡ body_offset + place → last_before (Some body) ≡ Err found
last_refused body place found is same = ap last_in is ∙ ap (λ (n : ℕ). Err n) (sym same)

-- the last time is the first field
tally_last : (s : Spot) (x : Tally × Spot) → tally_at s ≡ Ok x → (t : Spot) × (number_at 8 s ≡ Ok (x.0.last, t))
unfolding tally_at
tally_last s x e =
    then (number_at 8 s) _ x _ e (λ last last_is e1.
    then (force_at last.1) _ x _ e1 (λ force force_is e2.
    then (number_at 8 force.1) _ x _ e2 (λ any any_is e3.
    then (wants (nat_lt any.0 most_counted) force.1.at any) _ x _ e3 (λ commits commits_is e4.
    then (times_at known_at most_neighbours commits.1) _ x _ e4 (λ known known_is made.
    (last.1, last_is ∙ ap (λ (y : Tally × Spot). Ok (y.0.last, last.1)) (ok_is (tally_from last.0 force.0 commits.0 known.0, known.1) x made)))))))

pub base_last : (body : List ℕ) (base : Base) → base_of body ≡ Ok base → (t : Spot) × (number_at 8 (start_of body) ≡ Ok (base.tally.last, t))
unfolding base_of
base_last body base e =
    then (tally_at (start_of body)) _ base _ e (λ tally tally_is e1.
    then (table_at tally.1) _ base _ e1 (λ rows rows_is made.
    let first = tally_last (start_of body) tally tally_is in
    (first.0, first.1 ∙ ap (λ (b : Base). Ok (b.tally.last, first.0)) (wants_ok _ _ (record { rows = rows.0; tally = tally.0 }) base made).1)))

pub last_read : (body : List ℕ) (base : Base) (time : ℕ) (t : Spot) → number_at 8 (start_of body) ≡ Ok (time, t) → base_of body ≡ Ok base → time ≡ base.tally.last
last_read body base time t read is =
    let first = base_last body base is in
    ap (λ (x : ℕ × Spot). x.0) (ok_is (time, t) (base.tally.last, first.0) (sym read ∙ first.1))

pub last_missing : (body : List ℕ) (base : Base) (place last : ℕ) → number_at 8 (start_of body) ≡ Err place → base_of body ≡ Ok base → last ≡ base.tally.last
last_missing body base place last short is = absurd (let other = sym short ∙ (base_last body base is).1 in cc)
