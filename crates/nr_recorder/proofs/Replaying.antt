-- One entry more of those that are replayed.
use Rattle.std.proofs.Common.{◌≡◌, ℕ, take, ◌+◌, ◌<◌, ◌^◌, List, [], ◌∷◌, ◌++◌, length, Some, sym, ap, subst, ◌∙◌, arith}
use Rattle.std.specs.List.{slice_get}
use Rattle.std.proofs.lemmas.List.{length-take, take_more}
use Rattle.std.proofs.lemmas.Option.{slice_get_within, get_or_from_slice_get}
use Rattle.nr_spec_log.specs.Chain.{LogEntry}
use Rattle.nr_spec_routes.specs.Keys.{Row}
use Rattle.nr_spec_routes.specs.Rows.{rows_after}
use Rattle.nr_spec_counts.specs.Tallies.{Tally, nothing_yet, tally_after}
use Rattle.nr_spec_steps.specs.Steps.{known}
use Rattle.nr_discipline.specs.Kept.{IsKeptOf, Kept}
use Rattle.nr_recorder.proofs.Booking.{known_none}

pub first_routes : (rows : List Row) → rows ≡ [] → rows ≡ rows_after [] []
unfolding rows_after
first_routes rows none = none

pub first_counts : (k : Kept) → IsKeptOf nothing_yet k → IsKeptOf (known []) k
first_counts k kept = subst (λ (t : Tally). IsKeptOf t k) (sym known_none) kept

pub next_entries : (log : List LogEntry) (place : ℕ) (e : LogEntry) → slice_get log place ≡ Some e → take place log ++ e ∷ [] ≡ take (place + 1) log
next_entries log place e is =
    sym (take_more log place e (slice_get_within log place e is) ∙ ap (λ (x : LogEntry). take place log ++ x ∷ []) (get_or_from_slice_get log place e e is))

pub few_taken : (log : List LogEntry) (place : ℕ) → length log < 2 ^ 62 → length (take place log) < 2 ^ 62
few_taken log place few = omega (arith, length-take place log, few)

pub next_routes : (log : List LogEntry) (place : ℕ) (e : LogEntry) (rows then : List Row) → slice_get log place ≡ Some e → rows ≡ rows_after [] (take place log)
    → ((base : List Row) (past : List LogEntry) → rows ≡ rows_after base past → then ≡ rows_after base (past ++ e ∷ [])) → then ≡ rows_after [] (take (place + 1) log)
next_routes log place e rows then is so_far step = step [] (take place log) so_far ∙ ap (rows_after []) (next_entries log place e is)

pub next_counts : (log : List LogEntry) (place : ℕ) (e : LogEntry) (k more : Kept) → slice_get log place ≡ Some e → IsKeptOf (known (take place log)) k
    → ((base : Tally) (past : List LogEntry) → IsKeptOf (tally_after base past) k → IsKeptOf (tally_after base (past ++ e ∷ [])) more) → IsKeptOf (known (take (place + 1) log)) more
next_counts log place e k more is so_far step =
    subst (λ (l : List LogEntry). IsKeptOf (known l) more) (next_entries log place e is) (step nothing_yet (take place log) so_far)
