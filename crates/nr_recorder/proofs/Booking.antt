-- One entry more in a book.
use Rattle.std.proofs.Common.{◌≡◌, ℕ, zero, suc, take, drop, ◌+◌, ◌<◌, ◌≤◌, ◌^◌, List, [], ◌∷◌, ◌++◌, length, slice_index, Option, Some, None, Result, Ok, Err, IfOk, refl, sym, ap, subst, ◌∙◌, arith}
use Rattle.std.specs.Option.{unwrap_or}
use Rattle.std.proofs.lemmas.List.Sums.{count_by-le-length}
use Rattle.nr_spec_log.specs.Chain.{LogEntry}
use Rattle.nr_spec_log.specs.Answer.{AreEntriesFrom, IsEntry, last_time}
use Rattle.nr_spec_entry.specs.ContentReading.{content_of}
use Rattle.nr_spec_routes.specs.Keys.{Row}
use Rattle.nr_spec_routes.specs.Rows.{rows_after}
use Rattle.nr_spec_routes.specs.LookBack.{last_of, later_or}
use Rattle.nr_spec_counts.specs.Tallies.{Tally, is_commit, is_send_to, nothing_yet, tally_after}
use Rattle.nr_spec_steps.specs.Steps.{known}
use Rattle.nr_discipline.specs.Kept.{IsKeptOf, Kept}
use Rattle.nr_bytes.specs.declared.fault.Memory.{Memory}
use Rattle.nr_recorder.specs.Books.{IsBook}

pub room_sends : (log : List LogEntry) (k : Kept) → IsKeptOf (known log) k → length log < 2 ^ 62 → (n : ℕ) → n < 256 → slice_index k.sends n + 1 < 2 ^ 64
unfolding tally_after
room_sends log k kept few n below =
    let is = kept.sends n below in
    let most = count_by-le-length (λ e. is_send_to n (content_of e)) log in
    omega arith

pub most_commits : (log : List LogEntry) → (known log).commits ≤ length log
unfolding tally_after
most_commits log = let most = count_by-le-length (λ e. is_commit (content_of e)) log in omega arith

pub room_commits : (log : List LogEntry) (k : Kept) → IsKeptOf (known log) k → length log < 2 ^ 62 → k.commits + 1 < 2 ^ 64
room_commits log k kept few =
    let is = kept.commits in
    let most = most_commits log in
    omega arith

pub known_none : known [] ≡ nothing_yet
unfolding tally_after
known_none = refl

-- ---- times

last_from : (before : ℕ) (log : List LogEntry) → unwrap_or (last_of (λ (e : LogEntry). Some e.time) log) before ≡ last_time before log
last_from before [] = refl
last_from before (e ∷ es) = later_from before e.time (last_of (λ (x : LogEntry). Some x.time) es) ∙ last_from e.time es
  where
    later_from : (before time : ℕ) (later : Option ℕ) → unwrap_or (later_or later (Some time)) before ≡ unwrap_or later time
    later_from before time None = refl
    later_from before time (Some t) = refl

-- the last time that is known is that of the last entry
pub last_known : (log : List LogEntry) → (known log).last ≡ last_time 0 log
unfolding tally_after
last_known log = last_from 0 log

pub fit_more : (last : ℕ) (log : List LogEntry) (e : LogEntry) → AreEntriesFrom last log → IsEntry e → last_time last log ≤ e.time → AreEntriesFrom last (log ++ e ∷ [])
fit_more last [] e fit is le = (is, le, tt)
fit_more last (first ∷ others) e fit is le = (fit.0, fit.1, fit_more first.time others e fit.2 is le)

pub last_more : (last : ℕ) (log : List LogEntry) (e : LogEntry) → last_time last (log ++ e ∷ []) ≡ e.time
last_more last [] e = refl
last_more last (first ∷ others) e = last_more first.time others e

pub fit_from : (n last : ℕ) (log : List LogEntry) → AreEntriesFrom last log → AreEntriesFrom (last_time last (take n log)) (drop n log)
fit_from zero last log fit = fit
fit_from (suc n) last [] fit = fit
fit_from (suc n) last (e ∷ es) fit = fit_from n e.time es fit.2

pub fit_to : (n last : ℕ) (log : List LogEntry) → AreEntriesFrom last log → AreEntriesFrom last (take n log)
fit_to zero last log fit = tt
fit_to (suc n) last [] fit = tt
fit_to (suc n) last (e ∷ es) fit = (fit.0, fit.1, fit_to n e.time es fit.2)

pub last_added : (r : Result (List LogEntry) Memory) (log : List LogEntry) (e : LogEntry) (time : ℕ) → e.time ≡ time → IfOk r (λ book. book ≡ log ++ e ∷ []) → IfOk r (λ book. last_time 0 book ≡ time)
last_added (Ok book) log e time at is = ap (last_time 0) is ∙ (last_more 0 log e ∙ at)
last_added (Err fault) log e time at is = is

-- ---- books

pub no_book : (log : List LogEntry) (k : Kept) (rows : List Row) → log ≡ [] → IsKeptOf nothing_yet k → rows ≡ [] → IsBook log k rows
unfolding rows_after
no_book log k rows empty kept none =
    let at_none : IsBook [] k [] = record { counted = subst (λ (t : Tally). IsKeptOf t k) (sym known_none) kept; routed = refl; fit = tt } in
    subst (λ (l : List LogEntry). IsBook l k rows) (sym empty) (subst (λ (r : List Row). IsBook [] k r) (sym none) at_none)

pub book_more : (log new : List LogEntry) (k more : Kept) (rows then : List Row) (e read again : LogEntry) → IsBook log k rows → new ≡ log ++ e ∷ [] → IsEntry e → last_time 0 log ≤ e.time
    → read ≡ e → again ≡ e
    → ((base : List Row) (past : List LogEntry) → rows ≡ rows_after base past → then ≡ rows_after base (past ++ read ∷ []))
    → ((base : Tally) (past : List LogEntry) → IsKeptOf (tally_after base past) k → IsKeptOf (tally_after base (past ++ again ∷ [])) more)
    → IsBook new more then
book_more log new k more rows then e read again was added is le read_is again_is routes counts =
    let at_more : IsBook (log ++ e ∷ []) more then = record {
      counted = subst (λ (x : LogEntry). IsKeptOf (tally_after nothing_yet (log ++ x ∷ [])) more) again_is (counts nothing_yet log was.counted);
      routed = routes [] log was.routed ∙ ap (λ (x : LogEntry). rows_after [] (log ++ x ∷ [])) read_is;
      fit = fit_more 0 log e was.fit is le;
    } in
    subst (λ (l : List LogEntry). IsBook l more then) (sym added) at_more

-- the same counts, read through a reference
pub book_at : (log : List LogEntry) (k same : Kept) (rows : List Row) → same ≡ k → IsBook log k rows → IsBook log same rows
book_at log k same rows is was = subst (λ (x : Kept). IsBook log x rows) (sym is) was
