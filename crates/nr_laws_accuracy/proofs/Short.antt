-- An event appends few entries.
use Rattle.std.proofs.Common.{◌≡◌, ℕ, suc, ◌+◌, ◌≤◌, Bool, true, false, cond, List, [], ◌∷◌, ◌++◌, length, Option, Some, None, Ok, refl, ap, subst, arith}
use Rattle.std.proofs.lemmas.List.{length-append}
use Rattle.std.proofs.lemmas.List.FromFn.{length-range_with_len}
use Rattle.std.specs.List.{filter, range_with_len}
use Rattle.nr_spec_log.specs.Chain.{LogEntry}
use Rattle.nr_spec_entry.specs.Contents.{Content}
use Rattle.nr_spec_counts.specs.Tallies.{Tally}
use Rattle.nr_spec_steps.specs.Events.{Begin, Close, Event, FrameCame, Heard, Said, StateChanged, time_of}
use Rattle.nr_spec_steps.specs.Steps.{commits_to, core_step, entry_for, heads_for, is_due, is_idle, known, moment, passing, Recorder, sealed, spoken, told}
use Rattle.nr_laws_accuracy.proofs.Done.{step_is}

kept_by : (b : Bool) (x : ℕ) (kept : List ℕ) (size : ℕ) → length kept ≤ size → length (cond b (x ∷ kept) kept) ≤ suc size
kept_by true x kept size le = omega arith
kept_by false x kept size le = omega arith

filter_short : (p : ℕ → Bool) (xs : List ℕ) → length (filter p xs) ≤ length xs
filter_short p [] = omega arith
filter_short p (x ∷ xs) = kept_by (p x) x (filter p xs) (length xs) (filter_short p xs)

passing_short : (bound : ℕ) (p : ℕ → Bool) → length (passing bound p) ≤ bound
unfolding passing
passing_short bound p = omega (arith, filter_short p (range_with_len 0 bound), length-range_with_len 0 bound)

pub heads_short : (t : Tally) (now : ℕ) (event : Event) → length (heads_for t now event) ≤ 512
heads_short t now (Begin time) = omega (arith, passing_short 256 (is_due t now))
heads_short t now (Heard time n as4 raw) = omega (arith, passing_short 256 (is_due t now))
heads_short t now (Said time n as4 raw) = omega (arith, passing_short 256 (is_due t now))
heads_short t now (StateChanged time n old new) = omega (arith, passing_short 256 (is_due t now))
heads_short t now (FrameCame bytes) = omega (arith, passing_short 256 (is_due t now))
heads_short t now (Close time) = close_short (passing 256 (is_due t now)) (passing 256 _) (passing_short 256 (is_due t now)) (passing_short 256 _)
  where
    close_short : (xs ys : List ℕ) → length xs ≤ 256 → length ys ≤ 256 → length (xs ++ ys) ≤ 512
    close_short xs ys a b = omega (arith, length-append xs ys)

commits_short : (now leaf : ℕ) (ns : List ℕ) → length (commits_to now leaf ns) ≡ length ns
commits_short now leaf [] = refl
commits_short now leaf (n ∷ ns) = ap suc (commits_short now (leaf + 1) ns)

told_short : (now : ℕ) (o : Option Content) → length (entry_for now o) ≤ 1
told_short now None = omega arith
told_short now (Some c) = omega arith

sealed_short : (log : List LogEntry) (now leaf : ℕ) (event : Event) → length (sealed log now leaf event) ≤ 2
sealed_short log now leaf (Begin time) = omega arith
sealed_short log now leaf (Heard time n as4 raw) = omega arith
sealed_short log now leaf (Said time n as4 raw) = omega arith
sealed_short log now leaf (StateChanged time n old new) = omega arith
sealed_short log now leaf (FrameCame bytes) = omega arith
sealed_short log now leaf (Close time) = omega arith

three_short : (xs ys zs : List LogEntry) → length xs ≤ 512 → length ys ≤ 1 → length zs ≤ 2 → length (xs ++ (ys ++ zs)) ≤ 1024
three_short xs ys zs a b c = omega (arith, length-append xs (ys ++ zs), length-append ys zs)

spoken_short : (r : Recorder) (log : List LogEntry) (event : Event) → length (spoken r log event) ≤ 1024
unfolding spoken
spoken_short r log event =
    let now = moment log (time_of event) in
    let ns = heads_for (known log) now event in
    let heads : length (commits_to now (known log).commits ns) ≤ 512 = omega (arith, commits_short now (known log).commits ns, heads_short (known log) now event) in
    three_short (commits_to now (known log).commits ns) (entry_for now (told r log event)) _ heads (told_short now (told r log event)) (sealed_short _ now _ event)

appended_by : (b : Bool) (xs : List LogEntry) → length xs ≤ 1024 → length (cond b [] xs) ≤ 1024
appended_by true xs le = omega arith
appended_by false xs le = le

pub step_short : (r : Recorder) (log : List LogEntry) (event : Event) (batch : List LogEntry) → core_step r log event ≡ Ok batch → length batch ≤ 1024
step_short r log event batch e =
    subst (λ (l : List LogEntry). length l ≤ 1024) (step_is r log event batch e).are (appended_by (is_idle event (told r log event)) (spoken r log event) (spoken_short r log event))
