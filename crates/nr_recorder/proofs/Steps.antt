-- What the step of an event appends, by what was asked of the log before it.
use Rattle.std.proofs.Common.{◌≡◌, ℕ, ◌+◌, max, Bool, true, false, cond, List, [], ◌++◌, length, filter, Option, Some, None, Ok, Err, refl, sym, ap, ◌∙◌, ltb}
use Rattle.nr_spec_log.specs.Chain.{LogEntry}
use Rattle.nr_spec_entry.specs.Contents.{Content}
use Rattle.nr_spec_steps.specs.Events.{Begin, Close, Event, FrameCame, Heard, Said, StateChanged, is_close, time_of}
use Rattle.nr_spec_steps.specs.Steps.{Recorder, appended, commits_to, core_step, entry_for, heads_for, is_idle, is_spent, known, leaves_for, moment, sealed, spoken, told}
use Rattle.nr_spec_steps.specs.Heads.{Committed, committed_by, numbered}
use Rattle.nr_recorder.specs.Speaking.{ending}

so_then : {A : Type 0} (test : Bool) (x y : A) → test ≡ true → cond test x y ≡ x
so_then true x y h = refl
so_then false x y h = absurd cc

not_then : {A : Type 0} (test : Bool) (x y : A) → test ≡ false → cond test x y ≡ y
not_then true x y h = absurd cc
not_then false x y h = refl

-- ---- idle events

pub idle_step : (r : Recorder) (log : List LogEntry) (event : Event) → is_idle event (told r log event) ≡ true → core_step r log event ≡ Ok []
unfolding core_step
idle_step r log event idle =
    let taken : leaves_for r log event ≡ 0 = so_then _ _ _ idle in
    let nothing : appended r log event ≡ [] = so_then _ _ _ idle in
    ap (λ (k : ℕ). cond (is_spent r.leaves (known log).commits k) (Err (record { commits = max (known log).commits r.leaves; leaves = r.leaves })) (Ok (appended r log event))) taken
    ∙ ap (λ (batch : List LogEntry). Ok batch) nothing

pub idle_commits : (r : Recorder) (log : List LogEntry) (event : Event) → is_idle event (told r log event) ≡ true → [] ≡ committed_by r log event
unfolding committed_by
idle_commits r log event idle = sym (so_then _ _ _ idle)

-- ---- others

-- behind the COMMITs there is the one entry or the seal, and never both
ending_is : (event : Event) (content : Option Content) (log : List LogEntry) (now leaf : ℕ) → is_idle event content ≡ false → (is_close event ≡ true → content ≡ None)
    → ending log now leaf content ≡ entry_for now content ++ sealed log now leaf event
ending_is (Begin time) None log now leaf busy closed = absurd cc
ending_is (Begin time) (Some c) log now leaf busy closed = refl
ending_is (Heard time n as4 raw) None log now leaf busy closed = absurd cc
ending_is (Heard time n as4 raw) (Some c) log now leaf busy closed = refl
ending_is (Said time n as4 raw) None log now leaf busy closed = absurd cc
ending_is (Said time n as4 raw) (Some c) log now leaf busy closed = refl
ending_is (StateChanged time n old new) None log now leaf busy closed = absurd cc
ending_is (StateChanged time n old new) (Some c) log now leaf busy closed = refl
ending_is (FrameCame bytes) None log now leaf busy closed = absurd cc
ending_is (FrameCame bytes) (Some c) log now leaf busy closed = refl
ending_is (Close time) None log now leaf busy closed = refl
ending_is (Close time) (Some c) log now leaf busy closed = let e = closed refl in absurd cc

close_tells : (r : Recorder) (log : List LogEntry) (event : Event) → is_close event ≡ true → told r log event ≡ None
close_tells r log (Begin time) e = absurd cc
close_tells r log (Heard time n as4 raw) e = absurd cc
close_tells r log (Said time n as4 raw) e = absurd cc
close_tells r log (StateChanged time n old new) e = absurd cc
close_tells r log (FrameCame bytes) e = absurd cc
close_tells r log (Close time) e = refl

module _ (r : Recorder) (log : List LogEntry) (event : Event) (now commits : ℕ) (heads : List ℕ) (busy : is_idle event (told r log event) ≡ false) (now_is : now ≡ moment log (time_of event)) (commits_is : commits ≡ (known log).commits) (heads_is : heads ≡ heads_for (known log) now event) where
  heads_then : heads ≡ heads_for (known log) (moment log (time_of event)) event
  heads_then = heads_is ∙ ap (λ (k : ℕ). heads_for (known log) k event) now_is

  taken_is : length heads + cond (is_close event) 1 0 ≡ leaves_for r log event
  taken_is = ap (λ (l : List ℕ). length l + cond (is_close event) 1 0) heads_then ∙ sym (not_then _ _ _ busy)

  tested : is_spent r.leaves commits (length heads + cond (is_close event) 1 0) ≡ is_spent r.leaves (known log).commits (leaves_for r log event)
  tested = λ i. is_spent r.leaves (commits_is i) (taken_is i)

  pub spent_step : is_spent r.leaves commits (length heads + cond (is_close event) 1 0) ≡ true → core_step r log event ≡ Err (record { commits = max commits r.leaves; leaves = r.leaves })
  unfolding core_step
  spent_step h = so_then _ _ _ (sym tested ∙ h) ∙ ap (λ (k : ℕ). Err (record { commits = max k r.leaves; leaves = r.leaves })) (sym commits_is)

  spoken_is : commits_to now commits heads ++ ending (log ++ commits_to now commits heads) now (commits + length heads) (told r log event) ≡ spoken r log event
  unfolding spoken
  spoken_is =
      ap (λ (t : List LogEntry). commits_to now commits heads ++ t) (ending_is event (told r log event) (log ++ commits_to now commits heads) now (commits + length heads) busy (close_tells r log event))
      ∙ (λ i. let committed = commits_to (now_is i) (commits_is i) (heads_then i) in
      committed ++ (entry_for (now_is i) (told r log event) ++ sealed (log ++ committed) (now_is i) (commits_is i + length (heads_then i)) event))

  pub spoken_step : is_spent r.leaves commits (length heads + cond (is_close event) 1 0) ≡ false
      → core_step r log event ≡ Ok (commits_to now commits heads ++ ending (log ++ commits_to now commits heads) now (commits + length heads) (told r log event))
  unfolding core_step
  spoken_step h = not_then _ _ _ (sym tested ∙ h) ∙ ap (λ (batch : List LogEntry). Ok batch) (not_then _ _ _ busy ∙ sym spoken_is)

  pub spoken_commits : filter (λ (c : Committed). ltb c.neighbour r.own.count) (numbered (length log + 1) heads) ≡ committed_by r log event
  unfolding committed_by
  spoken_commits = ap (λ (l : List ℕ). filter (λ (c : Committed). ltb c.neighbour r.own.count) (numbered (length log + 1) l)) heads_then ∙ sym (not_then _ _ _ busy)
