-- What a step appends is what the rules give.
use Rattle.std.proofs.Common.{◌≡◌, ℕ, suc, ◌+◌, ◌^◌, ◌<◌, ◌≤◌, inl, Bool, true, false, cond, not, ◌&&◌, eqb, List, [], ◌∷◌, ◌++◌, length, Option, Some, None, Ok, refl, sym, ap, subst, ◌∙◌, append_assoc, append-nil, arith}
use Rattle.std.proofs.lemmas.Bool.{eqb-true}
use Rattle.std.proofs.lemmas.List.{length-append}
use Rattle.std.specs.List.{filter, range_with_len, AllByRecursion}
use Rattle.std.specs.Option.{is_some}
use Rattle.sha2.proofs.Facts256.{length-sha256}
use Rattle.nr_spec_log.specs.Chain.{LogEntry}
use Rattle.nr_spec_entry.specs.Contents.{auditor, Checkpoint, Commit, most_neighbours}
use Rattle.nr_spec_routes.specs.LookBack.{later_or}
use Rattle.nr_spec_routes.proofs.Words.{later_or-none}
use Rattle.nr_spec_counts.specs.Tallies.{Tally}
use Rattle.nr_spec_counts.specs.Causes.{is_declared, lowest_overdue}
use Rattle.nr_spec_counts.specs.Steps.{counted}
use Rattle.nr_spec_steps.specs.Events.{Begin, Close, Event, FrameCame, Heard, Said, StateChanged, time_of}
use Rattle.nr_spec_steps.specs.Steps.{Recorder, body_digest, commits_to, core_step, entry_for, is_due, is_idle, known, leaves_for, made, moment, neighbours_with, passing, spoken, told, waits}
use Rattle.nr_spec_steps.specs.Telling.{IsRecorder}
use Rattle.nr_laws_accuracy.specs.Rules.{AreOverdueHeads, IsByRules, heads_to, next_checkpoint, next_commit, seal_behind, waiting_heads}
use Rattle.nr_laws_accuracy.proofs.Ranges.{lowest_none, lowest_some, passing_first, passing_rest, passing_same}
use Rattle.nr_laws_accuracy.proofs.Done.{step_is}
use Rattle.nr_laws_accuracy.proofs.Tallying.{and_false, and_true, due_but, known_next}
use Rattle.nr_laws_accuracy.proofs.Walk.{due}
use Rattle.nr_laws_accuracy.proofs.Step.{not_spent, few_leaves}
use Rattle.nr_laws_accuracy.proofs.Listed.{neighbours_below, taken}

next_known : (log : List LogEntry) (now n : ℕ) → n < most_neighbours → (known log).commits < 2 ^ 32 → known (log ++ next_commit log now n ∷ []) ≡ counted (known log) (Some (Commit n (known log).commits)) now
next_known log now n lt low = known_next log now (Commit n (known log).commits) (inl lt, low)

-- ---- who waits and isn't overdue

abbrev waiting : Tally → ℕ → ℕ → Bool
waiting t now m = waits t m && not (is_due t now m)

still_by : (b d : Bool) (o : Option ℕ) (before after : Bool) → (b ≡ true → before ≡ true) → after ≡ (before && not b)
    → ((d && is_some (cond b None (later_or o None))) && not after) ≡ ((d && is_some o) && not before)
still_by true true o before after is e = sym (ap (λ x. is_some o && not x) (is refl) ∙ and_false (is_some o))
still_by true false o before after is e = refl
still_by false d o before after is e = λ i. (d && is_some (later_or-none o i)) && not ((e ∙ and_true before) i)

-- a COMMIT to one that is overdue takes none of them away
still_waits : (t : Tally) (n leaf now m : ℕ) → is_due t now n ≡ true → waiting (counted t (Some (Commit n leaf)) now) now m ≡ waiting t now m
still_waits t n leaf now m is =
    still_by (eqb n m) (is_declared t.in_force m) (t.oldest m) (is_due t now m) (is_due (counted t (Some (Commit n leaf)) now) now m)
    (λ e. subst (λ (k : ℕ). is_due t now k ≡ true) (eqb-true n m e) is) (due_but t n leaf now m)

kept_by : (p w : Bool) (x : ℕ) (none ws ks : List ℕ) → (none ≡ [] → ks ≡ ws) → cond p (x ∷ none) none ≡ [] → cond (w && not p) (x ∷ ks) ks ≡ cond w (x ∷ ws) ws
kept_by true w x none ws ks same e = absurd cc
kept_by false w x none ws ks same e = λ i. cond (and_true w i) (x ∷ same e i) (same e i)

kept : (p w : ℕ → Bool) (xs : List ℕ) → filter p xs ≡ [] → filter (λ m. w m && not (p m)) xs ≡ filter w xs
kept p w [] e = refl
kept p w (x ∷ xs) e = kept_by (p x) (w x) x (filter p xs) (filter w xs) (filter (λ m. w m && not (p m)) xs) (kept p w xs) e

-- where none is overdue, all that wait
all_wait : (bound : ℕ) (p w : ℕ → Bool) → passing bound p ≡ [] → passing bound (λ m. w m && not (p m)) ≡ passing bound w
unfolding passing
all_wait bound p w e = kept p w (range_with_len 0 bound) e

-- ---- the heads of those that are overdue

record Headed (log heads : List LogEntry) (now count : ℕ) : Type 0 where
  pub rule : AreOverdueHeads now log heads
  pub commits : (known (log ++ heads)).commits ≡ (known log).commits + count
  pub none : due (known (log ++ heads)) now ≡ []
  pub others : (m : ℕ) → waiting (known (log ++ heads)) now m ≡ waiting (known log) now m

heads_by : (now : ℕ) (ns : List ℕ) (log : List LogEntry) → due (known log) now ≡ ns → (0 < length ns → (known log).commits + length ns ≤ 2 ^ 32) → Headed log (commits_to now (known log).commits ns) now (length ns)
heads_by now [] log is low =
    let same : log ≡ log ++ [] = sym (append-nil log) in
    record {
      rule = lowest_none most_neighbours (is_due (known log) now) is;
      commits = subst (λ (l : List LogEntry). (known l).commits ≡ (known log).commits + 0) same (omega arith);
      none = subst (λ (l : List LogEntry). due (known l) now ≡ []) same is;
      others = λ m. subst (λ (l : List LogEntry). waiting (known l) now m ≡ waiting (known log) now m) same refl;
    }
heads_by now (n ∷ ns) log is low =
    let t = known log in
    let e = next_commit log now n in
    let fits : t.commits + length (n ∷ ns) ≤ 2 ^ 32 = low (omega arith) in
    let first = passing_first most_neighbours (is_due t now) n ns is in
    let next = next_known log now n first.1 (omega (arith, fits)) in
    let one : (known (log ++ e ∷ [])).commits ≡ t.commits + 1 = ap (λ (u : Tally). u.commits) next in
    let rest : due (known (log ++ e ∷ [])) now ≡ ns =
    ap (λ (u : Tally). due u now) next ∙ passing_rest most_neighbours (is_due t now) (is_due (counted t (Some (Commit n t.commits)) now) now) n ns (due_but t n t.commits now) is in
    let later : Headed (log ++ e ∷ []) (commits_to now (t.commits + 1) ns) now (length ns) =
    subst (λ (k : ℕ). Headed (log ++ e ∷ []) (commits_to now k ns) now (length ns)) one (heads_by now ns (log ++ e ∷ []) rest (λ h. omega (arith, one, fits))) in
    let heads = commits_to now (t.commits + 1) ns in
    let same : (log ++ e ∷ []) ++ heads ≡ log ++ (e ∷ heads) = append_assoc log (e ∷ []) heads in
    record {
      rule = (n, lowest_some most_neighbours (is_due t now) n ns is, refl, later.rule);
      commits = subst (λ (l : List LogEntry). (known l).commits ≡ t.commits + suc (length ns)) same (omega (arith, later.commits, one));
      none = subst (λ (l : List LogEntry). due (known l) now ≡ []) same later.none;
      others = λ m. subst (λ (l : List LogEntry). waiting (known l) now m ≡ waiting t now m) same
          (later.others m ∙ (ap (λ (u : Tally). waiting u now m) next ∙ still_waits t n t.commits now m first.0));
    }

-- ---- heads for others

record Counted (log heads : List LogEntry) (now : ℕ) (ns : List ℕ) : Type 0 where
  pub are : heads_to now log ns ≡ heads
  pub commits : (known (log ++ heads)).commits ≡ (known log).commits + length ns

counted_by : (now : ℕ) (ns : List ℕ) (log : List LogEntry) → AllByRecursion (λ n. n < most_neighbours) ns → (0 < length ns → (known log).commits + length ns ≤ 2 ^ 32) → Counted log (commits_to now (known log).commits ns) now ns
counted_by now [] log all low = record {
  are = refl;
  commits = subst (λ (l : List LogEntry). (known l).commits ≡ (known log).commits + 0) (sym (append-nil log)) (omega arith);
}
counted_by now (n ∷ ns) log all low =
    let t = known log in
    let e = next_commit log now n in
    let fits : t.commits + length (n ∷ ns) ≤ 2 ^ 32 = low (omega arith) in
    let next = next_known log now n all.0 (omega (arith, fits)) in
    let one : (known (log ++ e ∷ [])).commits ≡ t.commits + 1 = ap (λ (u : Tally). u.commits) next in
    let later : Counted (log ++ e ∷ []) (commits_to now (t.commits + 1) ns) now ns =
    subst (λ (k : ℕ). Counted (log ++ e ∷ []) (commits_to now k ns) now ns) one (counted_by now ns (log ++ e ∷ []) all.1 (λ h. omega (arith, one, fits))) in
    let same : (log ++ e ∷ []) ++ commits_to now (t.commits + 1) ns ≡ log ++ (e ∷ commits_to now (t.commits + 1) ns) = append_assoc log (e ∷ []) (commits_to now (t.commits + 1) ns) in
    record {
      are = ap (λ (l : List LogEntry). e ∷ l) later.are;
      commits = subst (λ (l : List LogEntry). (known l).commits ≡ t.commits + suc (length ns)) same (omega (arith, later.commits, one));
    }

commits_split : (now leaf : ℕ) (xs ys : List ℕ) → commits_to now leaf (xs ++ ys) ≡ commits_to now leaf xs ++ commits_to now (leaf + length xs) ys
commits_split now leaf [] ys = ap (λ (k : ℕ). commits_to now k ys) (omega arith)
commits_split now leaf (x ∷ xs) ys =
    let size : leaf + 1 + length xs ≡ leaf + length (x ∷ xs) = omega arith in
    ap (λ (l : List LogEntry). made now (Commit x leaf) ∷ l) (commits_split now (leaf + 1) xs ys ∙ ap (λ (k : ℕ). commits_to now (leaf + 1) xs ++ commits_to now k ys) size)

-- ---- the seal

plus_none : (n : ℕ) → n + 0 ≡ n
plus_none n = omega arith

-- a checkpoint adds no COMMIT
seal_by : (now leaf : ℕ) (log : List LogEntry) → (known log).commits ≡ leaf → made now (Checkpoint (body_digest log)) ∷ made now (Commit auditor leaf) ∷ [] ≡ seal_behind now log
seal_by now leaf log is =
    let ck = next_checkpoint log now in
    let next : known (log ++ ck ∷ []) ≡ counted (known log) (Some (Checkpoint (body_digest log))) now = known_next log now (Checkpoint (body_digest log)) (length-sha256 _) in
    let number : leaf ≡ (known (log ++ ck ∷ [])).commits = sym (ap (λ (u : Tally). u.commits) next ∙ (plus_none (known log).commits ∙ is)) in
    ap (λ (k : ℕ). ck ∷ made now (Commit auditor k) ∷ []) number

-- ---- a step

plain_by : (r : Recorder) (log : List LogEntry) (event : Event) (now : ℕ) → (0 < length (due (known log) now) + 0 → (known log).commits + (length (due (known log) now) + 0) ≤ 2 ^ 32)
    → Headed log (commits_to now (known log).commits (due (known log) now)) now (length (due (known log) now))
plain_by r log event now low =
    heads_by now (due (known log) now) log refl (λ h. let k : (known log).commits + (length (due (known log) now) + 0) ≤ 2 ^ 32 = low (omega (arith, h)) in omega (arith, k))

-- the entry that an event is about, with nothing behind it
about : (heads entry : List LogEntry) → heads ++ (entry ++ []) ≡ heads ++ entry
about heads entry = ap (λ (l : List LogEntry). heads ++ l) (append-nil entry)

abbrev others_waiting : Tally → ℕ → List ℕ
others_waiting t now = neighbours_with (waiting t now)

record Closed (log batch : List LogEntry) (now : ℕ) : Type 0 where
  pub heads : List LogEntry
  pub overdue : AreOverdueHeads now log heads
  pub is : batch ≡ heads ++ (waiting_heads now (log ++ heads) ++ seal_behind now ((log ++ heads) ++ waiting_heads now (log ++ heads)))

closed_by : (log : List LogEntry) (now : ℕ) → (known log).commits + (length (due (known log) now ++ others_waiting (known log) now) + 1) ≤ 2 ^ 32
    → Closed log (commits_to now (known log).commits (due (known log) now ++ others_waiting (known log) now)
    ++ (made now (Checkpoint (body_digest (log ++ commits_to now (known log).commits (due (known log) now ++ others_waiting (known log) now))))
    ∷ made now (Commit auditor ((known log).commits + length (due (known log) now ++ others_waiting (known log) now))) ∷ [])) now
closed_by log now low =
    let t = known log in
    let ds = due t now in
    let ws = others_waiting t now in
    let size : length (ds ++ ws) ≡ length ds + length ws = length-append ds ws in
    let heads = commits_to now t.commits ds in
    let h : Headed log heads now (length ds) = heads_by now ds log refl (λ k. omega (arith, size, low)) in
    let mid = log ++ heads in
    let u = known mid in
    let still : neighbours_with (waits u) ≡ ws =
    sym (all_wait most_neighbours (is_due u now) (waits u) h.none) ∙ passing_same most_neighbours (waiting t now) (waiting u now) h.others in
    let more = commits_to now u.commits ws in
    let c : Counted mid more now ws = counted_by now ws mid (neighbours_below (waiting t now)) (λ k. omega (arith, size, low, h.commits)) in
    let are : waiting_heads now mid ≡ more = ap (heads_to now mid) still ∙ c.are in
    let all : commits_to now t.commits (ds ++ ws) ≡ heads ++ more = commits_split now t.commits ds ws ∙ ap (λ (k : ℕ). heads ++ commits_to now k ws) (sym h.commits) in
    let whole : log ++ commits_to now t.commits (ds ++ ws) ≡ mid ++ more = ap (λ (l : List LogEntry). log ++ l) all ∙ sym (append_assoc log heads more) in
    let number : (known (mid ++ more)).commits ≡ t.commits + length (ds ++ ws) = omega (arith, c.commits, h.commits, size) in
    let seal : made now (Checkpoint (body_digest (log ++ commits_to now t.commits (ds ++ ws)))) ∷ made now (Commit auditor (t.commits + length (ds ++ ws))) ∷ [] ≡ seal_behind now (mid ++ more) =
    ap (λ (l : List LogEntry). made now (Checkpoint (body_digest l)) ∷ made now (Commit auditor (t.commits + length (ds ++ ws))) ∷ []) whole ∙ seal_by now (t.commits + length (ds ++ ws)) (mid ++ more) number in
    record {
      heads = heads;
      overdue = h.rule;
      is = (λ i. all i ++ seal i) ∙ (append_assoc heads more (seal_behind now (mid ++ more)) ∙ ap (λ (l : List LogEntry). heads ++ (l ++ seal_behind now (mid ++ l))) (sym are));
    }

spoken_by : (r : Recorder) (log : List LogEntry) (event : Event) → (0 < taken (known log) (moment log (time_of event)) event → (known log).commits + taken (known log) (moment log (time_of event)) event ≤ 2 ^ 32)
    → IsByRules r log event (spoken r log event)
unfolding spoken
spoken_by r log (Begin time) low =
    let h = plain_by r log (Begin time) (moment log time) low in
    record { heads = _; overdue = h.rule; is = about _ (entry_for (moment log time) (told r log (Begin time))) }
spoken_by r log (Heard time n as4 raw) low =
    let h = plain_by r log (Heard time n as4 raw) (moment log time) low in
    record { heads = _; overdue = h.rule; is = about _ (entry_for (moment log time) (told r log (Heard time n as4 raw))) }
spoken_by r log (Said time n as4 raw) low =
    let h = plain_by r log (Said time n as4 raw) (moment log time) low in
    record { heads = _; overdue = h.rule; is = about _ (entry_for (moment log time) (told r log (Said time n as4 raw))) }
spoken_by r log (StateChanged time n old new) low =
    let h = plain_by r log (StateChanged time n old new) (moment log time) low in
    record { heads = _; overdue = h.rule; is = about _ (entry_for (moment log time) (told r log (StateChanged time n old new))) }
spoken_by r log (FrameCame bytes) low =
    let h = plain_by r log (FrameCame bytes) (moment log 0) low in
    record { heads = _; overdue = h.rule; is = about _ (entry_for (moment log 0) (told r log (FrameCame bytes))) }
spoken_by r log (Close time) low =
    let c = closed_by log (moment log time) (low (omega arith)) in
    record { heads = c.heads; overdue = c.overdue; is = c.is }

idle_by : (b : Bool) (xs : List LogEntry) → b ≡ true → cond b [] xs ≡ []
idle_by true xs e = refl
idle_by false xs e = absurd cc

pub idle_rule : (r : Recorder) (log : List LogEntry) (event : Event) (batch : List LogEntry) → core_step r log event ≡ Ok batch → is_idle event (told r log event) ≡ true → batch ≡ []
idle_rule r log event batch e idle = sym (step_is r log event batch e).are ∙ idle_by (is_idle event (told r log event)) (spoken r log event) idle

busy_by : (b : Bool) (r : Recorder) (log : List LogEntry) (event : Event) → b ≡ false
    → (0 < cond b 0 (taken (known log) (moment log (time_of event)) event) → (known log).commits + cond b 0 (taken (known log) (moment log (time_of event)) event) ≤ 2 ^ 32)
    → IsByRules r log event (cond b [] (spoken r log event))
busy_by true r log event e low = absurd cc
busy_by false r log event e low = spoken_by r log event low

pub step_rule : (r : Recorder) (log : List LogEntry) (event : Event) (batch : List LogEntry) → IsRecorder r → core_step r log event ≡ Ok batch → is_idle event (told r log event) ≡ false → IsByRules r log event batch
step_rule r log event batch is e busy =
    let done = step_is r log event batch e in
    let few = few_leaves r is in
    let room : 0 < leaves_for r log event → (known log).commits + leaves_for r log event ≤ 2 ^ 32 = λ h. omega (arith, few, not_spent r.leaves (known log).commits (leaves_for r log event) done.spare h) in
    subst (IsByRules r log event) done.are (busy_by (is_idle event (told r log event)) r log event busy room)

-- ---- no other heads are those of the rule

same_some : (m n : ℕ) (o : Option ℕ) → o ≡ Some m → o ≡ Some n → m ≡ n
same_some m n o a b = cc

not_both : (n : ℕ) (o : Option ℕ) → o ≡ None → o ≡ Some n → ⊥
not_both n o a b = cc

pub one_rule : (now : ℕ) (xs ys log : List LogEntry) → AreOverdueHeads now log xs → AreOverdueHeads now log ys → xs ≡ ys
one_rule now [] [] log a b = refl
one_rule now [] (y ∷ ys) log a b = absurd (not_both b.0 (lowest_overdue (known log) now) a b.1)
one_rule now (x ∷ xs) [] log a b = absurd (not_both a.0 (lowest_overdue (known log) now) b a.1)
one_rule now (x ∷ xs) (y ∷ ys) log a b =
    let who : a.0 ≡ b.0 = same_some a.0 b.0 (lowest_overdue (known log) now) a.1 b.1 in
    let same : x ≡ y = a.2 ∙ (ap (λ (n : ℕ). next_commit log now n) who ∙ sym b.2) in
    let rest : AreOverdueHeads now (log ++ x ∷ []) ys = subst (λ (e : LogEntry). AreOverdueHeads now (log ++ e ∷ []) ys) (sym same) b.3 in
    λ i. same i ∷ one_rule now xs ys (log ++ x ∷ []) a.3 rest i
