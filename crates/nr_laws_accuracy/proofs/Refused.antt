-- A step is refused where the key has no leaf for a COMMIT.
use Rattle.std.proofs.Common.{◌≡◌, ℕ, zero, suc, ◌+◌, ◌<◌, ◌≤◌, Bool, true, false, cond, ltb, List, length, max, Result, Ok, Err, refl, sym, ap, subst, ◌∙◌, arith}
use Rattle.std.proofs.lemmas.Bool.{ltb-true}
use Rattle.std.specs.Prelude.{IsOk}
use Rattle.std.specs.List.{AllByRecursion, range_with_len}
use Rattle.nr_spec_log.specs.Chain.{LogEntry}
use Rattle.nr_spec_steps.specs.Events.{Event, is_close, time_of}
use Rattle.nr_spec_steps.specs.Steps.{Recorder, Spent, appended, core_step, heads_for, is_idle, is_spent, known, leaves_for, moment, told}
use Rattle.nr_spec_steps.specs.Telling.{IsRecorder, MayCome}
use Rattle.nr_laws_accuracy.specs.Allowed.{IsAllowed, leaves_of}
use Rattle.nr_laws_accuracy.proofs.Tallying.{both_true}
use Rattle.nr_laws_accuracy.proofs.Step.{appended_stepped, few_leaves, not_spent}
use Rattle.nr_laws_accuracy.proofs.Short.{heads_short}
use Rattle.nr_laws_accuracy.proofs.Allowed.{allowed_sound, counting_below, leaves_from}

taken_by : (b c : Bool) (heads : ℕ) → heads ≤ 512 → cond b 0 (heads + cond c 1 0) ≤ 513
taken_by true c heads le = omega arith
taken_by false true heads le = omega arith
taken_by false false heads le = omega arith

taken_few : (r : Recorder) (log : List LogEntry) (event : Event) → leaves_for r log event ≤ 513
taken_few r log event =
    let heads = heads_for (known log) (moment log (time_of event)) event in
    taken_by (is_idle event (told r log event)) (is_close event) (length heads) (heads_short (known log) (moment log (time_of event)) event)

-- what it would append names the next leaves, one for each that it takes
named : (r : Recorder) (log : List LogEntry) (event : Event) → IsRecorder r → IsAllowed r.own log → (known log).commits ≤ r.leaves → MayCome r log event
    → leaves_of (appended r log event) ≡ range_with_len (known log).commits (leaves_for r log event)
named r log event is allowed le may =
    let few = few_leaves r is in
    let s = appended_stepped r log event is (allowed_sound r.own log allowed) may (λ h. omega (arith, le, few, taken_few r log event)) in
    let o = leaves_from r.own (appended r log event) log s.went.right in
    let count : o.count ≡ leaves_for r log event = omega (arith, o.ends, s.commits) in
    o.are ∙ ap (λ (k : ℕ). range_with_len (known log).commits k) count

-- numbers that count up and are all below a bound end below it
ends_below : (top from size : ℕ) → AllByRecursion (λ y. y < top) (range_with_len from size) → 0 < size → from + size ≤ top
ends_below top from zero all pos = absurd (omega arith)
ends_below top from (suc zero) all pos = omega (arith, all.0)
ends_below top from (suc (suc size)) all pos = let later = ends_below top (from + 1) (suc size) all.1 (omega arith) in omega (arith, later)

all_named : (taken before leaves : ℕ) → before ≤ leaves → (0 < taken → before + taken ≤ leaves) → before + taken ≤ leaves
all_named zero before leaves le room = omega (arith, le)
all_named (suc taken) before leaves le room = room (omega arith)

refused_by : (b : Bool) (leaves before taken : ℕ) (spent : Spent) (batch : List LogEntry) (names : List ℕ) → is_spent leaves before taken ≡ b → before ≤ leaves → names ≡ range_with_len before taken
    → (IsOk (cond b (let x : Result (List LogEntry) Spent = Err spent in x) (Ok batch)) → AllByRecursion (λ leaf. leaf < leaves) names)
    × (AllByRecursion (λ leaf. leaf < leaves) names → IsOk (cond b (let x : Result (List LogEntry) Spent = Err spent in x) (Ok batch)))
refused_by true leaves before taken spent batch names is le are = (λ done. absurd cc, λ all. absurd (none all))
  where
    none : AllByRecursion (λ leaf. leaf < leaves) names → ⊥
    none all =
        let both = both_true (ltb 0 taken) (ltb leaves (before + taken)) is in
        let past = ltb-true _ _ both.1 in
        let ends = ends_below leaves before taken (subst (AllByRecursion (λ (leaf : ℕ). leaf < leaves)) are all) (ltb-true _ _ both.0) in
        omega (arith, past, ends)
refused_by false leaves before taken spent batch names is le are =
    (λ done. subst (AllByRecursion (λ (leaf : ℕ). leaf < leaves)) (sym are) (counting_below leaves before taken (all_named taken before leaves le (not_spent leaves before taken is))), λ all. refl)

pub refused : (r : Recorder) (log : List LogEntry) (event : Event) → IsRecorder r → IsAllowed r.own log → (known log).commits ≤ r.leaves → MayCome r log event
    → (IsOk (core_step r log event) → AllByRecursion (λ leaf. leaf < r.leaves) (leaves_of (appended r log event))) × (AllByRecursion (λ leaf. leaf < r.leaves) (leaves_of (appended r log event)) → IsOk (core_step r log event))
unfolding core_step
refused r log event is allowed le may =
    refused_by (is_spent r.leaves (known log).commits (leaves_for r log event)) r.leaves (known log).commits (leaves_for r log event) (record { commits = max (known log).commits r.leaves; leaves = r.leaves })
    (appended r log event) (leaves_of (appended r log event)) refl le (named r log event is allowed le may)
