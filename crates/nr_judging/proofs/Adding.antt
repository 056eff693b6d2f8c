-- What one more entry adds, as the code has it.
use Rattle.std.proofs.Common.{◌≡◌, ℕ, ◌+◌, ◌*◌, ◌≤◌, Bool, false, List, [], ◌∷◌, ◌++◌, length, Option, refl, ap, sym, ◌∙◌, subst, append-nil, mul-add, arith}
use Rattle.std.specs.Prelude.{nat_lt}
use Rattle.std.proofs.lemmas.List.Sums.{sum_by-append}
use Rattle.std.proofs.lemmas.Bool.Decides.{nat_tests}
use Rattle.nr_spec_bgp.specs.Prefixes.{Cidr}
use Rattle.nr_spec_log.specs.Chain.{LogEntry}
use Rattle.nr_spec_history.specs.Conflicts.{Period}
use Rattle.nr_spec_routes.specs.Keys.{Row}
use Rattle.nr_spec_routes.specs.Effects.{effect_of}
use Rattle.nr_spec_routes.specs.Rows.{rows_after}
use Rattle.nr_spec_routes.specs.Touched.{touched_by}
use Rattle.nr_spec_truth.specs.Truths.{Truth}
use Rattle.nr_spec_report.specs.Wrong.{Base}
use Rattle.nr_spec_runs.specs.Runs.{Observation}
use Rattle.nr_spec_promises.specs.Files.{PromiseFile, file_after}
use Rattle.nr_spec_promises.specs.Moments.{entries_before}
use Rattle.nr_spec_promises.specs.Counted.{most_promises}
use Rattle.nr_judging.specs.Asked.{Stage, asked, prefixes_asked, stages_of}
use Rattle.nr_judging.specs.Seen.{entries_since, first_now, has_some, next_now, stages_seen}
use Rattle.nr_judging.specs.Times.{NeverBack}
use Rattle.nr_judging.proofs.Stages.{asked_append}
use Rattle.nr_judging.proofs.Since.{begun_now, first_of, next_of, one_seen}

times_both : (n : ℕ) (xs ys : List Stage) → n * prefixes_asked (xs ++ ys) ≡ n * prefixes_asked xs + n * prefixes_asked ys
times_both n xs ys = ap (λ k. n * k) (sum_by-append (λ (s : Stage). length s.prefixes) xs ys) ∙ mul-add n (prefixes_asked xs) (prefixes_asked ys)

added_up : (seen first now all : List Stage) (n s0 s1 s2 : ℕ) → seen ++ first ++ now ≡ all → s1 ≤ s0 + n * prefixes_asked first → s2 ≤ s1 + n * prefixes_asked now
    → s2 + n * prefixes_asked seen ≤ s0 + n * prefixes_asked all
added_up seen first now all n s0 s1 s2 e h k =
    let whole : n * prefixes_asked all ≡ n * prefixes_asked seen + n * prefixes_asked first + n * prefixes_asked now =
    ap (λ l. n * prefixes_asked l) (sym e) ∙ times_both n (seen ++ first) now ∙ ap (λ x. x + n * prefixes_asked now) (times_both n seen first) in
    sums (n * prefixes_asked seen) (n * prefixes_asked first) (n * prefixes_asked now) (n * prefixes_asked all) s0 s1 s2 whole h k
  where
    sums : (a b c d s0 s1 s2 : ℕ) → d ≡ a + b + c → s1 ≤ s0 + b → s2 ≤ s1 + c → s2 + a ≤ s0 + d
    sums a b c d s0 s1 s2 e h k = omega (arith, e, h, k)

-- the same with fewer
stopped : (n c s : ℕ) → s ≤ s + n * c
stopped n c s = more s (n * c)
  where
    more : (s m : ℕ) → s ≤ s + m
    more s m = omega arith

module _ (files : List PromiseFile) (base : Base) (first : Option (List ℕ)) (period : Period) (past : List LogEntry) (e : LogEntry) (back : NeverBack 0 (past ++ e ∷ []))
    (rows : List Row) (before : Option ℕ) (begun : Bool) (there : rows ≡ rows_after base.rows past) (of : before ≡ file_after files base first past) (is : begun ≡ has_some (entries_since period past)) where
  first_same : first_now files period rows before begun e.time ≡ first_of files base first period past e.time
  first_same = λ i. first_now files period (there i) (of i) (is i) e.time

  next_same : (now : List Row) (touched : List Cidr) (file : Option ℕ) → now ≡ rows_after base.rows (past ++ e ∷ []) → touched ≡ touched_by rows (effect_of e) → file ≡ file_after files base first (past ++ e ∷ [])
      → next_now files period now touched before file e.time ≡ next_of files base first period past e
  next_same now touched file new touches after = λ i. next_now files period (new i) ((touches ∙ ap (λ (r : List Row). touched_by r (effect_of e)) there) i) (of i) (after i) e.time

  all_seen : (now : List Row) (touched : List Cidr) (file : Option ℕ) → now ≡ rows_after base.rows (past ++ e ∷ []) → touched ≡ touched_by rows (effect_of e) → file ≡ file_after files base first (past ++ e ∷ [])
      → stages_seen files base first period past ++ first_now files period rows before begun e.time ++ next_now files period now touched before file e.time ≡ stages_seen files base first period (past ++ e ∷ [])
  all_seen now touched file new touches after =
      (λ i. stages_seen files base first period past ++ first_same i ++ next_same now touched file new touches after i)
      ∙ one_seen files base first period past e back

  pub counted_one : (now : List Row) (touched : List Cidr) (file : Option ℕ) (s0 s1 s2 : ℕ) → now ≡ rows_after base.rows (past ++ e ∷ []) → touched ≡ touched_by rows (effect_of e) → file ≡ file_after files base first (past ++ e ∷ [])
      → s1 ≤ s0 + most_promises files * prefixes_asked (first_now files period rows before begun e.time)
      → s2 ≤ s1 + most_promises files * prefixes_asked (next_now files period now touched before file e.time)
      → s2 + most_promises files * prefixes_asked (stages_seen files base first period past) ≤ s0 + most_promises files * prefixes_asked (stages_seen files base first period (past ++ e ∷ []))
  counted_one now touched file s0 s1 s2 new touches after h k =
      added_up (stages_seen files base first period past) (first_now files period rows before begun e.time) (next_now files period now touched before file e.time) (stages_seen files base first period (past ++ e ∷ []))
      (most_promises files) s0 s1 s2 (all_seen now touched file new touches after) h k

  pub counted_less : (s0 s1 : ℕ) → s1 ≤ s0 + most_promises files * prefixes_asked (first_now files period rows before begun e.time)
      → s1 + most_promises files * prefixes_asked (stages_seen files base first period past) ≤ s0 + most_promises files * prefixes_asked (stages_seen files base first period (past ++ e ∷ []))
  counted_less s0 s1 h =
      let now = rows_after base.rows (past ++ e ∷ []) in
      let file = file_after files base first (past ++ e ∷ []) in
      counted_one now (touched_by rows (effect_of e)) file s0 s1 s1 refl refl refl h
      (stopped (most_promises files) (prefixes_asked (next_now files period now (touched_by rows (effect_of e)) before file e.time)) s1)

  pub told_one : (P : List Observation → Type 0) (truth : Truth) (now : List Row) (touched : List Cidr) (file : Option ℕ) → now ≡ rows_after base.rows (past ++ e ∷ []) → touched ≡ touched_by rows (effect_of e) → file ≡ file_after files base first (past ++ e ∷ [])
      → P (asked files truth (stages_seen files base first period past) ++ asked files truth (first_now files period rows before begun e.time) ++ asked files truth (next_now files period now touched before file e.time))
      → P (asked files truth (stages_seen files base first period (past ++ e ∷ [])))
  told_one P truth now touched file new touches after h =
      let seen = stages_seen files base first period past in
      let front = first_now files period rows before begun e.time in
      subst P (ap (λ l. l ++ asked files truth (next_now files period now touched before file e.time)) (sym (asked_append files truth seen front))
      ∙ sym (asked_append files truth (seen ++ front) (next_now files period now touched before file e.time))
      ∙ ap (asked files truth) (all_seen now touched file new touches after)) h

-- ---- at the end

module _ (files : List PromiseFile) (base : Base) (first : Option (List ℕ)) (period : Period) (past : List LogEntry) (back : NeverBack 0 past) (time : ℕ) (late : nat_lt time period.from ≡ false)
    (rows : List Row) (before : Option ℕ) (begun : Bool) (there : rows ≡ rows_after base.rows past) (of : before ≡ file_after files base first past) (is : begun ≡ has_some (entries_since period past)) where
  all_begun : stages_seen files base first period past ++ first_now files period rows before begun time ≡ stages_of files base first period (entries_before period past) (entries_since period past)
  all_begun = (λ i. stages_seen files base first period past ++ first_now files period (there i) (of i) (is i) time) ∙ begun_now files base first period past time back late

  pub counted_end : (s0 s1 : ℕ) → s1 ≤ s0 + most_promises files * prefixes_asked (first_now files period rows before begun time)
      → s1 + most_promises files * prefixes_asked (stages_seen files base first period past) ≤ s0 + most_promises files * prefixes_asked (stages_of files base first period (entries_before period past) (entries_since period past))
  counted_end s0 s1 h =
      added_up (stages_seen files base first period past) (first_now files period rows before begun time) [] (stages_of files base first period (entries_before period past) (entries_since period past))
      (most_promises files) s0 s1 s1 (append-nil (stages_seen files base first period past ++ first_now files period rows before begun time) ∙ all_begun) h (stopped (most_promises files) 0 s1)

  pub told_end : (P : List Observation → Type 0) (truth : Truth)
      → P (asked files truth (stages_seen files base first period past) ++ asked files truth (first_now files period rows before begun time))
      → P (asked files truth (stages_of files base first period (entries_before period past) (entries_since period past)))
  told_end P truth h =
      subst P (sym (asked_append files truth (stages_seen files base first period past) (first_now files period rows before begun time)) ∙ ap (asked files truth) all_begun) h

pub not_early : (n : ℕ) → nat_lt n n ≡ false
not_early n = grind (arith, nat_tests)
