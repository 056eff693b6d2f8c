-- How often a judge is asked.
use Rattle.std.proofs.Common.{◌≡◌, ◌==◌, ℕ, ◌+◌, ◌*◌, ◌<◌, ◌≤◌, suc, ne_eqb, eqb-true, Bool, true, false, List, [], ◌∷◌, ◌++◌, length, take, drop, take-append-drop, Option, Some, None, refl, ap, sym, ◌∙◌, mul-le-mul_right, length-append, arith}
use Rattle.std.specs.Prelude.{max, if◌then◌else◌}
use Rattle.std.proofs.lemmas.List.{map-append}
use Rattle.std.proofs.lemmas.List.Sums.{sum_by-append}
use Rattle.nr_spec_bgp.specs.Prefixes.{Cidr}
use Rattle.nr_spec_log.specs.Chain.{LogEntry}
use Rattle.nr_spec_history.specs.Conflicts.{Period}
use Rattle.nr_spec_routes.specs.Keys.{Row, standing}
use Rattle.nr_spec_routes.specs.Rows.{rows_after}
use Rattle.nr_spec_routes.specs.Touched.{touched_after}
use Rattle.nr_spec_routes.proofs.Once.{length_once}
use Rattle.nr_spec_report.specs.Wrong.{Base, is_within}
use Rattle.nr_spec_promises.specs.Files.{PromiseFile, file_after}
use Rattle.nr_spec_promises.specs.Counted.{asked_after, asked_next, in_view, most_promises, named_by, same_file}
use Rattle.nr_judging.specs.declared.file.File.{File}
use Rattle.nr_judging.specs.Asked.{Stage, asks, first_stage, in_sight, next_prefixes, next_stage, prefixes_asked, stages_after, stages_of, times_asked}
use Rattle.nr_judging.specs.Views.{file_of, files_in}

-- ---- one stage: the promises of the file of the moment at each prefix

-- of files after that of the moment nothing is asked
none_asked : (ruling n file : ℕ) (files : List PromiseFile) → ruling < file → times_asked (Some ruling) n file files ≡ 0
none_asked ruling n file [] h = refl
none_asked ruling n file (f ∷ files) h =
    ap (λ b. (if b then length f.promises * n else 0) + times_asked (Some ruling) n (suc file) files) (ne_eqb ruling file (λ e. omega arith))
    ∙ ap (λ t. 0 + t) (none_asked ruling n (suc file) files (omega arith))

most_times : (a b n : ℕ) → (a * n ≤ max a b * n) × (b * n ≤ max a b * n)
most_times a b n = (mul-le-mul_right n (omega arith), mul-le-mul_right n (omega arith))

few_from : (ruling n file : ℕ) (files : List PromiseFile) → times_asked (Some ruling) n file files ≤ most_promises files * n
few_from ruling n file [] = omega arith
few_from ruling n file (f ∷ files) = by (ruling == file) refl (few_from ruling n (suc file) files)
  where
    most : (length f.promises * n ≤ max (length f.promises) (most_promises files) * n) × (most_promises files * n ≤ max (length f.promises) (most_promises files) * n)
    most = most_times (length f.promises) (most_promises files) n

    by : (b : Bool) → (ruling == file) ≡ b → times_asked (Some ruling) n (suc file) files ≤ most_promises files * n
        → (if b then length f.promises * n else 0) + times_asked (Some ruling) n (suc file) files ≤ max (length f.promises) (most_promises files) * n
    by true e ih =
        let is : ruling ≡ file = eqb-true ruling file e in
        let none : times_asked (Some ruling) n (suc file) files ≡ 0 = none_asked ruling n (suc file) files (omega arith) in
        sum_first (length f.promises * n) (times_asked (Some ruling) n (suc file) files) (max (length f.promises) (most_promises files) * n) none most.0
      where
        sum_first : (a t m : ℕ) → t ≡ 0 → a ≤ m → a + t ≤ m
        sum_first a t m h k = omega (arith, h, k)
    by false e ih = sum_rest (times_asked (Some ruling) n (suc file) files) (most_promises files * n) (max (length f.promises) (most_promises files) * n) ih most.1
      where
        sum_rest : (t a m : ℕ) → t ≤ a → a ≤ m → 0 + t ≤ m
        sum_rest t a m h k = omega (arith, h, k)

nothing_asked : (n file : ℕ) (files : List PromiseFile) → times_asked None n file files ≡ 0
nothing_asked n file [] = refl
nothing_asked n file (f ∷ files) = ap (λ t. 0 + t) (nothing_asked n (suc file) files)

pub few_times : (ruling : Option ℕ) (n file : ℕ) (files : List PromiseFile) → times_asked ruling n file files ≤ most_promises files * n
few_times None n file files = let none : times_asked None n file files ≡ 0 = nothing_asked n file files in least (times_asked None n file files) (most_promises files * n) none
  where
    least : (t m : ℕ) → t ≡ 0 → t ≤ m
    least t m h = omega (arith, h)
few_times (Some ruling) n file files = few_from ruling n file files

times_append : (ruling : Option ℕ) (n file : ℕ) (fs gs : List PromiseFile) → times_asked ruling n file (fs ++ gs) ≡ times_asked ruling n file fs + times_asked ruling n (file + length fs) gs
times_append ruling n file [] gs = let e : file ≡ file + 0 = omega arith in ap (λ k. times_asked ruling n k gs) e ∙ zero_more (times_asked ruling n (file + 0) gs)
  where
    zero_more : (t : ℕ) → t ≡ 0 + t
    zero_more t = omega arith
times_append ruling n file (f ∷ fs) gs =
    let e : suc file + length fs ≡ file + suc (length fs) = omega arith in
    ap (λ t. asks ruling file (length f.promises * n) + t) (times_append ruling n (suc file) fs gs ∙ ap (λ k. times_asked ruling n (suc file) fs + times_asked ruling n k gs) e)
    ∙ regrouped (asks ruling file (length f.promises * n)) (times_asked ruling n (suc file) fs) (times_asked ruling n (file + suc (length fs)) gs)
  where
    regrouped : (a b c : ℕ) → a + (b + c) ≡ a + b + c
    regrouped a b c = omega arith

-- one file more
pub times_one_more : (ruling : Option ℕ) (n : ℕ) (before : List PromiseFile) (f : PromiseFile) (i : ℕ) → 0 + length before ≡ i
    → times_asked ruling n 0 (before ++ f ∷ []) ≡ times_asked ruling n 0 before + asks ruling i (length f.promises * n)
times_one_more ruling n before f i is =
    times_append ruling n 0 before (f ∷ []) ∙ ap (λ k. times_asked ruling n 0 before + (asks ruling k (length f.promises * n) + 0)) is
    ∙ no_more (times_asked ruling n 0 before) (asks ruling i (length f.promises * n))
  where
    no_more : (a b : ℕ) → a + (b + 0) ≡ a + b
    no_more a b = omega arith

-- some files are no more than all
pub fewer_times : (ruling : Option ℕ) (n k : ℕ) (fs : List File) → times_asked ruling n 0 (files_in (take k fs)) ≤ most_promises (files_in fs) * n
fewer_times ruling n k fs =
    let whole : times_asked ruling n 0 (files_in fs) ≡ times_asked ruling n 0 (files_in (take k fs)) + times_asked ruling n (0 + length (files_in (take k fs))) (files_in (drop k fs)) =
    ap (λ l. times_asked ruling n 0 (files_in l)) (sym (take-append-drop k fs)) ∙ ap (times_asked ruling n 0) (map-append file_of (take k fs) (drop k fs))
    ∙ times_append ruling n 0 (files_in (take k fs)) (files_in (drop k fs)) in
    part (times_asked ruling n 0 (files_in fs)) (times_asked ruling n 0 (files_in (take k fs))) (times_asked ruling n (0 + length (files_in (take k fs))) (files_in (drop k fs))) (most_promises (files_in fs) * n)
    whole (few_times ruling n 0 (files_in fs))
  where
    part : (t a b m : ℕ) → t ≡ a + b → t ≤ m → a ≤ m
    part t a b m h k = omega (arith, h, k)

-- ---- all stages

pub one_count : (stage : Stage) → prefixes_asked (stage ∷ []) ≡ length stage.prefixes
one_count stage = omega arith

one_more : (stage : Stage) (stages : List Stage) → prefixes_asked (stage ∷ stages) ≡ length stage.prefixes + prefixes_asked stages
one_more stage stages =
    let first : prefixes_asked (stage ∷ []) ≡ length stage.prefixes = omega arith in
    sum_by-append (λ (s : Stage). length s.prefixes) (stage ∷ []) stages ∙ ap (λ n. n + prefixes_asked stages) first

few_in_sight : (files : List PromiseFile) (rows : List Row) (touched : List Cidr) → length (in_sight files rows touched) ≤ length touched + in_view files rows
few_in_sight files rows touched =
    let few = length_once (touched ++ (standing rows ++ named_by files)) in
    let all = length-append touched (standing rows ++ named_by files) in
    let both = length-append (standing rows) (named_by files) in
    omega (arith, few, all, both)

few_next : (files : List PromiseFile) (rows : List Row) (touched : List Cidr) (same : Bool)
    → length (next_prefixes files rows touched same) ≤ length touched + (if same then 0 else in_view files rows)
few_next files rows touched true = omega arith
few_next files rows touched false = few_in_sight files rows touched

entries_asked : (files : List PromiseFile) (base : Base) (first : Option (List ℕ)) (period : Period) (past es : List LogEntry)
    → prefixes_asked (stages_after files base first period past es) ≤ asked_after files base first period past es
entries_asked files base first period past [] = omega arith
entries_asked files base first period past (e ∷ es) = by (is_within period e.time) (entries_asked files base first period (past ++ e ∷ []) es)
  where
    now : List LogEntry
    now = past ++ e ∷ []

    stage : Stage
    stage = next_stage files e.time (rows_after base.rows now) (touched_after base.rows past e) (file_after files base first past) (file_after files base first now)

    by : (w : Bool) → prefixes_asked (stages_after files base first period now es) ≤ asked_after files base first period now es
        → prefixes_asked ((if w then stage ∷ [] else []) ++ stages_after files base first period now es)
        ≤ (if w then asked_next files base first past e else 0) + asked_after files base first period now es
    by true ih =
        let all = one_more stage (stages_after files base first period now es) in
        let few = few_next files (rows_after base.rows now) (touched_after base.rows past e) (same_file (file_after files base first past) (file_after files base first now)) in
        sums (prefixes_asked (stage ∷ stages_after files base first period now es)) (length stage.prefixes) (prefixes_asked (stages_after files base first period now es))
        (asked_next files base first past e) (asked_after files base first period now es) all few ih
      where
        sums : (t a b c d : ℕ) → t ≡ a + b → a ≤ c → b ≤ d → t ≤ c + d
        sums t a b c d h k l = omega (arith, h, k, l)
    by false ih = nothing (prefixes_asked (stages_after files base first period now es)) (asked_after files base first period now es) ih
      where
        nothing : (a b : ℕ) → a ≤ b → a ≤ 0 + b
        nothing a b h = omega (arith, h)

-- The prefixes of all stages are no more than the bound.
pub few_asked : (files : List PromiseFile) (base : Base) (first : Option (List ℕ)) (period : Period) (before es : List LogEntry)
    → prefixes_asked (stages_of files base first period before es) ≤ in_view files (rows_after base.rows before) + asked_after files base first period before es
few_asked files base first period before es =
    let stage : Stage = first_stage files period (rows_after base.rows before) (file_after files base first before) in
    let sight = few_in_sight files (rows_after base.rows before) [] in
    let rest = entries_asked files base first period before es in
    let all = one_more stage (stages_after files base first period before es) in
    sums (prefixes_asked (stages_of files base first period before es)) (length stage.prefixes) (prefixes_asked (stages_after files base first period before es))
    (in_view files (rows_after base.rows before)) (asked_after files base first period before es) all sight rest
  where
    sums : (t a b c d : ℕ) → t ≡ a + b → a ≤ 0 + c → b ≤ d → t ≤ c + d
    sums t a b c d h k l = omega (arith, h, k, l)
