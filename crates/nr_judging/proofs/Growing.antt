-- What was asked by then is no more than what is asked in all.
use Rattle.std.proofs.Common.{◌≡◌, ℕ, ◌+◌, ◌*◌, ◌≤◌, List, [], ◌∷◌, ◌++◌, length, Option, sym, ◌∙◌, subst, append_assoc, append-nil, mul-le-mul_left, le_refl, le_trans, arith}
use Rattle.std.proofs.lemmas.List.Sums.{sum_by-append}
use Rattle.nr_spec_log.specs.Chain.{LogEntry}
use Rattle.nr_spec_history.specs.Conflicts.{Period}
use Rattle.nr_spec_report.specs.Wrong.{Base}
use Rattle.nr_spec_promises.specs.Files.{PromiseFile, first_promised}
use Rattle.nr_spec_promises.specs.Moments.{entries_before}
use Rattle.nr_spec_promises.specs.Counted.{most_asked, most_promises}
use Rattle.nr_judging.specs.Asked.{Stage, prefixes_asked, stages_of}
use Rattle.nr_judging.specs.Seen.{entries_since, stages_begun, stages_seen}
use Rattle.nr_judging.specs.Times.{NeverBack}
use Rattle.nr_judging.proofs.Count.{few_asked}
use Rattle.nr_judging.proofs.Marks.{most_is}
use Rattle.nr_judging.proofs.Since.{first_of, next_of, never_front, one_seen}

front_few : (xs ys : List Stage) → prefixes_asked xs ≤ prefixes_asked (xs ++ ys)
front_few xs ys = let both = sum_by-append (λ (s : Stage). length s.prefixes) xs ys in omega (arith, both)

one_grows : (files : List PromiseFile) (base : Base) (first : Option (List ℕ)) (period : Period) (past : List LogEntry) (e : LogEntry) → NeverBack 0 (past ++ e ∷ [])
    → prefixes_asked (stages_seen files base first period past) ≤ prefixes_asked (stages_seen files base first period (past ++ e ∷ []))
one_grows files base first period past e back =
    let seen = stages_seen files base first period past in
    let front = first_of files base first period past e.time in
    let now = next_of files base first period past e in
    subst (λ l. prefixes_asked seen ≤ prefixes_asked l) (sym (append_assoc seen front now) ∙ one_seen files base first period past e back) (front_few seen (front ++ now))

grows : (files : List PromiseFile) (base : Base) (first : Option (List ℕ)) (period : Period) (past rest : List LogEntry) → NeverBack 0 (past ++ rest)
    → prefixes_asked (stages_seen files base first period past) ≤ prefixes_asked (stages_seen files base first period (past ++ rest))
grows files base first period past [] back = subst (λ l. prefixes_asked (stages_seen files base first period past) ≤ prefixes_asked (stages_seen files base first period l)) (sym (append-nil past)) (le_refl _)
grows files base first period past (e ∷ rest) back =
    let same : past ++ e ∷ [] ++ rest ≡ past ++ e ∷ rest = append_assoc past (e ∷ []) rest in
    let whole = subst (NeverBack 0) (sym same) back in
    le_trans (one_grows files base first period past e (never_front 0 (past ++ e ∷ []) rest whole))
    (subst (λ l. prefixes_asked (stages_seen files base first period (past ++ e ∷ [])) ≤ prefixes_asked (stages_seen files base first period l)) same (grows files base first period (past ++ e ∷ []) rest whole))

begun_few : (files : List PromiseFile) (base : Base) (first : Option (List ℕ)) (period : Period) (before es : List LogEntry) → prefixes_asked (stages_begun files base first period before es) ≤ prefixes_asked (stages_of files base first period before es)
begun_few files base first period before [] = omega arith
begun_few files base first period before (e ∷ es) = le_refl _

-- all stages of a log
pub few_of : (files : List PromiseFile) (base : Base) (period : Period) (all : List LogEntry) → NeverBack 0 all
    → most_promises files * prefixes_asked (stages_of files base (first_promised all) period (entries_before period all) (entries_since period all)) ≤ most_asked files base period all
few_of files base period all back =
    subst (λ m. most_promises files * prefixes_asked (stages_of files base (first_promised all) period (entries_before period all) (entries_since period all)) ≤ m) (sym (most_is files base period all back))
    (mul-le-mul_left (most_promises files) (few_asked files base (first_promised all) period (entries_before period all) (entries_since period all)))

-- those that were seen by then
pub few_seen : (files : List PromiseFile) (base : Base) (period : Period) (past rest all : List LogEntry) → past ++ rest ≡ all → NeverBack 0 all
    → most_promises files * prefixes_asked (stages_seen files base (first_promised all) period past) ≤ most_asked files base period all
few_seen files base period past rest all is back =
    let first = first_promised all in
    le_trans (mul-le-mul_left (most_promises files) (le_trans
    (subst (λ l. prefixes_asked (stages_seen files base first period past) ≤ prefixes_asked (stages_seen files base first period l)) is (grows files base first period past rest (subst (NeverBack 0) (sym is) back)))
    (begun_few files base first period (entries_before period all) (entries_since period all))))
    (few_of files base period all back)

-- the sums
pub still_few : (s0 s1 s2 a b m : ℕ) → s1 ≤ s0 + a → s2 + a ≤ s1 + b → b ≤ m → s2 ≤ s0 + m
still_few s0 s1 s2 a b m h k l = omega (arith, h, k, l)

pub still_some : (s0 s1 s2 a b : ℕ) → s1 ≤ s0 + a → s2 + a ≤ s1 + b → s2 ≤ s0 + b
still_some s0 s1 s2 a b h k = omega (arith, h, k)
