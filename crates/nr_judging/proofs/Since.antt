-- What one more entry adds to what was observed.
use Rattle.std.proofs.Common.{◌≡◌, ℕ, ◌<◌, ◌≤◌, Bool, true, false, not, List, [], ◌∷◌, ◌++◌, Option, refl, ap, sym, ◌∙◌, subst, append-nil, arith}
use Rattle.std.specs.Prelude.{◌||◌, nat_lt, if◌then◌else◌}
use Rattle.std.proofs.lemmas.List.Elements.{filter-append}
use Rattle.std.proofs.lemmas.Bool.Decides.{nat_tests}
use Rattle.nr_spec_bgp.specs.Prefixes.{Cidr}
use Rattle.nr_spec_log.specs.Chain.{LogEntry}
use Rattle.nr_spec_history.specs.Conflicts.{Period}
use Rattle.nr_spec_routes.specs.Keys.{Row}
use Rattle.nr_spec_routes.specs.Rows.{rows_after}
use Rattle.nr_spec_routes.specs.Touched.{touched_after}
use Rattle.nr_spec_report.specs.Wrong.{Base, is_within}
use Rattle.nr_spec_promises.specs.Files.{PromiseFile, file_after}
use Rattle.nr_spec_promises.specs.Moments.{entries_before}
use Rattle.nr_judging.specs.Asked.{Stage, first_stage, next_stage, stage_after, stages_after, stages_of}
use Rattle.nr_judging.specs.Seen.{entries_since, first_now, has_some, next_now, stages_begun, stages_seen}
use Rattle.nr_judging.specs.Times.{NeverBack}
use Rattle.nr_judging.proofs.Stages.{stages_then}

-- ---- times

pub never_front : (last : ℕ) (xs ys : List LogEntry) → NeverBack last (xs ++ ys) → NeverBack last xs
never_front last [] ys h = tt
never_front last (x ∷ xs) ys h = (h.0, never_front x.time xs ys h.1)

last_least : (last : ℕ) (past : List LogEntry) (e : LogEntry) → NeverBack last (past ++ e ∷ []) → last ≤ e.time
last_least last [] e h = h.0
last_least last (x ∷ past) e h = let rest = last_least x.time past e h.1 in omega (arith, rest, h.0)

is_before : (n m : ℕ) → n < m → nat_lt n m ≡ true
is_before n m h = grind (arith, nat_tests)

not_before : (n m : ℕ) → m ≤ n → nat_lt n m ≡ false
not_before n m h = grind (arith, nat_tests)

before_is : (n m : ℕ) → nat_lt n m ≡ true → n < m
before_is n m h = grind (arith, nat_tests)

pub since_is : (n m : ℕ) → nat_lt n m ≡ false → m ≤ n
since_is n m h = grind (arith, nat_tests)

-- before an entry that is before the period there is none since
none_since : (period : Period) (last : ℕ) (past : List LogEntry) (e : LogEntry) → NeverBack last (past ++ e ∷ []) → e.time < period.from → entries_since period past ≡ []
none_since period last [] e h lt = refl
none_since period last (x ∷ past) e h lt =
    let le = last_least x.time past e h.1 in
    ap (λ b. if not b then x ∷ entries_since period past else entries_since period past) (is_before x.time period.from (omega (arith, le, lt))) ∙ none_since period x.time past e h.1 lt

pub all_since : (period : Period) (last : ℕ) (es : List LogEntry) → NeverBack last es → period.from ≤ last → entries_since period es ≡ es
all_since period last [] h le = refl
all_since period last (x ∷ es) h le =
    ap (λ b. if not b then x ∷ entries_since period es else entries_since period es) (not_before x.time period.from (omega (arith, le, h.0))) ∙ ap (λ l. x ∷ l) (all_since period x.time es h.1 (omega (arith, le, h.0)))

pub none_before : (period : Period) (last : ℕ) (es : List LogEntry) → NeverBack last es → period.from ≤ last → entries_before period es ≡ []
none_before period last [] h le = refl
none_before period last (x ∷ es) h le =
    ap (λ b. if b then x ∷ entries_before period es else entries_before period es) (not_before x.time period.from (omega (arith, le, h.0))) ∙ none_before period x.time es h.1 (omega (arith, le, h.0))

-- those before the period, and then the others, are all
pub both_parts : (period : Period) (last : ℕ) (past : List LogEntry) → NeverBack last past → entries_before period past ++ entries_since period past ≡ past
both_parts period last [] h = refl
both_parts period last (x ∷ past) h = by (nat_lt x.time period.from) refl (both_parts period x.time past h.1)
  where
    by : (b : Bool) → nat_lt x.time period.from ≡ b → entries_before period past ++ entries_since period past ≡ past → (if b then x ∷ entries_before period past else entries_before period past) ++ (if not b then x ∷ entries_since period past else entries_since period past) ≡ x ∷ past
    by true is ih = ap (λ l. x ∷ l) ih
    by false is ih =
        let le = since_is x.time period.from is in
        ap (λ l. l ++ x ∷ entries_since period past) (none_before period x.time past h.1 le) ∙ ap (λ l. x ∷ l) (all_since period x.time past h.1 le)

-- the others begin no earlier than the period
pub since_later : (period : Period) (last : ℕ) (past : List LogEntry) → NeverBack last past → NeverBack period.from (entries_since period past)
since_later period last [] h = tt
since_later period last (x ∷ past) h = by (nat_lt x.time period.from) refl (since_later period x.time past h.1)
  where
    by : (b : Bool) → nat_lt x.time period.from ≡ b → NeverBack period.from (entries_since period past) → NeverBack period.from (if not b then x ∷ entries_since period past else entries_since period past)
    by true is ih = ih
    by false is ih =
        let le = since_is x.time period.from is in
        (le, subst (NeverBack x.time) (sym (all_since period x.time past h.1 le)) h.1)

-- ---- stages

-- an entry before the period asks nothing
pub early : (files : List PromiseFile) (base : Base) (first : Option (List ℕ)) (period : Period) (past : List LogEntry) (e : LogEntry) → NeverBack 0 (past ++ e ∷ []) → nat_lt e.time period.from ≡ true
    → (stages_seen files base first period past ≡ []) × (stages_seen files base first period (past ++ e ∷ []) ≡ []) × (entries_since period past ≡ []) × (entries_since period (past ++ e ∷ []) ≡ [])
early files base first period past e h is =
    let none = none_since period 0 past e h (before_is e.time period.from is) in
    let more : entries_since period (past ++ e ∷ []) ≡ [] =
    filter-append (λ (x : LogEntry). not (nat_lt x.time period.from)) past (e ∷ []) ∙ ap (λ b. entries_since period past ++ (if not b then e ∷ [] else [])) is ∙ append-nil (entries_since period past) ∙ none in
    (ap (stages_begun files base first period (entries_before period past)) none, ap (stages_begun files base first period (entries_before period (past ++ e ∷ []))) more, none, more)

begun_is : (files : List PromiseFile) (base : Base) (first : Option (List ℕ)) (period : Period) (before es : List LogEntry) (e : LogEntry) → stages_begun files base first period before (es ++ e ∷ []) ≡ stages_of files base first period before (es ++ e ∷ [])
begun_is files base first period before [] e = refl
begun_is files base first period before (x ∷ es) e = refl

since_more : (period : Period) (past : List LogEntry) (e : LogEntry) → nat_lt e.time period.from ≡ false → entries_since period (past ++ e ∷ []) ≡ entries_since period past ++ e ∷ []
since_more period past e is = filter-append (λ (x : LogEntry). not (nat_lt x.time period.from)) past (e ∷ []) ∙ ap (λ b. entries_since period past ++ (if not b then e ∷ [] else [])) is

before_same : (period : Period) (past : List LogEntry) (e : LogEntry) → nat_lt e.time period.from ≡ false → entries_before period (past ++ e ∷ []) ≡ entries_before period past
before_same period past e is = filter-append (λ (x : LogEntry). nat_lt x.time period.from) past (e ∷ []) ∙ ap (λ b. entries_before period past ++ (if b then e ∷ [] else [])) is ∙ append-nil (entries_before period past)

-- what an entry adds after these
abbrev pub next_of : List PromiseFile → Base → Option (List ℕ) → Period → List LogEntry → LogEntry → List Stage
next_of files base first period past e =
    next_now files period (rows_after base.rows (past ++ e ∷ [])) (touched_after base.rows past e) (file_after files base first past) (file_after files base first (past ++ e ∷ [])) e.time

abbrev pub first_of : List PromiseFile → Base → Option (List ℕ) → Period → List LogEntry → ℕ → List Stage
first_of files base first period past time =
    first_now files period (rows_after base.rows past) (file_after files base first past) (has_some (entries_since period past)) time

-- the first entry that isn't before the period begins, and each such entry adds what it touches
pub late : (files : List PromiseFile) (base : Base) (first : Option (List ℕ)) (period : Period) (past : List LogEntry) (e : LogEntry) → NeverBack 0 (past ++ e ∷ []) → nat_lt e.time period.from ≡ false
    → stages_seen files base first period (past ++ e ∷ []) ≡ stages_of files base first period (entries_before period past) (entries_since period past) ++ next_of files base first period past e
late files base first period past e h is =
    ap (λ l. stages_begun files base first period l (entries_since period (past ++ e ∷ []))) (before_same period past e is)
    ∙ ap (stages_begun files base first period (entries_before period past)) (since_more period past e is)
    ∙ begun_is files base first period (entries_before period past) (entries_since period past) e
    ∙ ap (λ l. first_stage files period (rows_after base.rows (entries_before period past)) (file_after files base first (entries_before period past)) ∷ l)
    (stages_then files base first period (entries_before period past) (entries_since period past) e
    ∙ ap (λ l. stages_after files base first period (entries_before period past) (entries_since period past) ++ stage_after files base first period l e)
    (both_parts period 0 past (never_front 0 past (e ∷ []) h)))

-- what is there once it has begun
first_begun : (files : List PromiseFile) (base : Base) (first : Option (List ℕ)) (period : Period) (past since : List LogEntry) (time : ℕ) → NeverBack 0 past → entries_since period past ≡ since → nat_lt time period.from ≡ false
    → stages_begun files base first period (entries_before period past) since ++ first_now files period (rows_after base.rows past) (file_after files base first past) (has_some since) time ≡ stages_of files base first period (entries_before period past) since
first_begun files base first period past [] time h none is =
    let all : entries_before period past ≡ past = sym (append-nil (entries_before period past)) ∙ ap (λ l. entries_before period past ++ l) (sym none) ∙ both_parts period 0 past h in
    ap (λ b. if b then [] else first_stage files period (rows_after base.rows past) (file_after files base first past) ∷ []) is
    ∙ ap (λ l. first_stage files period (rows_after base.rows l) (file_after files base first l) ∷ []) (sym all)
first_begun files base first period past (x ∷ es) time h some is = append-nil (stages_of files base first period (entries_before period past) (x ∷ es))

pub begun_now : (files : List PromiseFile) (base : Base) (first : Option (List ℕ)) (period : Period) (past : List LogEntry) (time : ℕ) → NeverBack 0 past → nat_lt time period.from ≡ false
    → stages_seen files base first period past ++ first_of files base first period past time ≡ stages_of files base first period (entries_before period past) (entries_since period past)
begun_now files base first period past time h is = first_begun files base first period past (entries_since period past) time h refl is

no_first : (files : List PromiseFile) (period : Period) (rows : List Row) (file : Option ℕ) (begun : Bool) (time : ℕ) → nat_lt time period.from ≡ true → first_now files period rows file begun time ≡ []
no_first files period rows file true time is = refl
no_first files period rows file false time is = ap (λ b. if b then [] else first_stage files period rows file ∷ []) is

out : (period : Period) (time : ℕ) → nat_lt time period.from ≡ true → is_within period time ≡ false
out period time is = grind (arith, nat_tests)

no_next : (files : List PromiseFile) (period : Period) (rows : List Row) (touched : List Cidr) (before file : Option ℕ) (time : ℕ) → nat_lt time period.from ≡ true → next_now files period rows touched before file time ≡ []
no_next files period rows touched before file time is = ap (λ b. if b then next_stage files time rows touched before file ∷ [] else []) (out period time is)

-- what an entry adds, whichever it is
pub one_seen : (files : List PromiseFile) (base : Base) (first : Option (List ℕ)) (period : Period) (past : List LogEntry) (e : LogEntry) → NeverBack 0 (past ++ e ∷ [])
    → stages_seen files base first period past ++ first_of files base first period past e.time ++ next_of files base first period past e ≡ stages_seen files base first period (past ++ e ∷ [])
one_seen files base first period past e h = by (nat_lt e.time period.from) refl
  where
    by : (b : Bool) → nat_lt e.time period.from ≡ b
        → stages_seen files base first period past ++ first_of files base first period past e.time ++ next_of files base first period past e ≡ stages_seen files base first period (past ++ e ∷ [])
    by true is =
        let none = early files base first period past e h is in
        ap (λ l. stages_seen files base first period past ++ l ++ next_of files base first period past e)
        (no_first files period (rows_after base.rows past) (file_after files base first past) (has_some (entries_since period past)) e.time is)
        ∙ ap (λ l. stages_seen files base first period past ++ [] ++ l)
        (no_next files period (rows_after base.rows (past ++ e ∷ [])) (touched_after base.rows past e) (file_after files base first past) (file_after files base first (past ++ e ∷ [])) e.time is)
        ∙ ap (λ (l : List Stage). l ++ [] ++ []) none.0 ∙ sym none.1
    by false is =
        ap (λ (l : List Stage). l ++ next_of files base first period past e) (begun_now files base first period past e.time (never_front 0 past (e ∷ []) h) is)
        ∙ sym (late files base first period past e h is)

some_more : (es : List LogEntry) (e : LogEntry) → has_some (es ++ e ∷ []) ≡ true
some_more [] e = refl
some_more (x ∷ es) e = refl

or_true : (b : Bool) → (b || true) ≡ true
or_true true = refl
or_true false = refl

-- whether it has begun
pub begun_more : (period : Period) (past : List LogEntry) (e : LogEntry) → NeverBack 0 (past ++ e ∷ []) → (has_some (entries_since period past) || not (nat_lt e.time period.from)) ≡ has_some (entries_since period (past ++ e ∷ []))
begun_more period past e h = by (nat_lt e.time period.from) refl
  where
    by : (b : Bool) → nat_lt e.time period.from ≡ b → (has_some (entries_since period past) || not (nat_lt e.time period.from)) ≡ has_some (entries_since period (past ++ e ∷ []))
    by true is =
        let none = none_since period 0 past e h (before_is e.time period.from is) in
        let more : entries_since period (past ++ e ∷ []) ≡ [] =
        filter-append (λ (x : LogEntry). not (nat_lt x.time period.from)) past (e ∷ []) ∙ ap (λ b. entries_since period past ++ (if not b then e ∷ [] else [])) is ∙ append-nil (entries_since period past) ∙ none in
        ap (λ l. has_some l || not (nat_lt e.time period.from)) none ∙ ap not is ∙ ap has_some (sym more)
    by false is =
        ap (λ b. has_some (entries_since period past) || not b) is ∙ or_true (has_some (entries_since period past))
        ∙ sym (some_more (entries_since period past) e) ∙ ap has_some (sym (since_more period past e is))
