-- A key that isn't asked at a moment keeps its value.
use Rattle.std.proofs.Common.{◌≡◌, ◌==◌, ◌⊎◌, inl, inr, ℕ, zero, suc, ◌<◌, ◌≤◌, eqb-true, Bool, true, false, ◌&&◌, not, List, [], ◌∷◌, ◌++◌, length, Option, Some, None, refl, ap, sym, ◌∙◌, arith}
use Rattle.std.specs.Prelude.{◌||◌, map, slice_get, if◌then◌else◌}
use Rattle.std.specs.List.{flat_map}
use Rattle.std.proofs.lemmas.Bool.Decides.{nat_tests}
use Rattle.nr_spec_bgp.specs.Prefixes.{Cidr}
use Rattle.nr_spec_log.specs.Chain.{LogEntry}
use Rattle.nr_spec_history.specs.Conflicts.{Period}
use Rattle.nr_spec_routes.specs.Keys.{Row, is_named, standing, stands_in}
use Rattle.nr_spec_routes.specs.Rows.{rows_after}
use Rattle.nr_spec_routes.specs.Touched.{touched_after}
use Rattle.nr_spec_routes.proofs.Once.{named_append, standing_stands}
use Rattle.nr_spec_typing.specs.declared.text.Promise.{Promise}
use Rattle.nr_spec_truth.specs.Truths.{Truth}
use Rattle.nr_spec_report.specs.Wrong.{Base, is_within}
use Rattle.nr_spec_runs.specs.Runs.{Key, moments_of, runs_of}
use Rattle.nr_spec_promises.specs.Files.{PromiseFile, file_after, promise_of}
use Rattle.nr_spec_promises.specs.Moments.{View, marks_after, view_after, view_of}
use Rattle.nr_spec_promises.specs.Broken.{fails, is_bad, is_file, is_judged, moment_at, promise_at}
use Rattle.nr_spec_promises.specs.Counted.{named_in, same_file}
use Rattle.nr_judging.specs.Asked.{Stage, asked, first_stage, in_sight, next_stage, stages_after, stages_of}
use Rattle.nr_judging.specs.Times.{NeverBack}
use Rattle.nr_judging.proofs.Named.{same_named, sight_is}
use Rattle.nr_judging.proofs.Bridge.{bad_same, stands_same}
use Rattle.nr_judging.proofs.Told.{of_both, asked_by, is_asked, Steady, told, marks_are}

or_left : (a b : Bool) → a ≡ true → (a || b) ≡ true
or_left true b h = refl
or_left false b h = absurd cc

or_right : (a b : Bool) → b ≡ true → (a || b) ≡ true
or_right true b h = refl
or_right false b h = h

-- ---- what promises name

named_at : (promises : List Promise) (r : ℕ) (promise : Promise) (p : Cidr) → slice_get promises r ≡ Some promise → is_named promise.at p ≡ true → is_named (flat_map (λ (x : Promise). x.at) promises) p ≡ true
named_at [] r promise p is h = absurd cc
named_at (x ∷ promises) zero promise p is h =
    let one : x ≡ promise = cc in
    named_append x.at (flat_map (λ (x : Promise). x.at) promises) p ∙ or_left (is_named x.at p) (is_named (flat_map (λ (x : Promise). x.at) promises) p) (ap (λ (y : Promise). is_named y.at p) one ∙ h)
named_at (x ∷ promises) (suc r) promise p is h =
    named_append x.at (flat_map (λ (x : Promise). x.at) promises) p ∙ or_right (is_named x.at p) (is_named (flat_map (λ (x : Promise). x.at) promises) p) (named_at promises r promise p is h)

named_of : (files : List PromiseFile) (i r : ℕ) (promise : Promise) (p : Cidr) → promise_of (slice_get files i) r ≡ Some promise → is_named promise.at p ≡ true → is_named (flat_map named_in files) p ≡ true
named_of [] i r promise p is h = absurd cc
named_of (f ∷ files) zero r promise p is h =
    named_append (named_in f) (flat_map named_in files) p ∙ or_left (is_named (named_in f) p) (is_named (flat_map named_in files) p) (named_at f.promises r promise p is h)
named_of (f ∷ files) (suc i) r promise p is h =
    named_append (named_in f) (flat_map named_in files) p ∙ or_right (is_named (named_in f) p) (is_named (flat_map named_in files) p) (named_of files i r promise p is h)

-- where a promise is judged is in sight
judged_in_sight : (files : List PromiseFile) (rows : List Row) (touched : List Cidr) (file : Option ℕ) (key : Key) (promise : Promise) → promise_at files key ≡ Some promise
    → is_judged promise (view_of rows file) key.prefix ≡ true → is_named (in_sight files rows touched) key.prefix ≡ true
judged_in_sight files rows touched file key promise is h =
    let p = key.prefix in
    let named = is_named (flat_map named_in files) p in
    sight_is files rows touched p ∙ or_right (is_named touched p) (is_named (standing rows) p || named) (by (length promise.at == 0) h)
  where
    by : (none : Bool) → (if none then stands_in rows key.prefix else is_named promise.at key.prefix) ≡ true → (is_named (standing rows) key.prefix || is_named (flat_map named_in files) key.prefix) ≡ true
    by true h = or_left (is_named (standing rows) key.prefix) (is_named (flat_map named_in files) key.prefix) (standing_stands rows key.prefix ∙ h)
    by false h = or_right (is_named (standing rows) key.prefix) (is_named (flat_map named_in files) key.prefix) (named_of files key.file key.promise promise key.prefix is h)

clash : {A : Type 0} (b : Bool) → b ≡ true → b ≡ false → A
clash true h e = absurd cc
clash false h e = absurd cc

-- what would be asked where it is bad isn't bad where it isn't asked
not_bad : (asked bad : Bool) → (bad ≡ true → asked ≡ true) → asked ≡ false → bad ≡ false
not_bad asked true h e = clash asked (h refl) e
not_bad asked false h e = refl

both_true : (a b : Bool) → a ≡ true → b ≡ true → (a && b) ≡ true
both_true a b h k = ap (λ t. t && b) h ∙ k

-- ---- at the first

-- where a key is bad it is of the file of the moment, and in sight
bad_in_sight : (files : List PromiseFile) (truth : Truth) (rows : List Row) (touched : List Cidr) (file : Option ℕ) (key : Key) (o : Option Promise) → promise_at files key ≡ o
    → fails truth (view_of rows file) key o ≡ true → (is_file file key.file ≡ true) × (asked_by o (in_sight files rows touched) key.prefix ≡ true)
bad_in_sight files truth rows touched file key None is h = absurd cc
bad_in_sight files truth rows touched file key (Some promise) is h =
    let view : View = view_of rows file in
    let both = of_both (is_file file key.file) (is_judged promise view key.prefix && not (truth key.file key.promise (view.scene key.prefix))) h in
    let judged = of_both (is_judged promise view key.prefix) (not (truth key.file key.promise (view.scene key.prefix))) both.1 in
    (both.0, same_named key.prefix (in_sight files rows touched) ∙ judged_in_sight files rows touched file key promise is judged.0)

-- a key that isn't asked at the first isn't bad then
first_steady : (files : List PromiseFile) (truth : Truth) (period : Period) (rows : List Row) (file : Option ℕ) (key : Key)
    → is_asked files key (first_stage files period rows file) ≡ false → false ≡ is_bad files truth (view_of rows file) key
first_steady files truth period rows file key h =
    let o = promise_at files key in
    let asked = asked_by o (in_sight files rows []) key.prefix in
    sym (not_bad (is_file file key.file && asked) (fails truth (view_of rows file) key o)
    (λ bad. let both = bad_in_sight files truth rows [] file key o refl bad in both_true (is_file file key.file) asked both.0 both.1) h)

-- ---- then

same_number : (n m : ℕ) → (n == m) ≡ true → n ≡ m
same_number n m h = eqb-true n m h

same_file_is : (before file : Option ℕ) → same_file before file ≡ true → before ≡ file
same_file_is None None h = refl
same_file_is None (Some m) h = absurd cc
same_file_is (Some n) None h = absurd cc
same_file_is (Some n) (Some m) h = ap (λ k. Some k) (same_number n m h)

-- a key of another file than that of the moment isn't bad
not_ruling : (truth : Truth) (view : View) (key : Key) (o : Option Promise) → is_file view.file key.file ≡ false → fails truth view key o ≡ false
not_ruling truth view key None h = refl
not_ruling truth view key (Some promise) h = ap (λ t. t && (is_judged promise view key.prefix && not (truth key.file key.promise (view.scene key.prefix)))) h

or_parts : (a b : Bool) → (a || b) ≡ false → (a ≡ false) × (b ≡ false)
or_parts true b h = absurd cc
or_parts false b h = (refl, h)

-- what is bad before an entry that doesn't touch it, or after it, is in sight after it
still_in_sight : (files : List PromiseFile) (truth : Truth) (base : List Row) (past : List LogEntry) (e : LogEntry) (before : Option ℕ) (touched : List Cidr) (key : Key) (o : Option Promise) → promise_at files key ≡ o
    → is_named (touched_after base past e) key.prefix ≡ false → fails truth (view_of (rows_after base past) before) key o ≡ true
    → asked_by o (in_sight files (rows_after base (past ++ e ∷ [])) touched) key.prefix ≡ true
still_in_sight files truth base past e before touched key None is h bad = absurd cc
still_in_sight files truth base past e before touched key (Some promise) is h bad =
    let now : List Row = rows_after base (past ++ e ∷ []) in
    let view : View = view_of (rows_after base past) before in
    let both = of_both (is_file before key.file) (is_judged promise view key.prefix && not (truth key.file key.promise (view.scene key.prefix))) bad in
    let judged = of_both (is_judged promise view key.prefix) (not (truth key.file key.promise (view.scene key.prefix))) both.1 in
    same_named key.prefix (in_sight files now touched)
    ∙ judged_in_sight files now touched before key promise is
    (ap (λ s. if length promise.at == 0 then s else is_named promise.at key.prefix) (stands_same base past e key.prefix h) ∙ judged.0)

-- a promise that isn't asked at prefixes isn't named there
unnamed : (o : Option Promise) (prefixes : List Cidr) (p : Cidr) → asked_by o prefixes p ≡ false → (o ≡ None) ⊎ (is_named prefixes p ≡ false)
unnamed None prefixes p h = inl refl
unnamed (Some promise) prefixes p h = inr (sym (same_named p prefixes) ∙ h)

-- the value of a promise that isn't there
nothing_fails : (truth : Truth) (v w : View) (key : Key) (o : Option Promise) → o ≡ None → fails truth v key o ≡ fails truth w key o
nothing_fails truth v w key o h = ap (fails truth v key) h ∙ sym (ap (fails truth w key) h)

touched_in_sight : (files : List PromiseFile) (rows : List Row) (touched : List Cidr) (p : Cidr) → is_named (in_sight files rows touched) p ≡ false → is_named touched p ≡ false
touched_in_sight files rows touched p h =
    (or_parts (is_named touched p) (is_named (standing rows) p || is_named (flat_map named_in files) p) (sym (sight_is files rows touched p) ∙ h)).0

-- a key that isn't asked after an entry has the value that it had before
entry_steady : (files : List PromiseFile) (truth : Truth) (base : List Row) (past : List LogEntry) (e : LogEntry) (key : Key) (time : ℕ) (before file : Option ℕ)
    → is_asked files key (next_stage files time (rows_after base (past ++ e ∷ [])) (touched_after base past e) before file) ≡ false
    → is_bad files truth (view_of (rows_after base past) before) key ≡ is_bad files truth (view_of (rows_after base (past ++ e ∷ [])) file) key
entry_steady files truth base past e key time before file h = by_same (same_file before file) refl h
  where
    now : List Row
    now = rows_after base (past ++ e ∷ [])

    touched : List Cidr
    touched = touched_after base past e

    o : Option Promise
    o = promise_at files key

    was : Bool
    was = fails truth (view_of (rows_after base past) before) key o

    is : Bool
    is = fails truth (view_of now file) key o

    -- the same file: those that are touched
    by_file : (same : before ≡ file) (f : Bool) → is_file file key.file ≡ f → (f && asked_by o touched key.prefix) ≡ false → was ≡ is
    by_file same true f h = by_named (unnamed o touched key.prefix h)
      where
        by_named : (o ≡ None) ⊎ (is_named touched key.prefix ≡ false) → was ≡ is
        by_named (inl none) = nothing_fails truth (view_of (rows_after base past) before) (view_of now file) key o none
        by_named (inr not_touched) = bad_same files truth base past e key before file same not_touched
    by_file same false f h =
        not_ruling truth (view_of (rows_after base past) before) key o (ap (λ x. is_file x key.file) same ∙ f)
        ∙ sym (not_ruling truth (view_of now file) key o f)

    -- another file: all that is in sight
    by_sight : (o ≡ None) ⊎ (is_named (in_sight files now touched) key.prefix ≡ false) → asked_by o (in_sight files now touched) key.prefix ≡ false → was ≡ is
    by_sight (inl none) h = nothing_fails truth (view_of (rows_after base past) before) (view_of now file) key o none
    by_sight (inr unseen) h =
        not_bad (asked_by o (in_sight files now touched) key.prefix) was (still_in_sight files truth base past e before touched key o refl (touched_in_sight files now touched key.prefix unseen)) h
        ∙ sym (not_bad (asked_by o (in_sight files now touched) key.prefix) is (λ bad. (bad_in_sight files truth now touched file key o refl bad).1) h)

    by_same : (same : Bool) → same_file before file ≡ same
        → ((not same || is_file file key.file) && asked_by o (if same then touched else in_sight files now touched) key.prefix) ≡ false → was ≡ is
    by_same true e h = by_file (same_file_is before file e) (is_file file key.file) refl h
    by_same false e h = by_sight (unnamed o (in_sight files now touched) key.prefix h) h

past_period : (period : Period) (last time : ℕ) → period.to < last → last ≤ time → is_within period time ≡ false
past_period period last time h k = grind (arith, nat_tests)

-- after the period there is no moment
none_after : (files : List PromiseFile) (base : Base) (first : Option (List ℕ)) (period : Period) (last : ℕ) (past es : List LogEntry) → period.to < last → NeverBack last es
    → stages_after files base first period past es ≡ []
none_after files base first period last past [] h k = refl
none_after files base first period last past (e ∷ es) h k =
    rw (past_period period last e.time h k.0) (none_after files base first period e.time (past ++ e ∷ []) es (omega (arith, h, k.0)) k.1)

outside : (period : Period) (last time : ℕ) → period.from ≤ last → last ≤ time → is_within period time ≡ false → period.to < time
outside period last time h k w = grind (arith, nat_tests)

steady : (files : List PromiseFile) (truth : Truth) (key : Key) (base : Base) (first : Option (List ℕ)) (period : Period) (last : ℕ) (b : Bool) (past es : List LogEntry)
    → b ≡ is_bad files truth (view_after files base first past) key → period.from ≤ last → NeverBack last es
    → Steady files truth key b (stages_after files base first period past es)
steady files truth key base first period last b past [] is from back = tt
steady files truth key base first period last b past (e ∷ es) is from back =
    by (is_within period e.time) refl (steady files truth key base first period e.time (is_bad files truth (view_after files base first (past ++ e ∷ [])) key) (past ++ e ∷ []) es refl (omega (arith, from, back.0)) back.1)
  where
    stage : Stage
    stage = next_stage files e.time (rows_after base.rows (past ++ e ∷ [])) (touched_after base.rows past e) (file_after files base first past) (file_after files base first (past ++ e ∷ []))

    by : (w : Bool) → is_within period e.time ≡ w
        → Steady files truth key (is_bad files truth (view_after files base first (past ++ e ∷ [])) key) (stages_after files base first period (past ++ e ∷ []) es)
        → Steady files truth key b ((if w then stage ∷ [] else []) ++ stages_after files base first period (past ++ e ∷ []) es)
    by true w ih = (λ h. is ∙ entry_steady files truth base.rows past e key e.time (file_after files base first past) (file_after files base first (past ++ e ∷ [])) h, ih)
    by false w ih = rw (none_after files base first period e.time (past ++ e ∷ []) es (outside period last e.time from back.0 w) back.1) tt

-- What is observed at the prefixes that stand or are named, and then at those that entries touch, has the runs of all moments.
pub told_touched : (files : List PromiseFile) (truth : Truth) (key : Key) (base : Base) (first : Option (List ℕ)) (period : Period) (before es : List LogEntry) → NeverBack period.from es
    → runs_of period.to (moments_of key (asked files truth (stages_of files base first period before es)))
    ≡ runs_of period.to (map (moment_at files truth key) (record { begin = period.from; view = view_after files base first before } ∷ marks_after files base first period before es))
told_touched files truth key base first period before es back =
    told files truth key period.to (stages_of files base first period before es) (
      first_steady files truth period (rows_after base.rows before) (file_after files base first before) key,
      steady files truth key base first period period.from (is_bad files truth (view_after files base first before) key) before es refl (omega arith) back,
    )
    ∙ ap (λ l. runs_of period.to (moment_at files truth key (record { begin = period.from; view = view_after files base first before }) ∷ l))
    (marks_are files base first period truth key before es)
