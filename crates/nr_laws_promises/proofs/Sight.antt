-- A promise is bad at prefixes in sight alone: those that stand at some moment, and those that promises name.
use Rattle.std.proofs.Common.{◌≡◌, ◌==◌, ℕ, zero, suc, Bool, true, false, ◌&&◌, not, List, [], ◌∷◌, ◌++◌, length, Option, Some, None, refl, ap, sym, ◌∙◌}
use Rattle.std.specs.Prelude.{◌||◌, map, slice_get, if◌then◌else◌}
use Rattle.std.specs.List.{AllByRecursion, flat_map}
use Rattle.nr_spec_bgp.specs.Prefixes.{Cidr}
use Rattle.nr_spec_log.specs.Chain.{LogEntry}
use Rattle.nr_spec_history.specs.Conflicts.{Period}
use Rattle.nr_spec_routes.specs.Keys.{Row, is_named, standing}
use Rattle.nr_spec_routes.specs.Rows.{rows_after}
use Rattle.nr_spec_routes.proofs.Once.{named_append, named_once, standing_stands}
use Rattle.nr_spec_typing.specs.declared.text.Promise.{Promise}
use Rattle.nr_spec_truth.specs.Truths.{Truth}
use Rattle.nr_spec_report.specs.Wrong.{Base, is_within}
use Rattle.nr_spec_runs.specs.Runs.{Key, runs_after, runs_of}
use Rattle.nr_spec_promises.specs.Files.{PromiseFile, first_promised, promise_of}
use Rattle.nr_spec_promises.specs.Moments.{Mark, View, entries_before, marks_after, moments, view_after}
use Rattle.nr_spec_promises.specs.Broken.{fails, is_bad, is_file, moment_at, promise_at}
use Rattle.nr_spec_promises.specs.Counted.{named_by, named_in}
use Rattle.nr_spec_promises.specs.Found.{keys_from, prefixes_over, standing_within}
use Rattle.nr_laws_promises.specs.BrokenRows.{IsOneOf}
use Rattle.nr_laws_promises.proofs.Members.{all_from}
use Rattle.nr_laws_promises.proofs.Keys.{key_there}

or_parts : (a b : Bool) → (a || b) ≡ false → (a ≡ false) × (b ≡ false)
or_parts true b h = absurd cc
or_parts false b h = (refl, h)

-- ---- what stands

abbrev IsDown : Cidr → Mark → Type 0
IsDown p m = m.view.stands p ≡ false

down_after : (files : List PromiseFile) (base : Base) (first : Option (List ℕ)) (period : Period) (past es : List LogEntry) (p : Cidr)
    → is_named (standing_within base period past es) p ≡ false → AllByRecursion (IsDown p) (marks_after files base first period past es)
down_after files base first period past [] p h = tt
down_after files base first period past (e ∷ es) p h =
    by (is_within period e.time) h (down_after files base first period (past ++ e ∷ []) es p)
  where
    rows : List Row
    rows = rows_after base.rows (past ++ e ∷ [])

    rest : List Cidr
    rest = standing_within base period (past ++ e ∷ []) es

    mark : Mark
    mark = record { begin = e.time; view = view_after files base first (past ++ e ∷ []) }

    marks : List Mark
    marks = marks_after files base first period (past ++ e ∷ []) es

    by : (w : Bool) → is_named ((if w then standing rows else []) ++ rest) p ≡ false → (is_named rest p ≡ false → AllByRecursion (IsDown p) marks)
        → AllByRecursion (IsDown p) ((if w then mark ∷ [] else []) ++ marks)
    by true h ih =
        let parts = or_parts (is_named (standing rows) p) (is_named rest p) (sym (named_append (standing rows) rest p) ∙ h) in
        (sym (standing_stands rows p) ∙ parts.0, ih parts.1)
    by false h ih = ih h

-- ---- what promises name

named_at : (promises : List Promise) (r : ℕ) (promise : Promise) (p : Cidr) → slice_get promises r ≡ Some promise
    → is_named (flat_map (λ (x : Promise). x.at) promises) p ≡ false → is_named promise.at p ≡ false
named_at [] r promise p is h = absurd cc
named_at (x ∷ promises) zero promise p is h =
    let one : x ≡ promise = cc in
    let rest : List Cidr = flat_map (λ (y : Promise). y.at) promises in
    ap (λ (y : Promise). is_named y.at p) (sym one) ∙ (or_parts (is_named x.at p) (is_named rest p) (sym (named_append x.at rest p) ∙ h)).0
named_at (x ∷ promises) (suc r) promise p is h =
    let rest : List Cidr = flat_map (λ (y : Promise). y.at) promises in
    named_at promises r promise p is (or_parts (is_named x.at p) (is_named rest p) (sym (named_append x.at rest p) ∙ h)).1

named_of : (files : List PromiseFile) (i r : ℕ) (promise : Promise) (p : Cidr) → promise_of (slice_get files i) r ≡ Some promise
    → is_named (flat_map named_in files) p ≡ false → is_named promise.at p ≡ false
named_of [] i r promise p is h = absurd cc
named_of (f ∷ files) zero r promise p is h =
    let rest : List Cidr = flat_map named_in files in
    named_at f.promises r promise p is (or_parts (is_named (named_in f) p) (is_named rest p) (sym (named_append (named_in f) rest p) ∙ h)).0
named_of (f ∷ files) (suc i) r promise p is h =
    let rest : List Cidr = flat_map named_in files in
    named_of files i r promise p is (or_parts (is_named (named_in f) p) (is_named rest p) (sym (named_append (named_in f) rest p) ∙ h)).1

-- ---- bad

-- A promise isn't bad at a prefix that doesn't stand and that it doesn't name.
not_judged : (truth : Truth) (view : View) (key : Key) (promise : Promise) → view.stands key.prefix ≡ false → is_named promise.at key.prefix ≡ false
    → fails truth view key (Some promise) ≡ false
not_judged truth view key promise down unnamed =
    ap (λ t. is_file view.file key.file && (t && not (truth key.file key.promise (view.scene key.prefix)))) (by (length promise.at == 0))
    ∙ never (is_file view.file key.file)
  where
    by : (none : Bool) → (if none then view.stands key.prefix else is_named promise.at key.prefix) ≡ false
    by true = down
    by false = unnamed

    never : (b : Bool) → (b && false) ≡ false
    never true = refl
    never false = refl

abbrev pub IsGood : List PromiseFile → Truth → Key → Mark → Type 0
IsGood files truth key m = is_bad files truth m.view key ≡ false

-- where a key isn't among those of the prefixes in sight, it isn't bad at any moment
pub good_out_of_sight : (files : List PromiseFile) (truth : Truth) (base : Base) (period : Period) (entries : List LogEntry) (key : Key)
    → (IsOneOf key (keys_from (prefixes_over files base period entries) 0 files) → ⊥) → AllByRecursion (IsGood files truth key) (moments files base period entries)
good_out_of_sight files truth base period entries key out = by_promise (promise_at files key) refl
  where
    p : Cidr
    p = key.prefix

    before : List Cidr
    before = standing (rows_after base.rows (entries_before period entries))

    within : List Cidr
    within = standing_within base period [] entries

    seen : List Cidr
    seen = prefixes_over files base period entries

    by_sight : (promise : Promise) → promise_at files key ≡ Some promise → is_named seen p ≡ false → AllByRecursion (IsGood files truth key) (moments files base period entries)
    by_sight promise is unseen =
        let all = or_parts (is_named before p) (is_named (within ++ named_by files) p)
        (sym (named_append before (within ++ named_by files) p) ∙ sym (named_once (before ++ (within ++ named_by files)) p) ∙ unseen) in
        let later = or_parts (is_named within p) (is_named (named_by files) p) (sym (named_append within (named_by files) p) ∙ all.1) in
        let unnamed : is_named promise.at p ≡ false =
        named_of files key.file key.promise promise p is (sym (named_once (flat_map named_in files) p) ∙ later.1) in
        let down : AllByRecursion (IsDown p) (moments files base period entries) = (
          sym (standing_stands (rows_after base.rows (entries_before period entries)) p) ∙ all.0,
          down_after files base (first_promised entries) period [] entries p later.0,
        ) in
        all_from (IsDown p) (IsGood files truth key) (moments files base period entries)
        (λ m d. ap (fails truth m.view key) is ∙ not_judged truth m.view key promise d unnamed) down

    by_seen : (promise : Promise) → promise_at files key ≡ Some promise → (b : Bool) → is_named seen p ≡ b → AllByRecursion (IsGood files truth key) (moments files base period entries)
    by_seen promise is true e = absurd (out (key_there seen files key promise is e))
    by_seen promise is false e = by_sight promise is e

    nothing : (ms : List Mark) → promise_at files key ≡ None → AllByRecursion (IsGood files truth key) ms
    nothing [] is = tt
    nothing (m ∷ ms) is = (ap (fails truth m.view key) is, nothing ms is)

    by_promise : (o : Option Promise) → promise_at files key ≡ o → AllByRecursion (IsGood files truth key) (moments files base period entries)
    by_promise None is = nothing (moments files base period entries) is
    by_promise (Some promise) is = by_seen promise is (is_named seen p) refl

-- moments that aren't bad have no runs
good_runs : (files : List PromiseFile) (truth : Truth) (key : Key) (to : ℕ) (ms : List Mark) → AllByRecursion (IsGood files truth key) ms
    → runs_after false to (map (moment_at files truth key) ms) ≡ []
good_runs files truth key to [] h = refl
good_runs files truth key to (m ∷ ms) h = rw h.0 (good_runs files truth key to ms h.1)

pub no_runs : (files : List PromiseFile) (truth : Truth) (base : Base) (period : Period) (entries : List LogEntry) (key : Key)
    → (IsOneOf key (keys_from (prefixes_over files base period entries) 0 files) → ⊥)
    → runs_of period.to (map (moment_at files truth key) (moments files base period entries)) ≡ []
no_runs files truth base period entries key out =
    good_runs files truth key period.to (moments files base period entries) (good_out_of_sight files truth base period entries key out)
