-- What is observed tells the runs of all moments.
use Rattle.std.proofs.Common.{◌≡◌, ◌==◌, ℕ, ◌+◌, ◌<◌, suc, eqb-true, eq-eqb, ne_eqb, zero, Bool, true, false, ◌&&◌, not, List, [], ◌∷◌, ◌++◌, Option, Some, None, refl, ap, sym, ◌∙◌, append-nil, arith}
use Rattle.std.specs.Prelude.{filter, map, slice_get, if◌then◌else◌}
use Rattle.std.specs.List.{list_any}
use Rattle.std.proofs.lemmas.List.Elements.{filter-append}
use Rattle.std.proofs.lemmas.List.{map-append}
use Rattle.nr_spec_bgp.specs.Prefixes.{Cidr}
use Rattle.nr_spec_log.specs.Chain.{LogEntry}
use Rattle.nr_spec_history.specs.Conflicts.{Period}
use Rattle.nr_spec_routes.specs.Rows.{rows_after}
use Rattle.nr_spec_routes.specs.Touched.{touched_after}
use Rattle.nr_spec_typing.specs.declared.text.Promise.{Promise}
use Rattle.nr_spec_truth.specs.Truths.{Truth}
use Rattle.nr_spec_report.specs.Wrong.{Base, is_within}
use Rattle.nr_spec_runs.specs.Runs.{Moment, Span, Key, Observation, same_prefix, is_of, key_of, moments_of, observed, row_end, run_from, runs_after, runs_of}
use Rattle.nr_spec_promises.specs.Files.{PromiseFile, file_after, promise_of}
use Rattle.nr_spec_promises.specs.Moments.{Mark, marks_after, view_after}
use Rattle.nr_spec_promises.specs.Broken.{fails, is_bad, moment_at, promise_at}
use Rattle.nr_judging.specs.Asked.{Stage, asked, asked_at, asked_from, asked_in, asked_of, is_asked_file, next_stage, stages_after}

-- ---- a moment that is seen more than once

abbrev pub AreCopies : Moment → List Moment → Type 0
AreCopies m [] = Unit {0}
AreCopies m (o ∷ os) = (o ≡ m) × AreCopies m os

again_end : (close : ℕ) (m : Moment) (os rest : List Moment) → AreCopies m os → m.bad ≡ true → row_end close (os ++ rest) ≡ row_end close rest
again_end close m [] rest h b = refl
again_end close m (o ∷ os) rest h b = rw (h.0, b) (again_end close m os rest h.1 b)

no_run : (bad : Bool) (s : List Span) → (if bad && not bad then s else []) ≡ []
no_run true s = refl
no_run false s = refl

again : (close : ℕ) (m : Moment) (os rest : List Moment) → AreCopies m os → runs_after m.bad close (os ++ rest) ≡ runs_after m.bad close rest
again close m [] rest h = refl
again close m (o ∷ os) rest h =
    rw h.0 (ap (λ l. l ++ runs_after m.bad close (os ++ rest)) (no_run m.bad (record { begin = m.begin; end = row_end close (os ++ rest) } ∷ [])) ∙ again close m os rest h.1)

-- ---- which observations are of a key

pub of_both : (a b : Bool) → (a && b) ≡ true → (a ≡ true) × (b ≡ true)
of_both true true e = (refl, refl)
of_both true false e = absurd cc
of_both false b e = absurd cc

pub same_prefix_is : (p q : Cidr) → same_prefix p q ≡ true → q ≡ p
same_prefix_is p q h =
    let both = of_both (p.addr == q.addr) (p.len == q.len) h in
    ap (λ (a : ℕ). record { addr = a; len = q.len }) (sym (eqb-true p.addr q.addr both.0)) ∙ ap (λ (l : ℕ). record { addr = p.addr; len = l }) (sym (eqb-true p.len q.len both.1))

moments_append : (key : Key) (xs ys : List Observation) → moments_of key (xs ++ ys) ≡ moments_of key xs ++ moments_of key ys
moments_append key xs ys = ap (map (λ (o : Observation). o.moment)) (filter-append (is_of key) xs ys) ∙ map-append (λ (o : Observation). o.moment) (filter (is_of key) xs) (filter (is_of key) ys)

and_false : (a : Bool) → (a && false) ≡ false
and_false true = refl
and_false false = refl

other_number : (a : Bool) (n m : ℕ) → n < m → (a && (n == m)) ≡ false
other_number a n m lt = ap (λ t. a && t) (ne_eqb n m (λ e. omega arith)) ∙ and_false a

-- another promise, or one of another file
other_promise : (key : Key) (truth : Truth) (mark : Mark) (file r : ℕ) (promise : Promise) (prefixes : List Cidr) → (key.file == file && key.promise == r) ≡ false
    → moments_of key (asked_at truth mark file r promise prefixes) ≡ []
other_promise key truth mark file r promise [] h = refl
other_promise key truth mark file r promise (p ∷ prefixes) h =
    ap (λ b. map (λ (o : Observation). o.moment) (if b && same_prefix key.prefix p then observed (key_of file r p) (fails truth mark.view (key_of file r p) (Some promise)) mark.begin ∷ filter (is_of key) (asked_at truth mark file r promise prefixes) else filter (is_of key) (asked_at truth mark file r promise prefixes))) h
    ∙ other_promise key truth mark file r promise prefixes h

below : (key : Key) (truth : Truth) (stage : Stage) (file r : ℕ) (promises : List Promise) → key.promise < r → moments_of key (asked_in truth stage file r promises) ≡ []
below key truth stage file r [] h = refl
below key truth stage file r (promise ∷ promises) h =
    moments_append key (asked_at truth stage.mark file r promise stage.prefixes) (asked_in truth stage file (suc r) promises)
    ∙ ap (λ l. l ++ moments_of key (asked_in truth stage file (suc r) promises)) (other_promise key truth stage.mark file r promise stage.prefixes (other_number (key.file == file) key.promise r h))
    ∙ below key truth stage file (suc r) promises (omega arith)

other_file : (key : Key) (truth : Truth) (stage : Stage) (file r : ℕ) (promises : List Promise) → (key.file == file) ≡ false → moments_of key (asked_in truth stage file r promises) ≡ []
other_file key truth stage file r [] h = refl
other_file key truth stage file r (promise ∷ promises) h =
    moments_append key (asked_at truth stage.mark file r promise stage.prefixes) (asked_in truth stage file (suc r) promises)
    ∙ ap (λ l. l ++ moments_of key (asked_in truth stage file (suc r) promises)) (other_promise key truth stage.mark file r promise stage.prefixes (ap (λ t. t && key.promise == r) h))
    ∙ other_file key truth stage file (suc r) promises h

not_of : (key : Key) (truth : Truth) (stage : Stage) (file : ℕ) (f : PromiseFile) → (key.file == file) ≡ false → moments_of key (asked_of truth stage file f) ≡ []
not_of key truth stage file f h = by (is_asked_file stage file) where
  by : (b : Bool) → moments_of key (if b then asked_in truth stage file 0 f.promises else []) ≡ []
  by true = other_file key truth stage file 0 f.promises h
  by false = refl

below_files : (key : Key) (truth : Truth) (stage : Stage) (file : ℕ) (files : List PromiseFile) → key.file < file → moments_of key (asked_from truth stage file files) ≡ []
below_files key truth stage file [] h = refl
below_files key truth stage file (f ∷ files) h =
    moments_append key (asked_of truth stage file f) (asked_from truth stage (suc file) files)
    ∙ ap (λ l. l ++ moments_of key (asked_from truth stage (suc file) files)) (not_of key truth stage file f (ne_eqb key.file file (λ e. omega arith)))
    ∙ below_files key truth stage (suc file) files (omega arith)

abbrev pub by_promise : Truth → Stage → Key → Option Promise → List Moment
by_promise truth stage key None = []
by_promise truth stage key (Some promise) = moments_of key (asked_at truth stage.mark key.file key.promise promise stage.prefixes)

asked_promise : (key : Key) (truth : Truth) (stage : Stage) (r j : ℕ) (promises : List Promise) → key.promise ≡ r + j → moments_of key (asked_in truth stage key.file r promises) ≡ by_promise truth stage key (slice_get promises j)
asked_promise key truth stage r j [] h = refl
asked_promise key truth stage r zero (promise ∷ promises) h =
    let is : r ≡ key.promise = omega arith in
    moments_append key (asked_at truth stage.mark key.file r promise stage.prefixes) (asked_in truth stage key.file (suc r) promises)
    ∙ ap (λ l. moments_of key (asked_at truth stage.mark key.file r promise stage.prefixes) ++ l) (below key truth stage key.file (suc r) promises (omega arith))
    ∙ append-nil (moments_of key (asked_at truth stage.mark key.file r promise stage.prefixes))
    ∙ ap (λ k. moments_of key (asked_at truth stage.mark key.file k promise stage.prefixes)) is
asked_promise key truth stage r (suc j) (promise ∷ promises) h =
    moments_append key (asked_at truth stage.mark key.file r promise stage.prefixes) (asked_in truth stage key.file (suc r) promises)
    ∙ ap (λ l. l ++ moments_of key (asked_in truth stage key.file (suc r) promises))
    (other_promise key truth stage.mark key.file r promise stage.prefixes (ap (λ t. key.file == key.file && t) (ne_eqb key.promise r (λ e. omega arith)) ∙ and_false (key.file == key.file)))
    ∙ asked_promise key truth stage (suc r) j promises (omega arith)

abbrev pub by_file : Truth → Stage → Key → Option PromiseFile → List Moment
by_file truth stage key None = []
by_file truth stage key (Some f) = if is_asked_file stage key.file then by_promise truth stage key (slice_get f.promises key.promise) else []

asked_file : (key : Key) (truth : Truth) (stage : Stage) (f : PromiseFile) → moments_of key (asked_of truth stage key.file f) ≡ by_file truth stage key (Some f)
asked_file key truth stage f = by (is_asked_file stage key.file) where
  by : (b : Bool) → moments_of key (if b then asked_in truth stage key.file 0 f.promises else []) ≡ (if b then by_promise truth stage key (slice_get f.promises key.promise) else [])
  by true = asked_promise key truth stage 0 key.promise f.promises (omega arith)
  by false = refl

asked_files : (key : Key) (truth : Truth) (stage : Stage) (file j : ℕ) (files : List PromiseFile) → key.file ≡ file + j → moments_of key (asked_from truth stage file files) ≡ by_file truth stage key (slice_get files j)
asked_files key truth stage file j [] h = refl
asked_files key truth stage file zero (f ∷ files) h =
    let is : file ≡ key.file = omega arith in
    moments_append key (asked_of truth stage file f) (asked_from truth stage (suc file) files)
    ∙ ap (λ l. moments_of key (asked_of truth stage file f) ++ l) (below_files key truth stage (suc file) files (omega arith))
    ∙ append-nil (moments_of key (asked_of truth stage file f))
    ∙ ap (λ k. moments_of key (asked_of truth stage k f)) is
    ∙ asked_file key truth stage f
asked_files key truth stage file (suc j) (f ∷ files) h =
    moments_append key (asked_of truth stage file f) (asked_from truth stage (suc file) files)
    ∙ ap (λ l. l ++ moments_of key (asked_from truth stage (suc file) files)) (not_of key truth stage file f (ne_eqb key.file file (λ e. omega arith)))
    ∙ asked_files key truth stage (suc file) j files (omega arith)

-- ---- all of them are the moment, and there is one where the key is asked for

abbrev pub is_some_there : List Moment → Bool
is_some_there [] = false
is_some_there (o ∷ os) = true

abbrev pub told_at : Truth → Mark → Key → Option Promise → Moment
told_at truth mark key o = record { begin = mark.begin; bad = fails truth mark.view key o }

step : (key : Key) (truth : Truth) (mark : Mark) (promise : Promise) (p : Cidr) (prefixes : List Cidr) (same : Bool) → same_prefix key.prefix p ≡ same
    → AreCopies (told_at truth mark key (Some promise)) (moments_of key (asked_at truth mark key.file key.promise promise prefixes))
    → AreCopies (told_at truth mark key (Some promise)) (moments_of key (asked_at truth mark key.file key.promise promise (p ∷ prefixes)))
step key truth mark promise p prefixes true e h =
    rw (eq-eqb key.file key.file refl, eq-eqb key.promise key.promise refl, e)
    (ap (λ (x : Cidr). told_at truth mark (key_of key.file key.promise x) (Some promise)) (same_prefix_is key.prefix p e), h)
step key truth mark promise p prefixes false e h = rw (eq-eqb key.file key.file refl, eq-eqb key.promise key.promise refl, e) h

copies : (key : Key) (truth : Truth) (mark : Mark) (promise : Promise) (prefixes : List Cidr)
    → AreCopies (told_at truth mark key (Some promise)) (moments_of key (asked_at truth mark key.file key.promise promise prefixes))
copies key truth mark promise [] = tt
copies key truth mark promise (p ∷ prefixes) = step key truth mark promise p prefixes (same_prefix key.prefix p) refl (copies key truth mark promise prefixes)

there_step : (key : Key) (truth : Truth) (mark : Mark) (promise : Promise) (p : Cidr) (prefixes : List Cidr) (same : Bool) → same_prefix key.prefix p ≡ same
    → (list_any (same_prefix key.prefix) prefixes ≡ true → is_some_there (moments_of key (asked_at truth mark key.file key.promise promise prefixes)) ≡ true)
    → list_any (same_prefix key.prefix) (p ∷ prefixes) ≡ true
    → is_some_there (moments_of key (asked_at truth mark key.file key.promise promise (p ∷ prefixes))) ≡ true
there_step key truth mark promise p prefixes true e ih h = rw (eq-eqb key.file key.file refl, eq-eqb key.promise key.promise refl, e) refl
there_step key truth mark promise p prefixes false e ih h = rw (eq-eqb key.file key.file refl, eq-eqb key.promise key.promise refl, e) (ih (rw e at h))

there : (key : Key) (truth : Truth) (mark : Mark) (promise : Promise) (prefixes : List Cidr) → list_any (same_prefix key.prefix) prefixes ≡ true
    → is_some_there (moments_of key (asked_at truth mark key.file key.promise promise prefixes)) ≡ true
there key truth mark promise [] h = absurd cc
there key truth mark promise (p ∷ prefixes) h = there_step key truth mark promise p prefixes (same_prefix key.prefix p) refl (there key truth mark promise prefixes) h

-- ---- a stage

abbrev pub asked_by : Option Promise → List Cidr → Cidr → Bool
asked_by None prefixes p = false
asked_by (Some promise) prefixes p = list_any (same_prefix p) prefixes

abbrev pub is_asked : List PromiseFile → Key → Stage → Bool
is_asked files key stage = is_asked_file stage key.file && asked_by (promise_at files key) stage.prefixes key.prefix

copies_by : (key : Key) (truth : Truth) (stage : Stage) (o : Option Promise) → AreCopies (told_at truth stage.mark key o) (by_promise truth stage key o)
copies_by key truth stage None = tt
copies_by key truth stage (Some promise) = copies key truth stage.mark promise stage.prefixes

copies_file : (key : Key) (truth : Truth) (stage : Stage) (o : Option PromiseFile) → AreCopies (told_at truth stage.mark key (promise_of o key.promise)) (by_file truth stage key o)
copies_file key truth stage None = tt
copies_file key truth stage (Some f) = by (is_asked_file stage key.file) where
  by : (b : Bool) → AreCopies (told_at truth stage.mark key (slice_get f.promises key.promise)) (if b then by_promise truth stage key (slice_get f.promises key.promise) else [])
  by true = copies_by key truth stage (slice_get f.promises key.promise)
  by false = tt

there_by : (key : Key) (truth : Truth) (stage : Stage) (o : Option Promise) → asked_by o stage.prefixes key.prefix ≡ true → is_some_there (by_promise truth stage key o) ≡ true
there_by key truth stage None h = absurd cc
there_by key truth stage (Some promise) h = there key truth stage.mark promise stage.prefixes h

there_file : (key : Key) (truth : Truth) (stage : Stage) (o : Option PromiseFile) → (is_asked_file stage key.file && asked_by (promise_of o key.promise) stage.prefixes key.prefix) ≡ true
    → is_some_there (by_file truth stage key o) ≡ true
there_file key truth stage None h = absurd (let both = of_both (is_asked_file stage key.file) false h in let none = both.1 in cc)
there_file key truth stage (Some f) h =
    let both = of_both (is_asked_file stage key.file) (asked_by (slice_get f.promises key.promise) stage.prefixes key.prefix) h in
    ap (λ b. is_some_there (if b then by_promise truth stage key (slice_get f.promises key.promise) else [])) both.0
    ∙ there_by key truth stage (slice_get f.promises key.promise) both.1

abbrev pub of_stage : List PromiseFile → Truth → Key → Stage → List Moment
of_stage files truth key stage = by_file truth stage key (slice_get files key.file)

stage_moments : (files : List PromiseFile) (truth : Truth) (key : Key) (stage : Stage) → moments_of key (asked_from truth stage 0 files) ≡ of_stage files truth key stage
stage_moments files truth key stage = asked_files key truth stage 0 key.file files (omega arith)

-- ---- all stages

-- a key keeps its value where it isn't asked for
abbrev pub Steady : List PromiseFile → Truth → Key → Bool → List Stage → Type 0
Steady files truth key before [] = Unit {0}
Steady files truth key before (stage ∷ stages) =
    (is_asked files key stage ≡ false → before ≡ is_bad files truth stage.mark.view key) × Steady files truth key (is_bad files truth stage.mark.view key) stages

abbrev pub all_moments : List PromiseFile → Truth → Key → List Stage → List Moment
all_moments files truth key [] = []
all_moments files truth key (stage ∷ stages) = moment_at files truth key stage.mark ∷ all_moments files truth key stages

one_end : (close : ℕ) (m : Moment) (os rest more : List Moment) → AreCopies m os → (is_some_there os ≡ false → true ≡ m.bad) → (m.bad ≡ true → row_end close rest ≡ row_end close more)
    → row_end close (os ++ rest) ≡ row_end close (m ∷ more)
one_end close m [] rest more h none same = let b = sym (none refl) in rw b (same b)
one_end close m (o ∷ os) rest more h none same = rw h.0 (by_bad m.bad refl) where
  by_bad : (b : Bool) → m.bad ≡ b → (if m.bad then row_end close (os ++ rest) else m.begin) ≡ (if m.bad then row_end close more else m.begin)
  by_bad true e = rw e (again_end close m os rest h.1 e ∙ same e)
  by_bad false e = rw e refl

one_run : (before : Bool) (close : ℕ) (m : Moment) (os rest more : List Moment) → AreCopies m os → (is_some_there os ≡ false → before ≡ m.bad)
    → (m.bad ≡ true → row_end close rest ≡ row_end close more) → runs_after m.bad close rest ≡ runs_after m.bad close more
    → runs_after before close (os ++ rest) ≡ runs_after before close (m ∷ more)
one_run before close m [] rest more h none same runs =
    rw (none refl) (runs ∙ sym (ap (λ l. l ++ runs_after m.bad close more) (no_run m.bad (record { begin = m.begin; end = row_end close more } ∷ []))))
one_run before close m (o ∷ os) rest more h none same runs =
    rw h.0 (ap (λ l. l ++ runs_after m.bad close (os ++ rest)) (by_bad m.bad refl) ∙ ap (λ l. run_from before close m more ++ l) (again close m os rest h.1 ∙ runs)) where
      by_bad : (b : Bool) → m.bad ≡ b → run_from before close m (os ++ rest) ≡ run_from before close m more
      by_bad true e = ap (λ n. if m.bad && not before then record { begin = m.begin; end = n } ∷ [] else []) (again_end close m os rest h.1 e ∙ same e)
      by_bad false e = rw e refl

unasked : (files : List PromiseFile) (truth : Truth) (key : Key) (stage : Stage) → is_some_there (of_stage files truth key stage) ≡ false → is_asked files key stage ≡ false
unasked files truth key stage h = by_asked (is_asked files key stage) refl where
  by_asked : (a : Bool) → is_asked files key stage ≡ a → is_asked files key stage ≡ false
  by_asked false e = e
  by_asked true e = absurd (let t = there_file key truth stage (slice_get files key.file) e in cc)

told_end : (files : List PromiseFile) (truth : Truth) (key : Key) (close : ℕ) (stages : List Stage) → Steady files truth key true stages
    → row_end close (moments_of key (asked files truth stages)) ≡ row_end close (all_moments files truth key stages)
told_end files truth key close [] h = refl
told_end files truth key close (stage ∷ stages) h =
    ap (row_end close) (moments_append key (asked_from truth stage 0 files) (asked files truth stages) ∙ ap (λ l. l ++ moments_of key (asked files truth stages)) (stage_moments files truth key stage))
    ∙ one_end close (moment_at files truth key stage.mark) (of_stage files truth key stage) (moments_of key (asked files truth stages)) (all_moments files truth key stages)
    (copies_file key truth stage (slice_get files key.file)) (λ n. h.0 (unasked files truth key stage n)) (λ b. told_end files truth key close stages (rw b at h.1))

told_after : (files : List PromiseFile) (truth : Truth) (key : Key) (close : ℕ) (before : Bool) (stages : List Stage) → Steady files truth key before stages
    → runs_after before close (moments_of key (asked files truth stages)) ≡ runs_after before close (all_moments files truth key stages)
told_after files truth key close before [] h = refl
told_after files truth key close before (stage ∷ stages) h =
    ap (runs_after before close) (moments_append key (asked_from truth stage 0 files) (asked files truth stages) ∙ ap (λ l. l ++ moments_of key (asked files truth stages)) (stage_moments files truth key stage))
    ∙ one_run before close (moment_at files truth key stage.mark) (of_stage files truth key stage) (moments_of key (asked files truth stages)) (all_moments files truth key stages)
    (copies_file key truth stage (slice_get files key.file)) (λ n. h.0 (unasked files truth key stage n)) (λ b. told_end files truth key close stages (rw b at h.1))
    (told_after files truth key close (is_bad files truth stage.mark.view key) stages h.1)

-- What is observed has the runs of all moments, where each key keeps its value at moments at which it isn't observed.
pub told : (files : List PromiseFile) (truth : Truth) (key : Key) (close : ℕ) (stages : List Stage) → Steady files truth key false stages
    → runs_of close (moments_of key (asked files truth stages)) ≡ runs_of close (all_moments files truth key stages)
told files truth key close stages h = told_after files truth key close false stages h

-- ---- the moments of the stages

pub marks_are : (files : List PromiseFile) (base : Base) (first : Option (List ℕ)) (period : Period) (truth : Truth) (key : Key) (past es : List LogEntry)
    → all_moments files truth key (stages_after files base first period past es) ≡ map (moment_at files truth key) (marks_after files base first period past es)
marks_are files base first period truth key past [] = refl
marks_are files base first period truth key past (e ∷ es) =
    by_time (is_within period e.time) (marks_are files base first period truth key (past ++ e ∷ []) es) where
      now : List LogEntry
      now = past ++ e ∷ []

      stage : Stage
      stage = next_stage files e.time (rows_after base.rows now) (touched_after base.rows past e) (file_after files base first past) (file_after files base first now)

      by_time : (w : Bool) → all_moments files truth key (stages_after files base first period now es) ≡ map (moment_at files truth key) (marks_after files base first period now es)
          → all_moments files truth key ((if w then stage ∷ [] else []) ++ stages_after files base first period now es)
          ≡ map (moment_at files truth key) ((if w then record { begin = e.time; view = view_after files base first now } ∷ [] else []) ++ marks_after files base first period now es)
      by_time true ih = ap (λ l. moment_at files truth key (record { begin = e.time; view = view_after files base first now }) ∷ l) ih
      by_time false ih = ih
