-- A claim, by the longest rows of bad moments.
use Rattle.nr_spec_bgp.specs.Prefixes.{Cidr}
use Rattle.nr_spec_claims.specs.Claims.{is_broken_run, same_span}
use Rattle.nr_spec_history.specs.Conflicts.{Period}
use Rattle.nr_spec_runs.specs.Runs.{Key, key_of}
use Rattle.nr_spec_log.specs.Chain.{LogEntry}
use Rattle.nr_spec_promises.specs.Broken.{fails, is_file, is_judged, lasts, moment_at, promise_at}
use Rattle.nr_spec_promises.specs.Files.{PromiseFile, first_promised, promise_of}
use Rattle.nr_spec_promises.specs.Moments.{Mark, moments}
use Rattle.nr_spec_report.specs.Wrong.{Base}
use Rattle.nr_spec_runs.specs.Runs.{Span}
use Rattle.nr_spec_runs.specs.Runs.{Moment, runs_of}
use Rattle.nr_spec_truth.specs.Truths.{Truth, holds_in, meant, promised}
use Rattle.nr_spec_typing.specs.Declarations.{TypedText}
use Rattle.nr_spec_typing.specs.declared.text.Promise.{Promise}
use Rattle.nr_verify_runs.specs.Views.{file_of, files_in, says_in, says_of}
use Rattle.nr_verify_runs.specs.Walked.{moment_of, moments_after}
use Rattle.nr_verify_runs.specs.declared.file.Text.{Text}
use Rattle.std.proofs.Common.{cond, Bool, List, None, Option, Some, [], ap, arith, false, filter, map, not, option_map, refl, slice_get, suc, sym, true, zero, ℕ, ◌&&◌, ◌==◌, ◌||◌, ◌∙◌, ◌∷◌, ◌≡◌}
use Rattle.std.proofs.lemmas.Bool.Decides.{nat_tests}
use Rattle.std.specs.List.{list_any}

same_number : (m n : ℕ) → (m == n) ≡ true → m ≡ n
same_number m n h = grind (arith, nat_tests)

and_left : (a b : Bool) → a && b ≡ true → a ≡ true
and_left true b h = refl
and_left false b h = absurd cc

and_right : (a b : Bool) → a && b ≡ true → b ≡ true
and_right true b h = h
and_right false b h = absurd cc

span_is : (s t : Span) → same_span s t ≡ true → s ≡ t
span_is s t h = λ i. record { begin = same_number s.begin t.begin (and_left _ _ h) i; end = same_number s.end t.end (and_right _ _ h) i }

and_false : (a : Bool) → a && false ≡ false
and_false true = refl
and_false false = refl

-- all spans of one kind last alike
any_lasting : (o : Option Promise) (s : Span) (runs : List Span) → list_any (same_span s) (filter (lasts o) runs) ≡ lasts o s && list_any (same_span s) runs
any_lasting o s [] = sym (and_false (lasts o s))
any_lasting o s (r ∷ runs) = by (lasts o r) (same_span s r) refl (λ e. ap (lasts o) (span_is s r e)) (any_lasting o s runs)
  where
    by : (b t : Bool) → same_span s r ≡ t → (same_span s r ≡ true → lasts o s ≡ b) → list_any (same_span s) (filter (lasts o) runs) ≡ lasts o s && list_any (same_span s) runs
        → list_any (same_span s) (cond b (r ∷ filter (lasts o) runs) (filter (lasts o) runs)) ≡ lasts o s && (t || list_any (same_span s) runs)
    by true true e h ih = rw (e, h e) refl
    by true false e h ih = rw e ih
    by false true e h ih = rw (h e) (rw (h e) at ih)
    by false false e h ih = ih

kept_moments : (files : List PromiseFile) (says : List TypedText) (text : TypedText) (promise : Promise) (first : Option (List ℕ)) (period : Period) (key : Key) (marks : List Mark)
    → promise_at files key ≡ Some promise → slice_get says key.file ≡ Some text → slice_get text.promises key.promise ≡ Some promise
    → map (moment_at files (meant says) key) marks
    ≡ map (moment_of (record { files = files; first = first; file = key.file; neighbours = text.neighbours; promise = promise; prefix = key.prefix; period = period })) marks
kept_moments files says text promise first period key marks here there of_text =
    ap (λ (o : Option Promise). map (λ (m : Mark). let x : Moment = record { begin = m.begin; bad = fails (meant says) m.view key o } in x) marks) here
    ∙ ap (λ (o : Option TypedText). map (λ (m : Mark). let x : Moment = record { begin = m.begin; bad = is_file m.view.file key.file && (is_judged promise m.view key.prefix && not (holds_in o key.promise (m.view.scene key.prefix))) } in x) marks) there
    ∙ ap (λ (o : Option Promise). map (λ (m : Mark). let x : Moment = record { begin = m.begin; bad = is_file m.view.file key.file && (is_judged promise m.view key.prefix && not (promised text.neighbours o (m.view.scene key.prefix))) } in x) marks) of_text

pub told : (files : List PromiseFile) (says : List TypedText) (text : TypedText) (promise : Promise) (base : Base) (period : Period) (entries : List LogEntry) (key : Key) (s : Span)
    → promise_at files key ≡ Some promise → slice_get says key.file ≡ Some text → slice_get text.promises key.promise ≡ Some promise
    → is_broken_run files (meant says) base period entries key s
    ≡ lasts (Some promise) s && list_any (same_span s) (runs_of period.to (moments_after base
    (record { files = files; first = first_promised entries; file = key.file; neighbours = text.neighbours; promise = promise; prefix = key.prefix; period = period }) entries))
unfolding is_broken_run moments_after
told files says text promise base period entries key s here there of_text =
    let run : List Moment → List Span = λ ms. runs_of period.to ms in
    any_lasting (promise_at files key) s (run (map (moment_at files (meant says) key) (moments files base period entries)))
    ∙ (ap (λ (o : Option Promise). lasts o s && list_any (same_span s) (run (map (moment_at files (meant says) key) (moments files base period entries)))) here
    ∙ ap (λ (ms : List Moment). lasts (Some promise) s && list_any (same_span s) (run ms))
    (kept_moments files says text promise (first_promised entries) period key (moments files base period entries) here there of_text))

pub untold : (files : List PromiseFile) (truth : Truth) (base : Base) (period : Period) (entries : List LogEntry) (key : Key) (s : Span) → promise_at files key ≡ None
    → is_broken_run files truth base period entries key s ≡ false
unfolding is_broken_run
untold files truth base period entries key s h =
    any_lasting (promise_at files key) s (runs_of period.to (map (moment_at files truth key) (moments files base period entries)))
    ∙ ap (λ (o : Option Promise). lasts o s && list_any (same_span s) (runs_of period.to (map (moment_at files truth key) (moments files base period entries)))) h

-- ---- texts by their numbers

got_mapped : {A B : Type 0} (f : A → B) (xs : List A) (n : ℕ) → slice_get (map f xs) n ≡ option_map f (slice_get xs n)
got_mapped f [] n = refl
got_mapped f (x ∷ xs) zero = refl
got_mapped f (x ∷ xs) (suc n) = got_mapped f xs n

pub no_text : (texts : List Text) (file promise : ℕ) (p : Cidr) → slice_get texts file ≡ None → promise_at (files_in texts) (key_of file promise p) ≡ None
no_text texts file promise p h = ap (λ (o : Option PromiseFile). promise_of o promise) (got_mapped file_of texts file ∙ ap (option_map file_of) h)

pub its_promise : (texts : List Text) (file promise : ℕ) (p : Cidr) (t : Text) → slice_get texts file ≡ Some t → promise_at (files_in texts) (key_of file promise p) ≡ slice_get t.promises.now promise
its_promise texts file promise p t h = ap (λ (o : Option PromiseFile). promise_of o promise) (got_mapped file_of texts file ∙ ap (option_map file_of) h)

pub its_text : (texts : List Text) (file : ℕ) (t : Text) → slice_get texts file ≡ Some t → slice_get (says_in texts) file ≡ Some (says_of t)
its_text texts file t h = got_mapped says_of texts file ∙ ap (option_map says_of) h
