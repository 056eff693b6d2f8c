-- Taking the soonest of several files' next ones.
use Rattle.std.proofs.Common.{◌≡◌, ℕ, zero, suc, ◌+◌, ◌<◌, ◌≤◌, Bool, true, false, cond, List, [], ◌∷◌, ◌++◌, length, take, drop, get_or, set, min, Option, Some, None, nat_le, ◌⊎◌, inl, inr, subst, refl, sym, ap, ◌∙◌, arith}
use Rattle.std.specs.Prelude.{MatchOption}
use Rattle.std.specs.List.{flat_map}
use Rattle.std.specs.Iterator.{YieldsFirstBy}
use Rattle.std.proofs.lemmas.Bool.{cases_lt, eq-eqb, ne_eqb, leb-true, leb-false}
use Rattle.std.proofs.lemmas.List.{length-append, drop_more, drop_all, get_or_read, get_or_past}
use Rattle.nr_spec_steps.specs.Events.{Event, time_of}
use Rattle.nr_spec_recording.specs.Merging.{least, chosen, Choice, behind, by_least, merged_by, count_in, merged}
use Rattle.nr_spec_recording.specs.Merging as merging
use Rattle.nr_events.specs.declared.event.Event.{Event as declared}
use Rattle.nr_events.specs.Views.{event_of}
use Rattle.nr_recording.specs.declared.merge.First.{First}
use Rattle.nr_recording.specs.Merges.{first_time, sooner, ComesFirst, IsSoonest}

-- ---- a file more, before the others

first_alone : (start : ℕ) (e : Event) (es : List Event) (files : List (List Event)) → least files ≡ None → ComesFirst (record { place = start; time = time_of e }) start ((e ∷ es) ∷ files)
unfolding least chosen
first_alone start e es files none = record {
  gap = 0;
  place = omega arith;
  least = ap (λ (o : Option ℕ). Some (merging.sooner (time_of e) o)) none;
  first = refl;
  chosen = rw (eq-eqb (time_of e) (time_of e) refl) refl;
}

first_sooner : (s : First) (start : ℕ) (e : Event) (es : List Event) (files : List (List Event)) → time_of e ≤ s.time → ComesFirst s (start + 1) files
    → ComesFirst (record { place = start; time = time_of e }) start ((e ∷ es) ∷ files)
unfolding least chosen
first_sooner s start e es files le p =
    let same : min (time_of e) s.time ≡ time_of e = omega arith in
    record {
      gap = 0;
      place = omega arith;
      least = ap (λ (o : Option ℕ). Some (merging.sooner (time_of e) o)) p.least ∙ ap (λ (t : ℕ). Some t) same;
      first = refl;
      chosen = rw (eq-eqb (time_of e) (time_of e) refl) refl;
    }

first_later : (s : First) (start : ℕ) (e : Event) (es : List Event) (files : List (List Event)) → s.time < time_of e → ComesFirst s (start + 1) files → ComesFirst s start ((e ∷ es) ∷ files)
unfolding least chosen
first_later s start e es files lt p =
    let same : min (time_of e) s.time ≡ s.time = omega arith in
    record {
      gap = suc p.gap;
      place = omega (arith, p.place);
      least = ap (λ (o : Option ℕ). Some (merging.sooner (time_of e) o)) p.least ∙ ap (λ (t : ℕ). Some t) same;
      first = p.first;
      chosen = rw (ne_eqb (time_of e) s.time (λ z. omega arith)) (ap (behind (e ∷ es)) p.chosen);
    }

first_by : (s : First) (start : ℕ) (e : Event) (es : List Event) (files : List (List Event)) (b : Bool) → nat_le (time_of e) s.time ≡ b → ComesFirst s (start + 1) files
    → IsSoonest (cond b (Some (record { place = start; time = time_of e })) (Some s)) start ((e ∷ es) ∷ files)
first_by s start e es files true is p = first_sooner s start e es files (leb-true (time_of e) s.time is) p
first_by s start e es files false is p = first_later s start e es files (leb-false (time_of e) s.time is) p

-- a file without a next one
first_past : (s : First) (start : ℕ) (files : List (List Event)) → ComesFirst s (start + 1) files → ComesFirst s start ([] ∷ files)
unfolding least chosen
first_past s start files p = record { gap = suc p.gap; place = omega (arith, p.place); least = p.least; first = p.first; chosen = ap (behind []) p.chosen }

none_past : (files : List (List Event)) → least files ≡ None → least ([] ∷ files) ≡ None
unfolding least
none_past files none = none

file-more : (later : Option First) (start : ℕ) (file : List Event) (files : List (List Event)) → IsSoonest later (start + 1) files → IsSoonest (sooner later start (first_time file)) start (file ∷ files)
file-more None start [] files p = none_past files p
file-more (Some s) start [] files p = first_past s start files p
file-more None start (e ∷ es) files p = first_alone start e es files p
file-more (Some s) start (e ∷ es) files p = first_by s start e es files (nat_le (time_of e) s.time) refl p

-- the same of a walk from the last file to the first
pub soonest-more : (later : Option First) (place : ℕ) (files : List (List Event)) → place < length files → IsSoonest later (place + 1) (drop (place + 1) files)
    → IsSoonest (sooner later place (first_time (get_or files place []))) place (drop place files)
soonest-more later place files lt p =
    rw (drop_more files place [] lt) (file-more later place (get_or files place []) (drop (place + 1) files) p)

pub soonest-walk : (later found : Option First) (next place : ℕ) (files : List (List Event)) (file : List Event) (time : Option ℕ) → next ≡ place + 1 → place < length files
    → file ≡ get_or files place file → time ≡ first_time file → found ≡ sooner later place time → IsSoonest later next (drop next files) → IsSoonest found place (drop place files)
soonest-walk later found next place files file time next_is lt file_is time_is found_is so_far =
    let same : found ≡ sooner later place (first_time (get_or files place [])) =
    found_is ∙ ap (λ (o : Option ℕ). sooner later place o) (time_is ∙ ap first_time (get_or_read files place file lt file_is [])) in
    let Before : ℕ → Type 0 = λ n. IsSoonest later n (drop n files) in
    let After : Option First → Type 0 = λ o. IsSoonest o place (drop place files) in
    subst After (sym same) (soonest-more later place files lt (subst Before next_is so_far))

pub soonest-none : (files : List (List Event)) → IsSoonest None (length files) (drop (length files) files)
unfolding least
soonest-none files = rw (drop_all (length files) files (omega arith)) refl

-- ---- taking it

-- one less is left
count-set : (files : List (List Event)) (i : ℕ) (e : Event) (es : List Event) → get_or files i [] ≡ e ∷ es → count_in files ≡ suc (count_in (set files i es))
count-set [] i e es is = absurd cc
count-set (file ∷ files) zero e es is = ap (λ (l : List Event). length (l ++ flat_map (λ (x : List Event). x) files)) is
count-set (file ∷ files) (suc i) e es is =
    let more = count-set files i e es is in
    let left = length-append file (flat_map (λ (x : List Event). x) files) in
    let right = length-append file (flat_map (λ (x : List Event). x) (set files i es)) in
    omega (arith, more, left, right)

chosen-taken : (files : List (List Event)) (i : ℕ) (e : Event) (es : List Event) (n : ℕ) (file : List Event) → file ≡ e ∷ es
    → take 1 file ++ merged_by n (set files i (drop 1 file)) ≡ e ∷ merged_by n (set files i es)
chosen-taken files i e es n file is = ap (λ (l : List Event). take 1 l ++ merged_by n (set files i (drop 1 l))) is

merged_by-first : (s : First) (files : List (List Event)) (e : Event) (es : List Event) (n : ℕ) (p : ComesFirst s 0 files) → get_or files p.gap [] ≡ e ∷ es
    → merged_by (suc n) files ≡ e ∷ merged_by n (set files p.gap es)
unfolding merged_by
merged_by-first s files e es n p is =
    ap (λ (o : Option ℕ). by_least o (λ time. (chosen time files).next ++ merged_by n (chosen time files).files)) p.least
    ∙ ap (λ (c : Choice). c.next ++ merged_by n c.files) p.chosen
    ∙ chosen-taken files p.gap e es n (get_or files p.gap []) is

merged-first : (s : First) (files : List (List Event)) (e : Event) (es : List Event) (p : ComesFirst s 0 files) → get_or files p.gap [] ≡ e ∷ es → merged files ≡ e ∷ merged (set files p.gap es)
merged-first s files e es p is =
    ap (λ (n : ℕ). merged_by n files) (count-set files p.gap e es is) ∙ merged_by-first s files e es (count_in (set files p.gap es)) p is

-- the file stands among the files
no_time : (n : ℕ) → first_time [] ≡ Some n → ⊥
no_time n e = cc

within_by : (s : First) (files : List (List Event)) (p : ComesFirst s 0 files) → (p.gap < length files) ⊎ (length files ≤ p.gap) → p.gap < length files
within_by s files p (inl lt) = lt
within_by s files p (inr le) = absurd (no_time s.time (ap first_time (sym (get_or_past files p.gap [] le)) ∙ p.first))

pub within : (s : First) (files : List (List Event)) (p : ComesFirst s 0 files) → p.gap < length files
within s files p = within_by s files p (cases_lt p.gap (length files))

taken_by : (s : First) (files : List (List Event)) (old : List Event) (r : Option Event) (new : List Event) (p : ComesFirst s 0 files) → get_or files p.gap [] ≡ old
    → MatchOption r ((old ≡ []) × (new ≡ [])) (λ e. old ≡ e ∷ new)
    → MatchOption r ((merged files ≡ []) × (merged (set files p.gap new) ≡ [])) (λ e. merged files ≡ e ∷ merged (set files p.gap new))
taken_by s files old None new p is none = absurd (no_time s.time (ap first_time (sym (is ∙ none.0)) ∙ p.first))
taken_by s files old (Some e) new p is some = merged-first s files e new p (is ∙ some)

-- the time of the first of all
time_by : (s : First) (files : List (List Event)) (file : List Event) (p : ComesFirst s 0 files) → get_or files p.gap [] ≡ file → first_time (merged files) ≡ Some s.time
time_by s files [] p is = absurd (no_time s.time (ap first_time (sym is) ∙ p.first))
time_by s files (e ∷ es) p is = ap first_time (merged-first s files e es p is) ∙ ap first_time (sym is) ∙ p.first

pub merged-time : (s : First) (files : List (List Event)) → IsSoonest (Some s) 0 files → first_time (merged files) ≡ Some s.time
merged-time s files p = time_by s files (get_or files p.gap []) p refl

merged_by-none : (n : ℕ) (files : List (List Event)) → least files ≡ None → merged_by n files ≡ []
unfolding merged_by
merged_by-none zero files none = refl
merged_by-none (suc n) files none = rw none refl

pub merged-none : (files : List (List Event)) → IsSoonest None 0 files → merged files ≡ []
merged-none files none = merged_by-none (count_in files) files none

yields : (files : List (List Event)) (old : List Event) (r : Option declared) (new : List Event) (place : ℕ) (s : First) (p : ComesFirst s 0 files) → place ≡ p.gap → get_or files p.gap [] ≡ old
    → YieldsFirstBy event_of (λ (l : List Event). l) old r new → YieldsFirstBy event_of merged files r (set files place new)
yields files old None new place s p gap is none =
    rw gap (taken_by s files old None new p is none)
yields files old (Some x) new place s p gap is some =
    rw gap (taken_by s files old (Some (event_of x)) new p is some)

pub taken : (s : First) (files : List (List Event)) (old : List Event) (r : Option declared) (new : List Event) → IsSoonest (Some s) 0 files → old ≡ get_or files s.place old
    → YieldsFirstBy event_of (λ (l : List Event). l) old r new → YieldsFirstBy event_of merged files r (set files s.place new)
taken s files old r new p is yielded =
    let gap : s.place ≡ p.gap = omega (arith, p.place) in
    let lt : s.place < length files = omega (arith, gap, within s files p) in
    let there : get_or files p.gap [] ≡ old = ap (λ (n : ℕ). get_or files n []) (sym gap) ∙ sym (get_or_read files s.place old lt is []) in
    yields files old r new s.place s p gap there yielded
