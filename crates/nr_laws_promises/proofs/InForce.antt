-- Where no promise in force in a period is that of no promise file, each moment belongs to a file.
use Rattle.std.proofs.Common.{◌≡◌, inl, ◌≤◌, ◌<◌, ◌+◌, ℕ, suc, Bool, true, false, not, cond, lt-ltb, List, [], ◌∷◌, ◌++◌, length, Option, Some, None, refl, ap, sym, subst, ◌∙◌, append_assoc, append-nil, arith}
use Rattle.std.specs.Prelude.{◌||◌, filter, find, is_none, map, nat_lt, option_map, position, if◌then◌else◌}
use Rattle.std.specs.List.{AllByRecursion, flat_map, list_any, position_or_len}
use Rattle.std.specs.List.Sorted.{IsNonDecreasingBy}
use Rattle.std.specs.Str.{bytes_eq}
use Rattle.std.proofs.lemmas.List.Elements.{filter-append}
use Rattle.std.proofs.lemmas.Bool.Decides.{nat_tests}
use Rattle.nr_spec_log.specs.Chain.{LogEntry}
use Rattle.nr_spec_history.specs.Conflicts.{Period}
use Rattle.nr_spec_entry.specs.ContentReading.{content_of}
use Rattle.nr_spec_routes.specs.LookBack.{last_of, later_or}
use Rattle.nr_spec_counts.specs.Tallies.{Numbers, promise_in, tally_after}
use Rattle.nr_spec_report.specs.Wrong.{Base, is_within}
use Rattle.nr_spec_outcome.specs.Outcome.{digest_list, digests_in_force, digests_within, is_of_no_file, misfit, promised}
use Rattle.nr_spec_promises.specs.Files.{PromiseFile, digest_of, file_with, first_promised, force_or, has_digest, ruling}
use Rattle.nr_spec_promises.specs.Moments.{Mark, entries_before, marks_after, moments, view_after}
use Rattle.nr_spec_promises.proofs.Following.{follows}
use Rattle.nr_laws_promises.specs.BrokenRows.{IsOneOf}
use Rattle.nr_laws_promises.proofs.Members.{all_one, one_left, one_right}

-- ---- digests of files

abbrev pub file_digest : PromiseFile → List ℕ
file_digest f = f.digest

abbrev pub numbers_digest : Numbers → List ℕ
numbers_digest n = n.digest

-- a file has this digest
abbrev HasFile : List PromiseFile → Option (List ℕ) → Type 0
HasFile files digest = (i : ℕ) × (i < length files) × (file_with files digest ≡ Some i)

-- the moment belongs to a file
abbrev pub Belongs : List PromiseFile → Mark → Type 0
Belongs files m = (i : ℕ) × (i < length files) × (m.view.file ≡ Some i)

position_below : {X : Type 0} (p : X → Bool) (xs : List X) → list_any p xs ≡ true → position_or_len p xs < length xs
position_below p [] h = absurd cc
position_below p (x ∷ xs) h = by (p x) h (position_below p xs)
  where
    by : (b : Bool) → (b || list_any p xs) ≡ true → (list_any p xs ≡ true → position_or_len p xs < length xs)
        → cond (not b) (1 + position_or_len p xs) 0 < length (x ∷ xs)
    by true h ih = omega arith
    by false h ih = let rest = ih h in omega (arith, rest)

position_there : {X : Type 0} (p : X → Bool) (xs : List X) → list_any p xs ≡ true → position p xs ≡ Some (position_or_len p xs)
position_there p xs h = ap (λ b. cond b (Some (position_or_len p xs)) None) (lt-ltb (position_or_len p xs) (length xs) (position_below p xs h))

any_mapped : {X Y : Type 0} (f : X → Y) (test : Y → Bool) (xs : List X) → list_any (λ (x : X). test (f x)) xs ≡ list_any test (map f xs)
any_mapped f test [] = refl
any_mapped f test (x ∷ xs) = ap (λ t. test (f x) || t) (any_mapped f test xs)

found_any : {X : Type 0} (test : X → Bool) (xs : List X) → is_none (find test xs) ≡ false → list_any test xs ≡ true
found_any test [] h = absurd cc
found_any test (x ∷ xs) h = by (test x) h (found_any test xs)
  where
    by : (b : Bool) → is_none (if b then Some x else find test xs) ≡ false → (is_none (find test xs) ≡ false → list_any test xs ≡ true) → (b || list_any test xs) ≡ true
    by true h ih = refl
    by false h ih = ih h

known : (files : List PromiseFile) (numbers : List Numbers) (digest : List ℕ) → map file_digest files ≡ map numbers_digest numbers
    → is_of_no_file numbers digest ≡ false → HasFile files (Some digest)
known files numbers digest same h =
    let there : list_any (has_digest digest) files ≡ true =
    any_mapped file_digest (bytes_eq digest) files ∙ ap (list_any (bytes_eq digest)) same ∙ sym (any_mapped numbers_digest (bytes_eq digest) numbers)
    ∙ found_any (λ (n : Numbers). bytes_eq digest n.digest) numbers h in
    (position_or_len (has_digest digest) files, position_below (has_digest digest) files there, position_there (has_digest digest) files there)

none_found : {X : Type 0} (test : X → Bool) (xs : List X) → find test xs ≡ None → AllByRecursion (λ x. test x ≡ false) xs
none_found test [] h = tt
none_found test (x ∷ xs) h = by (test x) refl h (none_found test xs)
  where
    by : (b : Bool) → test x ≡ b → (if b then Some x else find test xs) ≡ None → (find test xs ≡ None → AllByRecursion (λ y. test y ≡ false) xs)
        → AllByRecursion (λ y. test y ≡ false) (x ∷ xs)
    by true e h ih = absurd cc
    by false e h ih = (e, ih h)

none_mapped : {A B : Type 0} (f : A → B) (o : Option A) → option_map f o ≡ None → o ≡ None
none_mapped f None h = refl
none_mapped f (Some a) h = absurd cc

-- each digest is of a file, and there is one
all_known : (numbers : List Numbers) (digests : List (List ℕ)) → misfit numbers digests ≡ None → AllByRecursion (λ d. is_of_no_file numbers d ≡ false) digests
all_known numbers [] h = tt
all_known numbers (d ∷ digests) h =
    none_found (is_of_no_file numbers) (d ∷ digests) (none_mapped (λ (o : List ℕ). Some o) (find (is_of_no_file numbers) (d ∷ digests)) h)

some_digest : (numbers : List Numbers) (digests : List (List ℕ)) → misfit numbers digests ≡ None → digests ≡ [] → ⊥
some_digest numbers [] h e = absurd cc
some_digest numbers (d ∷ digests) h e = absurd cc

-- ---- times that never run back

abbrev IsSince : ℕ → List LogEntry → Type 0
IsSince last [] = Unit {0}
IsSince last (e ∷ es) = (last ≤ e.time) × IsSince e.time es

abbrev time_of : LogEntry → ℕ
time_of e = e.time

since_first : (e : LogEntry) (es : List LogEntry) → IsNonDecreasingBy time_of (e ∷ es) → IsSince e.time es
since_first e [] h = tt
since_first e (x ∷ es) h = (
  h 0 1 e (omega arith) (omega arith),
  since_first x es (λ (i j : ℕ) (d : LogEntry) le lt. h (suc i) (suc j) d (omega (arith, le)) (omega (arith, lt))),
)

since_all : (es : List LogEntry) → IsNonDecreasingBy time_of es → IsSince 0 es
since_all [] h = tt
since_all (e ∷ es) h = (omega arith, since_first e es h)

abbrev IsLow : Period → LogEntry → Type 0
IsLow period e = nat_lt e.time period.from ≡ true

-- those before the period, and the others
record Split (period : Period) (es : List LogEntry) : Type 0 where
  below : List LogEntry
  rest : List LogEntry
  split : es ≡ below ++ rest
  low : AllByRecursion (IsLow period) below
  high : IsSince period.from rest

not_less : (n m : ℕ) → nat_lt n m ≡ false → m ≤ n
not_less n m h = grind (arith, nat_tests)

no_less : (n m : ℕ) → m ≤ n → nat_lt n m ≡ false
no_less n m h = grind (arith, nat_tests)

split_at : (period : Period) (last : ℕ) (es : List LogEntry) → IsSince last es → Split period es
split_at period last [] h = record { below = []; rest = []; split = refl; low = tt; high = tt }
split_at period last (e ∷ es) h = by (nat_lt e.time period.from) refl (split_at period e.time es h.1)
  where
    by : (b : Bool) → nat_lt e.time period.from ≡ b → Split period es → Split period (e ∷ es)
    by true is s = record { below = e ∷ s.below; rest = s.rest; split = ap (λ l. e ∷ l) s.split; low = (is, s.low); high = s.high }
    by false is s = record { below = []; rest = e ∷ es; split = refl; low = tt; high = (not_less e.time period.from is, h.1) }

abbrev is_low : Period → LogEntry → Bool
is_low period e = nat_lt e.time period.from

all_low : (period : Period) (below : List LogEntry) → AllByRecursion (IsLow period) below → filter (is_low period) below ≡ below
all_low period [] h = refl
all_low period (e ∷ below) h = rw h.0 (ap (λ l. e ∷ l) (all_low period below h.1))

none_low : (period : Period) (last : ℕ) (rest : List LogEntry) → period.from ≤ last → IsSince last rest → filter (is_low period) rest ≡ []
none_low period last [] from h = refl
none_low period last (e ∷ rest) from h =
    let since : period.from ≤ e.time = let le = h.0 in omega (arith, from, le) in
    rw (no_less e.time period.from since) (none_low period e.time rest since h.1)

before_is : (period : Period) (below rest : List LogEntry) → AllByRecursion (IsLow period) below → IsSince period.from rest → entries_before period (below ++ rest) ≡ below
before_is period below rest low high =
    filter-append (is_low period) below rest ∙ ap (λ (l : List LogEntry). filter (is_low period) below ++ l) (none_low period period.from rest (omega arith) high)
    ∙ append-nil (filter (is_low period) below) ∙ all_low period below low

-- ---- in the period

abbrev is_in : Period → LogEntry → Bool
is_in period e = is_within period e.time

too_early : (period : Period) (n : ℕ) → nat_lt n period.from ≡ true → is_within period n ≡ false
too_early period n h = grind (arith, nat_tests)

too_late : (period : Period) (n : ℕ) → period.to < n → is_within period n ≡ false
too_late period n h = grind (arith, nat_tests)

outside : (period : Period) (n : ℕ) → period.from ≤ n → is_within period n ≡ false → period.to < n
outside period n h w = grind (arith, nat_tests)

low_outside : (period : Period) (below rest : List LogEntry) → AllByRecursion (IsLow period) below → digests_within period (below ++ rest) ≡ digests_within period rest
low_outside period [] rest h = refl
low_outside period (e ∷ below) rest h = rw (too_early period e.time h.0) (low_outside period below rest h.1)

marks_low : (files : List PromiseFile) (base : Base) (first : Option (List ℕ)) (period : Period) (past below rest : List LogEntry) → AllByRecursion (IsLow period) below
    → marks_after files base first period past (below ++ rest) ≡ marks_after files base first period (past ++ below) rest
marks_low files base first period past [] rest h = ap (λ (l : List LogEntry). marks_after files base first period l rest) (sym (append-nil past))
marks_low files base first period past (e ∷ below) rest h =
    ap (λ w. (if w then record { begin = e.time; view = view_after files base first (past ++ e ∷ []) } ∷ [] else []) ++ marks_after files base first period (past ++ e ∷ []) (below ++ rest))
    (too_early period e.time h.0)
    ∙ marks_low files base first period (past ++ e ∷ []) below rest h.1
    ∙ ap (λ (l : List LogEntry). marks_after files base first period l rest) (append_assoc past (e ∷ []) below)

-- after the period nothing is in it
late_digests : (period : Period) (last : ℕ) (es : List LogEntry) → period.to < last → IsSince last es → digests_within period es ≡ []
late_digests period last [] late h = refl
late_digests period last (e ∷ es) late h =
    let later : period.to < e.time = let le = h.0 in omega (arith, late, le) in
    rw (too_late period e.time later) (late_digests period e.time es later h.1)

late_marks : (files : List PromiseFile) (base : Base) (first : Option (List ℕ)) (period : Period) (last : ℕ) (past es : List LogEntry) → period.to < last → IsSince last es
    → marks_after files base first period past es ≡ []
late_marks files base first period last past [] late h = refl
late_marks files base first period last past (e ∷ es) late h =
    let later : period.to < e.time = let le = h.0 in omega (arith, late, le) in
    rw (too_late period e.time later) (late_marks files base first period e.time (past ++ e ∷ []) es later h.1)

-- ---- the promise in force

abbrev says : LogEntry → Option Numbers
says e = promise_in (content_of e)

abbrev force : Base → List LogEntry → Option Numbers
force base past = later_or (last_of says past) base.tally.in_force

force_is : (base : Base) (past : List LogEntry) → (tally_after base.tally past).in_force ≡ force base past
unfolding tally_after
force_is base past = refl

none_earlier : {A : Type 0} (x : Option A) → later_or x None ≡ x
none_earlier None = refl
none_earlier (Some a) = refl

in_turn : {A : Type 0} (x y z : Option A) → later_or (later_or x y) z ≡ later_or x (later_or y z)
in_turn None y z = refl
in_turn (Some a) y z = refl

last_more : (past : List LogEntry) (e : LogEntry) → last_of says (past ++ e ∷ []) ≡ later_or (says e) (last_of says past)
last_more [] e = sym (none_earlier (says e))
last_more (x ∷ past) e = ap (λ o. later_or o (says x)) (last_more past e) ∙ in_turn (says e) (last_of says past) (says x)

force_more : (base : Base) (past : List LogEntry) (e : LogEntry) → force base (past ++ e ∷ []) ≡ later_or (says e) (force base past)
force_more base past e = ap (λ o. later_or o base.tally.in_force) (last_more past e) ∙ in_turn (says e) (last_of says past) base.tally.in_force

ruling_is : (base : Base) (first : Option (List ℕ)) (past : List LogEntry) → ruling base first past ≡ force_or (force base past) first
ruling_is base first past = ap (λ o. force_or o first) (force_is base past)

-- ---- each moment

AllKnown : List PromiseFile → List (List ℕ) → Type 0
AllKnown files digests = (d : List ℕ) → IsOneOf d digests → HasFile files (Some d)

abbrev state_of : Base → Option (List ℕ) → List LogEntry → Option (List ℕ)
state_of base first past = force_or (force base past) first

after_entry : (files : List PromiseFile) (base : Base) (first : Option (List ℕ)) (past : List LogEntry) (e : LogEntry) → HasFile files (state_of base first past)
    → ((d : List ℕ) → IsOneOf d (promised e) → HasFile files (Some d)) → HasFile files (state_of base first (past ++ e ∷ []))
after_entry files base first past e good here = subst (λ o. HasFile files (force_or o first)) (sym (force_more base past e)) (by (says e) here)
  where
    by : (o : Option Numbers) → ((d : List ℕ) → IsOneOf d (digest_list o) → HasFile files (Some d)) → HasFile files (force_or (later_or o (force base past)) first)
    by None here = good
    by (Some n) here = here n.digest (inl refl)

walk : (files : List PromiseFile) (base : Base) (first : Option (List ℕ)) (period : Period) (last : ℕ) (past es : List LogEntry) → period.from ≤ last → IsSince last es
    → HasFile files (state_of base first past) → ((d : List ℕ) → IsOneOf d (digests_within period es) → HasFile files (Some d))
    → AllByRecursion (Belongs files) (marks_after files base first period past es)
walk files base first period last past [] from h good in_force = tt
walk files base first period last past (e ∷ es) from h good in_force =
    by (is_within period e.time) refl in_force (λ g k. walk files base first period e.time (past ++ e ∷ []) es since h.1 g k)
  where
    since : period.from ≤ e.time
    since = let le = h.0 in omega (arith, from, le)

    mark : Mark
    mark = record { begin = e.time; view = view_after files base first (past ++ e ∷ []) }

    rest : List (List ℕ)
    rest = digests_within period es

    by : (w : Bool) → is_within period e.time ≡ w
        → ((d : List ℕ) → IsOneOf d (flat_map promised (if w then e ∷ filter (is_in period) es else filter (is_in period) es)) → HasFile files (Some d))
        → (HasFile files (state_of base first (past ++ e ∷ [])) → ((d : List ℕ) → IsOneOf d rest → HasFile files (Some d)) → AllByRecursion (Belongs files) (marks_after files base first period (past ++ e ∷ []) es))
        → AllByRecursion (Belongs files) ((if w then mark ∷ [] else []) ++ marks_after files base first period (past ++ e ∷ []) es)
    by true w in_force ih =
        let now : HasFile files (state_of base first (past ++ e ∷ [])) = after_entry files base first past e good (λ d one. in_force d (one_left d (promised e) rest one)) in
        (subst (HasFile files) (sym (ruling_is base first (past ++ e ∷ []))) now, ih now (λ d one. in_force d (one_right d (promised e) rest one)))
    by false w in_force ih =
        subst (AllByRecursion (Belongs files)) (sym (late_marks files base first period e.time (past ++ e ∷ []) es (outside period e.time since w) h.1)) tt

-- where a PROMISE is in the period, the first of all that aren't before it is
record First (period : Period) (es : List LogEntry) : Type 0 where
  digest : List ℕ
  is : first_promised es ≡ Some digest
  within : IsOneOf digest (digests_within period es)

first_within : (period : Period) (last : ℕ) (es : List LogEntry) → period.from ≤ last → IsSince last es → (digests_within period es ≡ [] → ⊥) → First period es
first_within period last [] from h some = absurd (some refl)
first_within period last (e ∷ es) from h some = by (is_within period e.time) refl some (first_within period e.time es since h.1)
  where
    since : period.from ≤ e.time
    since = let le = h.0 in omega (arith, from, le)

    later : first_promised (e ∷ es) ≡ first_promised es → digests_within period (e ∷ es) ≡ digests_within period es → First period es → First period (e ∷ es)
    later same none f = record { digest = f.digest; is = same ∙ f.is; within = subst (IsOneOf f.digest) (sym none) f.within }

    in_period : is_within period e.time ≡ true → digests_within period (e ∷ es) ≡ promised e ++ digests_within period es
    in_period w = ap (λ b. flat_map promised (if b then e ∷ filter (is_in period) es else filter (is_in period) es)) w

    here : is_within period e.time ≡ true → (o : Option Numbers) → says e ≡ o → ((digests_within period es ≡ [] → ⊥) → First period es) → First period (e ∷ es)
    here w None says_none ih =
        let none : digests_within period (e ∷ es) ≡ digests_within period es = in_period w ∙ ap (λ o. digest_list o ++ digests_within period es) says_none in
        later (ap (λ o. later_or (option_map digest_of o) (first_promised es)) says_none) none (ih (λ e. some (none ∙ e)))
    here w (Some n) says_n ih = record {
      digest = n.digest;
      is = ap (λ o. later_or (option_map digest_of o) (first_promised es)) says_n;
      within = subst (IsOneOf n.digest) (sym (in_period w ∙ ap (λ o. digest_list o ++ digests_within period es) says_n)) (inl refl);
    }

    by : (w : Bool) → is_within period e.time ≡ w → (flat_map promised (if w then e ∷ filter (is_in period) es else filter (is_in period) es) ≡ [] → ⊥)
        → ((digests_within period es ≡ [] → ⊥) → First period es) → First period (e ∷ es)
    by true w some ih = here w (says e) refl ih
    by false w some ih = absurd (some (late_digests period e.time es (outside period e.time since w) h.1))

each_belongs : (files : List PromiseFile) (numbers : List Numbers) (base : Base) (period : Period) (below rest : List LogEntry) → map file_digest files ≡ map numbers_digest numbers
    → AllByRecursion (IsLow period) below → IsSince period.from rest → misfit numbers (digests_in_force base period (below ++ rest)) ≡ None
    → AllByRecursion (Belongs files) (moments files base period (below ++ rest))
each_belongs files numbers base period below rest same low high fits = (
  subst (HasFile files) (sym (ap (ruling base first) before ∙ ruling_is base first below)) at_first,
  subst (AllByRecursion (Belongs files)) (sym (marks_low files base first period [] below rest low))
      (walk files base first period period.from below rest (omega arith) high at_first (λ d one. known_one d (one_right d (digest_list (force base below)) (digests_within period rest) one))),
)
  where
    first : Option (List ℕ)
    first = first_promised (below ++ rest)

    before : entries_before period (below ++ rest) ≡ below
    before = before_is period below rest low high

    digests : digests_in_force base period (below ++ rest) ≡ digest_list (force base below) ++ digests_within period rest
    digests =
        ap (λ (l : List LogEntry). digest_list (tally_after base.tally l).in_force ++ digests_within period (below ++ rest)) before
        ∙ ap (λ o. digest_list o ++ digests_within period (below ++ rest)) (force_is base below)
        ∙ ap (λ l. digest_list (force base below) ++ l) (low_outside period below rest low)

    fitting : misfit numbers (digest_list (force base below) ++ digests_within period rest) ≡ None
    fitting = sym (ap (misfit numbers) digests) ∙ fits

    known_one : (d : List ℕ) → IsOneOf d (digest_list (force base below) ++ digests_within period rest) → HasFile files (Some d)
    known_one d one =
        known files numbers d same
        (all_one (λ x. is_of_no_file numbers x ≡ false) d (digest_list (force base below) ++ digests_within period rest) (all_known numbers (digest_list (force base below) ++ digests_within period rest) fitting) one)

    by : (o : Option Numbers) → force base below ≡ o → HasFile files (force_or o first)
    by (Some n) is = known_one n.digest (one_left n.digest (digest_list (force base below)) (digests_within period rest) (subst (λ o. IsOneOf n.digest (digest_list o)) (sym is) (inl refl)))
    by None is =
        let f = first_within period period.from rest (omega arith) high (λ (e : digests_within period rest ≡ []).
        some_digest numbers (digest_list (force base below) ++ digests_within period rest) fitting (ap (λ o. digest_list o ++ digests_within period rest) is ∙ e)) in
        let one : first ≡ Some f.digest = follows base below rest (force_is base below ∙ is) ∙ f.is in
        subst (HasFile files) (sym one) (known_one f.digest (one_right f.digest (digest_list (force base below)) (digests_within period rest) f.within))

    at_first : HasFile files (state_of base first below)
    at_first = by (force base below) refl

pub each_moment_belongs : (files : List PromiseFile) (numbers : List Numbers) (base : Base) (period : Period) (entries : List LogEntry) (m : Mark)
    → map file_digest files ≡ map numbers_digest numbers → IsNonDecreasingBy time_of entries → misfit numbers (digests_in_force base period entries) ≡ None
    → IsOneOf m (moments files base period entries) → Belongs files m
each_moment_belongs files numbers base period entries m same back fits one =
    all_one (Belongs files) m (moments files base period entries)
    (subst (λ (es : List LogEntry). misfit numbers (digests_in_force base period es) ≡ None → AllByRecursion (Belongs files) (moments files base period es)) (sym s.split)
    (each_belongs files numbers base period s.below s.rest same s.low s.high) fits) one
  where
    s : Split period entries
    s = split_at period 0 entries (since_all entries back)
