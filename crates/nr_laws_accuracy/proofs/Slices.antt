-- What is known after entries goes on from what is known before them.
use Rattle.std.proofs.Common.{◌≡◌, ℕ, ◌+◌, Bool, true, false, cond, List, [], ◌∷◌, ◌++◌, length, Option, Some, None, refl, sym, ap, subst, ◌∙◌, append_assoc, append-nil, arith}
use Rattle.std.specs.List.{count_by}
use Rattle.std.proofs.lemmas.Bool.{le-leb}
use Rattle.std.proofs.lemmas.List.Sums.{sum_by-append}
use Rattle.nr_spec_log.specs.Chain.{LogEntry}
use Rattle.nr_spec_entry.specs.ContentReading.{content_of}
use Rattle.nr_spec_routes.specs.LookBack.{after_last, first_of, last_of, later_or}
use Rattle.nr_spec_counts.specs.Causes.{cause_of}
use Rattle.nr_spec_counts.specs.Tallies.{ack_from, exchange_time, is_commit, is_commit_to, is_send_to, nothing_yet, Numbers, oldest_since, promise_in, Tally, tally_after}
use Rattle.nr_spec_counts.specs.Steps.{counted}
use Rattle.nr_spec_report.specs.Wrong.{WrongEntry, cause_after, is_within, nothing_before, wrong_after, wrong_by, wrong_entries, wrong_next}
use Rattle.nr_spec_history.specs.Conflicts.{Period}
use Rattle.nr_laws_accuracy.specs.Allowed.{AreAllowedAfter, IsAllowed, cause_in_log, state_after}
use Rattle.std.proofs.lemmas.List.{length-append}
use Rattle.nr_spec_routes.proofs.RowsOnce.{rows_are, rows_ascend, rows_once}
use Rattle.nr_spec_routes.specs.Keys.{Key, Row, route_in}
use Rattle.nr_spec_routes.specs.Rows.{rows_after}
use Rattle.nr_spec_routes.specs.Routes.{route_after, word_of}
use Rattle.nr_spec_counts.specs.declared.cause.Cause.{Cause}
use Rattle.std.specs.Option.{unwrap_or}
use Rattle.nr_spec_routes.proofs.Words.{later_or-assoc, last_of-append}

unwrap_later : {A : Type 0} (x y : Option A) (z : A) → unwrap_or (later_or x y) z ≡ unwrap_or x (unwrap_or y z)
unwrap_later (Some x) y z = refl
unwrap_later None y z = refl

count_front : (p : LogEntry → Bool) (base : ℕ) (y : LogEntry) (ys : List LogEntry) → base + count_by p (y ∷ ys) ≡ base + cond (p y) 1 0 + count_by p ys
count_front p base y ys = omega (arith, sum_by-append (λ (x : LogEntry). cond (p x) 1 0) (y ∷ []) ys)

oldest_front : (found : Option (List LogEntry)) (b : Bool) (base : Option ℕ) (y : LogEntry) (ys : List LogEntry) (n : ℕ)
    → oldest_since (later_or found (cond b (Some ys) None)) base (y ∷ ys) n ≡ oldest_since found (cond b None (later_or base (exchange_time n y))) ys n
oldest_front (Some later) b base y ys n = refl
oldest_front None true base y ys n = refl
oldest_front None false base y ys n = sym (later_or-assoc base (exchange_time n y) (first_of (exchange_time n) ys))

front : (t : Tally) (y : LogEntry) (ys : List LogEntry) → tally_after t (y ∷ ys) ≡ tally_after (counted t (content_of y) y.time) ys
unfolding tally_after
front t y ys = λ i. record {
  sends = λ n. count_front (λ x. is_send_to n (content_of x)) (t.sends n) y ys i;
  acked = λ n. unwrap_later (last_of (λ x. ack_from n (content_of x)) ys) (ack_from n (content_of y)) (t.acked n) i;
  oldest = λ n. oldest_front (after_last (λ x. is_commit_to n (content_of x)) ys) (is_commit_to n (content_of y)) (t.oldest n) y ys n i;
  commits = count_front (λ x. is_commit (content_of x)) t.commits y ys i;
  in_force = later_or-assoc (last_of (λ x. promise_in (content_of x)) ys) (promise_in (content_of y)) t.in_force i;
  last = unwrap_later (last_of (λ x. Some x.time) ys) (Some y.time) t.last i;
}

none_more : (base : ℕ) (p : LogEntry → Bool) → base + count_by p [] ≡ base
none_more base p = omega arith

later_none : (o : Option ℕ) → later_or o None ≡ o
later_none (Some x) = refl
later_none None = refl

before : (t : Tally) → tally_after t [] ≡ t
unfolding tally_after
before t = λ i. record {
  sends = λ n. none_more (t.sends n) (λ x. is_send_to n (content_of x)) i;
  acked = λ n. t.acked n;
  oldest = λ n. later_none (t.oldest n) i;
  commits = none_more t.commits (λ x. is_commit (content_of x)) i;
  in_force = t.in_force;
  last = t.last;
}

pub tally_append : (xs ys : List LogEntry) (base : Tally) → tally_after base (xs ++ ys) ≡ tally_after (tally_after base xs) ys
tally_append [] ys base = ap (λ (t : Tally). tally_after t ys) (sym (before base))
tally_append (x ∷ xs) ys base =
    front base x (xs ++ ys) ∙ tally_append xs ys (counted base (content_of x) x.time) ∙ ap (λ (t : Tally). tally_after t ys) (sym (front base x xs))

-- the rows after entries go on from the rows before them
routes_append : (base : List Row) (xs ys : List LogEntry) (key : Key) → route_in (rows_after (rows_after base xs) ys) key ≡ route_after base (xs ++ ys) key
routes_append base xs ys key =
    let word = word_of key in
    rows_are (rows_after base xs) ys key ∙ (ap (λ r. unwrap_or (last_of word ys) r) (rows_are base xs key)
    ∙ sym (ap (λ w. unwrap_or w (route_in base key)) (last_of-append word xs ys) ∙ unwrap_later (last_of word ys) (last_of word xs) (route_in base key)))

pub rows_append : (base : List Row) (xs ys : List LogEntry) → rows_after (rows_after base xs) ys ≡ rows_after base (xs ++ ys)
rows_append base xs ys = rows_once base (xs ++ ys) (rows_after (rows_after base xs) ys) (rows_ascend (rows_after base xs) ys) (routes_append base xs ys)

-- ---- the wrong entries of a slice

-- an entry that has no cause isn't told of, in whatever period
untold : (b : Bool) (seq : ℕ) (cause : Option Cause) → cause ≡ None → cond b (wrong_by seq cause) [] ≡ []
untold true seq cause e = ap (wrong_by seq) e
untold false seq cause e = refl

-- the cause by the state that a log leaves is that in the log
same_cause : (files : List Numbers) (past mid : List LogEntry) (e : LogEntry) → cause_after files (state_after past) mid (length past + 1 + length mid) e ≡ cause_in_log files (past ++ mid) e
same_cause files past mid e =
    let tally = tally_append past mid nothing_yet in
    let rows = rows_append [] past mid in
    let seq : length past + 1 + length mid ≡ 1 + length (past ++ mid) = omega (arith, length-append past mid) in
    λ i. cause_of files (sym tally i) (rows i) (seq i) e

slice_from : (files : List Numbers) (period : Period) (past es mid : List LogEntry) → AreAllowedAfter files (past ++ mid) es → wrong_after files (state_after past) period (length past + 1) mid es ≡ []
slice_from files period past [] mid right = refl
slice_from files period past (e ∷ es) mid right =
    let seq = length past + 1 + length mid in
    let here : wrong_next files (state_after past) period (length past + 1) mid e ≡ [] = untold (is_within period e.time) seq (cause_after files (state_after past) mid seq e) (same_cause files past mid e ∙ right.0) in
    let next : AreAllowedAfter files (past ++ (mid ++ e ∷ [])) es = subst (λ (l : List LogEntry). AreAllowedAfter files l es) (append_assoc past mid (e ∷ [])) right.1 in
    let later = slice_from files period past es (mid ++ e ∷ []) next in
    λ i. here i ++ later i

right_split : (files : List Numbers) (xs past es : List LogEntry) → AreAllowedAfter files past (xs ++ es) → AreAllowedAfter files (past ++ xs) es
right_split files [] past es right = subst (λ (l : List LogEntry). AreAllowedAfter files l es) (sym (append-nil past)) right
right_split files (x ∷ xs) past es right = subst (λ (l : List LogEntry). AreAllowedAfter files l es) (append_assoc past (x ∷ []) xs) (right_split files xs (past ++ x ∷ []) es right.1)

-- a slice of a log without a wrong entry has none by the state before it
pub slice_right : (own : Numbers) (past es : List LogEntry) (period : Period) → IsAllowed own (past ++ es) → wrong_entries (own ∷ []) (state_after past) period (length past + 1) es ≡ []
slice_right own past es period allowed =
    slice_from (own ∷ []) period past es [] (subst (λ (l : List LogEntry). AreAllowedAfter (own ∷ []) l es) (sym (append-nil past)) (right_split (own ∷ []) past [] es allowed))

-- ---- whole logs

whole_from : (files : List Numbers) (period : Period) (es past : List LogEntry) → AreAllowedAfter files past es → wrong_after files nothing_before period 1 past es ≡ []
whole_from files period [] past right = refl
whole_from files period (e ∷ es) past right =
    let here : wrong_next files nothing_before period 1 past e ≡ [] = untold (is_within period e.time) (1 + length past) (cause_in_log files past e) right.0 in
    let later = whole_from files period es (past ++ e ∷ []) right.1 in
    λ i. here i ++ later i

neither_any : (xs ys : List WrongEntry) → xs ++ ys ≡ [] → (xs ≡ []) × (ys ≡ [])
neither_any [] ys e = (refl, e)
neither_any (x ∷ xs) ys e = absurd cc

-- an entry in the period that isn't told of has no cause
told_none : (b : Bool) (seq : ℕ) (cause : Option Cause) → b ≡ true → cond b (wrong_by seq cause) [] ≡ [] → cause ≡ None
told_none true seq None is e = refl
told_none true seq (Some cause) is e = absurd cc
told_none false seq cause is e = absurd cc

-- a time is in the period that begins and ends with it
within_itself : (time : ℕ) → is_within (record { from = time; to = time }) time ≡ true
within_itself time = rw (le-leb time time (omega arith)) refl

whole_back : (files : List Numbers) (es past : List LogEntry) → ((period : Period) → wrong_after files nothing_before period 1 past es ≡ []) → AreAllowedAfter files past es
whole_back files [] past none = tt
whole_back files (e ∷ es) past none =
    let at : Period = record { from = e.time; to = e.time } in
    let parts = λ (period : Period). neither_any (wrong_next files nothing_before period 1 past e) (wrong_after files nothing_before period 1 (past ++ e ∷ []) es) (none period) in
    let here = told_none (is_within at e.time) (1 + length past) (cause_in_log files past e) (within_itself e.time) (parts at).0 in
    (here, whole_back files es (past ++ e ∷ []) (λ period. (parts period).1))

pub allowed_untold : (own : Numbers) (log : List LogEntry) → (IsAllowed own log → (period : Period) → wrong_entries (own ∷ []) nothing_before period 1 log ≡ []) × (((period : Period) → wrong_entries (own ∷ []) nothing_before period 1 log ≡ []) → IsAllowed own log)
allowed_untold own log = (λ allowed period. whole_from (own ∷ []) period log [] allowed, λ none. whole_back (own ∷ []) log [] none)
