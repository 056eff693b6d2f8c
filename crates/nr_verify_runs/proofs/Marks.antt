-- What one more entry makes of the moments of a period.
use Rattle.nr_spec_bgp.specs.Prefixes.{Cidr}
use Rattle.nr_spec_history.specs.Conflicts.{Period}
use Rattle.nr_spec_log.specs.Chain.{LogEntry}
use Rattle.nr_spec_promises.specs.Files.{file_after}
use Rattle.nr_spec_promises.specs.Moments.{Mark, marks_after}
use Rattle.nr_spec_report.specs.Wrong.{Base, is_within}
use Rattle.nr_spec_routes.proofs.Words.{unwrap_push}
use Rattle.nr_spec_routes.specs.Keys.{route_in}
use Rattle.nr_spec_routes.specs.Routes.{word_of}
use Rattle.nr_spec_routes.specs.declared.direction.Direction.{Direction}
use Rattle.nr_spec_runs.specs.Runs.{Moment}
use Rattle.nr_verify_runs.specs.Walked.{Charge, Kept, Walked, Watch, Watched, moment_of, moments_after, view_in}
use Rattle.nr_verify_routes.specs.Held.{AreOf, Held, held, key_at}
use Rattle.std.proofs.Common.{cond, Bool, List, Option, [], ap, append-nil, append_assoc, arith, false, filter, map, nat_le, nat_lt, refl, subst, sym, true, unwrap_or, ℕ, ◌&&◌, ◌++◌, ◌<◌, ◌||◌, ◌∙◌, ◌∷◌, ◌≡◌, ◌≤◌}
use Rattle.std.proofs.lemmas.Bool.Decides.{nat_tests}
use Rattle.std.proofs.lemmas.List.{map-append}
use Rattle.std.specs.List.{AllByRecursion}

abbrev is_early : Period → LogEntry → Bool
is_early period e = nat_lt e.time period.from

abbrev marks : Base → Charge → List LogEntry → List LogEntry → List Mark
marks base charge before es = marks_after charge.files base charge.first charge.period before es

abbrev entry_mark : Base → Charge → List LogEntry → LogEntry → List Mark
entry_mark base charge before e = cond (is_within charge.period e.time) (record { begin = e.time; view = view_in base charge (before ++ e ∷ []) } ∷ []) []

-- ---- one more entry

late_filtered : (period : Period) (es : List LogEntry) (e : LogEntry) → nat_lt e.time period.from ≡ false → filter (is_early period) (es ++ e ∷ []) ≡ filter (is_early period) es
late_filtered period [] e h = rw h refl
late_filtered period (x ∷ es) e h = ap (λ l. cond (is_early period x) (x ∷ l) l) (late_filtered period es e h)

marks_push : (base : Base) (charge : Charge) (before es : List LogEntry) (e : LogEntry)
    → marks base charge before (es ++ e ∷ []) ≡ marks base charge before es ++ entry_mark base charge (before ++ es) e
marks_push base charge before [] e = append-nil (entry_mark base charge before e) ∙ ap (λ (b : List LogEntry). entry_mark base charge b e) (sym (append-nil before))
marks_push base charge before (x ∷ es) e =
    let here : List Mark = entry_mark base charge before x in
    let rest : List Mark = marks base charge (before ++ x ∷ []) es in
    ap (λ (l : List Mark). here ++ l) (marks_push base charge (before ++ x ∷ []) es e)
    ∙ (ap (λ (b : List LogEntry). here ++ (rest ++ entry_mark base charge b e)) (append_assoc before (x ∷ []) es)
    ∙ sym (append_assoc here rest (entry_mark base charge (before ++ x ∷ es) e)))

-- ---- none in the period yet

early_filtered : (period : Period) (es : List LogEntry) → AllByRecursion (λ e. e.time < period.from) es → filter (is_early period) es ≡ es
early_filtered period [] h = refl
early_filtered period (x ∷ es) h = let t : nat_lt x.time period.from ≡ true = grind (arith, nat_tests, h.0) in rw t (ap (λ l. x ∷ l) (early_filtered period es h.1))

early_out : (time from to : ℕ) → time < from → (nat_le from time && nat_le time to) ≡ false
early_out time from to h = grind (arith, nat_tests)

early_marks : (base : Base) (charge : Charge) (before es : List LogEntry) → AllByRecursion (λ (e : LogEntry). e.time < charge.period.from) es
    → marks base charge before es ≡ []
early_marks base charge before [] h = refl
early_marks base charge before (x ∷ es) h = rw (early_out x.time charge.period.from charge.period.to h.0) (early_marks base charge (before ++ x ∷ []) es h.1)

-- ---- the moments

abbrev by_first : Base → Charge → List LogEntry → List Mark → List Moment
by_first base charge before later = map (moment_of charge) (record { begin = charge.period.from; view = view_in base charge before } ∷ later)

early_moments : (base : Base) (charge : Charge) (past : List LogEntry) → AllByRecursion (λ (e : LogEntry). e.time < charge.period.from) past
    → moments_after base charge past ≡ moment_of charge (record { begin = charge.period.from; view = view_in base charge past }) ∷ []
unfolding moments_after
early_moments base charge past h =
    ap (λ (l : List LogEntry). by_first base charge l (marks base charge [] past)) (early_filtered charge.period past h)
    ∙ ap (λ (l : List Mark). by_first base charge past l) (early_marks base charge [] past h)

abbrev pub entry_moment : Base → Charge → List LogEntry → ℕ → List Moment
entry_moment base charge past time = cond (is_within charge.period time) (moment_of charge (record { begin = time; view = view_in base charge past }) ∷ []) []

map_one : (base : Base) (charge : Charge) (past : List LogEntry) (time : ℕ) (b : Bool)
    → map (moment_of charge) (cond b (record { begin = time; view = view_in base charge past } ∷ []) []) ≡ cond b (moment_of charge (record { begin = time; view = view_in base charge past }) ∷ []) []
map_one base charge past time true = refl
map_one base charge past time false = refl

late_moments : (base : Base) (charge : Charge) (past : List LogEntry) (e : LogEntry) → nat_lt e.time charge.period.from ≡ false
    → moments_after base charge (past ++ e ∷ []) ≡ moments_after base charge past ++ entry_moment base charge (past ++ e ∷ []) e.time
unfolding moments_after
late_moments base charge past e h =
    ap (λ (l : List LogEntry). by_first base charge l (marks base charge [] (past ++ e ∷ []))) (late_filtered charge.period past e h)
    ∙ ap (λ (l : List Moment). moment_of charge (record { begin = charge.period.from; view = view_in base charge (filter (is_early charge.period) past) }) ∷ l)
    (ap (map (moment_of charge)) (marks_push base charge [] past e)
    ∙ (map-append (moment_of charge) (marks base charge [] past) (entry_mark base charge past e)
    ∙ ap (λ (l : List Moment). map (moment_of charge) (marks base charge [] past) ++ l) (map_one base charge (past ++ e ∷ []) e.time (is_within charge.period e.time))))

-- ---- the walk

abbrev kept : List Held → Option ℕ → Bool → Watch → Kept
kept rows file begun watch = record { rows = rows; file = file; begun = begun; watch = watch }

begins_so : (base : Base) (charge : Charge) (past : List LogEntry) (rows : List Held) (file : Option ℕ) (old new : Watch)
    → Walked base charge past (kept rows file false old)
    → Watched (moment_of charge (record { begin = charge.period.from; view = view_in base charge past }) ∷ []) new
    → Walked base charge past (kept rows file true new)
begins_so base charge past rows file old new h s = record {
  routes = h.routes;
  file = h.file;
  before = λ e. absurd (cc);
  within = λ e. subst (λ (ms : List Moment). Watched ms new) (sym (early_moments base charge past (h.before refl).0)) s;
}

pub begins : (base : Base) (charge : Charge) (past : List LogEntry) (rows : List Held) (file : Option ℕ) (begun : Bool) (old new : Watch)
    → begun ≡ false
    → Walked base charge past (kept rows file begun old)
    → Watched (moment_of charge (record { begin = charge.period.from; view = view_in base charge past }) ∷ []) new
    → Walked base charge past (kept rows file true new)
begins base charge past rows file begun old new b h s =
    begins_so base charge past rows file old new (subst (λ (b : Bool). Walked base charge past (kept rows file b old)) b h) s

pub moved : (base : Base) (charge : Charge) (past : List LogEntry) (k : Kept) (rows : List Held) (file : Option ℕ) (begun : Bool) → k.rows ≡ rows → k.file ≡ file → k.begun ≡ begun
    → Walked base charge past (kept rows file begun k.watch) → Walked base charge past k
moved base charge past k rows file begun r f b h =
    subst (λ (r : List Held). Walked base charge past (kept r k.file k.begun k.watch)) (sym r)
    (subst (λ (f : Option ℕ). Walked base charge past (kept rows f k.begun k.watch)) (sym f)
    (subst (λ (b : Bool). Walked base charge past (kept rows file b k.watch)) (sym b) h))

pub begun_so : (old : Bool) (from time : ℕ) → (old ≡ true → from ≤ time) → (old || nat_le from time) ≡ nat_le from time
begun_so true from time h = let le : from ≤ time = h refl in let t : nat_le from time ≡ true = grind (arith, nat_tests) in sym t
begun_so false from time h = refl

pub or_same : (old : Bool) (n : ℕ) → (old || nat_le n n) ≡ true
or_same true n = refl
or_same false n = grind (arith, nat_tests)

-- ---- entries in order

pub settled_more : (begun now : Bool) (from last time : ℕ) → now ≡ (begun || nat_le from time) → last ≤ time → (begun ≡ true → from ≤ last) → now ≡ true → from ≤ time
settled_more true now from last time n le h is = let low : from ≤ last = h refl in omega (arith, low, le)
settled_more false now from last time n le h is = later (sym n ∙ is)
  where
    later : nat_le from time ≡ true → from ≤ time
    later h = grind (arith, nat_tests)

pub routes_more : (base : Base) (past : List LogEntry) (e : LogEntry) (p : Cidr) (old new : List Held) → AreOf base.rows past p old
    → ((d : Direction) (n : ℕ) → held new d n ≡ unwrap_or (word_of (key_at p d n) e) (held old d n))
    → AreOf base.rows (past ++ e ∷ []) p new
routes_more base past e p old new h step d n =
    step d n ∙ (ap (unwrap_or (word_of (key_at p d n) e)) (h d n) ∙ sym (unwrap_push (word_of (key_at p d n)) past e (route_in base.rows (key_at p d n))))

all_push : (P : LogEntry → Type 0) (es : List LogEntry) (e : LogEntry) → AllByRecursion P es → P e → AllByRecursion P (es ++ e ∷ [])
all_push P [] e h k = (k, tt)
all_push P (x ∷ es) e h k = (h.0, all_push P es e h.1 k)

not_early : (time from : ℕ) → true ≡ nat_le from time → nat_lt time from ≡ false
not_early time from h = grind (arith, nat_tests)

is_early_by : (time from : ℕ) → false ≡ nat_le from time → time < from
is_early_by time from h = grind (arith, nat_tests)

pub steps : (base : Base) (charge : Charge) (past : List LogEntry) (e : LogEntry) (old new : List Held) (file before_file : Option ℕ) (begun : Bool) (before after : Watch)
    → Walked base charge past (kept old before_file begun before)
    → begun ≡ nat_le charge.period.from e.time
    → AreOf base.rows (past ++ e ∷ []) charge.prefix new
    → file ≡ file_after charge.files base charge.first (past ++ e ∷ [])
    → ((moments : List Moment) → Watched moments before → Watched (moments ++ entry_moment base charge (past ++ e ∷ []) e.time) after)
    → (is_within charge.period e.time ≡ false → after ≡ before)
    → Walked base charge (past ++ e ∷ []) (kept new file begun after)
steps base charge past e old new file before_file true before after h b routes f seen idle = record {
  routes = routes;
  file = f;
  before = λ x. absurd (cc);
  within = λ x. subst (λ (ms : List Moment). Watched ms after) (sym (late_moments base charge past e (not_early e.time charge.period.from b))) (seen (moments_after base charge past) (h.within refl));
}
steps base charge past e old new file before_file false before after h b routes f seen idle =
    let early = is_early_by e.time charge.period.from b in
    record {
      routes = routes;
      file = f;
      before = λ x. (all_push (λ (e : LogEntry). e.time < charge.period.from) past e (h.before refl).0 early, subst (λ (w : Watch). Watched [] w) (sym (idle (early_out e.time charge.period.from charge.period.to early))) (h.before refl).1);
      within = λ x. absurd (cc);
    }
