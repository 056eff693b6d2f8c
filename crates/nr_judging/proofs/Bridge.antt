-- A prefix that an entry doesn't touch has the same routes before it and after it.
use Rattle.std.proofs.Common.{◌≡◌, ◌==◌, ℕ, eqb-true, Bool, true, false, cond, ◌&&◌, not, List, [], ◌∷◌, ◌++◌, length, Option, Some, None, refl, ap, sym, ◌∙◌, subst, arith}
use Rattle.std.specs.Prelude.{◌||◌, is_some}
use Rattle.std.specs.Option.{unwrap_or}
use Rattle.std.specs.Ordering.{is_eq}
use Rattle.std.specs.declared.cmp.Ordering.{Ordering}
use Rattle.std.specs.declared.cmp.Ordering.TheVariants.{Less, Equal, Greater}
use Rattle.std.proofs.lemmas.Bool.Decides.{nat_tests}
use Rattle.nr_spec_bgp.specs.Prefixes.{Cidr}
use Rattle.nr_spec_bgp.specs.Attributes.{AttributeBlock}
use Rattle.nr_spec_log.specs.Chain.{LogEntry}
use Rattle.nr_spec_routes.specs.Keys.{Key, Row, cidr_cmp, is_named, key_cmp, prefixes_in, route_in, stands_in}
use Rattle.nr_spec_routes.specs.Effects.{Effect, Keeps, Empties, Alters, effect_of, is_with, says}
use Rattle.nr_spec_routes.specs.Routes.{word_of}
use Rattle.nr_spec_routes.specs.Rows.{rows_after}
use Rattle.nr_spec_routes.specs.Touched.{rows_with, names, touched_by, touched_after}
use Rattle.nr_spec_routes.proofs.KeyOrder.{exact_keys}
use Rattle.nr_spec_routes.proofs.Words.{unwrap_push}
use Rattle.nr_spec_routes.proofs.RowsOnce.{rows_are}
use Rattle.nr_spec_routes.proofs.Once.{named_once, named_append}
use Rattle.nr_spec_typing.specs.declared.text.Promise.{Promise}
use Rattle.nr_spec_typing.specs.Meaning.{Scene}
use Rattle.nr_spec_truth.specs.Truths.{Truth}
use Rattle.nr_spec_runs.specs.Runs as runs
use Rattle.nr_spec_promises.specs.Files.{PromiseFile}
use Rattle.nr_spec_promises.specs.Moments.{View, received_from, scene_in, sent_to, view_of}
use Rattle.nr_spec_promises.specs.Broken.{fails, is_bad, is_file, is_judged, promise_at}

is_equal : (o : Ordering) → is_eq o ≡ true → o ≡ Equal
is_equal Less h = cc
is_equal Equal h = refl
is_equal Greater h = cc

or_false : (a b : Bool) → (a || b) ≡ false → (a ≡ false) × (b ≡ false)
or_false true b h = cc
or_false false b h = (refl, h)

same_cidr : (p : Cidr) → is_eq (cidr_cmp p p) ≡ true
same_cidr p = grind (arith, nat_tests)

-- ---- one route

-- where no row with the neighbour is of the prefix, there is no route with it
pub no_row : (n : ℕ) (rows : List Row) (key : Key) → (n == key.neighbour) ≡ true → is_named (prefixes_in (rows_with n rows)) key.prefix ≡ false → route_in rows key ≡ None
no_row n [] key e h = refl
no_row n (r ∷ rows) key e h = by (is_eq (key_cmp key r.0)) refl (n == r.0.neighbour) refl h (no_row n rows key e)
  where
    by : (same : Bool) → is_eq (key_cmp key r.0) ≡ same → (with : Bool) → (n == r.0.neighbour) ≡ with
        → is_named (prefixes_in (cond with (r ∷ rows_with n rows) (rows_with n rows))) key.prefix ≡ false
        → (is_named (prefixes_in (rows_with n rows)) key.prefix ≡ false → route_in rows key ≡ None)
        → cond same (Some r.1) (route_in rows key) ≡ None
    by false s true w h ih = ih (or_false (is_eq (cidr_cmp r.0.prefix key.prefix)) (is_named (prefixes_in (rows_with n rows)) key.prefix) h).1
    by false s false w h ih = ih h
    by true s true w h ih =
        let one = exact_keys key r.0 (is_equal _ s) in
        let there : is_eq (cidr_cmp r.0.prefix key.prefix) ≡ true = ap (λ (k : Key). is_eq (cidr_cmp k.prefix key.prefix)) (sym one) ∙ same_cidr key.prefix in
        let apart = (or_false (is_eq (cidr_cmp r.0.prefix key.prefix)) (is_named (prefixes_in (rows_with n rows)) key.prefix) h).0 in
        absurd (let t = sym there ∙ apart in cc)
    by true s false w h ih =
        let one = exact_keys key r.0 (is_equal _ s) in
        absurd (let t = sym e ∙ (ap (λ (k : Key). n == k.neighbour) one ∙ w) in cc)

unnamed : (i a w : Bool) (route : AttributeBlock) (x : Option AttributeBlock) → a ≡ false → w ≡ false → unwrap_or (cond i (cond a (Some (Some route)) (cond w (Some None) None)) None) x ≡ x
unnamed true true w route x h k = cc
unnamed true false true route x h k = cc
unnamed true false false route x h k = refl
unnamed false a w route x h k = refl

-- what an entry says of a prefix that it doesn't touch is what is there
pub says_same : (effect : Effect) (rows : List Row) (key : Key) → is_named (names rows effect) key.prefix ≡ false → unwrap_or (says effect key) (route_in rows key) ≡ route_in rows key
says_same Keeps rows key h = refl
says_same (Empties n) rows key h = by (n == key.neighbour) refl
  where
    by : (t : Bool) → (n == key.neighbour) ≡ t → unwrap_or (cond t (Some None) None) (route_in rows key) ≡ route_in rows key
    by true e = sym (no_row n rows key e h)
    by false e = refl
says_same (Alters d n changes) rows key h =
    let parts = or_false _ _ (sym (named_append changes.withdrawn changes.announced key.prefix) ∙ h) in
    unnamed (is_with d n key) (is_named changes.announced key.prefix) (is_named changes.withdrawn key.prefix) changes.attributes (route_in rows key) parts.1 parts.0

untouched : (rows : List Row) (effect : Effect) (p : Cidr) → is_named (touched_by rows effect) p ≡ false → is_named (names rows effect) p ≡ false
unfolding touched_by
untouched rows effect p h = sym (named_once (names rows effect) p) ∙ h

pub same_route : (base : List Row) (past : List LogEntry) (e : LogEntry) (key : Key) → is_named (touched_after base past e) key.prefix ≡ false
    → route_in (rows_after base (past ++ e ∷ [])) key ≡ route_in (rows_after base past) key
same_route base past e key h =
    rows_are base (past ++ e ∷ []) key
    ∙ (unwrap_push (word_of key) past e (route_in base key)
    ∙ (ap (unwrap_or (says (effect_of e) key)) (sym (rows_are base past key))
    ∙ says_same (effect_of e) (rows_after base past) key (untouched (rows_after base past) (effect_of e) key.prefix h)))

-- ---- what stands

abbrev of_prefix : Cidr → Key → Bool
of_prefix p key = key.prefix.addr == p.addr && key.prefix.len == p.len

of_both : (a b : Bool) → (a && b) ≡ true → (a ≡ true) × (b ≡ true)
of_both true true e = (refl, refl)
of_both true false e = absurd cc
of_both false b e = absurd cc

prefix_is : (p : Cidr) (key : Key) → of_prefix p key ≡ true → key.prefix ≡ p
prefix_is p key h =
    let both = of_both (key.prefix.addr == p.addr) (key.prefix.len == p.len) h in
    ap (λ (a : ℕ). let c : Cidr = record { addr = a; len = key.prefix.len } in c) (eqb-true key.prefix.addr p.addr both.0)
    ∙ ap (λ (l : ℕ). let c : Cidr = record { addr = p.addr; len = l } in c) (eqb-true key.prefix.len p.len both.1)

of_own : (key : Key) → of_prefix key.prefix key ≡ true
of_own key = grind (arith, nat_tests)

record HasRoute (rows : List Row) (p : Cidr) : Type 0 where
  key : Key
  is : key.prefix ≡ p
  there : is_some (route_in rows key) ≡ true

some_cond : (t : Bool) (x : AttributeBlock) (o : Option AttributeBlock) → is_some o ≡ true → is_some (cond t (Some x) o) ≡ true
some_cond true x o h = refl
some_cond false x o h = h

own_key : (key : Key) → is_eq (key_cmp key key) ≡ true
own_key key = grind (arith, nat_tests)

-- a prefix stands where some key of it has a route
has_route : (rows : List Row) (p : Cidr) → stands_in rows p ≡ true → HasRoute rows p
has_route [] p h = absurd cc
has_route (r ∷ rows) p h = by (of_prefix p r.0) refl h (has_route rows p)
  where
    by : (t : Bool) → of_prefix p r.0 ≡ t → (t || stands_in rows p) ≡ true → (stands_in rows p ≡ true → HasRoute rows p) → HasRoute (r ∷ rows) p
    by true e h ih = record { key = r.0; is = prefix_is p r.0 e; there = ap (λ t. is_some (cond t (Some r.1) (route_in rows r.0))) (own_key r.0) }
    by false e h ih = let f = ih h in record { key = f.key; is = f.is; there = some_cond (is_eq (key_cmp f.key r.0)) r.1 (route_in rows f.key) f.there }

or_right : (a b : Bool) → b ≡ true → (a || b) ≡ true
or_right true b h = refl
or_right false b h = h

stands_by : (rows : List Row) (key : Key) → is_some (route_in rows key) ≡ true → stands_in rows key.prefix ≡ true
stands_by [] key h = absurd cc
stands_by (r ∷ rows) key h = by (is_eq (key_cmp key r.0)) refl h (stands_by rows key)
  where
    by : (t : Bool) → is_eq (key_cmp key r.0) ≡ t → is_some (cond t (Some r.1) (route_in rows key)) ≡ true → (is_some (route_in rows key) ≡ true → stands_in rows key.prefix ≡ true)
        → (of_prefix key.prefix r.0 || stands_in rows key.prefix) ≡ true
    by true e h ih =
        let own : of_prefix key.prefix r.0 ≡ true = ap (λ (k : Key). of_prefix key.prefix k) (sym (exact_keys key r.0 (is_equal _ e))) ∙ of_own key in
        ap (λ t. t || stands_in rows key.prefix) own
    by false e h ih = or_right (of_prefix key.prefix r.0) (stands_in rows key.prefix) (ih h)

stands_too : (xs ys : List Row) (p : Cidr) → ((key : Key) → key.prefix ≡ p → route_in xs key ≡ route_in ys key) → stands_in xs p ≡ true → stands_in ys p ≡ true
stands_too xs ys p same h =
    let f = has_route xs p h in
    subst (λ q. stands_in ys q ≡ true) f.is (stands_by ys f.key (ap is_some (sym (same f.key f.is)) ∙ f.there))

alike : (a b : Bool) → (a ≡ true → b ≡ true) → (b ≡ true → a ≡ true) → a ≡ b
alike true b h k = sym (h refl)
alike false true h k = k refl
alike false false h k = refl

pub same_stands : (xs ys : List Row) (p : Cidr) → ((key : Key) → key.prefix ≡ p → route_in xs key ≡ route_in ys key) → stands_in xs p ≡ stands_in ys p
same_stands xs ys p same = alike (stands_in xs p) (stands_in ys p) (stands_too xs ys p same) (stands_too ys xs p (λ key is. sym (same key is)))

-- ---- what is seen

untouched_key : (base : List Row) (past : List LogEntry) (e : LogEntry) (p : Cidr) → is_named (touched_after base past e) p ≡ false
    → (key : Key) → key.prefix ≡ p → route_in (rows_after base (past ++ e ∷ [])) key ≡ route_in (rows_after base past) key
untouched_key base past e p h key is = same_route base past e key (ap (is_named (touched_after base past e)) is ∙ h)

pub scene_same : (base : List Row) (past : List LogEntry) (e : LogEntry) (p : Cidr) → is_named (touched_after base past e) p ≡ false
    → scene_in (rows_after base (past ++ e ∷ [])) p ≡ scene_in (rows_after base past) p
scene_same base past e p h = λ i. record {
  prefix = p;
  received = λ n. untouched_key base past e p h (received_from p n) refl i;
  sent = λ n. untouched_key base past e p h (sent_to p n) refl i;
}

pub stands_same : (base : List Row) (past : List LogEntry) (e : LogEntry) (p : Cidr) → is_named (touched_after base past e) p ≡ false
    → stands_in (rows_after base (past ++ e ∷ [])) p ≡ stands_in (rows_after base past) p
stands_same base past e p h = same_stands (rows_after base (past ++ e ∷ [])) (rows_after base past) p (untouched_key base past e p h)

same_fails : (truth : Truth) (v w : View) (key : runs.Key) (o : Option Promise) → v.scene key.prefix ≡ w.scene key.prefix → v.stands key.prefix ≡ w.stands key.prefix → v.file ≡ w.file
    → fails truth v key o ≡ fails truth w key o
same_fails truth v w key None scene stands file = refl
same_fails truth v w key (Some promise) scene stands file =
    ap (λ f. is_file f key.file && (is_judged promise v key.prefix && not (truth key.file key.promise (v.scene key.prefix)))) file
    ∙ ap (λ s. is_file w.file key.file && (cond (length promise.at == 0) s (is_named promise.at key.prefix) && not (truth key.file key.promise (v.scene key.prefix)))) stands
    ∙ ap (λ (s : Scene). is_file w.file key.file && (is_judged promise w key.prefix && not (truth key.file key.promise s))) scene

-- A prefix that an entry doesn't touch keeps its value, for every promise, where the moment belongs to the same file.
pub bad_same : (files : List PromiseFile) (truth : Truth) (base : List Row) (past : List LogEntry) (e : LogEntry) (key : runs.Key) (before file : Option ℕ)
    → before ≡ file → is_named (touched_after base past e) key.prefix ≡ false
    → is_bad files truth (view_of (rows_after base past) before) key ≡ is_bad files truth (view_of (rows_after base (past ++ e ∷ [])) file) key
bad_same files truth base past e key before file same h =
    same_fails truth (view_of (rows_after base past) before) (view_of (rows_after base (past ++ e ∷ [])) file) key (promise_at files key)
    (sym (scene_same base past e key.prefix h)) (sym (stands_same base past e key.prefix h)) same
