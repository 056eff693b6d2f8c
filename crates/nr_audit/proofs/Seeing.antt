-- The promises so far, one entry after another.
use Rattle.std.proofs.Common.{◌≡◌, ℕ, Bool, true, false, cond, ◌&&◌, List, [], ◌∷◌, ◌++◌, Option, Some, None, refl, ap, sym, ◌∙◌, arith}
use Rattle.std.specs.Prelude.{nat_lt, nat_le, filter, option_map}
use Rattle.std.specs.List.{find, flat_map, list_any}
use Rattle.std.proofs.lemmas.Bool.Decides.{nat_tests}
use Rattle.std.proofs.lemmas.List.{append-nil}
use Rattle.std.proofs.lemmas.List.Elements.{filter-append}
use Rattle.std.proofs.lemmas.Grind.{flat_map-append}
use Rattle.nr_spec_log.specs.Chain.{LogEntry}
use Rattle.nr_spec_entry.specs.ContentReading.{content_of}
use Rattle.nr_spec_routes.specs.LookBack.{later_or}
use Rattle.nr_spec_history.specs.Conflicts.{Period}
use Rattle.nr_spec_counts.specs.Tallies.{Numbers, Tally, promise_in, tally_after}
use Rattle.nr_spec_counts.proofs.OneMore.{one_counted}
use Rattle.nr_spec_report.specs.Wrong.{Base, is_within}
use Rattle.nr_spec_outcome.specs.Outcome.{digest_list, digests_in_force, digests_within, force_before, is_of_no_file, misfit, promised}
use Rattle.nr_audit.specs.Seen.{Seen}
use Rattle.nr_audit.specs.Force.{digest_in, digest_of, misfit_seen, seen_after, seen_by, seen_more}

pub seen_before : (files : List Numbers) (base : Base) (period : Period) (digest : Option (List ℕ)) → digest ≡ option_map digest_of base.tally.in_force → record { before = digest; any = false; strange = None } ≡ seen_after files base period []
unfolding tally_after
seen_before files base period digest is = λ i. record { before = is i; any = false; strange = None }

find_push : (p : List ℕ → Bool) (ds : List (List ℕ)) (d : List ℕ) → find p (ds ++ d ∷ []) ≡ later_or (find p ds) (cond (p d) (Some d) None)
find_push p [] d = refl
find_push p (x ∷ ds) d = by (p x) (find_push p ds d)
  where
    by : (b : Bool) → find p (ds ++ d ∷ []) ≡ later_or (find p ds) (cond (p d) (Some d) None)
        → cond b (Some x) (find p (ds ++ d ∷ [])) ≡ later_or (cond b (Some x) (find p ds)) (cond (p d) (Some d) None)
    by true ih = refl
    by false ih = ih

any_push : (ds : List (List ℕ)) (d : List ℕ) → list_any (λ (x : List ℕ). true) (ds ++ d ∷ []) ≡ true
any_push [] d = refl
any_push (x ∷ ds) d = refl

abbrev told : List Numbers → Option Numbers → List (List ℕ) → Seen
told files force ds = record { before = option_map digest_of force; any = list_any (λ (digest : List ℕ). true) ds; strange = find (is_of_no_file files) ds }

-- one content more, which may be a PROMISE, before the period or in it
one_told : (files : List Numbers) (before within : Bool) (promise force : Option Numbers) (ds : List (List ℕ)) → (before ≡ true → within ≡ false)
    → told files (cond before (later_or promise force) force) (ds ++ cond within (digest_list promise) []) ≡ seen_by files before within (option_map digest_of promise) (told files force ds)
one_told files true true promise force ds apart = absurd (let h = apart refl in cc)
one_told files true false None force ds apart = ap (told files force) (append-nil ds)
one_told files true false (Some n) force ds apart = ap (told files (Some n)) (append-nil ds)
one_told files false true None force ds apart = ap (told files force) (append-nil ds)
one_told files false true (Some n) force ds apart =
    λ i. record { before = option_map digest_of force; any = any_push ds n.digest i; strange = find_push (is_of_no_file files) ds n.digest i }
one_told files false false None force ds apart = ap (told files force) (append-nil ds)
one_told files false false (Some n) force ds apart = ap (told files force) (append-nil ds)

before_isnt_within : (from to time : ℕ) → nat_lt time from ≡ true → (nat_le from time && nat_le time to) ≡ false
before_isnt_within from to time = grind (arith, nat_tests)

-- the promise in force before the period
force_push : (base : Base) (period : Period) (past : List LogEntry) (e : LogEntry)
    → force_before base period (past ++ e ∷ []) ≡ cond (nat_lt e.time period.from) (later_or (promise_in (content_of e)) (force_before base period past)) (force_before base period past)
force_push base period past e =
    ap (λ (es : List LogEntry). (tally_after base.tally es).in_force) (filter-append (λ (d : LogEntry). nat_lt d.time period.from) past (e ∷ []))
    ∙ by (nat_lt e.time period.from)
  where
    kept : List LogEntry
    kept = filter (λ (d : LogEntry). nat_lt d.time period.from) past

    by : (b : Bool) → (tally_after base.tally (kept ++ cond b (e ∷ []) [])).in_force ≡ cond b (later_or (promise_in (content_of e)) (tally_after base.tally kept).in_force) (tally_after base.tally kept).in_force
    by true = ap (λ (t : Tally). t.in_force) (one_counted base.tally kept e)
    by false = ap (λ (es : List LogEntry). (tally_after base.tally es).in_force) (append-nil kept)

-- the promises in it
within_push : (period : Period) (past : List LogEntry) (e : LogEntry)
    → digests_within period (past ++ e ∷ []) ≡ digests_within period past ++ cond (is_within period e.time) (promised e) []
within_push period past e =
    ap (flat_map promised) (filter-append (λ (d : LogEntry). is_within period d.time) past (e ∷ []))
    ∙ (flat_map-append promised kept (cond (is_within period e.time) (e ∷ []) []) ∙ ap (λ (l : List (List ℕ)). flat_map promised kept ++ l) (by (is_within period e.time)))
  where
    kept : List LogEntry
    kept = filter (λ (d : LogEntry). is_within period d.time) past

    by : (b : Bool) → flat_map promised (cond b (e ∷ []) []) ≡ cond b (promised e) []
    by true = append-nil (promised e)
    by false = refl

one_more : (files : List Numbers) (base : Base) (period : Period) (past : List LogEntry) (e : LogEntry)
    → seen_after files base period (past ++ e ∷ []) ≡ seen_more files period e.time (digest_in (content_of e)) (seen_after files base period past)
one_more files base period past e =
    (λ i. told files (force_push base period past e i) (within_push period past e i))
    ∙ one_told files (nat_lt e.time period.from) (is_within period e.time) (promise_in (content_of e)) (force_before base period past) (digests_within period past)
    (before_isnt_within period.from period.to e.time)

pub one_seen : (files : List Numbers) (base : Base) (period : Period) (past : List LogEntry) (e : LogEntry) (digest : Option (List ℕ)) (old new : Seen)
    → new ≡ seen_more files period e.time digest old → digest ≡ digest_in (content_of e) → old ≡ seen_after files base period past
    → new ≡ seen_after files base period (past ++ e ∷ [])
one_seen files base period past e digest old new step is before =
    step ∙ ((λ i. seen_more files period e.time (is i) (before i)) ∙ sym (one_more files base period past e))

by_seen : (files : List Numbers) (force : Option Numbers) (ds : List (List ℕ)) → misfit_seen files (told files force ds) ≡ misfit files (digest_list force ++ ds)
by_seen files None [] = refl
by_seen files None (d ∷ ds) = refl
by_seen files (Some n) ds = by (is_of_no_file files n.digest)
  where
    by : (b : Bool) → cond b (Some (Some n.digest)) (option_map Some (find (is_of_no_file files) ds)) ≡ option_map Some (cond b (Some n.digest) (find (is_of_no_file files) ds))
    by true = refl
    by false = refl

pub misfit_is : (files : List Numbers) (base : Base) (period : Period) (past : List LogEntry) (found : Option (Option (List ℕ))) (s : Seen)
    → found ≡ misfit_seen files s → s ≡ seen_after files base period past → found ≡ misfit files (digests_in_force base period past)
misfit_is files base period past found s is seen =
    is ∙ (ap (misfit_seen files) seen ∙ by_seen files (force_before base period past) (digests_within period past))
