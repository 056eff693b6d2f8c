-- Promises before a period and in it, one entry after another.
use Rattle.std.proofs.Common.{◌≡◌, ℕ, Bool, true, false, cond, List, [], ◌∷◌, ◌++◌, Option, Some, None, refl, ap, sym, ◌∙◌}
use Rattle.std.specs.Prelude.{filter, nat_lt, option_map}
use Rattle.std.specs.List.{find, flat_map, list_any}
use Rattle.std.proofs.lemmas.List.Concat.{flat_map-cons}
use Rattle.nr_spec_log.specs.Chain.{LogEntry}
use Rattle.nr_spec_entry.specs.ContentReading.{content_of}
use Rattle.nr_spec_routes.specs.LookBack.{last_of, later_or}
use Rattle.nr_spec_routes.proofs.Words.{later_or-assoc, later_or-none}
use Rattle.nr_spec_history.specs.Conflicts.{Period}
use Rattle.nr_spec_counts.specs.Tallies.{Numbers, promise_in, tally_after}
use Rattle.nr_spec_promises.specs.Files as files
use Rattle.nr_spec_promises.specs.Files.{digest_of}
use Rattle.nr_spec_report.specs.Wrong.{is_within, nothing_before}
use Rattle.nr_spec_outcome.specs.Outcome.{digest_list, digests_in_force, digests_within, force_before, is_of_no_file, misfit, promised}
use Rattle.nr_verify_heads.specs.Promised.{promised_before, promised_within}

-- ---- before the period

abbrev numbers_at : LogEntry → Option Numbers
numbers_at e = promise_in (content_of e)

abbrev early : Period → LogEntry → Bool
early period e = nat_lt e.time period.from

map_later : (later before : Option Numbers) → option_map digest_of (later_or later before) ≡ later_or (option_map digest_of later) (option_map digest_of before)
map_later None before = refl
map_later (Some n) before = refl

last_is : (period : Period) (es : List LogEntry) → last_of (promised_before period) es ≡ option_map digest_of (last_of numbers_at (filter (early period) es))
last_is period [] = refl
last_is period (e ∷ es) = by (early period e) (last_is period es)
  where
    by : (b : Bool) → last_of (promised_before period) es ≡ option_map digest_of (last_of numbers_at (filter (early period) es))
        → later_or (last_of (promised_before period) es) (cond b (files.promised e) None)
        ≡ option_map digest_of (last_of numbers_at (cond b (e ∷ filter (early period) es) (filter (early period) es)))
    by true ih = ap (λ o. later_or o (files.promised e)) ih ∙ sym (map_later (last_of numbers_at (filter (early period) es)) (numbers_at e))
    by false ih = later_or-none (last_of (promised_before period) es) ∙ ih

-- the promise in force before the period is the last one before it
force_is : (period : Period) (es : List LogEntry) → last_of (promised_before period) es ≡ option_map digest_of (force_before nothing_before period es)
unfolding tally_after
force_is period es = last_is period es ∙ ap (option_map digest_of) (sym (later_or-none (last_of numbers_at (filter (early period) es))))

-- none so far
pub force_start : (period : Period) (es : List LogEntry) → later_or (last_of (promised_before period) es) None ≡ last_of (promised_before period) es
force_start period es = later_or-none (last_of (promised_before period) es)

-- one more
pub force_found : (period : Period) (e : LogEntry) (rest : List LogEntry) (digest : List ℕ) (before all : Option (List ℕ)) → Some digest ≡ promised_before period e
    → later_or (last_of (promised_before period) (e ∷ rest)) before ≡ all → later_or (last_of (promised_before period) rest) (Some digest) ≡ all
force_found period e rest digest before all is h =
    ap (later_or (last_of (promised_before period) rest)) (ap (λ o. later_or o before) is)
    ∙ (sym (later_or-assoc (last_of (promised_before period) rest) (promised_before period e) before) ∙ h)

-- no more
pub force_same : (period : Period) (e : LogEntry) (rest : List LogEntry) (before all : Option (List ℕ)) → None ≡ promised_before period e
    → later_or (last_of (promised_before period) (e ∷ rest)) before ≡ all → later_or (last_of (promised_before period) rest) before ≡ all
force_same period e rest before all is h =
    ap (later_or (last_of (promised_before period) rest)) (ap (λ o. later_or o before) is)
    ∙ (sym (later_or-assoc (last_of (promised_before period) rest) (promised_before period e) before) ∙ h)

pub force_end : (period : Period) (es rest : List LogEntry) (force : Option (List ℕ)) → rest ≡ []
    → later_or (last_of (promised_before period) rest) force ≡ last_of (promised_before period) es → force ≡ option_map digest_of (force_before nothing_before period es)
force_end period es rest force none h =
    ap (λ l. later_or (last_of (promised_before period) l) force) (sym none) ∙ (h ∙ force_is period es)

-- ---- in the period

abbrev one_of : Option (List ℕ) → List (List ℕ)
one_of None = []
one_of (Some digest) = digest ∷ []

list_is : (o : Option Numbers) → digest_list o ≡ one_of (option_map digest_of o)
list_is None = refl
list_is (Some n) = refl

within_by : (period : Period) (e : LogEntry) (rest : List LogEntry) (b : Bool)
    → flat_map promised (cond b (e ∷ rest) rest) ≡ one_of (cond b (files.promised e) None) ++ flat_map promised rest
within_by period e rest true = flat_map-cons promised e rest ∙ ap (λ l. l ++ flat_map promised rest) (list_is (numbers_at e))
within_by period e rest false = refl

more : (period : Period) (e : LogEntry) (rest : List LogEntry) → digests_within period (e ∷ rest) ≡ one_of (promised_within period e) ++ digests_within period rest
more period e rest = within_by period e (filter (λ (x : LogEntry). is_within period x.time) rest) (is_within period e.time)

pub within_here : (period : Period) (e : LogEntry) (rest : List LogEntry) (digest : List ℕ) → Some digest ≡ promised_within period e
    → digests_within period (e ∷ rest) ≡ digest ∷ digests_within period rest
within_here period e rest digest is = more period e rest ∙ ap (λ o. one_of o ++ digests_within period rest) (sym is)

pub within_later : (period : Period) (e : LogEntry) (rest : List LogEntry) → None ≡ promised_within period e
    → digests_within period (e ∷ rest) ≡ digests_within period rest
within_later period e rest is = more period e rest ∙ ap (λ o. one_of o ++ digests_within period rest) (sym is)

-- ---- both

with_digest : (files : List Numbers) (force : Option Numbers) (within : List (List ℕ)) (digest : List ℕ) → Some digest ≡ option_map digest_of force
    → misfit files (digest_list force ++ within) ≡ option_map Some (cond (is_of_no_file files digest) (Some digest) (find (is_of_no_file files) within))
with_digest files force within digest is = ap (λ l. misfit files (l ++ within)) (list_is force ∙ ap one_of (sym is))

with_none : (files : List Numbers) (force : Option Numbers) (within : List (List ℕ)) → None ≡ option_map digest_of force → misfit files (digest_list force ++ within) ≡ misfit files within
with_none files force within is = ap (λ l. misfit files (l ++ within)) (list_is force ∙ ap one_of (sym is))

-- the promise before the period is of no file
pub strange_before : (files : List Numbers) (period : Period) (es : List LogEntry) (digest : List ℕ) (strange : Bool)
    → Some digest ≡ option_map digest_of (force_before nothing_before period es) → strange ≡ is_of_no_file files digest → strange ≡ true
    → Some (Some digest) ≡ misfit files (digests_in_force nothing_before period es)
strange_before files period es digest strange is test so =
    sym (with_digest files (force_before nothing_before period es) (digests_within period es) digest is
    ∙ ap (λ b. option_map Some (cond b (Some digest) (find (is_of_no_file files) (digests_within period es)))) (sym test ∙ so))

-- it is of a file
pub known_before : (files : List Numbers) (period : Period) (es : List LogEntry) (digest : List ℕ) (strange : Bool) (found : Option (List ℕ))
    → Some digest ≡ option_map digest_of (force_before nothing_before period es) → strange ≡ is_of_no_file files digest → strange ≡ false
    → found ≡ find (is_of_no_file files) (digests_within period es)
    → option_map Some found ≡ misfit files (digests_in_force nothing_before period es)
known_before files period es digest strange found is test so later =
    ap (option_map Some) later
    ∙ sym (with_digest files (force_before nothing_before period es) (digests_within period es) digest is
    ∙ ap (λ b. option_map Some (cond b (Some digest) (find (is_of_no_file files) (digests_within period es)))) (sym test ∙ so))

-- none is in force before it, nor comes into force in it
pub none_at_all : (files : List Numbers) (period : Period) (es : List LogEntry) (any : Bool)
    → None ≡ option_map digest_of (force_before nothing_before period es) → any ≡ list_any (λ (digest : List ℕ). true) (digests_within period es) → any ≡ false
    → Some None ≡ misfit files (digests_in_force nothing_before period es)
none_at_all files period es any is test so =
    by (digests_within period es) (sym test ∙ so) ∙ sym (with_none files (force_before nothing_before period es) (digests_within period es) is)
  where
    by : (within : List (List ℕ)) → list_any (λ (digest : List ℕ). true) within ≡ false → Some None ≡ misfit files within
    by [] h = refl
    by (digest ∷ others) h = absurd cc

-- none is in force before it
pub none_before : (files : List Numbers) (period : Period) (es : List LogEntry) (any : Bool) (found : Option (List ℕ))
    → None ≡ option_map digest_of (force_before nothing_before period es) → any ≡ list_any (λ (digest : List ℕ). true) (digests_within period es) → any ≡ true
    → found ≡ find (is_of_no_file files) (digests_within period es)
    → option_map Some found ≡ misfit files (digests_in_force nothing_before period es)
none_before files period es any found is test so later =
    ap (option_map Some) later ∙ (by (digests_within period es) (sym test ∙ so) ∙ sym (with_none files (force_before nothing_before period es) (digests_within period es) is))
  where
    by : (within : List (List ℕ)) → list_any (λ (digest : List ℕ). true) within ≡ true → option_map Some (find (is_of_no_file files) within) ≡ misfit files within
    by [] h = absurd cc
    by (digest ∷ others) h = refl
