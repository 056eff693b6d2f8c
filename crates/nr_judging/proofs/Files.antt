-- Which file a state belongs to, after one entry more.
use Rattle.std.proofs.Common.{◌≡◌, ℕ, suc, ◌+◌, cond, List, [], ◌∷◌, ◌++◌, length, Option, Some, None, refl, ap, ◌∙◌}
use Rattle.std.specs.Prelude.{nat_lt, not, option_map, position, if◌then◌else◌}
use Rattle.std.specs.List.{position_or_len}
use Rattle.nr_spec_log.specs.Chain.{LogEntry}
use Rattle.nr_spec_entry.specs.ContentReading.{content_of}
use Rattle.nr_spec_routes.specs.LookBack.{later_or}
use Rattle.nr_spec_counts.specs.Tallies.{Numbers, Tally, promise_in, tally_after}
use Rattle.nr_spec_counts.proofs.OneMore.{one_counted}
use Rattle.nr_spec_routes.specs.Rows.{rows_after}
use Rattle.nr_spec_report.specs.Wrong.{Base, nothing_before}
use Rattle.nr_spec_promises.specs.Files.{PromiseFile, digest_of, file_after, file_with, force_or, has_digest, promised}
use Rattle.nr_judging.specs.declared.file.File.{File}
use Rattle.nr_judging.specs.Views.{file_of, files_in}

length_is : (files : List File) → length (files_in files) ≡ length files
length_is [] = refl
length_is (f ∷ files) = ap (λ n. suc n) (length_is files)

same_place : (digest : List ℕ) (files : List File) → position_or_len (has_digest digest) (files_in files) ≡ position_or_len (λ f. has_digest digest (file_of f)) files
same_place digest [] = refl
same_place digest (f ∷ files) = ap (λ n. if not (has_digest digest (file_of f)) then 1 + n else 0) (same_place digest files)

-- the place of the first file, as the definitions see them
pub place_is : (digest : List ℕ) (files : List File) → position (has_digest digest) (files_in files) ≡ position (λ f. has_digest digest (file_of f)) files
place_is digest files = λ i. cond (nat_lt (same_place digest files i) (length_is files i)) (Some (same_place digest files i)) None

in_force : (base : Base) (past : List LogEntry) (e : LogEntry)
    → (tally_after base.tally (past ++ e ∷ [])).in_force ≡ later_or (promise_in (content_of e)) (tally_after base.tally past).in_force
in_force base past e = ap (λ (t : Tally). t.in_force) (one_counted base.tally past e)

by_promise : (p before : Option Numbers) (first : Option (List ℕ)) (digest : List ℕ) → option_map digest_of p ≡ Some digest → force_or (later_or p before) first ≡ Some digest
by_promise None before first digest h = absurd cc
by_promise (Some n) before first digest h = h

by_none : (p before : Option Numbers) (first : Option (List ℕ)) → option_map digest_of p ≡ None → force_or (later_or p before) first ≡ force_or before first
by_none None before first h = refl
by_none (Some n) before first h = absurd cc

-- a PROMISE comes into force
pub file_next : (files : List PromiseFile) (base : Base) (first : Option (List ℕ)) (past : List LogEntry) (e : LogEntry) (digest : List ℕ) → promised e ≡ Some digest
    → file_after files base first (past ++ e ∷ []) ≡ file_with files (Some digest)
file_next files base first past e digest h =
    ap (λ o. file_with files (force_or o first)) (in_force base past e)
    ∙ ap (file_with files) (by_promise (promise_in (content_of e)) (tally_after base.tally past).in_force first digest h)

-- another entry changes nothing
pub file_stays : (files : List PromiseFile) (base : Base) (first : Option (List ℕ)) (past : List LogEntry) (e : LogEntry) → promised e ≡ None
    → file_after files base first (past ++ e ∷ []) ≡ file_after files base first past
file_stays files base first past e h =
    ap (λ o. file_with files (force_or o first)) (in_force base past e)
    ∙ ap (file_with files) (by_none (promise_in (content_of e)) (tally_after base.tally past).in_force first h)

-- ---- before the first entry

pub rows_none : rows_after [] [] ≡ []
unfolding rows_after
rows_none = refl

pub file_none : (files : List PromiseFile) (first : Option (List ℕ)) → file_after files nothing_before first [] ≡ file_with files first
unfolding tally_after
file_none files first = refl

-- ---- before the first entry of a slice

said : (f : Option Numbers) (first : Option (List ℕ)) (digest : List ℕ) → option_map digest_of f ≡ Some digest → force_or f first ≡ Some digest
said None first digest h = absurd cc
said (Some n) first digest h = h

unsaid : (f : Option Numbers) (first : Option (List ℕ)) → option_map digest_of f ≡ None → force_or f first ≡ first
unsaid None first h = refl
unsaid (Some n) first h = absurd cc

-- a promise is in force
pub file_in_force : (files : List PromiseFile) (base : Base) (first : Option (List ℕ)) (digest : List ℕ) → option_map digest_of base.tally.in_force ≡ Some digest
    → file_after files base first [] ≡ file_with files (Some digest)
unfolding tally_after
file_in_force files base first digest h = ap (file_with files) (said base.tally.in_force first digest h)

-- none is
pub file_opens : (files : List PromiseFile) (base : Base) (first : Option (List ℕ)) → option_map digest_of base.tally.in_force ≡ None
    → file_after files base first [] ≡ file_with files first
unfolding tally_after
file_opens files base first h = ap (file_with files) (unsaid base.tally.in_force first h)
