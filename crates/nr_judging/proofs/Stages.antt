-- What one more promise, one more file and one more entry add to what is observed.
use Rattle.std.proofs.Common.{◌≡◌, ℕ, zero, suc, ◌+◌, ◌*◌, ◌<◌, ◌≤◌, Bool, true, false, List, [], ◌∷◌, ◌++◌, length, take, take-suc, get_or, Option, Some, refl, ap, sym, ◌∙◌, subst, append_assoc, append-nil, suc-mul, mul-le-mul_right, arith}
use Rattle.std.specs.Prelude.{not, slice_get, unwrap_or, if◌then◌else◌}
use Rattle.std.specs.List.{All}
use Rattle.std.proofs.lemmas.List.{map-append}
use Rattle.std.proofs.lemmas.Option.{slice_get_within, unwrap_or-slice_get}
use Rattle.nr_spec_bgp.specs.Prefixes.{Cidr}
use Rattle.nr_spec_log.specs.Chain.{LogEntry}
use Rattle.nr_spec_history.specs.Conflicts.{Period}
use Rattle.nr_spec_typing.specs.declared.text.Promise.{Promise}
use Rattle.nr_spec_truth.specs.Truths.{Truth}
use Rattle.nr_spec_report.specs.Wrong.{Base}
use Rattle.nr_spec_runs.specs.Runs.{Observation}
use Rattle.nr_spec_promises.specs.Files.{PromiseFile}
use Rattle.nr_spec_routes.specs.Keys.{Row}
use Rattle.nr_spec_promises.specs.Moments.{view_of}
use Rattle.nr_spec_promises.specs.Counted.{same_file}
use Rattle.nr_spec_promises.specs.Broken.{is_file}
use Rattle.nr_judging.specs.declared.file.File.{File}
use Rattle.nr_judging.specs.Asked.{Stage, asked, asked_at, asked_from, asked_in, asked_of, asks, in_sight, next_prefixes, next_stage, stage_after, stages_after}
use Rattle.nr_judging.specs.Views.{file_of, files_in}

-- one more item is taken
pub took_more : {A : Type 0} (xs : List A) (i : ℕ) (x : A) → i < length xs → x ≡ get_or xs i x → take (i + 1) xs ≡ take i xs ++ x ∷ []
took_more xs i x lt e =
    let n : i + 1 ≡ suc i = omega arith in
    ap (λ k. take k xs) n ∙ take-suc xs i x lt ∙ ap (λ y. take i xs ++ y ∷ []) (sym e)

taken : {A : Type 0} (xs : List A) (i : ℕ) → i < length xs → length (take i xs) ≡ i
taken [] i lt = absurd (omega arith)
taken (x ∷ xs) zero lt = refl
taken (x ∷ xs) (suc i) lt = ap (λ n. suc n) (taken xs i (omega arith))

counted : {A : Type 0} (xs : List A) (i : ℕ) → i < length xs → 0 + length (take i xs) ≡ i
counted xs i lt = let n : length (take i xs) ≡ i = taken xs i lt in omega arith

-- ---- promises

asked_then : (truth : Truth) (stage : Stage) (file r : ℕ) (ps : List Promise) (p : Promise)
    → asked_in truth stage file r (ps ++ p ∷ []) ≡ asked_in truth stage file r ps ++ asked_at truth stage.mark file (r + length ps) p stage.prefixes
asked_then truth stage file r [] p =
    let n : r ≡ r + 0 = omega arith in
    append-nil (asked_at truth stage.mark file r p stage.prefixes) ∙ ap (λ k. asked_at truth stage.mark file k p stage.prefixes) n
asked_then truth stage file r (q ∷ ps) p =
    let n : suc r + length ps ≡ r + suc (length ps) = omega arith in
    ap (λ l. asked_at truth stage.mark file r q stage.prefixes ++ l) (asked_then truth stage file (suc r) ps p ∙ ap (λ k. asked_in truth stage file (suc r) ps ++ asked_at truth stage.mark file k p stage.prefixes) n)
    ∙ sym (append_assoc (asked_at truth stage.mark file r q stage.prefixes) (asked_in truth stage file (suc r) ps) (asked_at truth stage.mark file (r + suc (length ps)) p stage.prefixes))

pub asked_more : (truth : Truth) (stage : Stage) (file : ℕ) (ps : List Promise) (i : ℕ) (p : Promise) → i < length ps → p ≡ get_or ps i p
    → asked_in truth stage file 0 (take (i + 1) ps) ≡ asked_in truth stage file 0 (take i ps) ++ asked_at truth stage.mark file i p stage.prefixes
asked_more truth stage file ps i p lt e =
    ap (asked_in truth stage file 0) (took_more ps i p lt e) ∙ asked_then truth stage file 0 (take i ps) p
    ∙ ap (λ k. asked_in truth stage file 0 (take i ps) ++ asked_at truth stage.mark file k p stage.prefixes) (counted ps i lt)

-- ---- files

asked_next : (truth : Truth) (stage : Stage) (file : ℕ) (fs : List PromiseFile) (f : PromiseFile)
    → asked_from truth stage file (fs ++ f ∷ []) ≡ asked_from truth stage file fs ++ asked_of truth stage (file + length fs) f
asked_next truth stage file [] f =
    let n : file ≡ file + 0 = omega arith in
    append-nil (asked_of truth stage file f) ∙ ap (λ k. asked_of truth stage k f) n
asked_next truth stage file (g ∷ fs) f =
    let n : suc file + length fs ≡ file + suc (length fs) = omega arith in
    ap (λ l. asked_of truth stage file g ++ l) (asked_next truth stage (suc file) fs f ∙ ap (λ k. asked_from truth stage (suc file) fs ++ asked_of truth stage k f) n)
    ∙ sym (append_assoc (asked_of truth stage file g) (asked_from truth stage (suc file) fs) (asked_of truth stage (file + suc (length fs)) f))

pub files_more : (fs : List File) (i : ℕ) (f : File) → i < length fs → f ≡ get_or fs i f → files_in (take (i + 1) fs) ≡ files_in (take i fs) ++ file_of f ∷ []
files_more fs i f lt e = ap files_in (took_more fs i f lt e) ∙ map-append file_of (take i fs) (f ∷ [])

pub length_files : (fs : List File) → length (files_in fs) ≡ length fs
length_files [] = refl
length_files (f ∷ fs) = ap (λ n. suc n) (length_files fs)

pub files_taken : (fs : List File) (i : ℕ) → i < length fs → 0 + length (files_in (take i fs)) ≡ i
files_taken fs i lt = let n : length (files_in (take i fs)) ≡ i = length_files (take i fs) ∙ taken fs i lt in omega arith

pub asked_file_more : (truth : Truth) (stage : Stage) (fs : List File) (i : ℕ) (f : File) → i < length fs → f ≡ get_or fs i f
    → asked_from truth stage 0 (files_in (take (i + 1) fs)) ≡ asked_from truth stage 0 (files_in (take i fs)) ++ asked_of truth stage i (file_of f)
asked_file_more truth stage fs i f lt e =
    ap (asked_from truth stage 0) (files_more fs i f lt e) ∙ asked_next truth stage 0 (files_in (take i fs)) (file_of f)
    ∙ ap (λ k. asked_from truth stage 0 (files_in (take i fs)) ++ asked_of truth stage k (file_of f)) (files_taken fs i lt)

-- a file in its place
pub file_there : (fs : List File) (i : ℕ) (f : File) → i < length fs → f ≡ get_or fs i f → slice_get (files_in fs) i ≡ Some (file_of f)
file_there [] i f lt e = absurd (omega arith)
file_there (x ∷ fs) zero f lt e = ap (λ (y : File). Some (file_of y)) (sym e)
file_there (x ∷ fs) (suc i) f lt e = file_there fs i f (omega arith) e

-- a file of some of few promises each
pub few_there : (fs : List PromiseFile) (i : ℕ) (f : PromiseFile) → All (λ (f : PromiseFile). length f.promises ≤ 256) fs → slice_get fs i ≡ Some f → length f.promises ≤ 256
few_there fs i f few is =
    subst (λ (x : PromiseFile). length x.promises ≤ 256) (sym (unwrap_or-slice_get fs i f) ∙ ap (λ o. unwrap_or o f) is) (few i f (slice_get_within fs i f is))

-- ---- counts

pub asks_more : (ruling : Option ℕ) (file n m : ℕ) → asks ruling file (n + m) ≡ asks ruling file n + asks ruling file m
asks_more ruling file n m = by (is_file ruling file) where
  by : (b : Bool) → (if b then n + m else 0) ≡ (if b then n else 0) + (if b then m else 0)
  by true = refl
  by false = refl

pub asks_less : (ruling : Option ℕ) (file n m : ℕ) → n ≤ m → asks ruling file n ≤ asks ruling file m
asks_less ruling file n m h = by (is_file ruling file) where
  by : (b : Bool) → (if b then n else 0) ≤ (if b then m else 0)
  by true = h
  by false = omega arith

pub times_more : (i n : ℕ) → (i + 1) * n ≡ i * n + n
times_more i n = let e : i + 1 ≡ suc i = omega arith in ap (λ k. k * n) e ∙ suc-mul i n

-- one prefix more is asked, or the last
pub asks_step : (ruling : Option ℕ) (file i s0 s1 s2 : ℕ) → s1 ≤ s0 + asks ruling file i → s2 ≤ s1 + asks ruling file 1 → s2 ≤ s0 + asks ruling file (i + 1)
asks_step ruling file i s0 s1 s2 h k = let more = asks_more ruling file i 1 in sums s0 s1 s2 (asks ruling file i) (asks ruling file 1) (asks ruling file (i + 1)) h k more
  where
    sums : (s0 s1 s2 a b c : ℕ) → s1 ≤ s0 + a → s2 ≤ s1 + b → c ≡ a + b → s2 ≤ s0 + c
    sums s0 s1 s2 a b c h k e = omega (arith, h, k, e)

pub asks_last : (ruling : Option ℕ) (file i n s0 s2 : ℕ) → s2 ≤ s0 + asks ruling file i → i ≤ n → s2 ≤ s0 + asks ruling file n
asks_last ruling file i n s0 s2 h le = let less = asks_less ruling file i n le in sums s0 s2 (asks ruling file i) (asks ruling file n) h less
  where
    sums : (s0 s2 a b : ℕ) → s2 ≤ s0 + a → a ≤ b → s2 ≤ s0 + b
    sums s0 s2 a b h k = omega (arith, h, k)

-- one promise more at so many prefixes
pub asks_times : (ruling : Option ℕ) (file i n s0 s1 s2 : ℕ) → s1 ≤ s0 + asks ruling file (i * n) → s2 ≤ s1 + asks ruling file n → s2 ≤ s0 + asks ruling file ((i + 1) * n)
asks_times ruling file i n s0 s1 s2 h k =
    let more = asks_more ruling file (i * n) n in
    let e : asks ruling file ((i + 1) * n) ≡ asks ruling file (i * n + n) = ap (asks ruling file) (times_more i n) in
    sums s0 s1 s2 (asks ruling file (i * n)) (asks ruling file n) (asks ruling file ((i + 1) * n)) h k (e ∙ more)
  where
    sums : (s0 s1 s2 a b c : ℕ) → s1 ≤ s0 + a → s2 ≤ s1 + b → c ≡ a + b → s2 ≤ s0 + c
    sums s0 s1 s2 a b c h k e = omega (arith, h, k, e)

pub some_times : (i m n : ℕ) → i ≤ m → i * n ≤ m * n
some_times i m n le = mul-le-mul_right n le

-- ---- entries

pub asked_append : (files : List PromiseFile) (truth : Truth) (xs ys : List Stage) → asked files truth (xs ++ ys) ≡ asked files truth xs ++ asked files truth ys
asked_append files truth [] ys = refl
asked_append files truth (x ∷ xs) ys =
    ap (λ l. asked_from truth x 0 files ++ l) (asked_append files truth xs ys) ∙ sym (append_assoc (asked_from truth x 0 files) (asked files truth xs) (asked files truth ys))

pub stages_then : (files : List PromiseFile) (base : Base) (first : Option (List ℕ)) (period : Period) (past es : List LogEntry) (e : LogEntry)
    → stages_after files base first period past (es ++ e ∷ []) ≡ stages_after files base first period past es ++ stage_after files base first period (past ++ es) e
stages_then files base first period past [] e =
    append-nil (stage_after files base first period past e) ∙ ap (λ l. stage_after files base first period l e) (sym (append-nil past))
stages_then files base first period past (x ∷ es) e =
    ap (λ l. stage_after files base first period past x ++ l) (stages_then files base first period (past ++ x ∷ []) es e ∙ ap (λ l. stages_after files base first period (past ++ x ∷ []) es ++ stage_after files base first period l e) (append_assoc past (x ∷ []) es))
    ∙ sym (append_assoc (stage_after files base first period past x) (stages_after files base first period (past ++ x ∷ []) es) (stage_after files base first period (past ++ x ∷ es) e))

-- what is told of more, where more is this
pub told_more : (P : List Observation → Type 0) (seen front more whole : List Observation) → P (seen ++ front ++ more) → whole ≡ front ++ more → P (seen ++ whole)
told_more P seen front more whole k e = subst P (append_assoc seen front more ∙ ap (λ l. seen ++ l) (sym e)) k

-- a single stage
pub one_asked : (files : List PromiseFile) (truth : Truth) (stage : Stage) → asked files truth (stage ∷ []) ≡ asked_from truth stage 0 files
one_asked files truth stage = append-nil (asked_from truth stage 0 files)

-- the stage after an entry, by whether the moment belongs to the same file
pub same_stage : (files : List PromiseFile) (time : ℕ) (rows : List Row) (touched : List Cidr) (before file : Option ℕ) → same_file before file ≡ true
    → next_stage files time rows touched before file ≡ record { mark = record { begin = time; view = view_of rows file }; prefixes = touched; every = false }
same_stage files time rows touched before file h =
    ap (λ (b : Bool). let s : Stage = record { mark = record { begin = time; view = view_of rows file }; prefixes = next_prefixes files rows touched b; every = not b } in s) h

pub other_stage : (files : List PromiseFile) (time : ℕ) (rows : List Row) (touched : List Cidr) (before file : Option ℕ) → same_file before file ≡ false
    → next_stage files time rows touched before file ≡ record { mark = record { begin = time; view = view_of rows file }; prefixes = in_sight files rows touched; every = true }
other_stage files time rows touched before file h =
    ap (λ (b : Bool). let s : Stage = record { mark = record { begin = time; view = view_of rows file }; prefixes = next_prefixes files rows touched b; every = not b } in s) h
