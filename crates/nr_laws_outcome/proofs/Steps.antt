-- The claims of a report stand in step with its members.
use Rattle.std.proofs.Common.{◌≡◌, ℕ, zero, suc, ◌+◌, List, [], ◌∷◌, ◌++◌, length, Option, Some, None, refl, ap, sym, ◌∙◌, arith}
use Rattle.std.specs.Prelude.{map, option_map, slice_get}
use Rattle.std.proofs.lemmas.Option.{slice_get-map}
use Rattle.nr_spec_log.specs.Authenticator.{Authenticator}
use Rattle.nr_spec_counts.specs.Causes.{cause_number}
use Rattle.nr_spec_history.specs.Lines.{conflict_line}
use Rattle.nr_spec_report.specs.Wrong.{WrongEntry}
use Rattle.nr_spec_report.specs.Claims.{Broken, Claim, Conflict, Wrong}
use Rattle.nr_spec_runs.specs.Runs.{Run}
use Rattle.nr_spec_promises.specs.Files.{PromiseFile}
use Rattle.nr_spec_outcome.specs.Report.{Report, broken_claim, claims_of, wrong_claim}
use Rattle.nr_spec_outcome.specs.Lines.{broken_line, wrong_line}
use Rattle.nr_laws_outcome.specs.Members.{member_lines}

-- ---- how many

mapped_length : {X A : Type 0} (f : X → A) (xs : List X) → length (map f xs) ≡ length xs
mapped_length f [] = refl
mapped_length f (x ∷ xs) = ap suc (mapped_length f xs)

none_more : (k : ℕ) → 0 + k ≡ k
none_more k = omega arith

one_more : (n k : ℕ) → suc n + k ≡ suc (n + k)
one_more n k = omega arith

joined_length : {A : Type 0} (xs ys : List A) → length (xs ++ ys) ≡ length xs + length ys
joined_length [] ys = sym (none_more (length ys))
joined_length (x ∷ xs) ys = ap suc (joined_length xs ys) ∙ sym (one_more (length xs) (length ys))

two : {X Y A : Type 0} (f : X → A) (g : Y → A) (xs : List X) (ys : List Y) → length (map f xs ++ map g ys) ≡ length xs + length ys
two f g xs ys =
    joined_length (map f xs) (map g ys)
    ∙ ap (λ n. n + length (map g ys)) (mapped_length f xs) ∙ ap (λ n. length xs + n) (mapped_length g ys)

three : {X Y Z A : Type 0} (f : X → A) (g : Y → A) (h : Z → A) (xs : List X) (ys : List Y) (zs : List Z)
    → length ((map f xs ++ map g ys) ++ map h zs) ≡ (length xs + length ys) + length zs
three f g h xs ys zs =
    joined_length (map f xs ++ map g ys) (map h zs)
    ∙ ap (λ n. n + length (map h zs)) (two f g xs ys) ∙ ap (λ n. (length xs + length ys) + n) (mapped_length h zs)

pub claims_count : (report : Report) → length (claims_of report) ≡ length report.conflicts + length report.wrong + length report.broken
claims_count report = three (λ (a : Authenticator). Conflict a) wrong_claim broken_claim report.conflicts report.wrong report.broken

pub lines_count : (files : List PromiseFile) (report : Report) → length (member_lines files report) ≡ length (claims_of report)
lines_count files report = three conflict_line wrong_line (broken_line files) report.conflicts report.wrong report.broken ∙ sym (claims_count report)

-- ---- at which place

stays : {A : Type 0} (xs more : List A) (k : ℕ) (a : A) → slice_get xs k ≡ Some a → slice_get (xs ++ more) k ≡ Some a
stays [] more k a e = absurd cc
stays (x ∷ xs) more zero a e = e
stays (x ∷ xs) more (suc k) a e = stays xs more k a e

later : {A : Type 0} (xs more : List A) (k : ℕ) → slice_get (xs ++ more) (length xs + k) ≡ slice_get more k
later [] more k = ap (slice_get more) (none_more k)
later (x ∷ xs) more k = ap (slice_get (x ∷ (xs ++ more))) (one_more (length xs) k) ∙ later xs more k

past : {A : Type 0} (xs more : List A) (n k : ℕ) → n ≡ length xs → slice_get (xs ++ more) (n + k) ≡ slice_get more k
past xs more n k e = ap (λ m. slice_get (xs ++ more) (m + k)) e ∙ later xs more k

mapped : {X A : Type 0} (f : X → A) (xs : List X) (k : ℕ) (x : X) → slice_get xs k ≡ Some x → slice_get (map f xs) k ≡ Some (f x)
mapped f xs k x e = slice_get-map f xs k ∙ ap (option_map f) e

abbrev conflict_claims : Report → List Claim
conflict_claims report = map (λ (a : Authenticator). Conflict a) report.conflicts

abbrev wrong_claims : Report → List Claim
wrong_claims report = map wrong_claim report.wrong

abbrev broken_claims : Report → List Claim
broken_claims report = map broken_claim report.broken

pub conflict_claimed : (report : Report) (place : ℕ) (auth : Authenticator) → slice_get report.conflicts place ≡ Some auth
    → slice_get (claims_of report) place ≡ Some (Conflict auth)
conflict_claimed report place auth e =
    stays (conflict_claims report ++ wrong_claims report) (broken_claims report) place (Conflict auth)
    (stays (conflict_claims report) (wrong_claims report) place (Conflict auth)
    (mapped (λ (a : Authenticator). Conflict a) report.conflicts place auth e))

pub wrong_claimed : (report : Report) (place : ℕ) (w : WrongEntry) → slice_get report.wrong place ≡ Some w
    → slice_get (claims_of report) (length report.conflicts + place) ≡ Some (Wrong w.seq (cause_number w.cause))
wrong_claimed report place w e =
    stays (conflict_claims report ++ wrong_claims report) (broken_claims report) (length report.conflicts + place) (wrong_claim w)
    (past (conflict_claims report) (wrong_claims report) (length report.conflicts) place
    (sym (mapped_length (λ (a : Authenticator). Conflict a) report.conflicts))
    ∙ mapped wrong_claim report.wrong place w e)

pub broken_claimed : (report : Report) (place : ℕ) (run : Run) → slice_get report.broken place ≡ Some run
    → slice_get (claims_of report) (length report.conflicts + length report.wrong + place)
    ≡ Some (Broken run.key.file run.key.promise run.key.prefix run.span.begin run.span.end)
broken_claimed report place run e =
    past (conflict_claims report ++ wrong_claims report) (broken_claims report) (length report.conflicts + length report.wrong) place
    (sym (two (λ (a : Authenticator). Conflict a) wrong_claim report.conflicts report.wrong))
    ∙ mapped broken_claim report.broken place run e
