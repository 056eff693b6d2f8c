-- Lines of a report: there are none exactly where nothing is claimed.
use Rattle.std.proofs.Common.{◌≡◌, ℕ, ◌≤◌, Some, None, Bool, List, [], ◌∷◌, ◌++◌, append-nil, append_assoc, length, drop, refl, sym, ap, ◌∙◌}
use Rattle.std.specs.Prelude.{codes, map, option_map, slice_get}
use Rattle.std.specs.List.{flat_map}
use Rattle.std.proofs.lemmas.List.{drop_all}
use Rattle.std.proofs.lemmas.Option.{slice_get-map}
use Rattle.nr_spec_log.specs.Authenticator.{Authenticator}
use Rattle.nr_spec_history.specs.Lines.{line, conflict_line}
use Rattle.nr_spec_report.specs.Wrong.{WrongEntry}
use Rattle.nr_spec_runs.specs.Runs.{Key, Run}
use Rattle.nr_spec_promises.specs.Files.{PromiseFile, promise_of}
use Rattle.nr_spec_promises.specs.Broken.{promise_at}
use Rattle.nr_spec_outcome.specs.Report.{Report}
use Rattle.nr_spec_outcome.specs.Lines.{name_of, report_lines}
use Rattle.nr_spec_outcome.specs.Outcome.{promise_file, promise_files}
use Rattle.nr_spec_program.specs.Command.{Ending, report_ending}
use Rattle.nr_audit.specs.declared.audited.Audited.{Audited}
use Rattle.nr_audit.specs.Views.{audited_of, marked}

abbrev pub clean_ending : Ending
clean_ending = record { status = 0; text = line (codes "clean" ∷ []) }

abbrev report_with : List Authenticator → List WrongEntry → List Run → Report
report_with conflicts wrong broken = record { conflicts = conflicts; wrong = wrong; broken = broken }

clean_with : (promises : List PromiseFile) (conflicts : List Authenticator) (wrong : List WrongEntry) (broken : List Run) → [] ≡ report_lines promises (report_with conflicts wrong broken)
    → clean_ending ≡ report_ending promises (report_with conflicts wrong broken)
unfolding report_ending
clean_with promises [] [] [] e = refl
clean_with promises [] [] (first ∷ others) e = absurd cc
clean_with promises [] (first ∷ others) broken e = absurd cc
clean_with promises (first ∷ others) wrong broken e = absurd cc

pub clean_report : (promises : List PromiseFile) (report : Report) → [] ≡ report_lines promises report → clean_ending ≡ report_ending promises report
clean_report promises report e = clean_with promises report.conflicts report.wrong report.broken e

abbrev pub full_ending : List ℕ → Ending
full_ending text = record { status = 1; text = text }

full_with : (promises : List PromiseFile) (lines : List ℕ) (conflicts : List Authenticator) (wrong : List WrongEntry) (broken : List Run) → (lines ≡ [] → ⊥)
    → lines ≡ report_lines promises (report_with conflicts wrong broken) → full_ending lines ≡ report_ending promises (report_with conflicts wrong broken)
unfolding report_ending
full_with promises lines [] [] [] some e = absurd (some e)
full_with promises lines [] [] (first ∷ others) some e = ap full_ending e
full_with promises lines [] (first ∷ others) broken some e = ap full_ending e
full_with promises lines (first ∷ others) wrong broken some e = ap full_ending e

pub full_report : (promises : List PromiseFile) (lines : List ℕ) (report : Report) → (lines ≡ [] → ⊥) → lines ≡ report_lines promises report → full_ending lines ≡ report_ending promises report
full_report promises lines report some e = full_with promises lines report.conflicts report.wrong report.broken some e

-- ---- names of promises

-- a file of these, as the audit goes by it
file_at : (files : List Audited) (n : ℕ) → slice_get (promise_files (map audited_of files)) n ≡ option_map promise_file (option_map audited_of (slice_get files n))
file_at files n = slice_get-map promise_file (map audited_of files) n ∙ ap (option_map promise_file) (slice_get-map audited_of files n)

pub file_there : (files : List Audited) (key : Key) (file : Audited) → slice_get files key.file ≡ Some file
    → name_of (promise_at (promise_files (map audited_of files)) key) ≡ name_of (promise_of (Some (promise_file (audited_of file))) key.promise)
file_there files key file is =
    ap (λ f. name_of (promise_of f key.promise)) (file_at files key.file ∙ ap (λ f. option_map promise_file (option_map audited_of f)) is)

pub no_file : (files : List Audited) (key : Key) → slice_get files key.file ≡ None → name_of (promise_at (promise_files (map audited_of files)) key) ≡ []
no_file files key is =
    ap (λ f. name_of (promise_of f key.promise)) (file_at files key.file ∙ ap (λ f. option_map promise_file (option_map audited_of f)) is)

-- the pieces of the line of a broken run
pub broken_parts : (out name prefix span : List ℕ) → out ++ codes "broken " ++ name ++ codes " " ++ prefix ++ codes " " ++ span ≡ out ++ (codes "broken" ++ 32 ∷ (name ++ 32 ∷ (prefix ++ 32 ∷ span)))
broken_parts out name prefix span = simp append_assoc

-- without marks nothing is marked
pub marked_none : (auths : List Authenticator) → marked auths [] ≡ []
marked_none [] = refl
marked_none (a ∷ auths) = refl

-- the lines so far are all, where no mark is left
pub all_printed : (text : List ℕ) (left auths : List Authenticator) (marks : List Bool) (i : ℕ) → length marks ≤ i → text ++ flat_map conflict_line (marked left (drop i marks)) ≡ flat_map conflict_line (marked auths marks) → text ≡ flat_map conflict_line (marked auths marks)
all_printed text left auths marks i past is =
    sym (append-nil text) ∙ (sym (ap (λ (l : List Authenticator). text ++ flat_map conflict_line l) (ap (marked left) (drop_all i marks past) ∙ marked_none left)) ∙ is)
