-- What a report says.
use Rattle.std.proofs.Common.{◌≡◌, inl, inr, ℕ, List, [], ◌∷◌, ◌++◌, refl, ap, sym, ◌∙◌, append_assoc, arith}
use Rattle.std.specs.Prelude.{map}
use Rattle.std.specs.List.{concat, flat_map}
use Rattle.nr_spec_log.specs.Authenticator.{Authenticator}
use Rattle.nr_spec_history.specs.Lines.{conflict_line}
use Rattle.nr_spec_report.specs.Wrong.{WrongEntry}
use Rattle.nr_spec_runs.specs.Runs.{Run}
use Rattle.nr_spec_promises.specs.Files.{PromiseFile}
use Rattle.nr_spec_outcome.specs.Report.{Report}
use Rattle.nr_spec_outcome.specs.Lines.{broken_line, report_lines, report_text, wrong_line}
use Rattle.nr_laws_promises.specs.BrokenRows.{IsOneOf}
use Rattle.nr_laws_outcome.specs.Members.{IsEmpty, broken_lines, clean_line, member_lines}

abbrev report_with : List Authenticator → List WrongEntry → List Run → Report
report_with conflicts wrong broken = record { conflicts = conflicts; wrong = wrong; broken = broken }

-- ---- lines joined

joined : {X : Type 0} (f : X → List ℕ) (xs : List X) → concat (map f xs) ≡ flat_map f xs
joined f [] = refl
joined f (x ∷ xs) = ap (λ t. f x ++ t) (joined f xs)

joined_append : (xs ys : List (List ℕ)) → concat (xs ++ ys) ≡ concat xs ++ concat ys
joined_append [] ys = refl
joined_append (x ∷ xs) ys = ap (λ t. x ++ t) (joined_append xs ys) ∙ sym (append_assoc x (concat xs) (concat ys))

both : (a b c d : List ℕ) → a ≡ b → c ≡ d → a ++ c ≡ b ++ d
both a b c d h k = ap (λ l. l ++ c) h ∙ ap (λ l. b ++ l) k

pub lines_joined : (files : List PromiseFile) (report : Report) → concat (member_lines files report) ≡ report_lines files report
lines_joined files report =
    joined_append (conflicts ++ wrong) broken
    ∙ both (concat (conflicts ++ wrong)) (flat_map conflict_line report.conflicts ++ flat_map wrong_line report.wrong) (concat broken) (flat_map (broken_line files) report.broken)
    (joined_append conflicts wrong ∙ both (concat conflicts) (flat_map conflict_line report.conflicts) (concat wrong) (flat_map wrong_line report.wrong)
    (joined conflict_line report.conflicts) (joined wrong_line report.wrong))
    (joined (broken_line files) report.broken)
  where
    conflicts : List (List ℕ)
    conflicts = map conflict_line report.conflicts

    wrong : List (List ℕ)
    wrong = map wrong_line report.wrong

    broken : List (List ℕ)
    broken = broken_lines files report.broken

-- ---- clean, or the lines

said_none : (files : List PromiseFile) (conflicts : List Authenticator) (wrong : List WrongEntry) (broken : List Run)
    → conflicts ≡ [] → wrong ≡ [] → broken ≡ [] → report_text files (report_with conflicts wrong broken) ≡ clean_line
said_none files [] [] [] c w b = refl
said_none files [] [] (r ∷ broken) c w b = absurd cc
said_none files [] (e ∷ wrong) broken c w b = absurd cc
said_none files (a ∷ conflicts) wrong broken c w b = absurd cc

pub says_clean : (files : List PromiseFile) (report : Report) → IsEmpty report → report_text files report ≡ clean_line
says_clean files report h = said_none files report.conflicts report.wrong report.broken h.no_conflict h.no_wrong h.no_broken

said_lines : (files : List PromiseFile) (conflicts : List Authenticator) (wrong : List WrongEntry) (broken : List Run)
    → (IsEmpty (report_with conflicts wrong broken) → ⊥)
    → report_text files (report_with conflicts wrong broken) ≡ report_lines files (report_with conflicts wrong broken)
said_lines files [] [] [] some = absurd (some (record { no_conflict = refl; no_wrong = refl; no_broken = refl }))
said_lines files [] [] (r ∷ broken) some = refl
said_lines files [] (e ∷ wrong) broken some = refl
said_lines files (a ∷ conflicts) wrong broken some = refl

pub says_lines : (files : List PromiseFile) (report : Report) → (IsEmpty report → ⊥) → report_text files report ≡ concat (member_lines files report)
says_lines files report some = said_lines files report.conflicts report.wrong report.broken some ∙ sym (lines_joined files report)

-- ---- no line of a member begins as `clean` does

abbrev second_of : List ℕ → ℕ
second_of [] = 0
second_of (a ∷ []) = 0
second_of (a ∷ b ∷ text) = b

clean_text : (files : List PromiseFile) (conflicts : List Authenticator) (wrong : List WrongEntry) (broken : List Run) (rest : List ℕ)
    → report_text files (report_with conflicts wrong broken) ≡ clean_line ++ rest
    → IsEmpty (report_with conflicts wrong broken) × (rest ≡ [])
clean_text files [] [] [] rest e = (record { no_conflict = refl; no_wrong = refl; no_broken = refl }, by rest e)
  where
    by : (rest : List ℕ) → clean_line ≡ clean_line ++ rest → rest ≡ []
    by rest e = cc
clean_text files [] [] (r ∷ broken) rest e = let no : 114 ≡ 108 = ap second_of e in absurd (omega (arith, no))
clean_text files [] (w ∷ wrong) broken rest e = let no : 114 ≡ 108 = ap second_of e in absurd (omega (arith, no))
clean_text files (a ∷ conflicts) wrong broken rest e = let no : 111 ≡ 108 = ap second_of e in absurd (omega (arith, no))

pub clean_is_alone : (files : List PromiseFile) (report : Report) (rest : List ℕ) → report_text files report ≡ clean_line ++ rest → IsEmpty report × (rest ≡ [])
clean_is_alone files report rest e = clean_text files report.conflicts report.wrong report.broken rest e

no_clean : {X : Type 0} (f : X → List ℕ) (xs : List X) → ((x : X) → clean_line ≡ f x → ⊥) → IsOneOf clean_line (map f xs) → ⊥
no_clean f [] apart one = one
no_clean f (x ∷ xs) apart (inl e) = apart x e
no_clean f (x ∷ xs) apart (inr one) = no_clean f xs apart one

none_of_both : (xs ys : List (List ℕ)) → (IsOneOf clean_line xs → ⊥) → (IsOneOf clean_line ys → ⊥) → IsOneOf clean_line (xs ++ ys) → ⊥
none_of_both [] ys left right one = right one
none_of_both (x ∷ xs) ys left right (inl e) = left (inl e)
none_of_both (x ∷ xs) ys left right (inr one) = none_of_both xs ys (λ (other : IsOneOf clean_line xs). left (inr other)) right one

no_conflict_says_clean : (a : Authenticator) → clean_line ≡ conflict_line a → ⊥
no_conflict_says_clean a e = let no : 108 ≡ 111 = ap second_of e in absurd (omega (arith, no))

no_wrong_says_clean : (w : WrongEntry) → clean_line ≡ wrong_line w → ⊥
no_wrong_says_clean w e = let no : 108 ≡ 114 = ap second_of e in absurd (omega (arith, no))

no_broken_says_clean : (files : List PromiseFile) (r : Run) → clean_line ≡ broken_line files r → ⊥
no_broken_says_clean files r e = let no : 108 ≡ 114 = ap second_of e in absurd (omega (arith, no))

pub no_member_says_clean : (files : List PromiseFile) (report : Report) → IsOneOf clean_line (member_lines files report) → ⊥
no_member_says_clean files report =
    none_of_both (map conflict_line report.conflicts ++ map wrong_line report.wrong) (broken_lines files report.broken)
    (none_of_both (map conflict_line report.conflicts) (map wrong_line report.wrong)
    (no_clean conflict_line report.conflicts no_conflict_says_clean)
    (no_clean wrong_line report.wrong no_wrong_says_clean))
    (no_clean (broken_line files) report.broken (no_broken_says_clean files))
