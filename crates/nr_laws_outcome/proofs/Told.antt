-- The lines of broken runs are those of the broken rows.
use Rattle.std.proofs.Common.{◌≡◌, ◌⊎◌, inl, inr, ◌↔◌, ℕ, List, [], ◌∷◌, ◌++◌, Option, Some, None, refl, ap, sym, subst, ◌∙◌}
use Rattle.std.specs.Prelude.{codes, map}
use Rattle.std.specs.List.{AllZip}
use Rattle.std.specs.Fmt.{decimal}
use Rattle.nr_spec_bgp.specs.PrefixText.{cidr_text}
use Rattle.nr_spec_log.specs.Chain.{LogEntry}
use Rattle.nr_spec_history.specs.Conflicts.{Period}
use Rattle.nr_spec_history.specs.Lines.{line}
use Rattle.nr_spec_typing.specs.declared.text.Promise.{Promise}
use Rattle.nr_spec_truth.specs.Truths.{Truth}
use Rattle.nr_spec_report.specs.Wrong.{Base}
use Rattle.nr_spec_runs.specs.Runs.{Key, Run}
use Rattle.nr_spec_promises.specs.Files.{PromiseFile, promise_of}
use Rattle.nr_spec_promises.specs.Moments.{Mark, moments}
use Rattle.nr_spec_promises.specs.Broken.{promise_at}
use Rattle.nr_spec_promises.specs.Found.{broken_runs}
use Rattle.nr_spec_outcome.specs.Lines.{broken_line, name_of}
use Rattle.nr_laws_promises.specs.BrokenRows.{AreBrokenRows, IsBrokenRow, IsOneOf, IsPromiseAt, PlacedRun}
use Rattle.nr_laws_promises.proofs.Rows.{members_are, rows_are}
use Rattle.nr_laws_outcome.specs.Members.{broken_lines}
use Rattle.nr_laws_outcome.specs.BrokenLines.{AreBrokenLines, IsBrokenLine, TellsOf}

abbrev run_of : PlacedRun → Run
run_of p = p.run

one_mapped : {X Y : Type 0} (f : X → Y) (x : X) (xs : List X) → IsOneOf x xs → IsOneOf (f x) (map f xs)
one_mapped f x [] h = absurd h
one_mapped f x (y ∷ xs) (inl e) = inl (ap f e)
one_mapped f x (y ∷ xs) (inr h) = inr (one_mapped f x xs h)

from_mapped : {X Y : Type 0} (f : X → Y) (y : Y) (xs : List X) → IsOneOf y (map f xs) → (x : X) × (y ≡ f x) × IsOneOf x xs
from_mapped f y [] h = absurd h
from_mapped f y (x ∷ xs) (inl e) = (x, e, inl refl)
from_mapped f y (x ∷ xs) (inr h) = let found = from_mapped f y xs h in (found.0, found.1, inr found.2)

-- ---- the line of a row

promise_there : (files : List PromiseFile) (key : Key) (promise : Promise) → IsPromiseAt files key promise → promise_at files key ≡ Some promise
promise_there files key promise h = ap (λ (o : Option PromiseFile). promise_of o key.promise) h.of_files ∙ h.of_file

abbrev named_line : Run → List ℕ → List ℕ
named_line run name = line (codes "broken" ∷ name ∷ cidr_text run.key.prefix ∷ decimal run.span.begin ∷ decimal run.span.end ∷ [])

row_line : (files : List PromiseFile) (truth : Truth) (marks : List Mark) (to : ℕ) (p : PlacedRun) (row : IsBrokenRow files truth marks to p)
    → broken_line files p.run ≡ named_line p.run row.promise.name
row_line files truth marks to p row = ap (λ (o : Option Promise). named_line p.run (name_of o)) (promise_there files p.run.key row.promise row.there)

tells : (files : List PromiseFile) (truth : Truth) (marks : List Mark) (to : ℕ) (p : PlacedRun) → IsBrokenRow files truth marks to p
    → TellsOf files truth marks to p (broken_line files p.run)
tells files truth marks to p row = record { row = row; words = row_line files truth marks to p row }

told : (files : List PromiseFile) (truth : Truth) (marks : List Mark) (to : ℕ) (p : PlacedRun) (text : List ℕ) → TellsOf files truth marks to p text
    → text ≡ broken_line files p.run
told files truth marks to p text h = h.words ∙ sym (row_line files truth marks to p h.row)

-- ---- which lines there are

pub lines_among : (files : List PromiseFile) (truth : Truth) (base : Base) (period : Period) (entries : List LogEntry) (text : List ℕ)
    → IsOneOf text (broken_lines files (broken_runs files truth base period entries))
    ↔ IsBrokenLine files truth (moments files base period entries) period.to text
lines_among files truth base period entries text = (
  λ (one : IsOneOf text (broken_lines files runs)).
      let found = from_mapped (broken_line files) text runs one in
      let row = (members_are files truth base period entries found.0).0 found.2 in
      let p : PlacedRun = record { run = found.0; place = row.0 } in
      (p, subst (TellsOf files truth marks period.to p) (sym found.1) (tells files truth marks period.to p row.1)),
  λ (h : IsBrokenLine files truth marks period.to text).
      let p : PlacedRun = h.0 in
      subst (λ t. IsOneOf t (broken_lines files runs)) (sym (told files truth marks period.to p text h.1))
      (one_mapped (broken_line files) p.run runs ((members_are files truth base period entries p.run).1 (p.place, h.1.row))),
)
  where
    marks : List Mark
    marks = moments files base period entries

    runs : List Run
    runs = broken_runs files truth base period entries

-- ---- in order

all_told : (files : List PromiseFile) (truth : Truth) (marks : List Mark) (to : ℕ) (rows : List PlacedRun)
    → ((p : PlacedRun) → IsOneOf p rows → IsBrokenRow files truth marks to p)
    → AllZip (TellsOf files truth marks to) rows (broken_lines files (map run_of rows))
all_told files truth marks to [] are = tt
all_told files truth marks to (p ∷ rows) are =
    (tells files truth marks to p (are p (inl refl)), all_told files truth marks to rows (λ q one. are q (inr one)))

lines_told : (files : List PromiseFile) (truth : Truth) (marks : List Mark) (to : ℕ) (rows : List PlacedRun) (lines : List (List ℕ))
    → AllZip (TellsOf files truth marks to) rows lines → lines ≡ broken_lines files (map run_of rows)
lines_told files truth marks to [] [] h = refl
lines_told files truth marks to [] (text ∷ lines) h = absurd h
lines_told files truth marks to (p ∷ rows) [] h = absurd h
lines_told files truth marks to (p ∷ rows) (text ∷ lines) h =
    let first : text ≡ broken_line files p.run = told files truth marks to p text h.0 in
    let rest : lines ≡ broken_lines files (map run_of rows) = lines_told files truth marks to rows lines h.1 in
    λ i. first i ∷ rest i

pub lines_in_order : (files : List PromiseFile) (truth : Truth) (base : Base) (period : Period) (entries : List LogEntry) (lines : List (List ℕ))
    → AreBrokenLines files truth (moments files base period entries) period.to lines
    ↔ (lines ≡ broken_lines files (broken_runs files truth base period entries))
lines_in_order files truth base period entries lines = (
  λ (h : AreBrokenLines files truth marks period.to lines).
      let those : AreBrokenRows files truth marks period.to (map run_of h.rows) =
      record { rows = h.rows; runs = refl; order = h.order; each = h.each } in
      lines_told files truth marks period.to h.rows lines h.told
      ∙ ap (broken_lines files) ((rows_are files truth base period entries (map run_of h.rows)).0 those),
  λ (same : lines ≡ broken_lines files runs).
      let those : AreBrokenRows files truth marks period.to runs = (rows_are files truth base period entries runs).1 refl in
      record {
        rows = those.rows;
        order = those.order;
        each = those.each;
        told = subst (AllZip (TellsOf files truth marks period.to) those.rows) (sym (same ∙ ap (broken_lines files) those.runs))
            (all_told files truth marks period.to those.rows (λ p one. (those.each p).0 one));
      },
)
  where
    marks : List Mark
    marks = moments files base period entries

    runs : List Run
    runs = broken_runs files truth base period entries
