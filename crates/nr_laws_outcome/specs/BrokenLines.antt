-- The lines of broken promises in a reader's words: one for each broken row, in order.
use Rattle.std.specs.Prelude.{◌≡◌, ◌↔◌, ℕ, List, [], ◌∷◌, codes}
use Rattle.std.specs.List.{AllZip}
use Rattle.std.specs.List.Sorted.{IsStrictlySortedBy}
use Rattle.std.specs.Fmt.{decimal}
use Rattle.nr_spec_bgp.specs.PrefixText.{cidr_text}
use Rattle.nr_spec_history.specs.Lines.{line}
use Rattle.nr_spec_truth.specs.Truths.{Truth}
use Rattle.nr_spec_promises.specs.Files.{PromiseFile}
use Rattle.nr_spec_promises.specs.Moments.{Mark}
use Rattle.nr_laws_promises.specs.BrokenRows.{IsBrokenRow, IsOneOf, PlacedRun, place_cmp}

-- This is a broken row, and the text is its line: the word `broken`, the name of the promise, the prefix, and when the
-- row begins and ends.
pub record TellsOf (files : List PromiseFile) (truth : Truth) (marks : List Mark) (to : ℕ) (p : PlacedRun)
    (text : List ℕ) : Type 0 where
  pub row : IsBrokenRow files truth marks to p
  pub words : text
      ≡ line (codes "broken" ∷ row.promise.name ∷ cidr_text p.run.key.prefix
      ∷ decimal p.run.span.begin ∷ decimal p.run.span.end ∷ [])

-- the line of some broken row
abbrev pub IsBrokenLine : List PromiseFile → Truth → List Mark → ℕ → List ℕ → Type 0
IsBrokenLine files truth marks to text = (p : PlacedRun) × TellsOf files truth marks to p text

-- The lines of all broken rows, one each, in the order of the rows.
pub record AreBrokenLines (files : List PromiseFile) (truth : Truth) (marks : List Mark) (to : ℕ)
    (lines : List (List ℕ)) : Type 0 where
  pub rows : List PlacedRun
  pub order : IsStrictlySortedBy place_cmp rows
  pub each : (p : PlacedRun) → IsOneOf p rows ↔ IsBrokenRow files truth marks to p
  pub told : AllZip (TellsOf files truth marks to) rows lines
