-- The members of a report: its conflicts, its wrong entries and its broken runs.
use Rattle.std.specs.Prelude.{◌≡◌, ℕ, List, [], ◌∷◌, ◌++◌, codes, map}
use Rattle.nr_spec_history.specs.Lines.{conflict_line, line}
use Rattle.nr_spec_runs.specs.Runs.{Run}
use Rattle.nr_spec_promises.specs.Files.{PromiseFile}
use Rattle.nr_spec_outcome.specs.Report.{Report}
use Rattle.nr_spec_outcome.specs.Lines.{broken_line, wrong_line}

-- It has no member.
pub record IsEmpty (report : Report) : Type 0 where
  pub no_conflict : report.conflicts ≡ []
  pub no_wrong : report.wrong ≡ []
  pub no_broken : report.broken ≡ []

abbrev pub clean_line : List ℕ
clean_line = line (codes "clean" ∷ [])

abbrev pub broken_lines : List PromiseFile → List Run → List (List ℕ)
broken_lines files runs = map (broken_line files) runs

-- the line of each member, in order
abbrev pub member_lines : List PromiseFile → Report → List (List ℕ)
member_lines files report =
    map conflict_line report.conflicts ++ map wrong_line report.wrong ++ broken_lines files report.broken
