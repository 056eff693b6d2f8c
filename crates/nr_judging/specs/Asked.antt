-- What is observed at each moment: when the period begins, at the prefixes that stand or that promises name by `at`,
-- and then at those that an entry touches. Where a moment belongs to another file than the one before it, all of
-- these are looked at anew.
use Rattle.std.specs.Prelude.{ℕ, suc, ◌+◌, ◌*◌, ◌||◌, not, Bool, false, List, [], ◌∷◌, ◌++◌, length, map, Option, Some, if◌then◌else◌}
use Rattle.std.specs.List.{sum_by}
use Rattle.nr_spec_bgp.specs.Prefixes.{Cidr}
use Rattle.nr_spec_log.specs.Chain.{LogEntry}
use Rattle.nr_spec_history.specs.Conflicts.{Period}
use Rattle.nr_spec_routes.specs.Keys.{Row, each_once, standing}
use Rattle.nr_spec_routes.specs.Rows.{rows_after}
use Rattle.nr_spec_routes.specs.Touched.{touched_after}
use Rattle.nr_spec_typing.specs.declared.text.Promise.{Promise}
use Rattle.nr_spec_truth.specs.Truths.{Truth}
use Rattle.nr_spec_report.specs.Wrong.{Base, is_within}
use Rattle.nr_spec_runs.specs.Runs.{Observation, key_of, observed}
use Rattle.nr_spec_promises.specs.Files.{PromiseFile, file_after}
use Rattle.nr_spec_promises.specs.Moments.{Mark, view_of}
use Rattle.nr_spec_promises.specs.Broken.{fails, is_file}
use Rattle.nr_spec_promises.specs.Counted.{named_by, same_file}

-- a moment, the prefixes that are looked at then, and whether promises of every file are observed, or of that to
-- which the moment belongs alone
pub record Stage : Type 0 where
  pub mark : Mark
  pub prefixes : List Cidr
  pub every : Bool

-- a promise at prefixes
abbrev pub asked_at : Truth → Mark → ℕ → ℕ → Promise → List Cidr → List Observation
asked_at truth mark file r promise prefixes =
    map (λ p. observed (key_of file r p) (fails truth mark.view (key_of file r p) (Some promise)) mark.begin) prefixes

-- promises of a file, the first of this number
abbrev pub asked_in : Truth → Stage → ℕ → ℕ → List Promise → List Observation
asked_in truth stage file r [] = []
asked_in truth stage file r (promise ∷ promises) =
    asked_at truth stage.mark file r promise stage.prefixes ++ asked_in truth stage file (suc r) promises

abbrev pub is_asked_file : Stage → ℕ → Bool
is_asked_file stage file = stage.every || is_file stage.mark.view.file file

abbrev pub asked_of : Truth → Stage → ℕ → PromiseFile → List Observation
asked_of truth stage file f = if is_asked_file stage file then asked_in truth stage file 0 f.promises else []

-- files, the first of this number
abbrev pub asked_from : Truth → Stage → ℕ → List PromiseFile → List Observation
asked_from truth stage file [] = []
asked_from truth stage file (f ∷ files) = asked_of truth stage file f ++ asked_from truth stage (suc file) files

abbrev pub asked : List PromiseFile → Truth → List Stage → List Observation
asked files truth [] = []
asked files truth (stage ∷ stages) = asked_from truth stage 0 files ++ asked files truth stages

-- ---- which prefixes

-- these, those that stand and those that promises name, in order and each once
abbrev pub in_sight : List PromiseFile → List Row → List Cidr → List Cidr
in_sight files rows touched = each_once (touched ++ (standing rows ++ named_by files))

abbrev pub first_stage : List PromiseFile → Period → List Row → Option ℕ → Stage
first_stage files period rows file = record {
  mark = record { begin = period.from; view = view_of rows file };
  prefixes = in_sight files rows [];
  every = false;
}

-- the prefixes after an entry, by those that it touched and by whether the moment belongs to the same file
abbrev pub next_prefixes : List PromiseFile → List Row → List Cidr → Bool → List Cidr
next_prefixes files rows touched same = if same then touched else in_sight files rows touched

abbrev pub next_stage : List PromiseFile → ℕ → List Row → List Cidr → Option ℕ → Option ℕ → Stage
next_stage files time rows touched before file = record {
  mark = record { begin = time; view = view_of rows file };
  prefixes = next_prefixes files rows touched (same_file before file);
  every = not (same_file before file);
}

-- what an entry adds, after these
abbrev pub stage_after : List PromiseFile → Base → Option (List ℕ) → Period → List LogEntry → LogEntry → List Stage
stage_after files base first period past e =
    if is_within period e.time
    then next_stage files e.time (rows_after base.rows (past ++ e ∷ [])) (touched_after base.rows past e)
    (file_after files base first past) (file_after files base first (past ++ e ∷ [])) ∷ [] else []

abbrev pub stages_after : List PromiseFile → Base → Option (List ℕ) → Period
    → List LogEntry → List LogEntry → List Stage
stages_after files base first period past [] = []
stages_after files base first period past (e ∷ later) =
    stage_after files base first period past e ++ stages_after files base first period (past ++ e ∷ []) later

-- the stages of the entries that aren't before the period, by those that are
abbrev pub stages_of : List PromiseFile → Base → Option (List ℕ) → Period → List LogEntry → List LogEntry → List Stage
stages_of files base first period before later =
    first_stage files period (rows_after base.rows before) (file_after files base first before)
    ∷ stages_after files base first period before later

-- ---- how often

abbrev pub prefixes_asked : List Stage → ℕ
prefixes_asked stages = sum_by (λ (s : Stage). length s.prefixes) stages

-- how often a judge is asked of a file: so often where the moment belongs to it
abbrev pub asks : Option ℕ → ℕ → ℕ → ℕ
asks ruling file n = if is_file ruling file then n else 0

-- of files, the first of this number, at so many prefixes
abbrev pub times_asked : Option ℕ → ℕ → ℕ → List PromiseFile → ℕ
times_asked ruling n file [] = 0
times_asked ruling n file (f ∷ files) = asks ruling file (length f.promises * n) + times_asked ruling n (suc file) files
