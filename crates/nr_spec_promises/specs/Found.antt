-- The broken runs of a period, as an audit lists them.
use Rattle.std.specs.Prelude.{ℕ, suc, List, [], ◌∷◌, ◌++◌, filter, map, if◌then◌else◌}
use Rattle.std.specs.List.{flat_map}
use Rattle.nr_spec_bgp.specs.Prefixes.{Cidr}
use Rattle.nr_spec_log.specs.Chain.{LogEntry}
use Rattle.nr_spec_history.specs.Conflicts.{Period}
use Rattle.nr_spec_routes.specs.Keys.{each_once, standing}
use Rattle.nr_spec_routes.specs.Rows.{rows_after}
use Rattle.nr_spec_typing.specs.declared.text.Promise.{Promise}
use Rattle.nr_spec_report.specs.Wrong.{Base, is_within}
use Rattle.nr_spec_runs.specs.Runs.{Key, Run, Span, key_of, runs_of}
use Rattle.nr_spec_truth.specs.Truths.{Truth}
use Rattle.nr_spec_promises.specs.Files.{PromiseFile}
use Rattle.nr_spec_promises.specs.Moments.{Mark, entries_before, moments}
use Rattle.nr_spec_promises.specs.Broken.{is_broken, moment_at}
use Rattle.nr_spec_promises.specs.Counted.{named_by}

-- ---- at which prefixes a promise may be bad

-- those that stand after each entry within the period. The first list is of the entries before
abbrev pub standing_within : Base → Period → List LogEntry → List LogEntry → List Cidr
standing_within base period past [] = []
standing_within base period past (e ∷ later) =
    (if is_within period e.time then standing (rows_after base.rows (past ++ e ∷ [])) else [])
    ++ standing_within base period (past ++ e ∷ []) later

-- those that stand at some moment of the period, and those that promises name by `at`, in order and each once
abbrev pub prefixes_over : List PromiseFile → Base → Period → List LogEntry → List Cidr
prefixes_over files base period entries =
    each_once (standing (rows_after base.rows (entries_before period entries))
    ++ (standing_within base period [] entries ++ named_by files))

-- ---- each promise of each file at each of these prefixes, in this order

-- of promises of a file, the first of this number
abbrev pub keys_in : List Cidr → ℕ → ℕ → List Promise → List Key
keys_in prefixes file r [] = []
keys_in prefixes file r (promise ∷ promises) = map (key_of file r) prefixes ++ keys_in prefixes file (suc r) promises

-- of files, the first of this number
abbrev pub keys_from : List Cidr → ℕ → List PromiseFile → List Key
keys_from prefixes file [] = []
keys_from prefixes file (f ∷ files) = keys_in prefixes file 0 f.promises ++ keys_from prefixes (suc file) files

-- ---- the broken runs

abbrev pub run_at : Key → Span → Run
run_at key span = record { key = key; span = span }

-- those of a key over these moments, in the order in which they begin
abbrev pub broken_at : List PromiseFile → Truth → List Mark → ℕ → Key → List Run
broken_at files truth marks to key =
    map (run_at key) (filter (is_broken files key) (runs_of to (map (moment_at files truth key) marks)))

-- The broken runs of a period: for each file in order, each of its promises in order and each prefix in order, the
-- broken ones of the runs over the moments of the period, until its end.
unfoldable pub broken_runs : List PromiseFile → Truth → Base → Period → List LogEntry → List Run
broken_runs files truth base period entries =
    flat_map (broken_at files truth (moments files base period entries) period.to)
    (keys_from (prefixes_over files base period entries) 0 files)
