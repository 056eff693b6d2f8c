-- How often a judge is asked at most.
use Rattle.std.specs.Prelude.{ℕ, ◌+◌, ◌*◌, ◌==◌, max, Bool, true, false, List, [], ◌∷◌, ◌++◌, length, Option, None, Some, if◌then◌else◌}
use Rattle.std.specs.List.{flat_map}
use Rattle.nr_spec_bgp.specs.Prefixes.{Cidr}
use Rattle.nr_spec_log.specs.Chain.{LogEntry}
use Rattle.nr_spec_history.specs.Conflicts.{Period}
use Rattle.nr_spec_routes.specs.Keys.{Row, each_once, standing}
use Rattle.nr_spec_routes.specs.Rows.{rows_after}
use Rattle.nr_spec_routes.specs.Touched.{touched_after}
use Rattle.nr_spec_typing.specs.declared.text.Promise.{Promise}
use Rattle.nr_spec_report.specs.Wrong.{Base, is_within}
use Rattle.nr_spec_promises.specs.Files.{PromiseFile, file_after, first_promised}
use Rattle.nr_spec_promises.specs.Moments.{entries_before}

-- the greatest number of promises of a file
abbrev pub most_promises : List PromiseFile → ℕ
most_promises [] = 0
most_promises (f ∷ files) = max (length f.promises) (most_promises files)

-- the prefixes that promises of a file name by `at`
abbrev pub named_in : PromiseFile → List Cidr
named_in f = flat_map (λ (p : Promise). p.at) f.promises

-- those that promises of all files name, in order and each once
abbrev pub named_by : List PromiseFile → List Cidr
named_by files = each_once (flat_map named_in files)

-- how many prefixes stand, and how many promises name
abbrev pub in_view : List PromiseFile → List Row → ℕ
in_view files rows = length (standing rows) + length (named_by files)

abbrev pub same_file : Option ℕ → Option ℕ → Bool
same_file None None = true
same_file (Some n) (Some m) = n == m
same_file _ _ = false

-- the number of prefixes that an entry touches, and, where the moment that it begins belongs to another file than the
-- one before it, of those that stand then and those that promises name
abbrev pub asked_next : List PromiseFile → Base → Option (List ℕ) → List LogEntry → LogEntry → ℕ
asked_next files base first past e =
    length (touched_after base.rows past e)
    + (if same_file (file_after files base first past) (file_after files base first (past ++ e ∷ []))
    then 0 else in_view files (rows_after base.rows (past ++ e ∷ [])))

-- the sum over the entries within the period that stand after others
abbrev pub asked_after : List PromiseFile → Base → Option (List ℕ) → Period → List LogEntry → List LogEntry → ℕ
asked_after files base first period past [] = 0
asked_after files base first period past (e ∷ later) =
    (if is_within period e.time then asked_next files base first past e else 0)
    + asked_after files base first period (past ++ e ∷ []) later

-- A judge is asked no more often than the greatest number of promises of a file times: the prefixes that stand when the
-- period begins, those that promises name, and that sum over the entries of the period.
abbrev pub most_asked : List PromiseFile → Base → Period → List LogEntry → ℕ
most_asked files base period entries =
    most_promises files * (in_view files (rows_after base.rows (entries_before period entries))
    + asked_after files base (first_promised entries) period [] entries)
