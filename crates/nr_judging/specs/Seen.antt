-- What was observed by the time that these entries were seen.
use Rattle.std.specs.Prelude.{ℕ, not, ◌||◌, Bool, true, false, List, [], ◌∷◌, filter, nat_lt, Option, if◌then◌else◌}
use Rattle.nr_spec_bgp.specs.Prefixes.{Cidr}
use Rattle.nr_spec_log.specs.Chain.{LogEntry}
use Rattle.nr_spec_history.specs.Conflicts.{Period}
use Rattle.nr_spec_routes.specs.Keys.{Row}
use Rattle.nr_spec_report.specs.Wrong.{Base, is_within}
use Rattle.nr_spec_promises.specs.Files.{PromiseFile}
use Rattle.nr_spec_promises.specs.Moments.{entries_before}
use Rattle.nr_judging.specs.Asked.{Stage, first_stage, next_stage, stages_of}

-- the entries that aren't before the period
abbrev pub entries_since : Period → List LogEntry → List LogEntry
entries_since period past = filter (λ (e : LogEntry). not (nat_lt e.time period.from)) past

abbrev pub has_some : List LogEntry → Bool
has_some [] = false
has_some (e ∷ es) = true

-- nothing is observed before the first entry that isn't before the period
abbrev pub stages_begun : List PromiseFile → Base → Option (List ℕ) → Period
    → List LogEntry → List LogEntry → List Stage
stages_begun files base first period before [] = []
stages_begun files base first period before (e ∷ es) = stages_of files base first period before (e ∷ es)

abbrev pub stages_seen : List PromiseFile → Base → Option (List ℕ) → Period → List LogEntry → List Stage
stages_seen files base first period past =
    stages_begun files base first period (entries_before period past) (entries_since period past)

-- what is observed first, where it wasn't yet and the time has come
abbrev pub first_now : List PromiseFile → Period → List Row → Option ℕ → Bool → ℕ → List Stage
first_now files period rows file begun time =
    if begun || nat_lt time period.from then [] else first_stage files period rows file ∷ []

-- what is observed then, by what was touched and by the files of the moment before and of this one
abbrev pub next_now : List PromiseFile → Period → List Row → List Cidr → Option ℕ → Option ℕ → ℕ → List Stage
next_now files period rows touched before file time =
    if is_within period time then next_stage files time rows touched before file ∷ [] else []
