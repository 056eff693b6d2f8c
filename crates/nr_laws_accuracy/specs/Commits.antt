-- The COMMITs that entries hold.
use Rattle.std.specs.Prelude.{ℕ, ◌+◌, ◌++◌, [], ◌∷◌, List, Option, Some, filter, nat_lt}
use Rattle.nr_spec_log.specs.Chain.{LogEntry}
use Rattle.nr_spec_entry.specs.Contents.{Commit, Content}
use Rattle.nr_spec_entry.specs.ContentReading.{content_of}
use Rattle.nr_spec_counts.specs.Tallies.{Numbers}
use Rattle.nr_spec_steps.specs.Heads.{Committed}

-- the COMMIT that entry number seq is, if it is one
abbrev pub committed_at : ℕ → Option Content → List Committed
committed_at seq (Some (Commit neighbour leaf)) = record { neighbour = neighbour; seq = seq } ∷ []
committed_at seq other = []

-- the COMMITs among entries, of which the first has this number
abbrev pub commits_in : ℕ → List LogEntry → List Committed
commits_in seq [] = []
commits_in seq (e ∷ es) = committed_at seq (content_of e) ++ commits_in (seq + 1) es

-- those of them that go to neighbours of a promise file
abbrev pub own_commits : Numbers → ℕ → List LogEntry → List Committed
own_commits own seq entries = filter (λ c. nat_lt c.neighbour own.count) (commits_in seq entries)
