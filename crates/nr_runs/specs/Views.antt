-- What this crate's types stand for in the definitions.
use Rattle.std.specs.Prelude.{◌≡◌, ℕ, Bool, [], ◌∷◌, ◌++◌, List, None, Option, Some, is_some, map}
use Rattle.std.specs.Map.{lookup}
use Rattle.std.specs.declared.cmp.Ordering.{Ordering}
use Rattle.std.specs.Ordering.{nat_cmp, ordering_then}
use Rattle.nr_spec_runs.specs.Runs as spec
use Rattle.nr_runs.specs.declared.runs.Key.{Key}
use Rattle.nr_runs.specs.declared.runs.Run.{Run}

-- a run without where it lies in memory
abbrev pub run_of : Run → spec.Run
run_of r = record { key = spec.key_of r.file r.promise r.prefix; span = record { begin = r.begin; end = r.end } }

abbrev pub runs_in : List Run → List spec.Run
runs_in runs = map run_of runs

abbrev pub run_key : Run → Key
run_key r = record { file = r.file; promise = r.promise; prefix = r.prefix }

abbrev pub key_view : Key → spec.Key
key_view k = spec.key_of k.file k.promise k.prefix

-- the derived order
abbrev pub code_cmp : Key → Key → Ordering
code_cmp a b =
    ordering_then (nat_cmp a.file b.file) (ordering_then (nat_cmp a.promise b.promise)
    (ordering_then (nat_cmp a.prefix.addr b.prefix.addr) (nat_cmp a.prefix.len b.prefix.len)))

-- what is kept: when each open run began, and the runs that have ended
pub record Kept : Type 0 where
  pub open_at : List (Key × ℕ)
  pub ended : List spec.Run

abbrev pub is_key : spec.Key → Key → Bool
is_key key k = spec.same_key key (key_view k)

-- when a key's open run began
abbrev pub begun : List (Key × ℕ) → spec.Key → Option ℕ
begun entries key = lookup (is_key key) entries

-- the run that is open, as it would end here
abbrev pub still : ℕ → Option ℕ → List spec.Span
still close None = []
still close (Some begin) = record { begin = begin; end = close } ∷ []

-- What is kept of a key comes from these moments.
pub record ComesFrom (moments : List spec.Moment) (ended : List spec.Span) (begin : Option ℕ) : Type 0 where
  pub runs : (close : ℕ) → spec.runs_of close moments ≡ ended ++ still close begin
  pub bad : spec.ends_bad moments ≡ is_some begin

-- What is kept comes from these observations.
unfoldable pub Saw : Kept → List spec.Observation → Type 0
Saw kept seen =
    (key : spec.Key) → ComesFrom (spec.moments_of key seen) (spec.spans_of key kept.ended) (begun kept.open_at key)
