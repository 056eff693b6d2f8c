-- At which moments a promise is bad, and which runs of bad moments break it.
use Rattle.std.specs.Prelude.{◌≡◌, ℕ, ◌+◌, ◌*◌, ◌==◌, ◌&&◌, not, Bool, false, List, length, map, filter, nat_le, Option, None, Some, slice_get, if◌then◌else◌, IsSortedByKey}
use Rattle.nr_spec_bgp.specs.Prefixes.{Cidr}
use Rattle.nr_spec_routes.specs.Keys.{is_named}
use Rattle.nr_spec_typing.specs.declared.text.Promise.{Promise}
use Rattle.nr_spec_truth.specs.Truths.{Truth}
use Rattle.nr_spec_runs.specs.Runs.{Key, Moment, Run, Span, key_cmp, runs_of, spans_of}
use Rattle.nr_spec_promises.specs.Files.{PromiseFile, promise_of}
use Rattle.nr_spec_promises.specs.Moments.{Mark, View}

-- the promise of a key
abbrev pub promise_at : List PromiseFile → Key → Option Promise
promise_at files key = promise_of (slice_get files key.file) key.promise

-- ---- bad

-- A promise is judged on the prefixes that it names by `at`, or, without `at`, on those that stand.
abbrev pub is_judged : Promise → View → Cidr → Bool
is_judged promise view p = if length promise.at == 0 then view.stands p else is_named promise.at p

-- whether a file is the one to which a state belongs
abbrev pub is_file : Option ℕ → ℕ → Bool
is_file None file = false
is_file (Some ruling) file = ruling == file

-- It is judged where the moment belongs to its file. It is bad where it is judged and its formula isn't true.
abbrev pub fails : Truth → View → Key → Option Promise → Bool
fails truth view key None = false
fails truth view key (Some promise) =
    is_file view.file key.file
    && (is_judged promise view key.prefix && not (truth key.file key.promise (view.scene key.prefix)))

abbrev pub is_bad : List PromiseFile → Truth → View → Key → Bool
is_bad files truth view key = fails truth view key (promise_at files key)

-- ---- broken

abbrev pub moment_at : List PromiseFile → Truth → Key → Mark → Moment
moment_at files truth key mark = record { begin = mark.begin; bad = is_bad files truth mark.view key }

-- it ends at least the grace of a promise after it begins, which is in seconds
abbrev pub lasts : Option Promise → Span → Bool
lasts None span = false
lasts (Some promise) span = nat_le (span.begin + promise.grace * 1000000) span.end

-- A run is broken where it lasts at least as long as the grace of its promise.
abbrev pub is_broken : List PromiseFile → Key → Span → Bool
is_broken files key span = lasts (promise_at files key) span

-- The broken runs over these moments, the last of which lasts until a time: by file, promise and prefix, and of each
-- key the broken ones of its runs in the order in which they begin.
pub record AreBroken (files : List PromiseFile) (truth : Truth) (marks : List Mark) (to : ℕ) (found : List Run)
    : Type 0 where
  pub ordered : IsSortedByKey (λ (r : Run). r.key) key_cmp found
  pub each : (key : Key) → spans_of key found
      ≡ filter (is_broken files key) (runs_of to (map (moment_at files truth key) marks))
