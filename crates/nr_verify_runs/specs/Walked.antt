-- What a walk over entries keeps for a claim, and what it comes from.
use Rattle.std.specs.Prelude.{◌≡◌, ◌≤◌, ◌<◌, ℕ, ◌&&◌, ◌||◌, [], ◌∷◌, ◌++◌, Bool, List, None, Option, Some, false, is_some, map, not, true}
use Rattle.std.specs.List.{AllByRecursion, list_any}
use Rattle.nr_spec_bgp.specs.Prefixes.{Cidr}
use Rattle.nr_spec_log.specs.Chain.{LogEntry}
use Rattle.nr_spec_log.specs.Answer.{AreEntriesFrom}
use Rattle.nr_spec_history.specs.Conflicts.{Period}
use Rattle.nr_spec_typing.specs.Meaning.{holds}
use Rattle.nr_spec_typing.specs.declared.text.Neighbour.{Neighbour}
use Rattle.nr_spec_typing.specs.declared.text.Promise.{Promise}
use Rattle.nr_spec_report.specs.Wrong.{Base, nothing_before}
use Rattle.nr_spec_runs.specs.Runs.{Moment, Span, ends_bad, runs_of}
use Rattle.nr_spec_promises.specs.Files.{PromiseFile, file_after}
use Rattle.nr_spec_promises.specs.Moments.{Mark, View, entries_before, marks_after, view_after}
use Rattle.nr_spec_promises.specs.Broken.{is_file, is_judged}
use Rattle.nr_spec_claims.specs.Claims.{same_span}
use Rattle.nr_verify_routes.specs.Held.{AreOf, Held}

-- ---- the one open run

-- the run that is looked for, when the open run began, and whether the run was found
pub record Watch : Type 0 where
  pub span : Span
  pub since : Option ℕ
  pub found : Bool

-- whether the open run is the one, if it ends here
abbrev pub is_still : Span → ℕ → Option ℕ → Bool
is_still span close None = false
is_still span close (Some since) = same_span span (record { begin = since; end = close })

-- It has watched these moments.
pub record Watched (moments : List Moment) (w : Watch) : Type 0 where
  pub runs : (close : ℕ)
      → list_any (same_span w.span) (runs_of close moments) ≡ w.found || is_still w.span close w.since
  pub bad : ends_bad moments ≡ is_some w.since

-- ---- the walk

-- what is charged: a promise of a file, of a text with these neighbours, at a prefix in a period; and the digest of the
-- first PROMISE of the log
pub record Charge : Type 0 where
  pub files : List PromiseFile
  pub first : Option (List ℕ)
  pub file : ℕ
  pub neighbours : List Neighbour
  pub promise : Promise
  pub prefix : Cidr
  pub period : Period

-- whether the promise is bad in a view
abbrev pub is_unkept : Charge → View → Bool
is_unkept charge view =
    is_file view.file charge.file
    && (is_judged charge.promise view charge.prefix
    && not (holds charge.neighbours (view.scene charge.prefix) charge.promise.form))

abbrev pub moment_of : Charge → Mark → Moment
moment_of charge mark = record { begin = mark.begin; bad = is_unkept charge mark.view }

abbrev pub view_in : Base → Charge → List LogEntry → View
view_in base charge past = view_after charge.files base charge.first past

-- the moments that entries make
unfoldable pub moments_after : Base → Charge → List LogEntry → List Moment
moments_after base charge entries =
    map (moment_of charge)
    (record { begin = charge.period.from; view = view_in base charge (entries_before charge.period entries) }
    ∷ marks_after charge.files base charge.first charge.period [] entries)

-- the routes, the file to which the state belongs, whether the period has begun, and the watch
pub record Kept : Type 0 where
  pub rows : List Held
  pub file : Option ℕ
  pub begun : Bool
  pub watch : Watch

-- The watch has seen nothing while all entries are before the period, and from then on the moments so far.
pub record Walked (base : Base) (charge : Charge) (past : List LogEntry) (k : Kept) : Type 0 where
  pub routes : AreOf base.rows past charge.prefix k.rows
  pub file : k.file ≡ file_after charge.files base charge.first past
  pub before : k.begun ≡ false
      → AllByRecursion (λ (e : LogEntry). e.time < charge.period.from) past × Watched [] k.watch
  pub within : k.begun ≡ true → Watched (moments_after base charge past) k.watch

-- It has come so far among the entries of a whole log.
pub record Walks (charge : Charge) (all rest : List LogEntry) (k : Kept) : Type 0 where
  pub past : List LogEntry
  pub split : all ≡ past ++ rest
  pub walked : Walked nothing_before charge past k
  pub last : ℕ
  pub order : AreEntriesFrom last rest
  pub settled : k.begun ≡ true → charge.period.from ≤ last
