-- The moments of a period.
use Rattle.std.specs.Prelude.{ℕ, Bool, List, [], ◌∷◌, ◌++◌, Option, filter, nat_lt, if◌then◌else◌}
use Rattle.nr_spec_bgp.specs.Prefixes.{Cidr}
use Rattle.nr_spec_log.specs.Chain.{LogEntry}
use Rattle.nr_spec_history.specs.Conflicts.{Period}
use Rattle.nr_spec_routes.specs.declared.direction.Direction.TheVariants.{Received, Sent}
use Rattle.nr_spec_routes.specs.Keys.{Key, Row, route_in, stands_in}
use Rattle.nr_spec_routes.specs.Rows.{rows_after}
use Rattle.nr_spec_typing.specs.Meaning.{Scene}
use Rattle.nr_spec_report.specs.Wrong.{Base, is_within}
use Rattle.nr_spec_promises.specs.Files.{PromiseFile, file_after, first_promised}

-- what a state shows: of a prefix the scene, and whether it stands; and the number of the promise file to which it
-- belongs, where it belongs to one
pub record View : Type 0 where
  pub scene : Cidr → Scene
  pub stands : Cidr → Bool
  pub file : Option ℕ

abbrev pub received_from : Cidr → ℕ → Key
received_from p n = record { prefix = p; direction = Received; neighbour = n }

abbrev pub sent_to : Cidr → ℕ → Key
sent_to p n = record { prefix = p; direction = Sent; neighbour = n }

-- a prefix with its routes
abbrev pub scene_in : List Row → Cidr → Scene
scene_in rows p = record {
  prefix = p;
  received = λ n. route_in rows (received_from p n);
  sent = λ n. route_in rows (sent_to p n);
}

abbrev pub view_of : List Row → Option ℕ → View
view_of rows file = record { scene = scene_in rows; stands = stands_in rows; file = file }

-- the state after entries, over a base; the digest is that of the first PROMISE of all entries
abbrev pub view_after : List PromiseFile → Base → Option (List ℕ) → List LogEntry → View
view_after files base first past = view_of (rows_after base.rows past) (file_after files base first past)

-- a moment: when it begins, and what there is until the next one begins
pub record Mark : Type 0 where
  pub begin : ℕ
  pub view : View

-- Each entry within the period begins a moment, the state after it. The first list is of the entries before.
abbrev pub marks_after : List PromiseFile → Base → Option (List ℕ) → Period → List LogEntry → List LogEntry → List Mark
marks_after files base first period past [] = []
marks_after files base first period past (e ∷ later) =
    (if is_within period e.time
    then record { begin = e.time; view = view_after files base first (past ++ e ∷ []) } ∷ [] else [])
    ++ marks_after files base first period (past ++ e ∷ []) later

abbrev pub entries_before : Period → List LogEntry → List LogEntry
entries_before period entries = filter (λ (e : LogEntry). nat_lt e.time period.from) entries

-- The moments: the first begins with the period, and is the state after all entries with a time before it.
abbrev pub moments : List PromiseFile → Base → Period → List LogEntry → List Mark
moments files base period entries =
    record {
      begin = period.from;
      view = view_after files base (first_promised entries) (entries_before period entries);
    }
    ∷ marks_after files base (first_promised entries) period [] entries
