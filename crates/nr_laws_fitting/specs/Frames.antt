-- Recorders to which no frames come, and records whose times have eight bytes.
use Rattle.std.specs.Prelude.{◌≡◌, ◌<◌, ◌^◌, ℕ, List, None}
use Rattle.std.specs.List.{AllByRecursion}
use Rattle.nr_spec_bgp.specs.Records.{Carries, Item, Skips, Turns}
use Rattle.nr_spec_log.specs.Chain.{LogEntry}
use Rattle.nr_spec_steps.specs.Steps.{Recorder}

-- It acknowledges nothing of whatever bytes.
abbrev pub IsFrameless : Recorder → Type 0
IsFrameless r = (log : List LogEntry) (bytes : List ℕ) → r.acknowledged log bytes ≡ None

-- the time of a record has eight bytes
abbrev pub IsTimely : Item → Type 0
IsTimely (Carries m) = m.time < 2 ^ 64
IsTimely (Turns t) = t.time < 2 ^ 64
IsTimely Skips = Unit {0}

-- that of each record of each file
abbrev pub AreTimely : List (List Item) → Type 0
AreTimely files = AllByRecursion (λ items. AllByRecursion IsTimely items) files
