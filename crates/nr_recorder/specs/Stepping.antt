-- What a step hands back.
use Rattle.std.specs.Prelude.{ℕ, ◌≡◌, Err, List, None, Ok, Option, Result, Some, map}
use Rattle.nr_spec_log.specs.Chain.{LogEntry}
use Rattle.nr_spec_entry.specs.Contents.{Content}
use Rattle.nr_spec_steps.specs.Events.{Event}
use Rattle.nr_spec_steps.specs.Steps.{core_step}
use Rattle.nr_spec_steps.specs.Heads.{committed_by}
use Rattle.nr_recorder.specs.declared.outcome.Out.{Out}
use Rattle.nr_recorder.specs.declared.outcome.Refusal.{Refusal}
use Rattle.nr_recorder.specs.declared.outcome.Refusal.TheVariants.{KeySpent, Memory}
use Rattle.nr_recorder.specs.Kept.{Kept, recorder_of, with_entries}
use Rattle.nr_recorder.specs.Views.{committed_of}

-- The core with what the event appends behind its log, and the COMMITs among it; or the core as it was, where the key
-- is spent. Memory may always run out, and then no core is handed back.
abbrev pub Steps : (List LogEntry → List ℕ → Option Content) → Kept → Event
    → Result (Kept × Out) (Option Kept × Refusal) → Type 0
Steps acknowledged core event (Ok (after, out)) =
    (batch : List LogEntry)
    × (core_step (recorder_of acknowledged core) core.log event ≡ Ok batch)
    × (after ≡ with_entries core batch)
    × (map committed_of out.commits.items ≡ committed_by (recorder_of acknowledged core) core.log event)
Steps acknowledged core event (Err (handed, KeySpent commits leaves)) =
    (core_step (recorder_of acknowledged core) core.log event ≡ Err (record { commits = commits; leaves = leaves }))
    × (handed ≡ Some core)
Steps acknowledged core event (Err (handed, Memory)) = handed ≡ None
