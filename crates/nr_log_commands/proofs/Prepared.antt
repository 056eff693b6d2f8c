-- The recorder of a log, and what is appended to that.
use Rattle.std.proofs.Common.{◌≡◌, ◌∙◌, ℕ, false, List, [], ◌∷◌, Option, None, Some, Result, Ok, ap, refl, sym, subst}
use Rattle.std.specs.List.{AllByRecursion}
use Rattle.std.proofs.lemmas.Bool.{ltb-false}
use Rattle.nr_spec_bgp.specs.Records.{Item}
use Rattle.nr_spec_keys.specs.Trees.{KeyTree, tree_of}
use Rattle.nr_spec_log.specs.Chain.{LogEntry}
use Rattle.nr_spec_history.specs.KeyFiles.{Key, key_root}
use Rattle.nr_spec_plans.specs.Disk.{Disk}
use Rattle.nr_spec_plans.specs.Laws.{Ends}
use Rattle.nr_spec_plans.specs.Plans.{Act, Ask, Done, Halt, Plan, Refuse, Room, Runs, act, refusing, want}
use Rattle.nr_spec_plans.proofs.PlanLaws.{ends_followed, ends_so}
use Rattle.nr_spec_plans.proofs.PlanLemmas.{ran, wanted}
use Rattle.nr_spec_store.specs.LogFile.{LogFile}
use Rattle.nr_spec_store.specs.StorePlans.{birth_plan}
use Rattle.nr_spec_steps.specs.Events.{Event}
use Rattle.nr_spec_steps.specs.Telling.{most_raw}
use Rattle.nr_spec_recording.specs.Records.{Speaker}
use Rattle.nr_spec_recording.specs.Events.{events_of, raw_length, too_long, turns_of}
use Rattle.nr_spec_texts.specs.Promises.{PromiseFile}
use Rattle.nr_spec_program.specs.Command.{Ending, Refusal, promise_plan}
use Rattle.nr_spec_program.specs.Recording.{born_plan, entries_in, key_file_plan, log_plan, mrt_plan, record_plan, recorder_of, speakers_of, turns_for, unwritten_log}
use Rattle.nr_recorder.specs.Kept as kept
use Rattle.nr_recording.specs.Files.{is_long}
use Rattle.nr_recording.proofs.Long.{short-events}
use Rattle.nr_spec_commands.specs.Words.{RecordRequest}
use Rattle.nr_log_commands.specs.Recorded.{appended_plan, found_plan, kept_by}
use Rattle.nr_log_commands.specs.Turning.{IsShort, no_frames}

-- ---- the log

ends_refusing : {E F A : Type 0} (P : A → Type 0) (as_said : E → F) (p : Plan E A) → Ends P p → Ends P (refusing as_said p)
unfolding refusing
ends_refusing P as_said (Done value) ends = ends
ends_refusing P as_said (Refuse refusal) ends = tt
ends_refusing P as_said (Room next) ends = ends_refusing P as_said next ends
ends_refusing P as_said (Act action next) ends = λ answer. ends_refusing P as_said (next answer) (ends answer)

abbrev IsEmpty : LogFile → Type 0
IsEmpty log = log.entries ≡ []

born_empty : (name : List ℕ) (asn : ℕ) (root : List ℕ) → Ends IsEmpty (birth_plan name asn root)
unfolding birth_plan
born_empty name asn root =
    ends_followed IsEmpty want _ (λ room. ends_followed IsEmpty (act (Ask name)) _ (λ size. ends_followed IsEmpty _ _ (λ fits. ends_followed IsEmpty _ _ (λ closed. ends_followed IsEmpty _ _ (λ opened. refl)))))

-- a log that is born has no entries, and one that was found has its own
pub born_entries : (name : List ℕ) (key : Key) (found : Option LogFile) (old new : Disk) (log : LogFile) → Runs (born_plan name key found) old new (Ok log) → log.entries ≡ entries_in found
unfolding born_plan Runs
born_entries name key None old new log runs =
    ends_so IsEmpty (refusing unwritten_log (birth_plan name key.asn (key_root key))) old new log (ends_refusing IsEmpty unwritten_log (birth_plan name key.asn (key_root key)) (born_empty name key.asn (key_root key))) runs
born_entries name key (Some found) old new log (same, is) = let e : log ≡ found = cc in ap (λ (l : LogFile). l.entries) e

-- ---- the recorder

pub tree_height : (tree : KeyTree) (seed : List ℕ) (height : ℕ) → tree ≡ tree_of seed height → tree.height ≡ height
unfolding tree_of
tree_height tree seed height is = ap (λ (t : KeyTree). t.height) is

pub tree_again : (tree : KeyTree) (seed : List ℕ) (height : ℕ) → tree ≡ tree_of seed height → tree ≡ tree_of seed tree.height
tree_again tree seed height is = is ∙ ap (tree_of seed) (sym (tree_height tree seed height is))

pub root_kept : (core : kept.Kept) (promise : PromiseFile) (key : Key) (log : List LogEntry) (root : List ℕ) → core ≡ kept_by promise key log → root ≡ key_root key → key_root core.key ≡ root
root_kept core promise key log root is root_is = ap (λ (k : kept.Kept). key_root k.key) is ∙ sym root_is

pub ruleset preparing = (tree_height, tree_again)

-- ---- messages

each_fits : (events : List Event) → AllByRecursion (λ event. is_long event ≡ false) events → AllByRecursion IsShort events
each_fits [] each = tt
each_fits (e ∷ es) each = (ltb-false most_raw (raw_length e) each.0, each_fits es each.1)

pub events_fit : (events records : List Event) (until : Option ℕ) → events ≡ events_of records until → too_long records ≡ None → AllByRecursion IsShort events
events_fit events records until is none = subst (AllByRecursion IsShort) (sym is) (each_fits (events_of records until) (short-events records until none))

-- ---- what is appended

pub appended_by : (name : List ℕ) (core : kept.Kept) (promise : PromiseFile) (key : Key) (found : Option LogFile) (log : List LogEntry) (events all : List Event) (skips skipped : ℕ)
    (old new : Disk) (result : Result Ending (Halt Refusal)) → core ≡ kept_by promise key log → events ≡ all → skips ≡ skipped
    → Runs (appended_plan name core.key found (kept.recorder_of no_frames core) (turns_of events) skips) old new result
    → Runs (appended_plan name key found (recorder_of promise key) (turns_of all) skipped) old new result
appended_by name core promise key found log events all skips skipped old new result is events_are skips_are runs =
    let a = subst (λ (k : kept.Kept). Runs (appended_plan name k.key found (kept.recorder_of no_frames k) (turns_of events) skips) old new result) is runs in
    let b = subst (λ (e : List Event). Runs (appended_plan name key found (recorder_of promise key) (turns_of e) skips) old new result) events_are a in
    subst (λ (n : ℕ). Runs (appended_plan name key found (recorder_of promise key) (turns_of all) n) old new result) skips_are b

-- the same by the neighbours of the promise file
pub found_by : (q : RecordRequest) (promise : PromiseFile) (key : Key) (neighbours : List Speaker) (files : List (List Item)) (found : Option LogFile) (old new : Disk) (result : Result Ending (Halt Refusal)) → neighbours ≡ speakers_of promise
    → Runs (found_plan q promise key neighbours files found) old new result → Runs (found_plan q promise key (speakers_of promise) files found) old new result
found_by q promise key neighbours files found old new result is runs = subst (λ (s : List Speaker). Runs (found_plan q promise key s files found) old new result) is runs

-- what comes before the log is found
pub recorded_by : (q : RecordRequest) (promise : PromiseFile) (key : Key) (neighbours : List Speaker) (names : List (List ℕ)) (files : List (List Item)) (found : Option LogFile) (old read keyed filed here new : Disk) (result : Result Ending (Halt Refusal))
    → Runs (promise_plan q.promise) old read (Ok promise) → Runs (key_file_plan q.key) read keyed (Ok key) → names ≡ q.files → Runs (mrt_plan 1 names) keyed filed (Ok files) → Runs (log_plan q.log) filed here (Ok found)
    → neighbours ≡ speakers_of promise → Runs (found_plan q promise key neighbours files found) here new result → Runs (record_plan q) old new result
unfolding record_plan turns_for
recorded_by q promise key neighbours names files found old read keyed filed here new result promised keys same filing finding speak rest =
    let all : Runs (mrt_plan 1 q.files) keyed filed (Ok files) = subst (λ (l : List (List ℕ)). Runs (mrt_plan 1 l) keyed filed (Ok files)) same filing in
    ran (promise_plan q.promise) _ old read new promise result promised
    (ran (key_file_plan q.key) _ read keyed new key result keys
    (wanted _ keyed new result
    (ran (mrt_plan 1 q.files) _ keyed filed new files result all
    (ran (log_plan q.log) _ filed here new found result finding
    (found_by q promise key neighbours files found here new result speak rest)))))

pub ruleset appending = (events_fit, root_kept, appended_by)
