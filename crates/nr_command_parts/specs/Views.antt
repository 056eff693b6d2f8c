-- What this crate's types stand for in the definitions.
use Rattle.std.specs.Prelude.{◌≡◌, ℕ, List, Result, Ok, Err, option_map}
use Rattle.nr_spec_outcome.specs.Outcome as outcome
use Rattle.nr_spec_slices.specs.Late as slices
use Rattle.nr_chain.specs.Views.{digest_bytes}
use Rattle.nr_lamport.specs.declared.seed.Seed.{Seed}
use Rattle.nr_spec_plans.specs.Disk as disk
use Rattle.nr_spec_plans.specs.Plans as plans
use Rattle.nr_ports.specs.declared.fault.ReadFault.{ReadFault}
use Rattle.nr_ports.specs.declared.fault.ReadFault.TheVariants as read
use Rattle.nr_ports.specs.declared.fault.WriteFault.{WriteFault}
use Rattle.nr_ports.specs.declared.fault.WriteFault.TheVariants as write
use Rattle.nr_rule_syntax.specs.declared.fault.ParseError.{ParseError}
use Rattle.nr_rule_syntax.specs.declared.fault.ParseError.TheVariants as parse
use Rattle.nr_rule_types.specs.declared.fault.TypeError.{TypeError}
use Rattle.nr_rule_types.specs.declared.fault.TypeError.TheVariants as typing
use Rattle.nr_answer.specs.declared.writing.WriteError.{WriteError}
use Rattle.nr_answer.specs.declared.writing.WriteError.TheVariants as unwritten
use Rattle.nr_saving.specs.declared.fault.SaveError.{SaveError}
use Rattle.nr_saving.specs.declared.fault.SaveError.TheVariants as save
use Rattle.nr_store.specs.declared.fault.LoadError.{LoadError}
use Rattle.nr_store.specs.declared.fault.LoadError.TheVariants as load
use Rattle.nr_store.specs.declared.fault.AppendError.{AppendError}
use Rattle.nr_store.specs.declared.fault.AppendError.TheVariants as append
use Rattle.nr_spec_program.specs.Command as command
use Rattle.nr_spec_texts.specs.Promises as promises
use Rattle.nr_command_parts.specs.declared.promise_file.PromiseFile as declared_promise
use Rattle.nr_command_parts.specs.declared.input.Input.{Input}
use Rattle.nr_command_parts.specs.declared.input.Input.TheVariants as input
use Rattle.nr_command_parts.specs.declared.refusal.Fact.{Fact}
use Rattle.nr_command_parts.specs.declared.refusal.Fact.TheVariants as fact
use Rattle.nr_command_parts.specs.declared.refusal.Late as declared_late
use Rattle.nr_command_parts.specs.declared.refusal.Late.TheVariants as late
use Rattle.nr_command_parts.specs.declared.refusal.LogFact.{LogFact}
use Rattle.nr_command_parts.specs.declared.refusal.LogFact.TheVariants as log_fact
use Rattle.nr_command_parts.specs.declared.refusal.Refusal.{Refusal}
use Rattle.nr_command_parts.specs.declared.refusal.Refusal.TheVariants as refusal
use Rattle.nr_command_parts.specs.declared.refusal.Stop.{Stop}
use Rattle.nr_command_parts.specs.declared.refusal.Stop.TheVariants as stop

abbrev pub input_of : Input → command.Input
input_of input.Promise = command.PromiseInput
input_of input.Answer = command.AnswerInput
input_of input.Auths = command.AuthsInput
input_of input.Seed = command.SeedInput
input_of input.Key = command.KeyInput
input_of input.Log = command.LogInput
input_of input.Evidence = command.EvidenceInput
input_of input.Frames = command.FramesInput
input_of (input.Mrt number) = command.MrtInput number

abbrev pub fact_of : Fact → outcome.Fact
fact_of fact.Form = outcome.Form
fact_of (fact.Network found wanted) = outcome.Network found wanted
fact_of fact.Unsigned = outcome.Unsigned
fact_of (fact.Head head chain) = outcome.Head head.0 chain.0
fact_of (fact.Short head to) = outcome.Short head to
fact_of (fact.Promise found file) = outcome.Promise (option_map digest_bytes found) file.0

abbrev pub late_of : declared_late.Late → slices.Late
late_of (late.Time checkpoint from) = slices.Time checkpoint from
late_of (late.Body body entry) = slices.Body body.0 entry.0

abbrev pub log_fact_of : LogFact → command.LogFact
log_fact_of (log_fact.OtherNetwork found wanted) = command.OtherNetwork found wanted
log_fact_of (log_fact.OtherRoot found wanted) = command.OtherRoot found.0 wanted.0
log_fact_of (log_fact.LongMessage found) = command.LongMessage found
log_fact_of (log_fact.KeySpent commits leaves) = command.KeySpent (record { commits = commits; leaves = leaves })
log_fact_of (log_fact.LongLog found) = command.LongLog found
log_fact_of (log_fact.LongAnswer found) = command.LongAnswer found
log_fact_of log_fact.Unsealed = command.Unsealed

abbrev pub refusal_of : Refusal → command.Refusal
refusal_of (refusal.NoFile i) = command.NoFile (input_of i)
refusal_of (refusal.Limit i found) = command.Limit (input_of i) found
refusal_of (refusal.Malformed i place) = command.Malformed (input_of i) place.0
refusal_of (refusal.Refused f) = command.Refused (fact_of f)
refusal_of (refusal.LateStart l) = command.LateStart (late_of l)
refusal_of (refusal.Prevented f) = command.Prevented (log_fact_of f)
refusal_of (refusal.LongEvidence found) = command.LongEvidence found

abbrev pub seed_bytes : Seed → List ℕ
seed_bytes seed = seed.0

-- why a file that isn't read in whole ends a command
abbrev pub stop_of : ReadFault → Stop
stop_of read.Failed = stop.ReadFault
stop_of read.Memory = stop.Memory

-- why a promise file that the grammar refuses ends a command
abbrev pub unread_of : ParseError → Stop
unread_of (parse.At place) = stop.Refused (refusal.Malformed input.Promise place)
unread_of parse.Memory = stop.Memory

-- why a promise file that the typing refuses ends a command
abbrev pub untyped_of : TypeError → Stop
untyped_of (typing.At place) = stop.Refused (refusal.Malformed input.Promise place)
untyped_of typing.Memory = stop.Memory

-- why a log that isn't loaded ends a command, and one that isn't born or appended to
abbrev pub unloaded_of : LoadError → Stop
unloaded_of load.Read = stop.ReadFault
unloaded_of load.Write = stop.WriteFault
unloaded_of (load.Limit found) = stop.Refused (refusal.Limit input.Log found)
unloaded_of (load.At place) = stop.Refused (refusal.Malformed input.Log place)
unloaded_of load.Memory = stop.Memory

abbrev pub unappended_of : AppendError → Stop
unappended_of append.Read = stop.ReadFault
unappended_of append.Write = stop.WriteFault
unappended_of (append.Limit found) = stop.Refused (refusal.Prevented (log_fact.LongLog found))
unappended_of append.Memory = stop.Memory

-- why an answer that isn't written ends a command
abbrev pub unanswered_of : WriteError → Stop
unanswered_of (unwritten.TooLong found) = stop.Refused (refusal.Prevented (log_fact.LongAnswer found))
unanswered_of unwritten.Memory = stop.Memory

-- why evidence that isn't saved ends a command
abbrev pub unsaved_of : SaveError → Stop
unsaved_of (save.TooLong found) = stop.Refused (refusal.LongEvidence found)
unsaved_of save.Failed = stop.WriteFault
unsaved_of save.Memory = stop.Memory

abbrev pub promise_file_of : declared_promise.PromiseFile → promises.PromiseFile
promise_file_of p = record { text = p.text.items; digest = p.digest.0; file = p.file; says = p.says }

-- why a file that isn't written in whole ends a command
abbrev pub halt_of : WriteFault → Stop
halt_of write.Failed = stop.WriteFault
halt_of write.Memory = stop.Memory

-- why a plan gave no value
abbrev pub why : Stop → plans.Halt command.Refusal
why (stop.Refused r) = plans.Refused (refusal_of r)
why stop.ReadFault = plans.Faulted disk.ReadFault
why stop.WriteFault = plans.Faulted disk.WriteFault
why stop.Memory = plans.Faulted disk.Memory

-- what a step gave
abbrev pub gave : {X Y : Type 0} → (X → Y) → Result X Stop → Result Y (plans.Halt command.Refusal)
gave view (Ok x) = Ok (view x)
gave view (Err e) = Err (why e)

-- A step does what the plan does, and gives what the plan gives.
abbrev pub Does : {X Y : Type 0} → (X → Y) → command.Work Y → disk.Disk → disk.Disk → Result X Stop → Type 0
Does view plan old new result = plans.Runs plan old new (gave view result)

-- A step that reads no file and takes no memory gives what the definition gives, its value or its refusal.
abbrev pub Settles : {X Y : Type 0} → (X → Y) → Result X Refusal → command.Work Y → Type 0
Settles view (Ok x) plan = plan ≡ plans.Done (view x)
Settles view (Err r) plan = plan ≡ plans.Refuse (refusal_of r)

-- The same of a step that may want memory.
abbrev pub Judges : {X Y : Type 0} → (X → Y) → Result X Stop → command.Work Y → Type 0
Judges view (Ok x) plan = plan ≡ plans.Done (view x)
Judges view (Err (stop.Refused r)) plan = plan ≡ plans.Refuse (refusal_of r)
Judges view (Err stop.ReadFault) plan = ⊥
Judges view (Err stop.WriteFault) plan = ⊥
Judges view (Err stop.Memory) plan = Unit {0}
