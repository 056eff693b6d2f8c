-- What this crate's types stand for in the definitions.
use Rattle.std.specs.Prelude.{◌≡◌, ℕ, ◌≤◌, ◌<◌, Result, Ok, Err}
use Rattle.nr_spec_plans.specs.Disk as disk
use Rattle.nr_spec_plans.specs.Plans as plans
use Rattle.nr_spec_store.specs.LogFile.{Birth, most_log}
use Rattle.nr_spec_store.specs.StorePlans as store
use Rattle.nr_ports.specs.Views.{write_fault_of}
use Rattle.nr_ports.specs.declared.fault.ReadFault.{ReadFault}
use Rattle.nr_ports.specs.declared.fault.ReadFault.TheVariants as read
use Rattle.nr_ports.specs.declared.fault.WriteFault.{WriteFault}
use Rattle.nr_ports.specs.declared.fault.WriteFault.TheVariants as write
use Rattle.nr_store.specs.declared.fault.LoadError.{LoadError}
use Rattle.nr_store.specs.declared.fault.LoadError.TheVariants as load
use Rattle.nr_store.specs.declared.fault.AppendError.{AppendError}
use Rattle.nr_store.specs.declared.fault.AppendError.TheVariants as append
use Rattle.nr_store.specs.declared.reading.Front as declared_front

-- why a file that isn't read in whole ends a load
abbrev pub unread_of : ReadFault → LoadError
unread_of read.Failed = load.Read
unread_of read.Memory = load.Memory

-- why a call that writes ends a load, and an append
abbrev pub unsynced_of : WriteFault → LoadError
unsynced_of write.Failed = load.Write
unsynced_of write.Memory = load.Memory

abbrev pub unwritten_of : WriteFault → AppendError
unwritten_of write.Failed = append.Write
unwritten_of write.Memory = append.Memory

-- why a plan gave no value
abbrev pub why_not_loaded : LoadError → plans.Halt store.Refusal
why_not_loaded load.Read = plans.Faulted disk.ReadFault
why_not_loaded load.Write = plans.Faulted disk.WriteFault
why_not_loaded (load.Limit size) = plans.Refused (store.Limit size)
why_not_loaded (load.At place) = plans.Refused (store.At place.0)
why_not_loaded load.Memory = plans.Faulted disk.Memory

abbrev pub why_not_appended : AppendError → plans.Halt store.Refusal
why_not_appended append.Read = plans.Faulted disk.ReadFault
why_not_appended append.Write = plans.Faulted disk.WriteFault
why_not_appended (append.Limit size) = plans.Refused (store.Limit size)
why_not_appended append.Memory = plans.Faulted disk.Memory

-- what a load gave, and a birth or an append
abbrev pub loaded : {X Y : Type 0} → (X → Y) → Result X LoadError → Result Y (plans.Halt store.Refusal)
loaded view (Ok x) = Ok (view x)
loaded view (Err e) = Err (why_not_loaded e)

abbrev pub appended : {X Y : Type 0} → (X → Y) → Result X AppendError → Result Y (plans.Halt store.Refusal)
appended view (Ok x) = Ok (view x)
appended view (Err e) = Err (why_not_appended e)

-- what calls that write gave
abbrev pub wrote : Result (Unit {0}) WriteFault → Result (Unit {0}) (plans.Halt store.Refusal)
wrote (Ok x) = Ok tt
wrote (Err e) = Err (plans.Faulted (write_fault_of e))

-- A step that calls no file and takes no memory gives what the plan gives, its value or its refusal.
abbrev pub Settles : {X Y : Type 0} → (X → Y) → Result X LoadError → store.Work Y → Type 0
Settles view (Ok x) plan = plan ≡ plans.Done (view x)
Settles view (Err (load.Limit size)) plan = plan ≡ plans.Refuse (store.Limit size)
Settles view (Err (load.At place)) plan = plan ≡ plans.Refuse (store.At place.0)
Settles view (Err load.Read) plan = ⊥
Settles view (Err load.Write) plan = ⊥
Settles view (Err load.Memory) plan = ⊥

-- The same of a size that is asked to be within the limit.
abbrev pub Permits : Result (Unit {0}) AppendError → store.Work (Unit {0}) → Type 0
Permits (Ok x) plan = plan ≡ plans.Done tt
Permits (Err (append.Limit size)) plan = plan ≡ plans.Refuse (store.Limit size)
Permits (Err append.Read) plan = ⊥
Permits (Err append.Write) plan = ⊥
Permits (Err append.Memory) plan = ⊥

-- A log grows to this size where it may; it is refused exactly past the limit.
abbrev pub Extends : ℕ → Result (Unit {0}) AppendError → Type 0
Extends size (Ok x) = size ≤ most_log
Extends size (Err (append.Limit found)) = (found ≡ size) × (most_log < size)
Extends size (Err append.Read) = ⊥
Extends size (Err append.Write) = ⊥
Extends size (Err append.Memory) = Unit {0}

abbrev pub birth_of : declared_front.Front → Birth
birth_of f = record { asn = f.asn; root = f.root.0 }
