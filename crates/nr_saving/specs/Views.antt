-- What this crate's answers stand for in the definitions.
use Rattle.std.specs.Prelude.{Result, Ok, Err}
use Rattle.nr_spec_plans.specs.Disk as disk
use Rattle.nr_spec_plans.specs.Plans.{Halt, Refused, Faulted}
use Rattle.nr_spec_saving.specs.Saving as saving
use Rattle.nr_ports.specs.Views.{write_fault_of}
use Rattle.nr_ports.specs.declared.fault.WriteFault.{WriteFault}
use Rattle.nr_ports.specs.declared.fault.WriteFault.TheVariants as write
use Rattle.nr_evidence_file.specs.declared.writing.WriteError.{WriteError}
use Rattle.nr_evidence_file.specs.declared.writing.WriteError.TheVariants as unwritten
use Rattle.nr_saving.specs.declared.fault.SaveError.{SaveError}
use Rattle.nr_saving.specs.declared.fault.SaveError.TheVariants as save

-- why pieces that aren't made end a save, and why a call that writes does
abbrev pub unspelled_of : WriteError → SaveError
unspelled_of (unwritten.TooLong size) = save.TooLong size
unspelled_of unwritten.Memory = save.Memory

abbrev pub unsaved_of : WriteFault → SaveError
unsaved_of write.Failed = save.Failed
unsaved_of write.Memory = save.Memory

-- why a plan gave no value
abbrev pub why : SaveError → Halt saving.TooLong
why (save.TooLong size) = Refused (record { found = size })
why save.Failed = Faulted disk.WriteFault
why save.Memory = Faulted disk.Memory

-- what calls that write gave, and what saving evidence gave
abbrev pub wrote : Result (Unit {0}) WriteFault → Result (Unit {0}) (Halt saving.TooLong)
wrote (Ok x) = Ok tt
wrote (Err e) = Err (Faulted (write_fault_of e))

abbrev pub saved : Result (Unit {0}) SaveError → Result (Unit {0}) (Halt saving.TooLong)
saved (Ok x) = Ok tt
saved (Err e) = Err (why e)
