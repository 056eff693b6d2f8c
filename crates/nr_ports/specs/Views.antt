-- What this crate's answers stand for in the definitions.
use Rattle.std.specs.Prelude.{ℕ, List, Result, Ok, Err}
use Rattle.std.specs.Global.{Vec}
use Rattle.nr_spec_plans.specs.Disk as disk
use Rattle.nr_ports.specs.declared.fault.Failed.{Failed}
use Rattle.nr_ports.specs.declared.fault.ReadFault.{ReadFault}
use Rattle.nr_ports.specs.declared.fault.ReadFault.TheVariants as reads
use Rattle.nr_ports.specs.declared.fault.WriteFault.{WriteFault}
use Rattle.nr_ports.specs.declared.fault.WriteFault.TheVariants as write

abbrev pub read_fault_of : ReadFault → disk.Fault
read_fault_of reads.Failed = disk.ReadFault
read_fault_of reads.Memory = disk.Memory

abbrev pub write_fault_of : WriteFault → disk.Fault
write_fault_of write.Failed = disk.WriteFault
write_fault_of write.Memory = disk.Memory

-- of a call that reads
abbrev pub by_reading : {A : Type 0} → Result A Failed → Result A disk.Fault
by_reading (Ok x) = Ok x
by_reading (Err e) = Err disk.ReadFault

-- of a call that writes
abbrev pub by_writing : {A : Type 0} → Result A WriteFault → Result A disk.Fault
by_writing (Ok x) = Ok x
by_writing (Err e) = Err (write_fault_of e)

-- of reading a whole file
abbrev pub by_whole : Result (Vec ℕ) ReadFault → Result (List ℕ) disk.Fault
by_whole (Ok bytes) = Ok bytes.items
by_whole (Err e) = Err (read_fault_of e)
