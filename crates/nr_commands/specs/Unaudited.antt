-- Why an audit that gives no report ends a command.
use Rattle.nr_audit.specs.declared.refusal.Refusal as declared_unaudited
use Rattle.nr_audit.specs.declared.refusal.Refusal.TheVariants as unaudited
use Rattle.nr_slices.specs.declared.late.Late.TheVariants as found
use Rattle.nr_slices.specs.declared.auditing.SliceRefusal as declared_unsliced
use Rattle.nr_slices.specs.declared.auditing.SliceRefusal.TheVariants as unsliced
use Rattle.nr_command_parts.specs.declared.refusal.Late.TheVariants as late
use Rattle.nr_command_parts.specs.declared.refusal.Fact.{Fact}
use Rattle.nr_command_parts.specs.declared.refusal.Fact.TheVariants as fact
use Rattle.nr_command_parts.specs.declared.refusal.Refusal.TheVariants as refusal
use Rattle.nr_command_parts.specs.declared.refusal.Stop.{Stop}
use Rattle.nr_command_parts.specs.declared.refusal.Stop.TheVariants as stop

-- what refuses a command by a fact
abbrev pub by_fact : Fact → Stop
by_fact f = stop.Refused (refusal.Refused f)

abbrev pub unaudited_of : declared_unaudited.Refusal → Stop
unaudited_of (unaudited.Network answer promise) = by_fact (fact.Network answer promise)
unaudited_of unaudited.Unsigned = by_fact fact.Unsigned
unaudited_of (unaudited.Head head chain) = by_fact (fact.Head head chain)
unaudited_of (unaudited.Short head to) = by_fact (fact.Short head to)
unaudited_of (unaudited.Promise found file) = by_fact (fact.Promise found file)
unaudited_of unaudited.Memory = stop.Memory

-- the same of an audit by what stands before the answer
abbrev pub unsliced_of : declared_unsliced.SliceRefusal → Stop
unsliced_of (unsliced.Audit fault) = unaudited_of fault
unsliced_of (unsliced.Late (found.Time checkpoint from)) = stop.Refused (refusal.LateStart (late.Time checkpoint from))
unsliced_of (unsliced.Late (found.Body body entry)) = stop.Refused (refusal.LateStart (late.Body body entry))
