-- Why evidence of whose claims nothing is told ends a command.
use Rattle.nr_verify.specs.declared.fault.VerifyError.{VerifyError}
use Rattle.nr_verify.specs.declared.fault.VerifyError.TheVariants as unverified
use Rattle.nr_verify_heads.specs.declared.refusal.Refusal as declared_refusal
use Rattle.nr_verify_heads.specs.declared.refusal.Refusal.TheVariants as unheeded
use Rattle.nr_command_parts.specs.declared.input.Input.TheVariants as input
use Rattle.nr_command_parts.specs.declared.refusal.Fact.{Fact}
use Rattle.nr_command_parts.specs.declared.refusal.Fact.TheVariants as fact
use Rattle.nr_command_parts.specs.declared.refusal.Refusal.TheVariants as refusal
use Rattle.nr_command_parts.specs.declared.refusal.Stop.{Stop}
use Rattle.nr_command_parts.specs.declared.refusal.Stop.TheVariants as stop

-- the fact for which an audit of the answer is refused
abbrev pub unrefused_of : declared_refusal.Refusal → Fact
unrefused_of unheeded.Form = fact.Form
unrefused_of (unheeded.Network answer promise) = fact.Network answer promise
unrefused_of unheeded.Unsigned = fact.Unsigned
unrefused_of (unheeded.Head head chain) = fact.Head head chain
unrefused_of (unheeded.Short head to) = fact.Short head to
unrefused_of (unheeded.Promise found file) = fact.Promise found file

abbrev pub unverified_of : VerifyError → Stop
unverified_of (unverified.Malformed place) = stop.Refused (refusal.Malformed input.Evidence place)
unverified_of (unverified.Refused r) = stop.Refused (refusal.Refused (unrefused_of r))
unverified_of unverified.Memory = stop.Memory
