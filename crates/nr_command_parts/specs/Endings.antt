-- What the endings of the code stand for in the definitions.
use Rattle.nr_spec_program.specs.Command as command
use Rattle.nr_command_parts.specs.declared.ending.Ending as declared_ending
use Rattle.nr_command_parts.specs.declared.ending.Fixed as declared_fixed

abbrev pub ending_of : declared_ending.Ending → command.Ending
ending_of e = record { status = e.status; text = e.text.items }

abbrev pub fixed_of : declared_fixed.Fixed → command.Ending
fixed_of e = record { status = e.status; text = e.text.now }
