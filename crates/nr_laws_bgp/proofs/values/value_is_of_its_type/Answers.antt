use Rattle.nr_laws_bgp.proofs.ValueReading.{value_found, value_again}
use Rattle.nr_laws_bgp.proofs.values.value_is_of_its_type.Goals as goal

pub returns-clause-tested : goal.returns-clause-tested
returns-clause-tested c = value_found

pub returns-clause-passes : goal.returns-clause-passes
returns-clause-passes c = value_again
