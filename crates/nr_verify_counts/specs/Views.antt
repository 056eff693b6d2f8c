-- What this crate's types stand for in the definitions.
use Rattle.nr_spec_counts.specs.Tallies.{Numbers}
use Rattle.nr_verify_counts.specs.declared.numbers.FileNumbers.{FileNumbers}

abbrev pub numbers_of : FileNumbers → Numbers
numbers_of f = record { digest = f.digest.0; count = f.count; delay = f.delay }
