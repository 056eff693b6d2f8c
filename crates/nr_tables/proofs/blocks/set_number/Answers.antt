use Rattle.indexmap.proofs.CallerLemmas.{keys-with_value_at}
use Rattle.nr_tables.proofs.Numbers.{number_set, unnamed_set}
use Rattle.nr_tables.proofs.blocks.set_number.Goals as goal

pub returns-clause-keys : goal.returns-clause-keys
returns-clause-keys c = keys-with_value_at c.args.places.now c.args.place c.args.number

pub returns-clause-numbers : goal.returns-clause-numbers
returns-clause-numbers c = λ i. number_set c.args.places.now.entries c.args.place c.args.number i c.requires

pub returns-clause-unnamed : goal.returns-clause-unnamed
returns-clause-unnamed c = unnamed_set c.args.places.now.entries c.args.place c.args.number c.requires
