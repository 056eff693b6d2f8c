use Rattle.nr_chain.specs.Views.{entry_of}
use Rattle.nr_store.proofs.Left.{left-more, left-fault, no_fault}
use Rattle.nr_store.proofs.entries.give.Goals as goal

pub unreachable-requires : goal.unreachable-requires
unreachable-requires c = no_fault _ _ c.requires.read (left-fault c.args.left.now.last c.args.left.now.count c.args.left.now.part c.args.left.now.fuel c.args.left.now.beyond _ c.requires.count c.requires.bytes c.in-Err.ensures.value)

pub returns : goal.returns
returns c = left-more c.args.left.now.last c.args.left.now.count c.args.left.now.part c.args.left.now.fuel c.args.left.now.beyond (entry_of c.in-Ok.entry) c.read_entry.new.cursor c.requires.count c.requires.bytes c.in-Ok.ensures.value
