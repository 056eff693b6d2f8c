use Rattle.std.proofs.Common.{rules}
use Rattle.nr_ports.specs.Ports.{synced}
use Rattle.nr_ports.proofs.Names.{changed, unchanged}
use Rattle.nr_ports.proofs.stored.sync_in.Goals as goal

pub returns-in-Some : goal.returns-in-Some
returns-in-Some c = changed c.args.name.now c.args.files.now.items c.in-Some.place c.index_mut.result.now c.sync.new.self synced (search rules) (search rules) c.sync.ensures

pub returns-in_default : goal.returns-in_default
returns-in_default c = unchanged c.args.name.now c.args.files.now.items (search rules)
