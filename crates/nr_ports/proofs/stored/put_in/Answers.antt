use Rattle.std.proofs.Common.{rules}
use Rattle.nr_ports.specs.Ports.{Stored, at_rest}
use Rattle.nr_ports.proofs.Names.{changed, added_as}
use Rattle.nr_ports.proofs.stored.put_in.Goals as goal

pub returns-in-Some-clause-ok : goal.returns-in-Some-clause-ok
returns-in-Some-clause-ok c = changed c.args.name.now c.args.files.now.items c.in-Some.place c.index_mut.result.now c.replace.new.self (λ (s : Stored). at_rest c.args.bytes.items) (search rules) (search rules) c.replace.ensures

pub returns-in_ok-push-in-None-clause-ok : goal.returns-in_ok-push-in-None-clause-ok
returns-in_ok-push-in-None-clause-ok c =
    added_as c.args.name.now c.args.files.now.items _ c.in_ok-file-in-None.file c.replace-in-None.new.self (λ (s : Stored). at_rest c.args.bytes.items) (search rules) c.in_ok-file-in-None.ensures c.replace-in-None.ensures c.in_ok-push-in-None.ensures.items
