use Rattle.std.proofs.Common.{◌≤◌, length, rules, subst}
use Rattle.nr_spec_plans.specs.Disk.{bytes_of}
use Rattle.nr_ports.specs.Ports.{Stored, write_to}
use Rattle.nr_ports.proofs.Names.{found, missing, changed, added_as}
use Rattle.nr_ports.proofs.stored.write_in.Goals as goal

pub write-requires : goal.write-requires
write-requires c =
    let there = found c.args.name.now c.args.files.now.items c.in-Some.place c.index_mut.result.now (search rules) (search rules) in
    subst (λ (s : Stored). c.args.at ≤ length (bytes_of s.file)) there.stored c.requires

pub write-requires-in-None : goal.write-requires-in-None
write-requires-in-None c =
    let none = missing c.args.name.now c.args.files.now.items (search rules) in
    let room = subst (λ (s : Stored). c.args.at ≤ length (bytes_of s.file)) none.stored c.requires in
    search rules

pub returns-in_ok-write-in-Some-clause-ok : goal.returns-in_ok-write-in-Some-clause-ok
returns-in_ok-write-in-Some-clause-ok c = changed c.args.name.now c.args.files.now.items c.in-Some.place c.index_mut.result.now _ (write_to c.args.done c.args.at c.args.from.now) (search rules) (search rules) c.in_ok-write-in-Some.ensures.ok

pub returns-in_ok-push-in-None-clause-ok : goal.returns-in_ok-push-in-None-clause-ok
returns-in_ok-push-in-None-clause-ok c =
    added_as c.args.name.now c.args.files.now.items _ c.in_ok-file-in-None.file c.write-in-None.new.self (write_to c.args.done c.args.at c.args.from.now) (search rules) c.in_ok-file-in-None.ensures c.in_ok-write-in-None.ensures.ok c.in_ok-push-in-None.ensures.items
