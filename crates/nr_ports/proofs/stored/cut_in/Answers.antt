use Rattle.std.proofs.Common.{rules, ◌≡◌, false, ◌&&◌}
use Rattle.std.specs.Prelude.{◌==◌}
use Rattle.nr_ports.specs.Ports.{cut_by}
use Rattle.nr_ports.proofs.Names.{changed, added_as, uncut}
use Rattle.nr_ports.proofs.stored.cut_in.Goals as goal

pub returns-in-Some-clause-ok : goal.returns-in-Some-clause-ok
returns-in-Some-clause-ok c = changed c.args.name.now c.args.files.now.items c.in-Some.place c.index_mut.result.now c.cut.new.self (cut_by c.args.done c.args.to) (search rules) (search rules) c.cut.ensures

pub returns-in_ok-push-in-None-clause-ok : goal.returns-in_ok-push-in-None-clause-ok
returns-in_ok-push-in-None-clause-ok c =
    added_as c.args.name.now c.args.files.now.items _ c.in_ok-file-in-None.file c.cut-in-None.new.self (cut_by c.args.done c.args.to) (search rules) c.in_ok-file-in-None.ensures c.cut-in-None.ensures c.in_ok-push-in-None.ensures.items

pub returns-else-to-eq0-clause-ok : goal.returns-else-to-eq0-clause-ok
returns-else-to-eq0-clause-ok c = uncut c.args.name.now c.args.files.now.items c.args.done c.args.to (search rules) (let h : (c.args.done && (c.args.to == 0)) ≡ false = search rules in h)

pub returns-else-done-clause-ok : goal.returns-else-done-clause-ok
returns-else-done-clause-ok c = uncut c.args.name.now c.args.files.now.items c.args.done c.args.to (search rules) (let h : (c.args.done && (c.args.to == 0)) ≡ false = search rules in h)
