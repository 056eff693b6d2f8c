use Rattle.std.proofs.Common.{rules, sym, ◌∙◌, ap}
use Rattle.nr_ports.specs.Ports.{Stored}
use Rattle.nr_ports.proofs.Names.{found, missing}
use Rattle.nr_ports.proofs.stored.find.Goals as goal

pub returns-in-Some : goal.returns-in-Some
returns-in-Some c = c.bytes.ensures ∙ sym (ap (λ (s : Stored). s.file) (found c.args.name.now c.args.files.now c.in-Some.place c.index-files-place.result (search rules) (search rules)).stored)

pub returns-in-None : goal.returns-in-None
returns-in-None c = sym (ap (λ (s : Stored). s.file) (missing c.args.name.now c.args.files.now (search rules)).stored)
