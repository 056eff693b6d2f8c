use Rattle.std.specs.Prelude.{map}
use Rattle.std.specs.Option.{option_map}
use Rattle.nr_chain.specs.Views.{digest_bytes, entry_of}
use Rattle.nr_discipline.specs.Views.{numbers_of}
use Rattle.nr_evidence.specs.Views.{period_of}
use Rattle.nr_audit.proofs.Seeing.{one_seen}
use Rattle.nr_audit.proofs.force.Force.take.Goals as goal

pub returns : goal.returns
returns c = λ base past seen.
    one_seen (map numbers_of c.args.files.now) base (period_of c.args.period.now) past (entry_of c.args.entry.now) (option_map digest_bytes c.promised.result) c.args.self.now c.see.new.self
    c.see.ensures c.promised.ensures seen
