use Rattle.nr_mrt.specs.Writing.{ends_of}
use Rattle.nr_mrt.proofs.Lengths.{record_spelled}
use Rattle.nr_mrt.proofs.write.spell.Goals as goal

pub returns : goal.returns
returns c = rw (c.in_ok-put_body.ensures, c.in_ok-put_header.ensures, c.new-record.ensures.items) (record_spelled c.args.time c.args.local (ends_of c.args.ends) c.args.raw.now)
