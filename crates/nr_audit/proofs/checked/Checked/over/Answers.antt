use Rattle.std.proofs.Common.{ap}
use Rattle.std.specs.Prelude.{map}
use Rattle.nr_audit.specs.Views.{wrong_of}
use Rattle.nr_audit.proofs.Rooms.{kept_before}
use Rattle.nr_audit.proofs.checked.Checked.over.Goals as goal

pub returns : goal.returns
returns c = λ files promises truth base period opening first before file. record {
  judged = c.over.ensures promises truth period base opening before.rows file;
  kept = kept_before base.tally c.args.counts before.kept;
  wrong = ap (map wrong_of) c.new.ensures.items;
}
