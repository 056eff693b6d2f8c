use Rattle.std.proofs.Common.{sym}
use Rattle.nr_verify.proofs.Judging.{files_are}
use Rattle.nr_verify.proofs.claims.is_true.Goals as goal

pub returns-in-Broken : goal.returns-in-Broken
returns-in-Broken c = rw (c.in-Broken.is, files_are c.args.texts.now, sym c.entries-in-Broken.ensures.value) c.is_broken.ensures
