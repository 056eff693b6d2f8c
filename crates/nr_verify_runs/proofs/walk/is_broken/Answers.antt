use Rattle.std.proofs.Common.{sym}
use Rattle.nr_spec_report.specs.Wrong.{nothing_before}
use Rattle.nr_spec_runs.specs.Runs.{key_of}
use Rattle.nr_spec_truth.specs.Truths.{meant}
use Rattle.nr_evidence.specs.Views.{period_of}
use Rattle.nr_verify_runs.specs.Views.{files_in, says_in}
use Rattle.nr_verify_runs.proofs.Claimed.{no_text, untold}
use Rattle.nr_verify_runs.proofs.walk.is_broken.Goals as goal

pub returns-in-None : goal.returns-in-None
returns-in-None c =
    sym (untold (files_in c.args.texts.now) (meant (says_in c.args.texts.now)) nothing_before (period_of c.args.period.now) c.args.entries (key_of c.args.file c.args.promise c.args.prefix)
    (record { begin = c.args.begin; end = c.args.end }) (no_text c.args.texts.now c.args.file c.args.promise c.args.prefix (sym c.in-None.ensures)))
