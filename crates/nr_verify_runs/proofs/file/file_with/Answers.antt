use Rattle.std.proofs.Common.{sym, ◌∙◌}
use Rattle.nr_verify_runs.proofs.Files.{place_is}
use Rattle.nr_verify_runs.proofs.file.file_with.Goals as goal

pub returns-in-Some : goal.returns-in-Some
returns-in-Some c = sym c.in-Some.is ∙ c.place_of.ensures.value ∙ sym (place_is c.args.digest.now.0 c.args.files.now)

pub returns-in-None : goal.returns-in-None
returns-in-None c = sym c.in-None.is ∙ c.place_of.ensures.value ∙ sym (place_is c.args.digest.now.0 c.args.files.now)
