use Rattle.std.proofs.Common.{◌≡◌, length, None, Some, refl, sym, subst, ◌∙◌}
use Rattle.std.specs.Prelude.{slice_get}
use Rattle.std.proofs.lemmas.Option.{slice_get_past, slice_get_read}
use Rattle.nr_runs.specs.Views.{run_of}
use Rattle.nr_commands.proofs.ReportLemmas.{file_there, no_file}
use Rattle.nr_commands.proofs.report.name_of.Goals as goal

pub returns-in-Some : goal.returns-in-Some
returns-in-Some c =
    let files = c.args.files.now in
    let file = c.in-Some.file.now in
    let there = slice_get_read files (length files) c.from.result file refl c.in-Some.ensures.lookup.3.0 c.in-Some.ensures.lookup.1 in
    c.name_in.ensures ∙ sym (file_there files (run_of c.args.run.now).key file (subst (λ n. slice_get files n ≡ Some file) c.from.ensures there))

pub returns-in-None : goal.returns-in-None
returns-in-None c =
    let files = c.args.files.now in
    sym (no_file files (run_of c.args.run.now).key (subst (λ n. slice_get files n ≡ None) c.from.ensures (slice_get_past files c.from.result c.in-None.ensures.lookup.3)))
