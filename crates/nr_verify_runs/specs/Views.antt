-- What this crate's types stand for in the definitions.
use Rattle.std.specs.Prelude.{ℕ, List, Option, map}
use Rattle.nr_spec_typing.specs.Declarations.{TypedText}
use Rattle.nr_spec_promises.specs.Files.{PromiseFile}
use Rattle.nr_evidence.specs.Views.{period_of}
use Rattle.nr_verify_runs.specs.declared.file.Text.{Text}
use Rattle.nr_verify_runs.specs.declared.charge.Charge as declared
use Rattle.nr_verify_runs.specs.Walked.{Charge}

abbrev pub file_of : Text → PromiseFile
file_of t = record { digest = t.digest.0; promises = t.promises.now }

abbrev pub files_in : List Text → List PromiseFile
files_in texts = map file_of texts

-- what a text says
abbrev pub says_of : Text → TypedText
says_of t = record { network = t.network; commit = t.delay; neighbours = t.neighbours.now; promises = t.promises.now }

abbrev pub says_in : List Text → List TypedText
says_in texts = map says_of texts

abbrev pub charge_of : Option (List ℕ) → declared.Charge → Charge
charge_of first c = record {
  files = files_in c.texts.now;
  first = first;
  file = c.file;
  neighbours = c.neighbours.now;
  promise = c.promise.now;
  prefix = c.prefix;
  period = period_of c.period;
}
