-- What the endings of the code stand for in the definitions.
use Rattle.std.specs.Prelude.{◌≡◌, ℕ, List}
use Rattle.nr_spec_history.specs.KeyFiles.{Key}
use Rattle.nr_spec_promises.specs.Files.{PromiseFile}
use Rattle.nr_spec_outcome.specs.Report.{Report}
use Rattle.nr_spec_outcome.specs.Lines.{report_lines}
use Rattle.nr_lamport.specs.declared.seed.Seed.{Seed}
use Rattle.nr_requests.specs.declared.key_request.KeygenRequest.{KeygenRequest}
use Rattle.nr_spec_program.specs.Command as command

-- the key of a request with a seed
abbrev pub key_of : KeygenRequest → Seed → Key
key_of q seed = record { asn = q.asn; height = q.height; seed = seed.0 }

-- the ending of the report that has these lines by promise files
abbrev pub Reports : List ℕ → command.Ending → Type 0
Reports lines e =
    (promises : List PromiseFile) (report : Report) → lines ≡ report_lines promises report
    → e ≡ command.report_ending promises report
