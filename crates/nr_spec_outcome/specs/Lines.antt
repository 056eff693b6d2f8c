-- The text of a report by these promise files.
use Rattle.std.specs.Prelude.{ℕ, [], ◌∷◌, ◌++◌, List, None, Option, Some, codes}
use Rattle.std.specs.List.{flat_map}
use Rattle.std.specs.Fmt.{decimal}
use Rattle.nr_spec_bgp.specs.PrefixText.{cidr_text}
use Rattle.nr_spec_history.specs.Lines.{conflict_line, line}
use Rattle.nr_spec_counts.specs.declared.cause.Cause.{Cause}
use Rattle.nr_spec_counts.specs.declared.cause.Cause.TheVariants as causes
use Rattle.nr_spec_typing.specs.declared.text.Promise.{Promise}
use Rattle.nr_spec_report.specs.Wrong.{WrongEntry}
use Rattle.nr_spec_report.specs.Claims.{Claim}
use Rattle.nr_spec_runs.specs.Runs.{Run}
use Rattle.nr_spec_promises.specs.Files.{PromiseFile}
use Rattle.nr_spec_promises.specs.Broken.{promise_at}
use Rattle.nr_spec_outcome.specs.Report.{Report, claims_of}

-- the word for a cause
abbrev pub cause_word : Cause → List ℕ
cause_word causes.Content = codes "content"
cause_word causes.First = codes "first"
cause_word causes.Neighbour = codes "neighbour"
cause_word causes.Ack = codes "ack"
cause_word causes.Leaf = codes "leaf"
cause_word causes.Checkpoint = codes "checkpoint"
cause_word causes.Numbers = codes "numbers"
cause_word causes.Overdue = codes "overdue"

abbrev pub wrong_line : WrongEntry → List ℕ
wrong_line w = line (codes "wrong" ∷ decimal w.seq ∷ cause_word w.cause ∷ [])

-- the name of a promise, which its file gives it
abbrev pub name_of : Option Promise → List ℕ
name_of None = []
name_of (Some promise) = promise.name

-- the promise's name, the prefix, and when the run begins and ends
abbrev pub broken_line : List PromiseFile → Run → List ℕ
broken_line files r =
    line (codes "broken" ∷ name_of (promise_at files r.key) ∷ cidr_text r.key.prefix
    ∷ decimal r.span.begin ∷ decimal r.span.end ∷ [])

-- one line for each member of the report, in order
abbrev pub report_lines : List PromiseFile → Report → List ℕ
report_lines files report =
    flat_map conflict_line report.conflicts ++ flat_map wrong_line report.wrong
    ++ flat_map (broken_line files) report.broken

abbrev pub lines_or_clean : List Claim → List ℕ → List ℕ
lines_or_clean [] lines = line (codes "clean" ∷ [])
lines_or_clean (claim ∷ others) lines = lines

-- its lines, or the one line `clean` where it is empty
abbrev pub report_text : List PromiseFile → Report → List ℕ
report_text files report = lines_or_clean (claims_of report) (report_lines files report)
