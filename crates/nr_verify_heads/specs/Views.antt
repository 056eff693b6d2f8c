-- What this crate's types stand for in the definitions.
use Rattle.std.specs.Prelude.{List, Option, Result, map, option_map}
use Rattle.std.specs.Result.{result_err}
use Rattle.nr_chain.specs.Views.{digest_bytes}
use Rattle.nr_spec_counts.specs.Tallies.{Numbers}
use Rattle.nr_spec_outcome.specs.Outcome.{Audited, Fact, Form, Head, Network, Promise, Short, Unsigned}
use Rattle.nr_verify_runs.specs.declared.file.Text.{Text}
use Rattle.nr_verify_heads.specs.declared.refusal.Refusal.{Refusal}
use Rattle.nr_verify_heads.specs.declared.refusal.Refusal.TheVariants as refusal

abbrev pub numbers_of : Text → Numbers
numbers_of t = record { digest = t.digest.0; count = t.count; delay = t.delay }

abbrev pub numbers_in : List Text → List Numbers
numbers_in texts = map numbers_of texts

abbrev pub audited_of : Text → Audited
audited_of t = record { network = t.network; numbers = numbers_of t; promises = t.promises.now }

abbrev pub audited_in : List Text → List Audited
audited_in texts = map audited_of texts

abbrev pub fact_of : Refusal → Fact
fact_of refusal.Form = Form
fact_of (refusal.Network answer promise) = Network answer promise
fact_of refusal.Unsigned = Unsigned
fact_of (refusal.Head head chain) = Head head.0 chain.0
fact_of (refusal.Short head to) = Short head to
fact_of (refusal.Promise found file) = Promise (option_map digest_bytes found) file.0

-- the fact that was told, where one was
abbrev pub told : {A : Type 0} → Result A Refusal → Option Fact
told result = option_map fact_of (result_err result)
