-- What a promise file says, or the place of its first fault.
use Rattle.std.specs.Prelude.{ℕ, List, length, Result, Ok}
use Rattle.sha2.specs.Sha256.{sha256}
use Rattle.nr_spec_wire.specs.Reading.{◌>>=◌}
use Rattle.nr_rule_syntax.specs.declared.tree.File.{File}
use Rattle.nr_rule_syntax.specs.Reading.{file_of}
use Rattle.nr_spec_typing.specs.Declarations.{TypedText, typed_text}
use Rattle.nr_spec_counts.specs.Tallies.{Numbers}
use Rattle.nr_spec_outcome.specs.Outcome.{Audited}

pub record PromiseFile : Type 0 where
  pub text : List ℕ
  -- the SHA-256 of its text
  pub digest : List ℕ
  -- the tree of its text
  pub file : File
  -- what that says, with its names resolved
  pub says : TypedText

-- The fault is at the first token that the grammar refuses, and only where there is none at the first that the typing
-- refuses.
unfoldable pub promise_of : List ℕ → Result PromiseFile ℕ
promise_of text = do
  file ← file_of text
  says ← typed_text file
  Ok (record { text = text; digest = sha256 text; file = file; says = says })

-- what a PROMISE of it has: its digest, how many neighbours it declares, and its commit delay in seconds
abbrev pub numbers_in : PromiseFile → Numbers
numbers_in p = record { digest = p.digest; count = length p.says.neighbours; delay = p.says.commit }

-- what an audit goes by
abbrev pub audited_by : PromiseFile → Audited
audited_by p = record { network = p.says.network; numbers = numbers_in p; promises = p.says.promises }
