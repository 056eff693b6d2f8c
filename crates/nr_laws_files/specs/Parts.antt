-- The parts of authenticators, entries and answers that are bytes.
use Rattle.std.specs.Prelude.{List, Option, Some, None, ℕ}
use Rattle.std.specs.List.{AllByRecursion}
use Rattle.nr_spec_wire.specs.Reading.{IsBytes}
use Rattle.nr_spec_log.specs.Chain.{LogEntry}
use Rattle.nr_spec_log.specs.Authenticator.{Authenticator}
use Rattle.nr_spec_log.specs.Answer.{AnswerFile}

-- the hash, and the pairs and the path of the signature
pub record HasBytes (a : Authenticator) : Type 0 where
  pub hash : IsBytes a.hash
  pub pairs : IsBytes a.sig.pairs
  pub path : IsBytes a.sig.path

abbrev pub HasContent : LogEntry → Type 0
HasContent e = IsBytes e.content

abbrev pub HasBody : Option (List ℕ) → Type 0
HasBody None = Unit {0}
HasBody (Some body) = IsBytes body

pub record HasParts (a : AnswerFile) : Type 0 where
  pub prev : IsBytes a.prev
  pub body : HasBody a.body
  pub entries : AllByRecursion HasContent a.entries
  pub head : HasBytes a.head
