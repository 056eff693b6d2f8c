-- What a verifier answers about a file of evidence, for somebody who has only the root of a network's key.
use Rattle.std.specs.Prelude.{ℕ, ◌+◌, nat_le, if◌then◌else◌, Bool, List, [], ◌∷◌, Result, Ok, Err}
use Rattle.nr_spec_wire.specs.Reading.{◌>>=◌}
use Rattle.nr_spec_log.specs.Answer.{answer_of}
use Rattle.nr_spec_evidence.specs.Evidence.{EvidenceFile, evidence_of, answer_offset, promise_offset, to_offset}
use Rattle.nr_spec_truth.specs.Truths.{meant}
use Rattle.nr_spec_outcome.specs.Outcome.{Fact}
use Rattle.nr_spec_claims.specs.Claims.{judged}
use Rattle.nr_spec_texts.specs.Promises.{audited_by, promise_of}

-- why evidence is refused
pub data Refusal : Type 0 where
  -- the place in the file of the first malformed field
  Malformed : (place : ℕ) → Refusal
  -- the fact for which an audit of the answer is refused
  Refused : (fact : Fact) → Refusal

-- what is read of bytes that stand in the file from an offset on
abbrev pub read_from : {A : Type 0} → (offset : ℕ) → Result A ℕ → Result A Refusal
read_from offset (Ok value) = Ok value
read_from offset (Err place) = Err (Malformed (offset + place))

-- A period that runs back is malformed at the field `to`.
abbrev pub ordered : EvidenceFile → Result (Unit {0}) Refusal
ordered e = if nat_le e.period.from e.period.to then Ok tt else Err (Malformed (to_offset e.answer e.promise))

abbrev pub by_facts : {A : Type 0} → Result A Fact → Result A Refusal
by_facts (Ok value) = Ok value
by_facts (Err fact) = Err (Refused fact)

-- Of each claim whether it is true, or why the evidence is refused: by its own fields, then by what stands inside the
-- answer, then inside the promise text, then by a period that runs back, then by the facts that refuse an audit.
unfoldable pub verified : (root : List ℕ) → (bytes : List ℕ) → Result (List Bool) Refusal
verified root bytes = do
  e ← read_from 0 (evidence_of bytes)
  answer ← read_from answer_offset (answer_of e.answer)
  promise ← read_from (promise_offset e.answer) (promise_of e.promise)
  order ← ordered e
  by_facts (judged root (audited_by promise ∷ []) (meant (promise.says ∷ [])) answer e.period e.claims)
