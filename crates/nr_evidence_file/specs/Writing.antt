-- What is written of evidence.
use Rattle.std.specs.Prelude.{◌≡◌, ℕ, ◌<◌, ◌≤◌, ◌++◌, List, Result, Ok, Err, length, ⊤}
use Rattle.std.specs.List.{flat_map}
use Rattle.byteorder.specs.Endian.{big_bytes}
use Rattle.nr_spec_history.specs.Conflicts.{Period}
use Rattle.nr_spec_report.specs.Claims.{Claim}
use Rattle.nr_spec_evidence.specs.Evidence.{claim_bytes, evidence_file, evidence_front, most_evidence, sized}
use Rattle.nr_evidence_file.specs.declared.writing.Parts.{Parts}
use Rattle.nr_evidence_file.specs.declared.writing.WriteError.{WriteError}
use Rattle.nr_evidence_file.specs.declared.writing.WriteError.TheVariants.{TooLong, Memory}

-- what stands between the answer's bytes and the claims
abbrev pub middle_text : (promise : List ℕ) → Period → (count : ℕ) → List ℕ
middle_text promise period count =
    sized promise ++ (big_bytes 8 period.from ++ (big_bytes 8 period.to ++ big_bytes 4 count))

-- the text of a file of these pieces
abbrev pub parts_of : Parts → (answer : List ℕ) → List ℕ
parts_of parts answer = parts.front.items ++ (answer ++ (parts.middle.items ++ parts.claims.items))

-- the evidence of these values
abbrev pub evidence_text : (answer promise : List ℕ) → Period → List Claim → List ℕ
evidence_text answer promise period claims =
    evidence_file (record { answer = answer; promise = promise; period = period; claims = claims })

-- An evidence file of these values is longer than one may be, and the error says how long; or memory ran out.
abbrev pub SaysWhy : WriteError → (text : List ℕ) → Type 0
SaysWhy (TooLong n) text = (n ≡ length text) × (most_evidence < length text)
SaysWhy Memory text = ⊤

-- The pieces of an evidence file, each as it is spelled.
pub record ArePieces (parts : Parts) (answer promise : List ℕ) (period : Period) (claims : List Claim) : Type 0 where
  pub front : parts.front.items ≡ evidence_front answer
  pub middle : parts.middle.items ≡ middle_text promise period (length claims)
  pub claims_are : parts.claims.items ≡ flat_map claim_bytes claims
  pub fits : length (evidence_text answer promise period claims) ≤ most_evidence

abbrev pub WritesParts : Result Parts WriteError → (answer promise : List ℕ) → Period → List Claim → Type 0
WritesParts (Ok parts) answer promise period claims = ArePieces parts answer promise period claims
WritesParts (Err e) answer promise period claims = SaysWhy e (evidence_text answer promise period claims)

-- The text is written, or the error says why it isn't.
abbrev pub Writes : {V : Type 0} → (V → List ℕ) → Result V WriteError → (text : List ℕ) → Type 0
Writes bytes (Ok out) text = (bytes out ≡ text) × (length text ≤ most_evidence)
Writes bytes (Err e) text = SaysWhy e text
