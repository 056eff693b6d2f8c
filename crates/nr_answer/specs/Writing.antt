-- What is written of an answer.
use Rattle.std.specs.Prelude.{◌≡◌, ℕ, ◌<◌, ◌≤◌, ◌++◌, List, Option, Result, Ok, Err, length, ⊤}
use Rattle.std.specs.List.{flat_map}
use Rattle.byteorder.specs.Endian.{big_bytes}
use Rattle.nr_spec_log.specs.Chain.{LogEntry}
use Rattle.nr_spec_log.specs.Authenticator.{authenticator}
use Rattle.nr_spec_log.specs.Answer.{AnswerFile, answer_magic, body_field, entry}
use Rattle.nr_answer.specs.declared.writing.WriteError.{WriteError}
use Rattle.nr_answer.specs.declared.writing.WriteError.TheVariants.{TooLong, Memory}

-- the answer has these parts, and this is the spelling of its head
pub record IsMadeOf (a : AnswerFile) (asn first : ℕ) (prev : List ℕ) (body : Option (List ℕ))
    (entries : List LogEntry) (head : List ℕ) : Type 0 where
  pub asn_is : a.asn ≡ asn
  pub first_is : a.first ≡ first
  pub prev_is : a.prev ≡ prev
  pub body_is : a.body ≡ body
  pub entries_are : a.entries ≡ entries
  pub head_is : authenticator a.head ≡ head

-- the greatest size of an answer file in bytes
abbrev pub most_answer : ℕ
most_answer = 2147483647

-- This text is written, or it is longer than a file may be and the error tells its length; memory may always run out.
abbrev pub Writes : {V : Type 0} → (V → List ℕ) → Result V WriteError → List ℕ → Type 0
Writes bytes (Ok out) text = (bytes out ≡ text) × (length text ≤ most_answer)
Writes bytes (Err (TooLong n)) text = (n ≡ length text) × (most_answer < length text)
Writes bytes (Err Memory) text = ⊤

-- what stands before the body
abbrev pub front_text : ℕ → ℕ → List ℕ → List ℕ
front_text asn first prev = answer_magic ++ (big_bytes 4 asn ++ (big_bytes 8 first ++ prev))

-- the spelling of an answer of these parts, the head as it is spelled
abbrev pub text_of : ℕ → ℕ → List ℕ → Option (List ℕ) → List LogEntry → List ℕ → List ℕ
text_of asn first prev body entries head =
    answer_magic ++ (big_bytes 4 asn ++ (big_bytes 8 first ++ (prev ++ (body_field body
    ++ (big_bytes 4 (length entries) ++ (flat_map entry entries ++ head))))))
