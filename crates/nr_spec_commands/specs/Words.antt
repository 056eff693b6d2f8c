-- The words of the command line: which lists of words are taken, and what they ask for.
use Rattle.std.specs.Prelude.{ℕ, Bool, true, false, ◌&&◌, not, nat_le, if◌then◌else◌, List, [], ◌∷◌, length, slice_get, Option, None, Some, codes, option_map}
use Rattle.std.specs.List.{list_any}
use Rattle.std.specs.Result.{result_ok}
use Rattle.std.specs.Str.{bytes_eq, all_ascii_digits}
use Rattle.std.specs.Str.Parse.{digits_value}
use Rattle.hex.specs.Hex.{decode_sized}
use Rattle.nr_spec_wire.specs.Optional.{◌>>=◌}
use Rattle.nr_spec_history.specs.Conflicts.{Period}
use Rattle.nr_words.specs.Grammar.{Grammar, OptionRule, Values, values_in}

-- ---- numbers

-- the greatest number that a word may write
abbrev pub most_number : ℕ
most_number = 9223372036854775807

-- one to nineteen decimal digits
abbrev pub is_decimal : List ℕ → Bool
is_decimal word = nat_le 1 (length word) && (nat_le (length word) 19 && all_ascii_digits word)

abbrev pub number_in : List ℕ → Option ℕ
number_in word =
    if is_decimal word && nat_le (digits_value 10 word) most_number then Some (digits_value 10 word) else None

-- from one number to another that isn't below it
abbrev pub period_between : ℕ → ℕ → Option Period
period_between from to = if nat_le from to then Some (record { from = from; to = to }) else None

-- a number that isn't below the least nor above the most
abbrev pub number_from : ℕ → ℕ → List ℕ → Option ℕ
number_from least most word = number_in word >>= λ n. if nat_le least n && nat_le n most then Some n else None

-- ---- roots

-- the 32 bytes of 64 hexadecimal digits, of either case
abbrev pub root_in : List ℕ → Option (List ℕ)
root_in word = result_ok (decode_sized word 32)

-- ---- commands

-- the value of the option at a place of the grammar
abbrev pub value_at : Values → ℕ → Option (List ℕ)
value_at values at = slice_get values.options at >>= λ value. value

-- the option `--NAME VALUE`, which has to be given
abbrev pub required : List ℕ → OptionRule
required name = record { name = name; required = true }

-- the option `--NAME VALUE`, which may be given
abbrev pub optional : List ℕ → OptionRule
optional name = record { name = name; required = false }

-- no two of these names are equal
abbrev pub are_apart : List (List ℕ) → Bool
are_apart [] = true
are_apart (name ∷ others) = not (list_any (bytes_eq name) others) && are_apart others

-- the name that an option gives, where it is given
abbrev pub named : Option (List ℕ) → List (List ℕ)
named None = []
named (Some name) = name ∷ []

-- `audit --root HEX --promise F --answer F --auths F --from N --to N [--evidence F]`
abbrev pub audit_grammar : Grammar
audit_grammar = record {
  command = codes "audit";
  options =
      required (codes "root") ∷ required (codes "promise") ∷ required (codes "answer") ∷ required (codes "auths")
      ∷ required (codes "from") ∷ required (codes "to") ∷ optional (codes "evidence") ∷ [];
  files = false;
}

-- what `audit` is asked for: the root of the audited network, the names of three files, a period, and the name of the
-- evidence file, if one is given
pub record AuditRequest : Type 0 where
  pub root : List ℕ
  pub promise : List ℕ
  pub answer : List ℕ
  pub auths : List ℕ
  pub period : Period
  pub evidence : Option (List ℕ)

-- Two equal file words aren't taken, nor is a period that runs back.
unfoldable pub audit_in : Values → Option AuditRequest
audit_in values = do
  root_word ← value_at values 0
  promise ← value_at values 1
  answer ← value_at values 2
  auths ← value_at values 3
  from_word ← value_at values 4
  to_word ← value_at values 5
  root ← root_in root_word
  from ← number_in from_word
  to ← number_in to_word
  period ← period_between from to
  if are_apart (promise ∷ answer ∷ auths ∷ named (value_at values 6))
      then Some (record {
        root = root;
        promise = promise;
        answer = answer;
        auths = auths;
        period = period;
        evidence = value_at values 6;
      })
      else None

-- `keygen --as N --height N --seed F --key F`
abbrev pub keygen_grammar : Grammar
keygen_grammar = record {
  command = codes "keygen";
  options = required (codes "as") ∷ required (codes "height") ∷ required (codes "seed") ∷ required (codes "key") ∷ [];
  files = false;
}

-- what `keygen` is asked for: a key for this AS, whose tree has this height, and the names of two files
pub record KeygenRequest : Type 0 where
  pub asn : ℕ
  pub height : ℕ
  pub seed : List ℕ
  pub key : List ℕ

abbrev pub most_asn : ℕ
most_asn = 4294967295

abbrev pub most_height : ℕ
most_height = 16

-- Two equal file words aren't taken.
unfoldable pub keygen_in : Values → Option KeygenRequest
keygen_in values = do
  asn_word ← value_at values 0
  height_word ← value_at values 1
  seed ← value_at values 2
  key ← value_at values 3
  asn ← number_from 0 most_asn asn_word
  height ← number_from 1 most_height height_word
  if bytes_eq seed key then None else Some (record { asn = asn; height = height; seed = seed; key = key })

-- `check --promise F`
abbrev pub check_grammar : Grammar
check_grammar = record { command = codes "check"; options = required (codes "promise") ∷ []; files = false }

-- what `check` is asked for: the name of a promise file
pub record CheckRequest : Type 0 where
  pub promise : List ℕ

unfoldable pub check_in : Values → Option CheckRequest
check_in values = do
  promise ← value_at values 0
  Some (record { promise = promise })

-- `record --promise F --key F --log F [--until N] [MRT files]`
abbrev pub record_grammar : Grammar
record_grammar = record {
  command = codes "record";
  options =
      required (codes "promise") ∷ required (codes "key") ∷ required (codes "log") ∷ optional (codes "until") ∷ [];
  files = true;
}

-- what `record` is asked for: the names of a promise file, a key file, a log and MRT files, and a time for the end, if
-- one is given
pub record RecordRequest : Type 0 where
  pub promise : List ℕ
  pub key : List ℕ
  pub log : List ℕ
  pub until : Option ℕ
  pub files : List (List ℕ)

-- the number of an option, which may be absent; nothing where its word writes none
abbrev pub until_in : Option (List ℕ) → Option (Option ℕ)
until_in None = Some None
until_in (Some word) = option_map Some (number_in word)

-- Two equal file words aren't taken.
unfoldable pub record_in : Values → Option RecordRequest
record_in values = do
  promise ← value_at values 0
  key ← value_at values 1
  log ← value_at values 2
  until ← until_in (value_at values 3)
  if are_apart (promise ∷ key ∷ log ∷ values.files)
      then Some (record { promise = promise; key = key; log = log; until = until; files = values.files })
      else None

-- `answer --key F --log F --out F`
abbrev pub answer_grammar : Grammar
answer_grammar = record {
  command = codes "answer";
  options = required (codes "key") ∷ required (codes "log") ∷ required (codes "out") ∷ [];
  files = false;
}

-- what `answer` is asked for: the names of a key file, of a log, and of the answer file
pub record AnswerRequest : Type 0 where
  pub key : List ℕ
  pub log : List ℕ
  pub out : List ℕ

-- Two equal file words aren't taken.
unfoldable pub answer_in : Values → Option AnswerRequest
answer_in values = do
  key ← value_at values 0
  log ← value_at values 1
  out ← value_at values 2
  if are_apart (key ∷ log ∷ out ∷ []) then Some (record { key = key; log = log; out = out }) else None

-- `verify --root HEX --evidence F`
abbrev pub verify_grammar : Grammar
verify_grammar = record {
  command = codes "verify";
  options = required (codes "root") ∷ required (codes "evidence") ∷ [];
  files = false;
}

-- what `verify` is asked for: the root of a network's key, and the name of a file of evidence
pub record VerifyRequest : Type 0 where
  pub root : List ℕ
  pub evidence : List ℕ

unfoldable pub verify_in : Values → Option VerifyRequest
verify_in values = do
  root_word ← value_at values 0
  evidence ← value_at values 1
  root ← root_in root_word
  Some (record { root = root; evidence = evidence })

-- `collect --frames F --as N --out F`
abbrev pub collect_grammar : Grammar
collect_grammar = record {
  command = codes "collect";
  options = required (codes "frames") ∷ required (codes "as") ∷ required (codes "out") ∷ [];
  files = false;
}

-- what `collect` is asked for: the name of a file of frames, the AS from which they are, and the name of the
-- authenticator file
pub record CollectRequest : Type 0 where
  pub frames : List ℕ
  pub asn : ℕ
  pub out : List ℕ

-- Two equal file words aren't taken.
unfoldable pub collect_in : Values → Option CollectRequest
collect_in values = do
  frames ← value_at values 0
  asn_word ← value_at values 1
  out ← value_at values 2
  asn ← number_from 0 most_asn asn_word
  if bytes_eq frames out then None else Some (record { frames = frames; asn = asn; out = out })

-- ---- the table of commands

pub data Request : Type 0 where
  Audit : (audit : AuditRequest) → Request
  Keygen : (keygen : KeygenRequest) → Request
  Check : (check : CheckRequest) → Request
  Record : (recording : RecordRequest) → Request
  Answer : (answer : AnswerRequest) → Request
  Verify : (verifying : VerifyRequest) → Request
  Collect : (collecting : CollectRequest) → Request

abbrev pub audit_request : List (List ℕ) → Option Request
audit_request words = values_in audit_grammar words >>= λ values. audit_in values >>= λ audit. Some (Audit audit)

abbrev pub keygen_request : List (List ℕ) → Option Request
keygen_request words = values_in keygen_grammar words >>= λ values. keygen_in values >>= λ keygen. Some (Keygen keygen)

abbrev pub check_request : List (List ℕ) → Option Request
check_request words = values_in check_grammar words >>= λ values. check_in values >>= λ check. Some (Check check)

abbrev pub record_request : List (List ℕ) → Option Request
record_request words =
    values_in record_grammar words >>= λ values. record_in values >>= λ recording. Some (Record recording)

abbrev pub answer_request : List (List ℕ) → Option Request
answer_request words = values_in answer_grammar words >>= λ values. answer_in values >>= λ answer. Some (Answer answer)

abbrev pub verify_request : List (List ℕ) → Option Request
verify_request words =
    values_in verify_grammar words >>= λ values. verify_in values >>= λ verifying. Some (Verify verifying)

abbrev pub collect_request : List (List ℕ) → Option Request
collect_request words =
    values_in collect_grammar words >>= λ values. collect_in values >>= λ collecting. Some (Collect collecting)

-- what the words ask for, by the command word, which stands first
unfoldable pub request_in : List (List ℕ) → Option Request
request_in [] = None
request_in (command ∷ words) =
    if bytes_eq command (codes "audit") then audit_request (command ∷ words)
    else if bytes_eq command (codes "keygen") then keygen_request (command ∷ words)
    else if bytes_eq command (codes "check") then check_request (command ∷ words)
    else if bytes_eq command (codes "record") then record_request (command ∷ words)
    else if bytes_eq command (codes "answer") then answer_request (command ∷ words)
    else if bytes_eq command (codes "verify") then verify_request (command ∷ words)
    else if bytes_eq command (codes "collect") then collect_request (command ∷ words)
    else None
