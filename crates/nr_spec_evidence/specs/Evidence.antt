-- Evidence files: the bytes of an answer file and of a promise file, a period, and claims, which somebody who has only
-- the root of a network's key can check. Numbers have their highest byte first.
--
-- This is the evidence of one promise text, whose number in a broken claim is 0 and isn't written. Evidence of several
-- texts will be another form with another magic, in which a broken claim has the number of its text before that of its
-- promise; the claims are the same.
use Rattle.std.specs.Prelude.{◌≡◌, ℕ, ◌+◌, ◌^◌, ◌<◌, ◌≤◌, ◌&&◌, ◌==◌, nat_le, if◌then◌else◌, List, ◌++◌, length, Result, Ok, Err, codes}
use Rattle.std.specs.List.{AllByRecursion, flat_map}
use Rattle.byteorder.specs.Endian.{big_bytes}
use Rattle.nr_spec_wire.specs.Reading.{Spot, Read, ◌>>=◌, bytes_at, ends_at, number_at, start_of, wants}
use Rattle.nr_spec_bgp.specs.Prefixes.{IsCidr, masked}
use Rattle.nr_spec_log.specs.Authenticator.{IsAuthenticator, authenticator, authenticator_at, magic_at}
use Rattle.nr_spec_history.specs.Conflicts.{Period}
use Rattle.nr_spec_report.specs.Claims.{Claim, Conflict, Wrong, Broken}
use Rattle.nr_spec_evidence.specs.Counted.{counted_at}

pub record EvidenceFile : Type 0 where
  pub answer : List ℕ  -- the bytes of an answer file
  pub promise : List ℕ  -- the bytes of a promise file
  pub period : Period
  pub claims : List Claim

abbrev pub evidence_magic : List ℕ
evidence_magic = codes "NRE1"

-- the greatest sizes of the answer, of the promise text and of the whole file, in bytes
abbrev pub most_answer : ℕ
most_answer = 2147483647

abbrev pub most_promise : ℕ
most_promise = 1048576

abbrev pub most_evidence : ℕ
most_evidence = 3221225472

-- causes are numbered from 1
abbrev pub most_cause : ℕ
most_cause = 8

-- ---- spelling

-- a tag, and the claim
abbrev pub claim_bytes : Claim → List ℕ
claim_bytes (Conflict a) = big_bytes 1 1 ++ authenticator a
claim_bytes (Wrong seq cause) = big_bytes 1 2 ++ (big_bytes 8 seq ++ big_bytes 1 cause)
claim_bytes (Broken file promise prefix begin end) =
    big_bytes 1 3 ++ (big_bytes 2 promise ++ (big_bytes 1 prefix.len ++ (big_bytes 4 prefix.addr
    ++ (big_bytes 8 begin ++ big_bytes 8 end))))

-- bytes after their length, a number of four bytes
abbrev pub sized : List ℕ → List ℕ
sized bytes = big_bytes 4 (length bytes) ++ bytes

-- what stands before the answer's bytes
abbrev pub evidence_front : (answer : List ℕ) → List ℕ
evidence_front answer = evidence_magic ++ big_bytes 4 (length answer)

-- what stands after them
abbrev pub evidence_back : (promise : List ℕ) → Period → List Claim → List ℕ
evidence_back promise period claims =
    sized promise ++ (big_bytes 8 period.from ++ (big_bytes 8 period.to
    ++ (big_bytes 4 (length claims) ++ flat_map claim_bytes claims)))

unfoldable pub evidence_file : EvidenceFile → List ℕ
evidence_file e = evidence_front e.answer ++ (e.answer ++ evidence_back e.promise e.period e.claims)

-- what has a spelling
abbrev pub IsClaim : Claim → Type 0
IsClaim (Conflict a) = IsAuthenticator a
IsClaim (Wrong seq cause) = (seq < 2 ^ 64) × (1 ≤ cause) × (cause ≤ most_cause)
IsClaim (Broken file promise prefix begin end) =
    (file ≡ 0) × (promise < 2 ^ 16) × IsCidr prefix × (begin < 2 ^ 64) × (end < 2 ^ 64)

pub record IsEvidence (e : EvidenceFile) : Type 0 where
  pub answer : length e.answer ≤ most_answer
  pub promise : length e.promise ≤ most_promise
  pub from : e.period.from < 2 ^ 64
  pub to : e.period.to < 2 ^ 64
  pub count : length e.claims < 2 ^ 32
  pub claims : AllByRecursion IsClaim e.claims

-- ---- reading

unfoldable pub conflict_at : Spot → Read Claim
conflict_at s = do
  a ← authenticator_at s
  Ok (Conflict a.0, a.1)

unfoldable pub wrong_at : Spot → Read Claim
wrong_at s = do
  seq ← number_at 8 s
  any ← number_at 1 seq.1
  cause ← wants (nat_le 1 any.0 && nat_le any.0 most_cause) seq.1.at any
  Ok (Wrong seq.0 cause.0, cause.1)

-- An address with a bit after the prefix's length is a fault at the address.
unfoldable pub broken_at : Spot → Read Claim
broken_at s = do
  promise ← number_at 2 s
  any_len ← number_at 1 promise.1
  len ← wants (nat_le any_len.0 32) promise.1.at any_len
  any_addr ← number_at 4 len.1
  addr ← wants ((masked any_addr.0 len.0).addr == any_addr.0) len.1.at any_addr
  begin ← number_at 8 addr.1
  end ← number_at 8 begin.1
  Ok (Broken 0 promise.0 (masked addr.0 len.0) begin.0 end.0, end.1)

-- a tag, and the claim; a tag that is none of these is a fault at it
unfoldable pub claim_at : Spot → Read Claim
claim_at s = number_at 1 s >>= λ tag.
    if tag.0 == 1 then conflict_at tag.1 else
    (if tag.0 == 2 then wrong_at tag.1 else
    (if tag.0 == 3 then broken_at tag.1 else Err s.at))

-- bytes after their length, which is a fault where it is greater than this
unfoldable pub sized_at : ℕ → Spot → Read (List ℕ)
sized_at most s = do
  any ← number_at 4 s
  size ← wants (nat_le any.0 most) s.at any
  bytes_at size.0 size.1

-- What stands inside the answer and the promise text isn't looked at, nor whether the period ends before it begins.
unfoldable pub evidence_of : List ℕ → Result EvidenceFile ℕ
evidence_of bytes = do
  magic ← magic_at evidence_magic (start_of bytes)
  answer ← sized_at most_answer magic.1
  promise ← sized_at most_promise answer.1
  from ← number_at 8 promise.1
  to ← number_at 8 from.1
  count ← number_at 4 to.1
  claims ← counted_at claim_at count.0 count.1
  ends_at claims.1 (record {
    answer = answer.0;
    promise = promise.0;
    period = record { from = from.0; to = to.0 };
    claims = claims.0;
  })

-- ---- where things stand

-- the offset of the answer's first byte
abbrev pub answer_offset : ℕ
answer_offset = 8

-- that of the promise text's
abbrev pub promise_offset : (answer : List ℕ) → ℕ
promise_offset answer = 12 + length answer

-- those of the two ends of the period
abbrev pub from_offset : (answer promise : List ℕ) → ℕ
from_offset answer promise = 12 + length answer + length promise

abbrev pub to_offset : (answer promise : List ℕ) → ℕ
to_offset answer promise = 20 + length answer + length promise
