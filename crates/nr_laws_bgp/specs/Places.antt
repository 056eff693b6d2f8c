-- Where the faults of messages and records are.
use Rattle.std.specs.Prelude.{◌≡◌, ◌≢◌, ℕ, ◌+◌, ◌≤◌, ◌<◌, List, ◌++◌, length, take, replicate, Bool, Err}
use Rattle.nr_spec_wire.specs.Reading.{Spot}
use Rattle.nr_spec_bgp.specs.Messages.{message_of}
use Rattle.nr_laws_bgp.specs.Values.{Holds}
use Rattle.nr_laws_bgp.specs.Grammar.{IsMessageOf}

-- The place is not before the spot, and not past the end of the bytes.
pub record IsWithin (s : Spot) (place : ℕ) : Type 0 where
  pub least : s.at ≤ place
  pub most : place ≤ s.at + length s.rest

-- bytes that begin with their own length, a number of two bytes that counts the whole message, of 19 or more
pub record IsSized (raw bytes : List ℕ) : Type 0 where
  pub size : List ℕ
  pub more : List ℕ
  pub spelled : bytes ≡ size ++ more
  pub sized : Holds 2 (length raw) size
  pub least : 19 ≤ length raw

-- The fields of the header stand at 0, 16 and 18 (RFC 4271, section 4.1), and each is the place of its fault: a marker
-- that isn't all ones; a length that isn't that of the message or not one of its type; a type that isn't known.
pub record AreHeaderPlaces (as4 : Bool) (raw : List ℕ) : Type 0 where
  pub marker : take 16 raw ≢ replicate 16 255 → message_of as4 raw ≡ Err 0
  pub size : (more : List ℕ) → raw ≡ replicate 16 255 ++ more → (IsSized raw more → ⊥) → message_of as4 raw ≡ Err 16
  pub opening : (body : List ℕ) → IsMessageOf raw 1 body → length body < 10 → message_of as4 raw ≡ Err 16
  pub update : (body : List ℕ) → IsMessageOf raw 2 body → length body < 4 → message_of as4 raw ≡ Err 16
  pub notification : (body : List ℕ) → IsMessageOf raw 3 body → length body < 2 → message_of as4 raw ≡ Err 16
  pub keepalive : (body : List ℕ) → IsMessageOf raw 4 body → 0 < length body → message_of as4 raw ≡ Err 16
  pub refresh : (body : List ℕ) → IsMessageOf raw 5 body → length body < 4 → message_of as4 raw ≡ Err 16
  pub kind : (kind : ℕ) (body : List ℕ) → IsMessageOf raw kind body
      → kind ≢ 1 → kind ≢ 2 → kind ≢ 3 → kind ≢ 4 → kind ≢ 5 → message_of as4 raw ≡ Err 18
