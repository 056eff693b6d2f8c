-- How long the body of a record is.
use Rattle.std.proofs.Common.{◌≡◌, ℕ, ◌+◌, ◌/◌, ◌%◌, Bool, List, [], ◌++◌, length, refl, arith}
use Rattle.std.specs.Prelude.{if◌then◌else◌}
use Rattle.byteorder.specs.Endian.{big_bytes}
use Rattle.nr_spec_bgp.specs.Records.{Ends, session_bytes, body_bytes, record_bytes}

pub length_body : (micros : ℕ) (e : Ends) (raw : List ℕ) → length (body_bytes micros e raw) ≡ 24 + length raw
unfolding body_bytes session_bytes
length_body micros e raw = omega arith

-- the header and then the body
pub record_spelled : (time : ℕ) (local : Bool) (e : Ends) (raw : List ℕ)
    → [] ++ (big_bytes 4 (time / 1000000) ++ big_bytes 2 17 ++ big_bytes 2 (if local then 7 else 4) ++ big_bytes 4 (24 + length raw)) ++ body_bytes (time % 1000000) e raw ≡ record_bytes time local e raw
record_spelled time local e raw = let len = length_body (time % 1000000) e raw in rw len refl
