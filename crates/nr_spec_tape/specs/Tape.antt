-- The tape of a trial: a network with three neighbours and the messages of their sessions, a second apart, as an MRT file
-- (RFC 6396). What is in them is drawn from the words of a ChaCha20 stream (RFC 8439, section 2.3, with a block counter
-- of 64 bits), two words a message.
use Rattle.std.specs.Prelude.{if◌then◌else◌, zero, suc, ℕ, ◌+◌, ◌*◌, ◌/◌, ◌%◌, ◌^◌, ◌==◌, [], ◌∷◌, ◌++◌, Bool, List, replicate}
use Rattle.std.specs.Int.{w64, to_le_bytes}
use Rattle.byteorder.specs.Endian.{big_bytes}
use Rattle.rand_chacha.specs.ChaCha.{key_of, word_at}
use Rattle.nr_spec_bgp.specs.Prefixes.{Cidr}
use Rattle.nr_spec_bgp.specs.Messages.{update_bytes}
use Rattle.nr_spec_bgp.specs.Records.{Ends, record_bytes}

-- ---- what is drawn

-- two words of a stream
pub record Drawn : Type 0 where
  pub first : ℕ
  pub second : ℕ

-- the seed of a trial: its number in 8 bytes, the lowest first, and 24 zeros
abbrev pub tape_seed : ℕ → List ℕ
tape_seed number = to_le_bytes w64 number ++ replicate 24 0

-- the words of message i, of stream 0
abbrev pub drawn : ℕ → ℕ → Drawn
drawn number i = record {
  first = word_at 10 (key_of (tape_seed number)) 0 (2 * i);
  second = word_at 10 (key_of (tape_seed number)) 0 (2 * i + 1);
}

-- ---- a message

-- the network is AS 64500 at 192.0.2.9; its neighbours are AS 64501, 64502 and 64503 at 192.0.2.1, 2 and 3
abbrev pub session : Drawn → Ends
session d = record {
  peer_as = 64501 + d.first % 3;
  own_as = 64500;
  peer = 192 * 2 ^ 24 + 2 * 2 ^ 8 + 1 + d.first % 3;
  own = 192 * 2 ^ 24 + 2 * 2 ^ 8 + 9;
}

-- whether the network sends it
abbrev pub is_sent : Drawn → Bool
is_sent d = d.first / 256 % 2 == 1

abbrev pub is_withdrawal : Drawn → Bool
is_withdrawal d = d.first / 512 % 4 == 0

-- one of the first 4,096 prefixes of 24 bits under 10.0.0.0
abbrev pub tape_prefix : Drawn → Cidr
tape_prefix d = record { addr = 10 * 2 ^ 24 + d.second % 4096 * 2 ^ 8; len = 24 }

-- the AS that the path of a route consists of: the sender's
unfoldable pub sender : Drawn → ℕ
sender d = if is_sent d then 64500 else 64501 + d.first % 3

-- the community 65000:1 on one of 64, and else 65000:2
unfoldable pub community : Drawn → ℕ
community d = if d.first / 2048 % 64 == 0 then 65000 * 2 ^ 16 + 1 else 65000 * 2 ^ 16 + 2

-- the path attributes (RFC 4271, section 4.3; RFC 1997): ORIGIN, AS_PATH, NEXT_HOP and COMMUNITIES
abbrev pub tape_block : Drawn → List ℕ
tape_block d =
    0x40 ∷ 1 ∷ 1 ∷ 0 ∷ 0x40 ∷ 2 ∷ 6 ∷ 2 ∷ 1 ∷ big_bytes 4 (sender d)
    ++ 0x40 ∷ 3 ∷ 4 ∷ 192 ∷ 0 ∷ 2 ∷ 1 ∷ 0xc0 ∷ 8 ∷ 4 ∷ big_bytes 4 (community d)

unfoldable pub tape_update : Drawn → List ℕ
tape_update d =
    if is_withdrawal d
    then update_bytes (tape_prefix d ∷ []) [] []
    else update_bytes [] (tape_block d) (tape_prefix d ∷ [])

-- ---- the tape

abbrev pub tape_record : Drawn → ℕ → List ℕ
tape_record d i = record_bytes (i * 1000000) (is_sent d) (session d) (tape_update d)

-- so many messages, message i at second i
unfoldable pub tape : ℕ → ℕ → List ℕ
tape number zero = []
tape number (suc i) = tape number i ++ tape_record (drawn number i) i
