-- MRT records of BGP sessions (RFC 6396, sections 2 to 4.4), and what is skipped.
use Rattle.std.specs.Prelude.{ℕ, ◌+◌, ◌*◌, ◌/◌, ◌%◌, Bool, ◌||◌, ◌&&◌, List, ◌++◌, length, Result, Ok, ◌==◌, if◌then◌else◌}
use Rattle.byteorder.specs.Endian.{big_bytes}
use Rattle.nr_spec_wire.specs.Reading.{Spot, Read, ◌>>=◌, number_at, part_at}
use Rattle.nr_spec_bgp.specs.Paths.{as_size}

-- A message of a session, with its time in microseconds. The peer is the router at the other end of the session,
-- whichever of the two sent the message.
pub record Heard : Type 0 where
  pub time : ℕ
  pub peer_as : ℕ
  pub peer : ℕ
  pub own : Bool  -- whether the recording router sent the message itself, to the peer
  pub as4 : Bool  -- whether AS numbers in the message have four bytes
  pub raw : List ℕ  -- the message

-- a session's change of state
pub record Turned : Type 0 where
  pub time : ℕ
  pub peer_as : ℕ
  pub peer : ℕ
  pub old : ℕ
  pub new : ℕ

pub data Item : Type 0 where
  Carries : Heard → Item
  Turns : Turned → Item
  Skips : Item

-- the types BGP4MP and BGP4MP_ET (sections 4.4 and 3)
abbrev pub is_session : ℕ → Bool
is_session kind = kind == 16 || kind == 17

-- the subtypes of section 4.4 for a change of state, and for a message, received or sent
abbrev pub is_state : ℕ → Bool
is_state subtype = subtype == 0 || subtype == 5

abbrev pub is_message : ℕ → Bool
is_message subtype = subtype == 1 || subtype == 4 || subtype == 6 || subtype == 7

abbrev pub is_as4 : ℕ → Bool
is_as4 subtype = subtype == 4 || subtype == 5 || subtype == 7

abbrev pub is_own : ℕ → Bool
is_own subtype = subtype == 6 || subtype == 7

-- BGP4MP_ET begins its body with the microseconds (section 3)
abbrev pub microseconds_at : ℕ → Spot → Read ℕ
microseconds_at kind s = if kind == 17 then number_at 4 s else Ok (0, s)

-- the peer of the session, by the fields up to the family
pub record Peer : Type 0 where
  pub asn : ℕ
  pub family : ℕ

unfoldable pub peer_at : Bool → Spot → Read Peer
peer_at as4 s = do
  peer ← number_at (as_size as4) s
  local ← number_at (as_size as4) peer.1
  interface ← number_at 2 local.1
  family ← number_at 2 interface.1
  Ok (record { asn = peer.0; family = family.0 }, family.1)

-- the two addresses of a session over IPv4, of which the peer's is given
abbrev pub addresses_at : Spot → Read ℕ
addresses_at s = do
  peer ← number_at 4 s
  local ← number_at 4 peer.1
  Ok (peer.0, local.1)

-- the two states; more bytes are ignored
unfoldable pub state_at : ℕ → ℕ → Spot → Result Item ℕ
state_at time asn s = do
  peer ← addresses_at s
  old ← number_at 2 peer.1
  new ← number_at 2 old.1
  Ok (Turns (record { time = time; peer_as = asn; peer = peer.0; old = old.0; new = new.0 }))

-- the message, which is all that is left
unfoldable pub heard_at : ℕ → ℕ → ℕ → Spot → Result Item ℕ
heard_at subtype time asn s = do
  peer ← addresses_at s
  Ok (Carries (record {
    time = time;
    peer_as = asn;
    peer = peer.0;
    own = is_own subtype;
    as4 = is_as4 subtype;
    raw = peer.1.rest;
  }))

-- what stands after the family, at this time, with this peer: a change of state or a message
abbrev pub event_at : ℕ → ℕ → ℕ → Spot → Result Item ℕ
event_at subtype time asn s = if is_state subtype then state_at time asn s else heard_at subtype time asn s

-- the body of a record that is read; one of another family than IPv4 is skipped
unfoldable pub session_at : ℕ → ℕ → ℕ → Spot → Result Item ℕ
session_at seconds kind subtype s = do
  micros ← microseconds_at kind s
  peer ← peer_at (is_as4 subtype) micros.1
  if peer.0.family == 1 then event_at subtype (seconds * 1000000 + micros.0) peer.0.asn peer.1 else Ok Skips

-- a record of another type or subtype is skipped by its length
abbrev pub item_at : ℕ → ℕ → ℕ → Spot → Result Item ℕ
item_at seconds kind subtype s =
    if is_session kind && (is_state subtype || is_message subtype) then session_at seconds kind subtype s else Ok Skips

-- the common header (section 2) and the body, whose bytes are all there
unfoldable pub record_at : Spot → Read Item
record_at s = do
  seconds ← number_at 4 s
  kind ← number_at 2 seconds.1
  subtype ← number_at 2 kind.1
  size ← number_at 4 subtype.1
  body ← part_at size.0 size.1
  item ← item_at seconds.0 kind.0 subtype.0 body.0
  Ok (item, body.1)

-- ---- spelling: a BGP4MP_ET record of subtype 4, or 7 for one's own message

-- the two ends of a session: the peer's and the recording router's own, each by its AS and its address
pub record Ends : Type 0 where
  pub peer_as : ℕ
  pub own_as : ℕ
  pub peer : ℕ
  pub own : ℕ

-- the fields of the body up to the message: the interface is 0 and the family IPv4
unfoldable pub session_bytes : Ends → List ℕ
session_bytes e =
    big_bytes 4 e.peer_as ++ big_bytes 4 e.own_as ++ big_bytes 2 0 ++ big_bytes 2 1
    ++ big_bytes 4 e.peer ++ big_bytes 4 e.own

unfoldable pub body_bytes : ℕ → Ends → List ℕ → List ℕ
body_bytes micros e raw = big_bytes 4 micros ++ session_bytes e ++ raw

abbrev pub record_bytes : ℕ → Bool → Ends → List ℕ → List ℕ
record_bytes time sent e raw =
    big_bytes 4 (time / 1000000) ++ big_bytes 2 17 ++ big_bytes 2 (if sent then 7 else 4)
    ++ big_bytes 4 (length (body_bytes (time % 1000000) e raw)) ++ body_bytes (time % 1000000) e raw
