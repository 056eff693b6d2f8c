-- What this crate's types stand for in the definitions.
use Rattle.std.specs.Prelude.{◌≡◌, ◌<◌, length, Option, Some, None, Result}
use Rattle.nr_bytes.specs.declared.fault.Place.{Place}
use Rattle.nr_bytes.specs.Views.{offset_of}
use Rattle.nr_spec_wire.specs.Reading.{Spot, Gives}
use Rattle.nr_spec_bgp.specs.Records.{Item, Carries, Turns, Skips, Peer as Speaker, record_at}
use Rattle.nr_mrt.specs.declared.item.MrtItem.{MrtItem}
use Rattle.nr_mrt.specs.declared.item.MrtItem.TheVariants.{Message, State, Skipped}
use Rattle.nr_mrt.specs.declared.record.Peer.{Peer}

abbrev pub item_of : MrtItem → Item
item_of (Message time peer_as peer local as4 raw) =
    Carries (record { time = time; peer_as = peer_as; peer = peer; own = local; as4 = as4; raw = raw.now })
item_of (State time peer_as peer old new) =
    Turns (record { time = time; peer_as = peer_as; peer = peer; old = old; new = new })
item_of Skipped = Skips

abbrev pub peer_of : Peer → Speaker
peer_of p = record { asn = p.asn; family = p.family }

-- the next record is offered, or its fault, where a byte is left
abbrev pub Offers : Option (Result MrtItem Place) → Spot → Spot → Type 0
Offers None old new = (length old.rest ≡ 0) × (new ≡ old)
Offers (Some r) old new = (0 < length old.rest) × Gives item_of offset_of r old new (record_at old)
