-- What this crate's types stand for in the definitions.
use Rattle.std.specs.Prelude.{ℕ, List, length, map, option_map}
use Rattle.nr_chain.specs.declared.digest.Digest.{Digest}
use Rattle.nr_spec_counts.specs.Tallies.{Numbers}
use Rattle.nr_spec_steps.specs.Heads.{Committed}
use Rattle.nr_spec_deliveries.specs.Sending.{Peer, PeerKey}
use Rattle.nr_spec_typing.specs.declared.text.Neighbour.{Neighbour}
use Rattle.nr_recorder.specs.declared.own.Own.{Own}

-- the numbers of a promise file: its digest, how many neighbours it declares, and its commit delay
abbrev pub numbers_in : Own → Numbers
numbers_in own = record { digest = own.file.0; count = length own.typed.neighbours; delay = own.typed.commit }

-- a COMMIT to a neighbour, and the number of its entry
abbrev pub committed_of : ℕ × ℕ → Committed
committed_of pair = record { neighbour = pair.0; seq = pair.1 }

-- the key of a neighbour: its root, and the number that the neighbour uses
abbrev pub peer_key : Digest × ℕ → PeerKey
peer_key pair = record { root = pair.0.0; number = pair.1 }

abbrev pub peer_of : Neighbour → Peer
peer_of n = record { asn = n.asn; key = option_map peer_key n.key }

-- the neighbours of a promise file
abbrev pub peers_of : List Neighbour → List Peer
peers_of neighbours = map peer_of neighbours
