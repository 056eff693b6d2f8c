-- The records of MRT files (RFC 6396), and the events that they make.
use Rattle.std.specs.Prelude.{if◌then◌else◌, ℕ, ◌&&◌, ◌==◌, Bool, List, None, Option, Result, is_some, not, option_map}
use Rattle.std.specs.List.{count_by, filter_map, position}
use Rattle.nr_spec_wire.specs.Reading.{all_at, start_of}
use Rattle.nr_spec_bgp.specs.Records.{Carries, Item, Heard as Message, Skips, Turned, Turns, record_at}
use Rattle.nr_spec_steps.specs.Events.{Event, Heard, Said, StateChanged}

-- the records of a file, or the place of its first malformed field
unfoldable pub records_of : List ℕ → Result (List Item) ℕ
records_of bytes = all_at record_at (start_of bytes)

-- a neighbour as records name it: its AS and its address
pub record Speaker : Type 0 where
  pub asn : ℕ
  pub addr : ℕ

abbrev pub is_speaker : ℕ → ℕ → Speaker → Bool
is_speaker asn addr s = s.asn == asn && s.addr == addr

-- the number of the neighbour with this AS and address; neighbours are numbered from 0
abbrev pub number_of : List Speaker → ℕ → ℕ → Option ℕ
number_of neighbours asn addr = position (is_speaker asn addr) neighbours

-- a message that was sent to a neighbour, or came from it
abbrev pub exchanged : Message → ℕ → Event
exchanged m n = if m.own then Said m.time n m.as4 m.raw else Heard m.time n m.as4 m.raw

abbrev pub changed : Turned → ℕ → Event
changed t n = StateChanged t.time n t.old t.new

-- A record is kept where it isn't skipped by its type, subtype or family, and its peer is a neighbour: the event that it
-- makes.
abbrev pub kept : List Speaker → Item → Option Event
kept neighbours (Carries m) = option_map (exchanged m) (number_of neighbours m.peer_as m.peer)
kept neighbours (Turns t) = option_map (changed t) (number_of neighbours t.peer_as t.peer)
kept neighbours Skips = None

-- the events of a file's records, in file order
abbrev pub kept_of : List Speaker → List Item → List Event
kept_of neighbours items = filter_map (kept neighbours) items

-- how many records of a file aren't kept
abbrev pub skipped_of : List Speaker → List Item → ℕ
skipped_of neighbours items = count_by (λ item. not (is_some (kept neighbours item))) items
