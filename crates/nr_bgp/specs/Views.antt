-- What this crate's types stand for in the definitions.
use Rattle.std.specs.Prelude.{◌≡◌, ℕ, Result, Ok, Err}
use Rattle.nr_bytes.specs.declared.fault.Place.{Place}
use Rattle.nr_bytes.specs.Views.{offset_of}
use Rattle.nr_spec_bgp.specs.Messages.{Meaning, Opens, Updates, Notifies, KeepsAlive, Refreshes}
use Rattle.nr_bgp.specs.declared.message.Message.{Message}
use Rattle.nr_bgp.specs.declared.message.Message.TheVariants.{Opening, Update, Notification, Keepalive, Refresh, Bad}

-- what a message means, or the place of its first malformed field
abbrev pub meaning : Message → Result Meaning ℕ
meaning Opening = Ok Opens
meaning (Update u) = Ok (Updates u)
meaning Notification = Ok Notifies
meaning Keepalive = Ok KeepsAlive
meaning Refresh = Ok Refreshes
meaning (Bad place) = Err (offset_of place)

-- a message that was read, or the place of a fault, is what reading gives
abbrev pub Tells : Result Message Place → Result Meaning ℕ → Type 0
Tells (Ok message) read = meaning message ≡ read
Tells (Err place) read = read ≡ Err (offset_of place)
