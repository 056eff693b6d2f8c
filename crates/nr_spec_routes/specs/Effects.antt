-- What an entry says of routes.
use Rattle.std.specs.Prelude.{if◌then◌else◌, ℕ, ◌&&◌, ◌==◌, Bool, Err, None, Ok, Option, Result, Some}
use Rattle.std.specs.Ordering.{is_eq}
use Rattle.nr_spec_log.specs.Chain.{LogEntry}
use Rattle.nr_spec_bgp.specs.Attributes.{AttributeBlock}
use Rattle.nr_spec_bgp.specs.Messages.{Changes, KeepsAlive, Meaning, Notifies, Opens, Refreshes, Updates, message_of}
use Rattle.nr_spec_bgp.specs.Prefixes.{Cidr}
use Rattle.nr_spec_entry.specs.Contents.{Ack, Checkpoint, Commit, Content, Promise, Recv, Send, State}
use Rattle.nr_spec_entry.specs.ContentReading.{content_of}
use Rattle.nr_spec_routes.specs.declared.direction.Direction.{Direction}
use Rattle.nr_spec_routes.specs.Keys.{Key, direction_cmp, is_named}
use Rattle.nr_spec_routes.specs.declared.direction.Direction.TheVariants.{Received, Sent}

pub data Effect : Type 0 where
  -- it decides no route
  Keeps : Effect
  -- it decides every route with a neighbour, in both directions, and leaves none
  Empties : (neighbour : ℕ) → Effect
  -- it decides, in a direction with a neighbour, each prefix that an UPDATE names
  Alters : (direction : Direction) (neighbour : ℕ) (changes : Changes) → Effect

-- a message to a neighbour or from it, or the place at which it is malformed
abbrev pub message_effect : Direction → ℕ → Result Meaning ℕ → Effect
message_effect direction neighbour (Ok Opens) = Empties neighbour
message_effect direction neighbour (Ok (Updates changes)) = Alters direction neighbour changes
message_effect direction neighbour (Ok Notifies) = Empties neighbour
message_effect direction neighbour (Ok KeepsAlive) = Keeps
message_effect direction neighbour (Ok Refreshes) = Keeps
message_effect direction neighbour (Err place) = Empties neighbour

-- the state Established of a session (RFC 4271, section 8.2.2; RFC 6396, section 4.4.1)
abbrev pub established : ℕ
established = 6

-- a content, or none where it isn't in the grammar of its kind
abbrev pub content_effect : Option Content → Effect
content_effect None = Keeps
content_effect (Some (Send neighbour as4 raw)) = message_effect Sent neighbour (message_of as4 raw)
content_effect (Some (Recv neighbour as4 raw)) = message_effect Received neighbour (message_of as4 raw)
content_effect (Some (State neighbour old new)) = if new == established then Keeps else Empties neighbour
content_effect (Some (Ack neighbour upto seq time hash sig)) = Keeps
content_effect (Some (Commit neighbour leaf)) = Keeps
content_effect (Some (Checkpoint body)) = Keeps
content_effect (Some (Promise file count delay)) = Keeps

abbrev pub effect_of : LogEntry → Effect
effect_of e = content_effect (content_of e)

-- ---- what it says of one route

-- whether it is of this direction with this neighbour
abbrev pub is_with : Direction → ℕ → Key → Bool
is_with direction neighbour key = is_eq (direction_cmp direction key.direction) && neighbour == key.neighbour

-- An UPDATE says of a prefix that it has this route, or that it has none. What it withdraws and announces is announced.
abbrev pub update_says : Changes → Cidr → Option (Option AttributeBlock)
update_says changes p =
    if is_named changes.announced p then Some (Some changes.attributes) else
    (if is_named changes.withdrawn p then Some None else None)

-- what is said of a route: nothing, that there is none, or which one it is
abbrev pub says : Effect → Key → Option (Option AttributeBlock)
says Keeps key = None
says (Empties neighbour) key = if neighbour == key.neighbour then Some None else None
says (Alters direction neighbour changes) key =
    if is_with direction neighbour key then update_says changes key.prefix else None
