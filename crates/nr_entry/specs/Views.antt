-- What this crate's types stand for in the definitions.
use Rattle.nr_spec_entry.specs.Contents as contents
use Rattle.nr_spec_entry.specs.ContentReading as reading
use Rattle.nr_entry.specs.declared.reading.Exchange.{Exchange}
use Rattle.nr_entry.specs.declared.content.Content.{Content}
use Rattle.nr_entry.specs.declared.content.Content.TheVariants.{Send, Recv, State, Ack, Commit, Checkpoint, Promise}

-- a content without where it lies in memory
abbrev pub content_view : Content → contents.Content
content_view (Send neighbour as4 raw) = contents.Send neighbour as4 raw.now
content_view (Recv neighbour as4 raw) = contents.Recv neighbour as4 raw.now
content_view (State neighbour old new) = contents.State neighbour old new
content_view (Ack neighbour upto seq time hash sig) = contents.Ack neighbour upto seq time hash.0 sig.0
content_view (Commit neighbour leaf) = contents.Commit neighbour leaf
content_view (Checkpoint body) = contents.Checkpoint body.0
content_view (Promise file count delay) = contents.Promise file.0 count delay

abbrev pub exchange_view : Exchange → reading.Exchange
exchange_view x = record { neighbour = x.neighbour; as4 = x.as4; raw = x.raw.now }
