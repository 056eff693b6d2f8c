-- What this crate's types stand for in the definitions.
use Rattle.std.specs.Prelude.{ℕ, List}
use Rattle.nr_spec_log.specs.Chain.{LogEntry, ChainItem, shown}
use Rattle.nr_chain.specs.declared.digest.Digest.{Digest}
use Rattle.nr_chain.specs.declared.item.Entry.{Entry}
use Rattle.nr_chain.specs.declared.item.Item.{Item}
use Rattle.nr_chain.specs.declared.item.Item.TheVariants.{Shown, Hidden}

-- a digest as its bytes
abbrev pub digest_bytes : Digest → List ℕ
digest_bytes digest = digest.0

-- an entry without where it lies in memory
abbrev pub entry_of : Entry → LogEntry
entry_of e = record { time = e.time; kind = e.kind; content = e.content.now }

abbrev pub item_of : Item → ChainItem
item_of (Shown e) = shown (entry_of e)
item_of (Hidden time kind digest) = record { time = time; kind = kind; digest = digest.0 }
