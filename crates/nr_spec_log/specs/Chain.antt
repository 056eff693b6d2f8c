-- A log is a list of entries, numbered from 1, and a chain of digests over them. SHA-256 is that of
-- FIPS 180-4, and numbers in hashed inputs have their highest byte first.
use Rattle.std.specs.Prelude.{ℕ, ◌+◌, List, [], ◌∷◌, ◌++◌, codes}
use Rattle.byteorder.specs.Endian.{big_bytes}
use Rattle.sha2.specs.Sha256.{sha256}

-- an entry: its time in microseconds, its kind, and its content
pub record LogEntry : Type 0 where
  pub time : ℕ
  pub kind : ℕ
  pub content : List ℕ

-- an entry as the chain sees it: shown or hidden, its content goes in by its digest
pub record ChainItem : Type 0 where
  pub time : ℕ
  pub kind : ℕ
  pub digest : List ℕ

abbrev pub shown : LogEntry → ChainItem
shown e = record { time = e.time; kind = e.kind; digest = sha256 e.content }

-- the chain value before the first entry of the log of an AS
unfoldable pub genesis_value : ℕ → List ℕ
genesis_value asn = sha256 (codes "netreview 1" ++ big_bytes 4 asn)

-- the chain value of entry number seq, from the value of the entry before
unfoldable pub link_value : List ℕ → ℕ → ChainItem → List ℕ
link_value before seq item =
    sha256 (before ++ big_bytes 8 seq ++ big_bytes 8 item.time ++ big_bytes 1 item.kind ++ item.digest)

-- how far a chain has come: its last value, and the number of the next entry
pub record Chain : Type 0 where
  pub value : List ℕ
  pub seq : ℕ

abbrev pub chained : Chain → ChainItem → Chain
chained chain item = record { value = link_value chain.value chain.seq item; seq = chain.seq + 1 }

-- an entry's number, time and chain value: what an authenticator states
pub record Link : Type 0 where
  pub seq : ℕ
  pub time : ℕ
  pub value : List ℕ

-- the links of entries that stand one after another
abbrev pub links_of : Chain → List LogEntry → List Link
links_of chain [] = []
links_of chain (e ∷ es) =
    record { seq = chain.seq; time = e.time; value = link_value chain.value chain.seq (shown e) }
    ∷ links_of (chained chain (shown e)) es

-- the chain value of the last of such entries
abbrev pub value_after : Chain → List LogEntry → List ℕ
value_after chain [] = chain.value
value_after chain (e ∷ es) = value_after (chained chain (shown e)) es
