-- What is kept of the first entries of a log.
use Rattle.std.specs.Prelude.{◌≡◌, ◌+◌, ◌<◌, ◌^◌, [], ℕ, List, drop, length, take}
use Rattle.nr_spec_log.specs.Chain.{Chain, LogEntry, value_after}
use Rattle.nr_spec_routes.specs.Keys.{Row}
use Rattle.nr_spec_routes.specs.Rows.{rows_after}
use Rattle.nr_spec_steps.specs.Heads.{log_chain}
use Rattle.nr_spec_steps.specs.Steps.{known}
use Rattle.nr_discipline.specs.Kept as counts
use Rattle.nr_discipline.specs.Kept.{IsKeptOf}

pub record Kept : Type 0 where
  pub rows : List Row
  pub counts : counts.Kept
  pub chain : Chain

-- it is what these entries of the log of an AS leave
pub record IsLeftBy (asn : ℕ) (log : List LogEntry) (k : Kept) : Type 0 where
  pub rows : k.rows ≡ rows_after [] log
  pub counts : IsKeptOf (known log) k.counts
  pub value : k.chain.value ≡ value_after (log_chain asn) log
  pub seq : k.chain.seq ≡ length log + 1

-- it is what some entries leave, which are fewer than 2^62
pub record IsLeft (k : Kept) : Type 0 where
  pub asn : ℕ
  pub log : List LogEntry
  pub few : length log < 2 ^ 62
  pub left : IsLeftBy asn log k

-- the first entries of a log, by what they leave, and the others
pub record Parts : Type 0 where
  pub count : ℕ
  pub before : Kept
  pub behind : List LogEntry

-- they are those of this log of an AS
pub record ArePartsOf (asn : ℕ) (log : List LogEntry) (p : Parts) : Type 0 where
  pub before : IsLeftBy asn (take p.count log) p.before
  pub behind : p.behind ≡ drop p.count log

-- they are those of some log of fewer than 2^62 entries
pub record AreParts (p : Parts) : Type 0 where
  pub asn : ℕ
  pub log : List LogEntry
  pub few : length log < 2 ^ 62
  pub parts : ArePartsOf asn log p
