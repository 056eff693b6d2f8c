-- The chain values that are kept beside the entries of a log.
use Rattle.std.specs.Prelude.{ℕ, ◌≡◌, ◌≤◌, [], ◌∷◌, List, length, map, take}
use Rattle.nr_spec_log.specs.Chain.{Chain, LogEntry, chained, shown}
use Rattle.nr_spec_steps.specs.Heads.{log_chain}
use Rattle.nr_chain.specs.Views.{digest_bytes}
use Rattle.nr_chain.specs.declared.digest.Digest.{Digest}

-- the value of each entry from a place of the chain on
abbrev pub values_from : Chain → List LogEntry → List (List ℕ)
values_from chain [] = []
values_from chain (e ∷ es) = (chained chain (shown e)).value ∷ values_from (chained chain (shown e)) es

-- the values of the log of an AS
abbrev pub AreLinks : ℕ → List LogEntry → List Digest → Type 0
AreLinks asn log values = map digest_bytes values ≡ values_from (log_chain asn) log

-- the values of the first entries of a log, as many as there are
pub record HasLinks (asn : ℕ) (log : List LogEntry) (values : List Digest) : Type 0 where
  pub order : length values ≤ length log
  pub links : AreLinks asn (take (length values) log) values
