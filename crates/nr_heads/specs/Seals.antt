-- The last head of a log that is for the auditor.
use Rattle.std.specs.Prelude.{if◌then◌else◌, ℕ, ◌%◌, ◌+◌, ◌++◌, ◌==◌, ◌^◌, ◌≡◌, List, None, Option, Some, length, option_map, take, unwrap_or}
use Rattle.nr_spec_log.specs.Chain.{Chain, LogEntry, value_after}
use Rattle.nr_spec_log.specs.Authenticator.{Signature, signature}
use Rattle.nr_spec_log.specs.Answer.{last_time}
use Rattle.nr_spec_keys.specs.Trees.{signature_by}
use Rattle.nr_spec_history.specs.KeyFiles.{Key}
use Rattle.nr_spec_entry.specs.Contents.{Commit, Content, auditor}
use Rattle.nr_spec_entry.specs.ContentReading.{content_of}
use Rattle.nr_spec_routes.specs.LookBack.{last_of}
use Rattle.nr_spec_steps.specs.Heads.{head_body, last_commit, leaf_in, log_chain}

-- a COMMIT: its number, its time, its leaf and its chain value
pub record Seal : Type 0 where
  pub seq : ℕ
  pub time : ℕ
  pub leaf : ℕ
  pub value : List ℕ

-- what is kept while a log is gone through: how far its chain has come, and the last COMMIT to the auditor
pub record Sealing : Type 0 where
  pub chain : Chain
  pub seal : Option Seal

-- the leaf of a COMMIT to the auditor
abbrev pub auditor_leaf : Option Content → Option ℕ
auditor_leaf (Some (Commit neighbour leaf)) = if neighbour == auditor then Some leaf else None
auditor_leaf other = None

-- the COMMIT with which the first k entries end
abbrev pub seal_at : ℕ → List LogEntry → ℕ → Seal
seal_at asn log k = record {
  seq = k;
  time = last_time 0 (take k log);
  leaf = unwrap_or (last_of (λ e. leaf_in (content_of e)) (take k log)) 0;
  value = value_after (log_chain asn) (take k log);
}

-- the last COMMIT to the auditor
unfoldable pub seal_of : ℕ → List LogEntry → Option Seal
seal_of asn log = option_map (seal_at asn log) (last_commit auditor log)

-- it is kept of the log of this AS
pub record IsSealingOf (asn : ℕ) (log : List LogEntry) (s : Sealing) : Type 0 where
  pub value : s.chain.value ≡ value_after (log_chain asn) log
  pub seq : s.chain.seq ≡ length log + 1
  pub seal : s.seal ≡ seal_of asn log

-- what a COMMIT signs in the log of a key
abbrev pub seal_body : Key → Seal → List ℕ
seal_body key seal = head_body key.asn seal.seq seal.time seal.value

-- the spelling of the authenticator of a COMMIT, by a key
unfoldable pub sealed_head : Key → Seal → List ℕ
sealed_head key seal =
    seal_body key seal ++ signature (signature_by key.seed key.height (seal.leaf % 2 ^ key.height) (seal_body key seal))
