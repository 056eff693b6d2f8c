-- The COMMITs of a log, the heads that they sign, and the answer that a network gives of its whole log.
use Rattle.std.specs.Prelude.{if◌then◌else◌, ℕ, ◌%◌, ◌+◌, ◌++◌, ◌-◌, ◌^◌, [], ◌∷◌, List, None, Option, Some, filter, length, nat_lt, option_map, take, unwrap_or}
use Rattle.byteorder.specs.Endian.{big_bytes}
use Rattle.nr_spec_log.specs.Chain.{Chain, LogEntry, chained, genesis_value, link_value, shown, value_after}
use Rattle.nr_spec_log.specs.Authenticator.{Authenticator}
use Rattle.nr_spec_log.specs.Answer.{AnswerFile, last_time}
use Rattle.nr_spec_keys.specs.Trees.{signature_by}
use Rattle.nr_spec_history.specs.KeyFiles.{Key}
use Rattle.nr_spec_entry.specs.Contents.{Commit, Content, auditor}
use Rattle.nr_spec_entry.specs.ContentReading.{content_of}
use Rattle.nr_spec_routes.specs.LookBack.{after_last, last_of}
use Rattle.nr_spec_counts.specs.Tallies.{is_commit_to}
use Rattle.nr_spec_steps.specs.Events.{Event, time_of}
use Rattle.nr_spec_steps.specs.Steps.{Recorder, heads_for, is_idle, known, moment, told}

-- ---- where COMMITs stand

-- the number of the last COMMIT to a neighbour, or to the auditor: that of all entries without those after it
abbrev pub last_commit : ℕ → List LogEntry → Option ℕ
last_commit n log =
    option_map (λ (later : List LogEntry). length log - length later)
    (after_last (λ e. is_commit_to n (content_of e)) log)

-- a COMMIT to a neighbour, and the number of its entry
pub record Committed : Type 0 where
  pub neighbour : ℕ
  pub seq : ℕ

-- these, one behind another, from a number on
abbrev pub numbered : ℕ → List ℕ → List Committed
numbered seq [] = []
numbered seq (n ∷ others) = record { neighbour = n; seq = seq } ∷ numbered (seq + 1) others

-- the COMMITs to neighbours of the own file that an event appends
unfoldable pub committed_by : Recorder → List LogEntry → Event → List Committed
committed_by r log event =
    if is_idle event (told r log event) then []
    else filter (λ c. nat_lt c.neighbour r.own.count)
    (numbered (length log + 1) (heads_for (known log) (moment log (time_of event)) event))

-- ---- what COMMITs sign

-- where the chain of the log of an AS begins
abbrev pub log_chain : ℕ → Chain
log_chain asn = record { value = genesis_value asn; seq = 1 }

-- the body of an authenticator: an AS, and the number, the time and the chain value of an entry
abbrev pub head_body : ℕ → ℕ → ℕ → List ℕ → List ℕ
head_body asn seq time value = big_bytes 4 asn ++ (big_bytes 8 seq ++ (big_bytes 8 time ++ value))

-- a body that is signed with a leaf
pub record SignedHead : Type 0 where
  pub leaf : ℕ
  pub body : List ℕ

abbrev pub head_in : Option Content → List ℕ → List SignedHead
head_in (Some (Commit neighbour leaf)) body = record { leaf = leaf; body = body } ∷ []
head_in other body = []

-- of the entries from a place of the chain on
abbrev pub heads_from : ℕ → Chain → List LogEntry → List SignedHead
heads_from asn chain [] = []
heads_from asn chain (e ∷ es) =
    head_in (content_of e) (head_body asn chain.seq e.time (link_value chain.value chain.seq (shown e)))
    ++ heads_from asn (chained chain (shown e)) es

-- what the COMMITs of the log of an AS sign, in order
unfoldable pub signed_heads : ℕ → List LogEntry → List SignedHead
signed_heads asn log = heads_from asn (log_chain asn) log

-- ---- answers

abbrev pub leaf_in : Option Content → Option ℕ
leaf_in (Some (Commit neighbour leaf)) = Some leaf
leaf_in other = None

-- The leaf of the last COMMIT. Only in a log that no recorder made is it none of the key's, and then it is taken modulo
-- their number.
abbrev pub last_leaf : ℕ → List LogEntry → ℕ
last_leaf height log = unwrap_or (last_of (λ e. leaf_in (content_of e)) log) 0 % 2 ^ height

-- the authenticator of the last entry of a log, signed with the leaf of the last COMMIT
unfoldable pub head_of : Key → List LogEntry → Authenticator
head_of key log =
    let value = value_after (log_chain key.asn) log in
    record {
      asn = key.asn;
      seq = length log;
      time = last_time 0 log;
      hash = value;
      sig = signature_by key.seed key.height (last_leaf key.height log)
          (head_body key.asn (length log) (last_time 0 log) value);
    }

-- the answer of a log that ends with its head
abbrev pub answer_from_first : Key → List LogEntry → AnswerFile
answer_from_first key log = record {
  asn = key.asn;
  first = 1;
  prev = genesis_value key.asn;
  body = None;
  entries = log;
  head = head_of key log;
}

-- the answer of a whole log: its entries up to the last COMMIT to the auditor, and none where there is no such COMMIT
unfoldable pub whole_answer : Key → List LogEntry → Option AnswerFile
whole_answer key log = option_map (λ k. answer_from_first key (take k log)) (last_commit auditor log)
