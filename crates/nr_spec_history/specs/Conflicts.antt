-- Authenticators that an answer contradicts.
use Rattle.std.specs.Prelude.{ℕ, Bool, ◌&&◌, ◌==◌, not, nat_le, List, filter}
use Rattle.std.specs.List.{list_any}
use Rattle.std.specs.Str.{bytes_eq}
use Rattle.nr_spec_log.specs.Chain.{Chain, Link, links_of, value_after}
use Rattle.nr_spec_log.specs.Authenticator.{Authenticator, signed_body}
use Rattle.nr_spec_log.specs.Answer.{AnswerFile}
use Rattle.nr_spec_keys.specs.Trees.{root_from}

-- a period, in microseconds, both ends included
pub record Period : Type 0 where
  pub from : ℕ
  pub to : ℕ

-- whether it is signed under a root: its signature leads there from its body
abbrev pub is_signed : List ℕ → Authenticator → Bool
is_signed root a = bytes_eq (root_from (signed_body a) a.sig) root

-- whether it names this AS and has its time in the period
abbrev pub is_about : ℕ → Period → Authenticator → Bool
is_about asn period a = a.asn == asn && (nat_le period.from a.time && nat_le a.time period.to)

-- An authenticator is presented where it names the AS of the answer, has its time in the period, and is signed
-- under the audited root.
abbrev pub is_presented : List ℕ → ℕ → Period → Authenticator → Bool
is_presented root asn period a = is_about asn period a && is_signed root a

-- the entry that the authenticator states: its number, its time and its chain value
abbrev pub is_stated : Authenticator → Link → Bool
is_stated a link = link.seq == a.seq && (link.time == a.time && bytes_eq link.value a.hash)

-- It is a conflict where it is presented and no entry is the one that it states.
abbrev pub is_conflict : List ℕ → ℕ → Period → List Link → Authenticator → Bool
is_conflict root asn period links a = is_presented root asn period a && not (list_any (is_stated a) links)

-- where the chain of an answer begins
abbrev pub chain_of : AnswerFile → Chain
chain_of answer = record { value = answer.prev; seq = answer.first }

-- what each entry of an answer has: its number, its time and its chain value
abbrev pub answer_links : AnswerFile → List Link
answer_links answer = links_of (chain_of answer) answer.entries

-- the chain value of the last entry
abbrev pub answer_value : AnswerFile → List ℕ
answer_value answer = value_after (chain_of answer) answer.entries

-- the conflicts, in file order, repeats included
abbrev pub conflicts_of : List ℕ → AnswerFile → Period → List Authenticator → List Authenticator
conflicts_of root answer period auths = filter (is_conflict root answer.asn period (answer_links answer)) auths
