-- What a recorder makes of bytes that came as a frame, from its log.
use Rattle.std.specs.Prelude.{ℕ, ◌+◌, if◌then◌else◌, ◌==◌, [], ◌∷◌, Err, List, None, Ok, Option, Result, Some, drop, unwrap_or}
use Rattle.std.specs.List.{filter_map}
use Rattle.sha2.specs.Sha256.{sha256}
use Rattle.nr_spec_log.specs.Authenticator.{signature}
use Rattle.nr_spec_log.specs.Chain.{LogEntry, genesis_value}
use Rattle.nr_spec_entry.specs.Contents.{Ack, Content, Send}
use Rattle.nr_spec_entry.specs.ContentReading.{content_of}
use Rattle.nr_spec_routes.specs.LookBack.{last_of}
use Rattle.nr_spec_frames.specs.Frames.{Frame, frame_of}
use Rattle.nr_spec_frames.specs.Verdicts.{Accepted, Verdict, View, verdict}
use Rattle.nr_spec_deliveries.specs.Sending.{Peer, PeerKey}

-- ---- who sends

-- a neighbour that a frame comes from: its number, and its AS and the root of its key
pub record Sender : Type 0 where
  pub neighbour : ℕ
  pub asn : ℕ
  pub root : List ℕ

-- a key under which the neighbour uses this number
abbrev pub root_under : ℕ → Option PeerKey → Option (List ℕ)
root_under number None = None
root_under number (Some key) = if key.number == number then Some key.root else None

-- the root of a neighbour that has this AS and uses this number
abbrev pub root_with : ℕ → ℕ → Peer → Option (List ℕ)
root_with asn number p = if p.asn == asn then root_under number p.key else None

abbrev pub sender_or : ℕ → ℕ → Option (List ℕ) → Option Sender → Option Sender
sender_or n asn None others = others
sender_or n asn (Some root) others = Some (record { neighbour = n; asn = asn; root = root })

-- the first such neighbour of these, the first of which has the number n
abbrev pub sender_from : ℕ → ℕ → ℕ → List Peer → Option Sender
sender_from n asn number [] = None
sender_from n asn number (p ∷ ps) = sender_or n asn (root_with asn number p) (sender_from (n + 1) asn number ps)

-- ---- what is known of a neighbour

-- what an ACK keeps of a neighbour: how many messages to it are acknowledged, and the number and the chain value of the
-- entry of its log
pub record Kept : Type 0 where
  pub upto : ℕ
  pub seq : ℕ
  pub hash : List ℕ

abbrev pub kept_in : ℕ → Option Content → Option Kept
kept_in n (Some (Ack m upto seq time hash sig)) =
    if m == n then Some (record { upto = upto; seq = seq; hash = hash }) else None
kept_in n other = None

-- before the first ACK: of its log there is nothing but where it begins
abbrev pub nothing_kept : ℕ → Kept
nothing_kept asn = record { upto = 0; seq = 0; hash = genesis_value asn }

-- what the last ACK of neighbour n keeps
abbrev pub last_kept : ℕ → List LogEntry → Option Kept
last_kept n log = last_of (λ e. kept_in n (content_of e)) log

abbrev pub sent_to : ℕ → Option Content → Option (List ℕ)
sent_to n (Some (Send m as4 raw)) = if m == n then Some raw else None
sent_to n other = None

-- the messages to neighbour n
abbrev pub sends : ℕ → List LogEntry → List (List ℕ)
sends n log = filter_map (λ e. sent_to n (content_of e)) log

-- by what is kept, and all messages
abbrev pub view_with : List ℕ → ℕ → Kept → List (List ℕ) → View
view_with root number kept all = record {
  root = root;
  number = number;
  seq = kept.seq;
  hash = kept.hash;
  upto = kept.upto;
  pending = drop kept.upto all;
}

-- what a log knows of a sender, that uses this number
abbrev pub view_of : Sender → ℕ → List LogEntry → View
view_of s number log =
    view_with s.root number (unwrap_or (last_kept s.neighbour log) (nothing_kept s.asn)) (sends s.neighbour log)

-- ---- deliveries

pub data Delivery : Type 0 where
  -- the bytes aren't a frame: where their first malformed field is
  BadFrame : (place : ℕ) → Delivery
  -- a frame for another AS, or from nobody whose key is known
  Stranger : Delivery
  Judged : (neighbour : ℕ) (frame : Frame) (verdict : Verdict) → Delivery

abbrev pub judged : List LogEntry → Frame → Option Sender → Delivery
judged log f None = Stranger
judged log f (Some s) = Judged s.neighbour f (verdict (view_of s f.number log) f)

abbrev pub delivered : ℕ → List Peer → List LogEntry → Result Frame ℕ → Delivery
delivered asn peers log (Err place) = BadFrame place
delivered asn peers log (Ok f) =
    if f.to_as == asn then judged log f (sender_from 0 f.from_as f.number peers) else Stranger

-- what a recorder of an AS with these neighbours makes of bytes
unfoldable pub delivery : ℕ → List Peer → List LogEntry → List ℕ → Delivery
delivery asn peers log bytes = delivered asn peers log (frame_of bytes)

-- ---- what is acknowledged

-- the ACK of a frame that is accepted
abbrev pub ack_by : ℕ → Frame → Verdict → Option Content
ack_by n f (Accepted upto) = Some (Ack n upto f.auth.seq f.auth.time f.auth.hash (sha256 (signature f.auth.sig)))
ack_by n f other = None

abbrev pub ack_for : Delivery → Option Content
ack_for (Judged n f v) = ack_by n f v
ack_for other = None

-- what a recorder of an AS with these neighbours acknowledges of bytes that come behind a log
abbrev pub acknowledged_by : ℕ → List Peer → List LogEntry → List ℕ → Option Content
acknowledged_by asn peers log bytes = ack_for (delivery asn peers log bytes)
