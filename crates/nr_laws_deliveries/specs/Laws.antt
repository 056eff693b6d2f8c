-- What it means that an ACK comes of a frame that was accepted.
use Rattle.std.specs.Prelude.{ℕ, ◌≡◌, List, Ok, Some}
use Rattle.sha2.specs.Sha256.{sha256}
use Rattle.nr_spec_log.specs.Authenticator.{signature}
use Rattle.nr_spec_log.specs.Chain.{LogEntry}
use Rattle.nr_spec_entry.specs.Contents.{Ack, Content}
use Rattle.nr_spec_frames.specs.Frames.{Frame, frame_of}
use Rattle.nr_spec_frames.specs.Verdicts.{Accepted, verdict}
use Rattle.nr_spec_deliveries.specs.Sending.{Peer}
use Rattle.nr_spec_deliveries.specs.Deliveries.{Sender, sender_from, view_of}

-- The bytes are a frame for the AS from one of these neighbours, it is accepted, and the content is the ACK of it.
pub record IsAcceptance (asn : ℕ) (peers : List Peer) (log : List LogEntry) (bytes : List ℕ) (content : Content) : Type 0 where
  pub frame : Frame
  pub read : frame_of bytes ≡ Ok frame
  pub addressed : frame.to_as ≡ asn
  pub sender : Sender
  pub known : sender_from 0 frame.from_as frame.number peers ≡ Some sender
  pub upto : ℕ
  pub accepted : verdict (view_of sender frame.number log) frame ≡ Accepted upto
  pub ack : content
      ≡ Ack sender.neighbour upto frame.auth.seq frame.auth.time frame.auth.hash (sha256 (signature frame.auth.sig))
