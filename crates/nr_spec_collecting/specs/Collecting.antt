-- The signed heads of one network, as it has shown them in frames.
use Rattle.std.specs.Prelude.{ℕ, if◌then◌else◌, ◌==◌, List, Option, None, Some, Result, Ok, Err}
use Rattle.std.specs.List.{filter_map}
use Rattle.nr_spec_log.specs.Authenticator.{Authenticator}
use Rattle.nr_spec_frames.specs.Frames.{Frame, frame_of}

-- the authenticator of a frame that says it is from this AS; bytes that aren't a frame give none
abbrev pub head_from : ℕ → Result Frame ℕ → Option Authenticator
head_from asn (Ok f) = if f.from_as == asn then Some f.auth else None
head_from asn (Err place) = None

-- the authenticators of the frames from this AS, in order, of the bytes of frames
abbrev pub heads_from : ℕ → List (List ℕ) → List Authenticator
heads_from asn frames = filter_map (λ bytes. head_from asn (frame_of bytes)) frames
