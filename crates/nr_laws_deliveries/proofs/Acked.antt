-- What is acknowledged comes of a frame that was accepted.
use Rattle.std.proofs.Common.{◌≡◌, ℕ, suc, ◌+◌, ◌<◌, ◌≤◌, ◌==◌, Bool, true, false, cond, List, [], ◌∷◌, length, Option, Some, None, Result, Ok, Err, refl, sym, ap, subst, ◌∙◌, eqb-true, arith}
use Rattle.std.proofs.lemmas.List.{length-drop}
use Rattle.std.specs.List.{cons_option, count_by}
use Rattle.std.specs.Option.{option_map, unwrap_or}
use Rattle.std.proofs.lemmas.List.Recursion.{is_count_by}
use Rattle.sha2.specs.Sha256.{sha256}
use Rattle.sha2.proofs.Facts256.{length-sha256}
use Rattle.nr_spec_wire.specs.Reading.{IsBytes}
use Rattle.nr_spec_log.specs.Chain.{LogEntry}
use Rattle.nr_spec_log.specs.Authenticator.{signature}
use Rattle.nr_spec_entry.specs.Contents.{Ack, Checkpoint, Commit, Content, Promise, Recv, Send, State}
use Rattle.nr_spec_entry.specs.ContentReading.{content_of}
use Rattle.nr_spec_routes.specs.LookBack.{last_of, later_or}
use Rattle.nr_spec_counts.specs.Tallies.{Numbers, ack_from, is_send_to, tally_after}
use Rattle.nr_spec_frames.specs.Frames.{Frame, frame_of}
use Rattle.nr_spec_frames.specs.Verdicts.{Accepted, Conflict, Disputed, Old, Unlinked, Unsigned, Verdict, verdict}
use Rattle.nr_laws_frames.proofs.Accepting.{in_bounds}
use Rattle.nr_laws_frames.proofs.FrameLaws.{frame_takes}
use Rattle.nr_spec_steps.specs.Steps.{known}
use Rattle.nr_spec_steps.specs.Telling.{IsFairAck}
use Rattle.nr_spec_deliveries.specs.Sending.{Peer}
use Rattle.nr_laws_deliveries.specs.Laws.{IsAcceptance}
use Rattle.nr_spec_deliveries.specs.Deliveries.{Kept, Sender, ack_by, ack_for, acknowledged_by, delivered, delivery, judged, kept_in, last_kept, nothing_kept, root_with, sender_from, sender_or, sends, sent_to, view_of}

-- ---- by cases

acked_by : (n : ℕ) (f : Frame) (v : Verdict) (content : Content) → ack_by n f v ≡ Some content
    → (upto : ℕ) × (v ≡ Accepted upto) × (content ≡ Ack n upto f.auth.seq f.auth.time f.auth.hash (sha256 (signature f.auth.sig)))
acked_by n f (Accepted upto) content is = (upto, refl, cc)
acked_by n f Old content is = absurd cc
acked_by n f Unsigned content is = absurd cc
acked_by n f Unlinked content is = absurd cc
acked_by n f (Conflict seq kept found) content is = absurd cc
acked_by n f (Disputed i) content is = absurd cc

by_sender : (asn : ℕ) (peers : List Peer) (log : List LogEntry) (bytes : List ℕ) (content : Content) (f : Frame) (s : Option Sender) → frame_of bytes ≡ Ok f → f.to_as ≡ asn
    → sender_from 0 f.from_as f.number peers ≡ s → ack_for (judged log f s) ≡ Some content → IsAcceptance asn peers log bytes content
by_sender asn peers log bytes content f None read to from is = absurd cc
by_sender asn peers log bytes content f (Some s) read to from is =
    let a = acked_by s.neighbour f (verdict (view_of s f.number log) f) content is in
    record { frame = f; read = read; addressed = to; sender = s; known = from; upto = a.0; accepted = a.1; ack = a.2 }

addressed : (asn : ℕ) (peers : List Peer) (log : List LogEntry) (bytes : List ℕ) (content : Content) (f : Frame) (b : Bool) → frame_of bytes ≡ Ok f → (f.to_as == asn) ≡ b
    → ack_for (delivered asn peers log (Ok f)) ≡ Some content → IsAcceptance asn peers log bytes content
addressed asn peers log bytes content f true read is acked =
    by_sender asn peers log bytes content f (sender_from 0 f.from_as f.number peers) read (eqb-true _ _ is) refl (sym (ap ack_for (so is)) ∙ acked)
  where
    so : (f.to_as == asn) ≡ true → delivered asn peers log (Ok f) ≡ judged log f (sender_from 0 f.from_as f.number peers)
    so e = rw e refl
addressed asn peers log bytes content f false read is acked = absurd cc

by_frame : (asn : ℕ) (peers : List Peer) (log : List LogEntry) (bytes : List ℕ) (content : Content) (r : Result Frame ℕ) → frame_of bytes ≡ r
    → ack_for (delivered asn peers log r) ≡ Some content → IsAcceptance asn peers log bytes content
by_frame asn peers log bytes content (Err place) is acked = absurd cc
by_frame asn peers log bytes content (Ok f) is acked = addressed asn peers log bytes content f (f.to_as == asn) is refl acked

pub accepted : (asn : ℕ) (peers : List Peer) (log : List LogEntry) (bytes : List ℕ) (content : Content) → acknowledged_by asn peers log bytes ≡ Some content → IsAcceptance asn peers log bytes content
unfolding delivery
accepted asn peers log bytes content is = by_frame asn peers log bytes content (frame_of bytes) refl is

-- ---- what is known

kept_is : (n : ℕ) (content : Option Content) → option_map (λ (k : Kept). k.upto) (kept_in n content) ≡ ack_from n content
kept_is n None = refl
kept_is n (Some (Send m as4 raw)) = refl
kept_is n (Some (Recv m as4 raw)) = refl
kept_is n (Some (State m old new)) = refl
kept_is n (Some (Ack m upto seq time hash sig)) = by_test (m == n)
  where
    by_test : (b : Bool) → option_map (λ (k : Kept). k.upto) (cond b (Some (record { upto = upto; seq = seq; hash = hash })) None) ≡ cond b (Some upto) None
    by_test true = refl
    by_test false = refl
kept_is n (Some (Commit m leaf)) = refl
kept_is n (Some (Checkpoint body)) = refl
kept_is n (Some (Promise file count delay)) = refl

later_kept : (later earlier : Option Kept) → option_map (λ (k : Kept). k.upto) (later_or later earlier) ≡ later_or (option_map (λ (k : Kept). k.upto) later) (option_map (λ (k : Kept). k.upto) earlier)
later_kept None earlier = refl
later_kept (Some k) earlier = refl

last_is : (n : ℕ) (log : List LogEntry) → option_map (λ (k : Kept). k.upto) (last_kept n log) ≡ last_of (λ (e : LogEntry). ack_from n (content_of e)) log
last_is n [] = refl
last_is n (e ∷ es) = later_kept (last_kept n es) (kept_in n (content_of e)) ∙ (λ i. later_or (last_is n es i) (kept_is n (content_of e) i))

unwrapped : (asn : ℕ) (k : Option Kept) → (unwrap_or k (nothing_kept asn)).upto ≡ unwrap_or (option_map (λ (x : Kept). x.upto) k) 0
unwrapped asn None = refl
unwrapped asn (Some k) = refl

acked_is : (asn n : ℕ) (log : List LogEntry) → (unwrap_or (last_kept n log) (nothing_kept asn)).upto ≡ (known log).acked n
unfolding tally_after
acked_is asn n log = unwrapped asn (last_kept n log) ∙ ap (λ (o : Option ℕ). unwrap_or o 0) (last_is n log)

one_sent : (n : ℕ) (content : Option Content) (others : List (List ℕ)) → length (cons_option (sent_to n content) others) ≡ cond (is_send_to n content) (1 + length others) (length others)
one_sent n None others = refl
one_sent n (Some (Send m as4 raw)) others = by_test (m == n)
  where
    by_test : (b : Bool) → length (cons_option (cond b (Some raw) None) others) ≡ cond b (1 + length others) (length others)
    by_test true = let one : suc (length others) ≡ 1 + length others = omega arith in one
    by_test false = refl
one_sent n (Some (Recv m as4 raw)) others = refl
one_sent n (Some (State m old new)) others = refl
one_sent n (Some (Ack m upto seq time hash sig)) others = refl
one_sent n (Some (Commit m leaf)) others = refl
one_sent n (Some (Checkpoint body)) others = refl
one_sent n (Some (Promise file count delay)) others = refl

sends_are : (n : ℕ) (log : List LogEntry) → length (sends n log) ≡ (known log).sends n
unfolding tally_after
sends_are n log =
    let counted : ℕ = count_by (λ (e : LogEntry). is_send_to n (content_of e)) log in
    let none_before : counted ≡ 0 + counted = omega arith in
    is_count_by (λ (l : List LogEntry). length (sends n l)) (λ (e : LogEntry). is_send_to n (content_of e)) refl
    (λ e es. one_sent n (content_of e) (sends n es)) log
    ∙ none_before

-- ---- who sends

sender_below : (start asn number : ℕ) (peers : List Peer) (s : Sender) → sender_from start asn number peers ≡ Some s → s.neighbour < start + length peers
sender_below start asn number [] s is = absurd cc
sender_below start asn number (p ∷ ps) s is = by_root (root_with asn number p) (λ found. sender_below (start + 1) asn number ps s found) is
  where
    here : (x y : Sender) → Some x ≡ Some y → x.neighbour ≡ y.neighbour
    here x y e = cc

    by_root : (root : Option (List ℕ)) → (sender_from (start + 1) asn number ps ≡ Some s → s.neighbour < start + 1 + length ps)
        → sender_or start asn root (sender_from (start + 1) asn number ps) ≡ Some s → s.neighbour < start + suc (length ps)
    by_root None later found = let below = later found in omega (arith, below)
    by_root (Some root) later found =
        let at : start ≡ s.neighbour = here (record { neighbour = start; asn = asn; root = root }) s found in
        omega (arith, at)

-- ---- fair

pub fairly : (own : Numbers) (asn : ℕ) (peers : List Peer) (log : List LogEntry) (bytes : List ℕ) (content : Content) → own.count ≡ length peers → IsBytes bytes
    → ((n : ℕ) → (known log).acked n ≤ (known log).sends n) → acknowledged_by asn peers log bytes ≡ Some content → IsFairAck own (known log) content
fairly own asn peers log bytes content count are few acked =
    let a = accepted asn peers log bytes content acked in
    let n : ℕ = a.sender.neighbour in
    let f = a.frame in
    let read = frame_takes bytes f are a.read in
    let below = sender_below 0 f.from_as f.number peers a.sender a.known in
    let bounds = in_bounds (view_of a.sender f.number log) f a.upto a.accepted in
    let kept = acked_is a.sender.asn n log in
    let left = length-drop (unwrap_or (last_kept n log) (nothing_kept a.sender.asn)).upto (sends n log) in
    let all = sends_are n log in
    let no_more = few n in
    subst (λ (c : Content). IsFairAck own (known log) c) (sym a.ack) (
      omega (arith, count, below),
      omega (arith, kept, bounds.0),
      omega (arith, kept, left, all, no_more, bounds.1),
      read.0.auth.seq,
      read.0.auth.time,
      read.0.auth.hash,
      length-sha256 (signature f.auth.sig),
    )
