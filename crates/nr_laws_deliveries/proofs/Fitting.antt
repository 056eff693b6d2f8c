-- The frame that a recorder makes is a frame.
use Rattle.std.proofs.Common.{◌≡◌, ℕ, zero, suc, ◌<◌, ◌≤◌, ◌^◌, Bool, true, false, cond, List, [], ◌∷◌, length, map, take, drop, refl, sym, subst, arith}
use Rattle.std.proofs.lemmas.Nat.{mod_below, pow_pos}
use Rattle.std.proofs.lemmas.List.{length-drop, length-map, length-take-le}
use Rattle.sha2.specs.Sha256.{sha256}
use Rattle.sha2.proofs.Facts256.{length-sha256}
use Rattle.nr_spec_log.specs.Chain.{Chain, LogEntry, chained, genesis_value, link_value, shown, value_after}
use Rattle.nr_spec_log.specs.Authenticator.{IsAuthenticator}
use Rattle.nr_spec_log.specs.Answer.{AreEntriesFrom, IsEntry, last_time}
use Rattle.nr_spec_keys.proofs.TreeLemmas.{signature_by-fits}
use Rattle.nr_spec_history.specs.KeyFiles.{Key}
use Rattle.nr_spec_entry.specs.ContentReading.{content_of}
use Rattle.nr_spec_frames.specs.Frames.{AreItemsFrom, Hidden, IsFrame, IsItem, Shown, item_time}
use Rattle.nr_spec_frames.specs.Showing.{names, seen_by}
use Rattle.nr_spec_steps.specs.Heads.{head_body, head_of, last_leaf, log_chain}
use Rattle.nr_spec_deliveries.specs.Sending.{frame_for}
use Rattle.nr_laws_deliveries.specs.Rooms.{HasRoom}

-- ---- the items

item_fits : (shows : Bool) (e : LogEntry) → IsEntry e → IsItem (cond shows (Shown e) (Hidden e.time e.kind (sha256 e.content)))
item_fits true e is = is
item_fits false e is = (is.time, is.kind, length-sha256 e.content)

at_time : (shows : Bool) (e : LogEntry) → item_time (cond shows (Shown e) (Hidden e.time e.kind (sha256 e.content))) ≡ e.time
at_time true e = refl
at_time false e = refl

items_fit : (n last : ℕ) (log : List LogEntry) → AreEntriesFrom last log → AreItemsFrom last (map (seen_by n) log)
items_fit n last [] fit = tt
items_fit n last (e ∷ es) fit =
    let time = at_time (names n (content_of e)) e in
    (item_fits (names n (content_of e)) e fit.0, omega (arith, time, fit.1), subst (λ (t : ℕ). AreItemsFrom t (map (seen_by n) es)) (sym time) (items_fit n e.time es fit.2))

fit_to : (n last : ℕ) (log : List LogEntry) → AreEntriesFrom last log → AreEntriesFrom last (take n log)
fit_to zero last log fit = tt
fit_to (suc n) last [] fit = tt
fit_to (suc n) last (e ∷ es) fit = (fit.0, fit.1, fit_to n e.time es fit.2)

fit_from : (n last : ℕ) (log : List LogEntry) → AreEntriesFrom last log → AreEntriesFrom (last_time last (take n log)) (drop n log)
fit_from zero last log fit = fit
fit_from (suc n) last [] fit = fit
fit_from (suc n) last (e ∷ es) fit = fit_from n e.time es fit.2

from_zero : (last : ℕ) (log : List LogEntry) → AreEntriesFrom last log → AreEntriesFrom 0 log
from_zero last [] fit = tt
from_zero last (e ∷ es) fit = (fit.0, omega arith, fit.2)

-- ---- the head

length_value : (chain : Chain) (es : List LogEntry) → length chain.value ≡ 32 → length (value_after chain es) ≡ 32
unfolding link_value
length_value chain [] size = size
length_value chain (e ∷ es) size = length_value (chained chain (shown e)) es (length-sha256 _)

length_genesis : (asn : ℕ) → length (genesis_value asn) ≡ 32
unfolding genesis_value
length_genesis asn = length-sha256 _

time_fits : (last : ℕ) (es : List LogEntry) → last < 2 ^ 64 → AreEntriesFrom last es → last_time last es < 2 ^ 64
time_fits last [] before fits = before
time_fits last (e ∷ es) before fits = time_fits e.time es fits.0.time fits.2

head_fits : (key : Key) (log : List LogEntry) → key.asn < 2 ^ 32 → 1 ≤ key.height → key.height ≤ 16 → length log < 2 ^ 64 → AreEntriesFrom 0 log → IsAuthenticator (head_of key log)
unfolding head_of
head_fits key log asn least most few fit = record {
  asn = asn;
  seq = few;
  time = time_fits 0 log (omega arith) fit;
  hash = length_value (log_chain key.asn) log (length_genesis key.asn);
  sig = signature_by-fits key.seed (head_body key.asn (length log) (last_time 0 log) (value_after (log_chain key.asn) log)) key.height (last_leaf key.height log) least most
      (mod_below _ (2 ^ key.height) (pow_pos key.height));
}

-- ---- the frame

pub frame_fits : (key : Key) (to_as n : ℕ) (log : List LogEntry) (after k : ℕ) → HasRoom key to_as n log after k → IsFrame (frame_for key to_as n log after k)
unfolding frame_for
frame_fits key to_as n log after k room =
    let front = fit_to k 0 log room.entries in
    let upto : length (take k log) ≡ k = length-take-le k log room.within in
    let many = length-map (drop after (take k log)) (seen_by n) in
    let left = length-drop after (take k log) in
    record {
      from_as = room.asn;
      to_as = room.to;
      number = room.neighbour;
      start = omega arith;
      first = room.first;
      prev = length_value (log_chain key.asn) (take after log) (length_genesis key.asn);
      least = omega (arith, upto, many, left, room.some);
      most = omega (arith, upto, many, left, room.items);
      items = items_fit n 0 (drop after (take k log)) (from_zero (last_time 0 (take after (take k log))) (drop after (take k log)) (fit_from after 0 (take k log) front));
      auth = head_fits key (take k log) room.asn room.least room.most (omega (arith, upto, room.items, room.first)) front;
    }
