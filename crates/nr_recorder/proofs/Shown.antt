-- The entries of a frame, and what its head states.
use Rattle.std.proofs.Common.{◌≡◌, ℕ, zero, suc, ◌+◌, ◌-◌, ◌<◌, ◌≤◌, Bool, true, false, List, [], ◌∷◌, ◌++◌, length, map, take, drop, Option, Some, Result, refl, sym, ap, subst, ◌∙◌, cond, arith}
use Rattle.std.specs.Prelude.{slice_index_or}
use Rattle.std.specs.List.{slice_get}
use Rattle.std.specs.Option.{unwrap_or}
use Rattle.std.proofs.lemmas.List.{drop-append-le, length-take-le, map-append}
use Rattle.std.proofs.lemmas.Option.{slice_get_within}
use Rattle.sha2.specs.Sha256.{sha256}
use Rattle.sha2.proofs.Facts256.{length-sha256}
use Rattle.nr_spec_log.specs.Chain.{LogEntry, value_after}
use Rattle.nr_spec_log.specs.Answer.{AreEntriesFrom, IsEntry, last_time}
use Rattle.nr_spec_entry.specs.Contents.{Commit, Content}
use Rattle.nr_spec_entry.specs.ContentReading.{content_of}
use Rattle.nr_spec_routes.specs.LookBack.{last_of}
use Rattle.nr_spec_routes.proofs.Words.{unwrap_push}
use Rattle.nr_spec_counts.specs.Tallies.{is_commit_to}
use Rattle.nr_spec_steps.specs.Heads.{head_of, leaf_in, log_chain}
use Rattle.nr_spec_frames.specs.Frames.{AreItemsFrom, Frame, FrameItem, Hidden, IsItem, Shown, item_time}
use Rattle.nr_spec_frames.specs.Showing.{names, seen_by}
use Rattle.nr_chain.specs.declared.item.Item.{Item}
use Rattle.nr_exchange.specs.Views.{frame_item_of}
use Rattle.nr_exchange.specs.Writing.{Writes, frame_made}
use Rattle.nr_exchange.specs.declared.writing.FrameError.{FrameError}
use Rattle.nr_spec_log.specs.Authenticator.{Authenticator}
use Rattle.nr_spec_history.specs.KeyFiles.{Key}
use Rattle.nr_spec_typing.specs.declared.text.Neighbour.{Neighbour}
use Rattle.nr_spec_deliveries.specs.Sending.{CommitsAt, as_of, frame_for}
use Rattle.nr_recorder.specs.Views.{peers_of}
use Rattle.nr_recorder.specs.Answering.{IsTip}
use Rattle.nr_recorder.proofs.Booking.{fit_from, fit_to, last_more}
use Rattle.nr_recorder.proofs.Linking.{taken}

-- ---- items

pub seen_more : (n : ℕ) (log : List LogEntry) (from place : ℕ) (items new : List Item) (item : Item) (e : LogEntry) → from ≤ place → slice_get log place ≡ Some e
    → map frame_item_of items ≡ map (seen_by n) (drop from (take place log)) → new ≡ items ++ item ∷ [] → frame_item_of item ≡ seen_by n e
    → map frame_item_of new ≡ map (seen_by n) (drop from (take (place + 1) log))
seen_more n log from place items new item e low is so_far more seen =
    let within = slice_get_within log place e is in
    let size : length (take place log) ≡ place = length-take-le place log (omega arith) in
    ap (map frame_item_of) more ∙ map-append frame_item_of items (item ∷ []) ∙ (λ i. so_far i ++ seen i ∷ [])
    ∙ sym (map-append (seen_by n) (drop from (take place log)) (e ∷ []))
    ∙ ap (map (seen_by n)) (sym (ap (drop from) (taken log place e is) ∙ drop-append-le from (take place log) (e ∷ []) (omega arith)))

pub none_seen : (n : ℕ) (log : List LogEntry) (from : ℕ) → map (seen_by n) (drop from (take from log)) ≡ []
none_seen n log from = ap (map (seen_by n)) (none from log)
  where
    none : (k : ℕ) (l : List LogEntry) → drop k (take k l) ≡ []
    none zero l = refl
    none (suc k) [] = refl
    none (suc k) (x ∷ xs) = none k xs

item_fits : (shown : Bool) (e : LogEntry) → IsEntry e → IsItem (cond shown (Shown e) (Hidden e.time e.kind (sha256 e.content)))
item_fits true e is = is
item_fits false e is = (is.time, is.kind, length-sha256 e.content)

time_seen : (shown : Bool) (e : LogEntry) → item_time (cond shown (Shown e) (Hidden e.time e.kind (sha256 e.content))) ≡ e.time
time_seen true e = refl
time_seen false e = refl

items_fit : (n last : ℕ) (log : List LogEntry) → AreEntriesFrom last log → AreItemsFrom last (map (seen_by n) log)
items_fit n last [] fit = tt
items_fit n last (e ∷ es) fit =
    let time = time_seen (names n (content_of e)) e in
    (item_fits (names n (content_of e)) e fit.0, omega (arith, time, fit.1), subst (λ (t : ℕ). AreItemsFrom t (map (seen_by n) es)) (sym time) (items_fit n e.time es fit.2))

from_zero : (last : ℕ) (log : List LogEntry) → AreEntriesFrom last log → AreEntriesFrom 0 log
from_zero last [] fit = tt
from_zero last (e ∷ es) fit = (fit.0, omega arith, fit.2)

pub seen_fit : (n : ℕ) (log : List LogEntry) (from to : ℕ) (items : List Item) → AreEntriesFrom 0 log → map frame_item_of items ≡ map (seen_by n) (drop from (take to log)) → AreItemsFrom 0 (map frame_item_of items)
seen_fit n log from to items fit are =
    subst (AreItemsFrom 0) (sym are) (items_fit n 0 (drop from (take to log)) (from_zero (last_time 0 (take from (take to log))) (drop from (take to log)) (fit_from from 0 (take to log) (fit_to to 0 log fit))))

-- ---- heads

leaf_found : (n : ℕ) (content : Option Content) (z : ℕ) → is_commit_to n content ≡ true → unwrap_or (leaf_in content) z ≡ unwrap_or (leaf_in content) 0
leaf_found n (Some (Commit m leaf)) z is = refl
leaf_found n content z is = absurd cc

pub tip_is : (asn n : ℕ) (log : List LogEntry) (k : ℕ) (e : LogEntry) (value : List ℕ) (time leaf : ℕ) → CommitsAt n log k → slice_get log (k - 1) ≡ Some e
    → value ≡ value_after (log_chain asn) (take k log) → time ≡ e.time → leaf ≡ unwrap_or (leaf_in (content_of e)) 0 → IsTip asn (take k log) k value time leaf
tip_is asn n log k e value time leaf at is value_is time_is leaf_is =
    let some = at.start in
    let next : k ≡ k - 1 + 1 = omega arith in
    let all : take k log ≡ take (k - 1) log ++ e ∷ [] = ap (λ (j : ℕ). take j log) next ∙ taken log (k - 1) e is in
    let within = slice_get_within log (k - 1) e is in
    let same : e ≡ at.entry = one e at.entry (sym is ∙ at.place) in
    record {
      number = sym (length-take-le k log (omega arith));
      chained = value_is;
      last = time_is ∙ sym (ap (last_time 0) all ∙ last_more 0 (take (k - 1) log) e);
      committed = leaf_is ∙ sym (
          ap (λ (l : List LogEntry). unwrap_or (last_of (λ (x : LogEntry). leaf_in (content_of x)) l) 0) all
          ∙ unwrap_push (λ (x : LogEntry). leaf_in (content_of x)) (take (k - 1) log) e 0
          ∙ leaf_found n (content_of e) _ (ap (λ (x : LogEntry). is_commit_to n (content_of x)) same ∙ at.commits));
    }
  where
    one : (x y : LogEntry) → Some x ≡ Some y → x ≡ y
    one x y same = cc

pub committed_within : (n : ℕ) (log : List LogEntry) (k : ℕ) → CommitsAt n log k → k ≤ length log
committed_within n log k at = omega (arith, at.start, slice_get_within log (k - 1) at.entry at.place)

-- ---- frames

pub as_is : (neighbours : List Neighbour) (n : ℕ) (z : Neighbour) → n < length neighbours → (slice_index_or neighbours n z).asn ≡ as_of (peers_of neighbours) n
as_is [] n z less = absurd (omega arith)
as_is (x ∷ xs) zero z less = refl
as_is (x ∷ xs) (suc n) z less = as_is xs n z (omega arith)

pub frame_is : (asn to_as n first : ℕ) (prev : List ℕ) (items : List FrameItem) (head : Authenticator) (key : Key) (whose : ℕ) (log : List LogEntry) (after k : ℕ) → asn ≡ key.asn → to_as ≡ whose
    → first ≡ after + 1 → prev ≡ value_after (log_chain key.asn) (take after log) → items ≡ map (seen_by n) (drop after (take k log)) → head ≡ head_of key (take k log)
    → frame_made asn to_as n first prev items head ≡ frame_for key whose n log after k
unfolding frame_for
frame_is asn to_as n first prev items head key whose log after k asn_is to_is first_is prev_is items_are head_is = λ i. record {
  from_as = asn_is i;
  to_as = to_is i;
  number = n;
  first = first_is i;
  prev = prev_is i;
  items = items_are i;
  auth = head_is i;
}

pub written : {V : Type 0} (bytes : V → List ℕ) (result : Result V FrameError) (made given : Frame) → made ≡ given → Writes bytes result made → Writes bytes result given
written bytes result made given same writes = subst (Writes bytes result) same writes
