-- A frame that is accepted.
use Rattle.std.proofs.Common.{◌≡◌, ℕ, zero, suc, ◌+◌, ◌-◌, ◌<◌, ◌≤◌, Bool, true, false, cond, leb, ltb, not, List, [], ◌∷◌, ◌++◌, length, map, take, drop, Option, Some, None, refl, sym, ap, subst, ◌∙◌, arith}
use Rattle.std.specs.List.{filter_map, cons_option}
use Rattle.std.proofs.lemmas.Bool.{ltb-false, leb-false}
use Rattle.std.proofs.lemmas.List.{length-drop, length-take, length-map, take-take, drop-drop, take-append-drop}
use Rattle.std.proofs.lemmas.List.Elements.{filter_map-append}
use Rattle.nr_spec_log.specs.Chain.{LogEntry}
use Rattle.nr_spec_entry.specs.Contents.{Content, Send, Recv, State, Ack, Commit, Checkpoint, Promise}
use Rattle.nr_spec_entry.specs.ContentReading.{content_of}
use Rattle.nr_spec_frames.specs.Frames.{Frame, FrameItem}
use Rattle.nr_spec_frames.specs.Showing.{Shows, names, seen_by}
use Rattle.nr_spec_frames.specs.Verdicts.{View, Verdict, Accepted, Unsigned, Unlinked, Conflict, Old, verdict, matched, receipts, receipt_in, received_from, last_seq, is_signed_end, is_conflicting, frame_value}
use Rattle.nr_spec_frames.specs.Receipts.{Stands, Tight, recvs}
use Rattle.nr_laws_frames.proofs.Lists.{Match, matched_takes, more_received}

-- ---- what a frame shows

unnamed : (n : ℕ) (c : Option Content) → names n c ≡ false → None ≡ received_from n c
unnamed n None e = refl
unnamed n (Some (Send m as4 raw)) e = refl
unnamed n (Some (Recv m as4 raw)) e = rw e refl
unnamed n (Some (State m old new)) e = refl
unnamed n (Some (Ack m upto seq time hash sig)) e = refl
unnamed n (Some (Commit m leaf)) e = refl
unnamed n (Some (Checkpoint body)) e = refl
unnamed n (Some (Promise file count delay)) e = refl

by_name : (n : ℕ) (e : LogEntry) (named : Bool) → names n (content_of e) ≡ named → receipt_in n (seen_by n e) ≡ received_from n (content_of e)
by_name n e true h = rw h refl
by_name n e false h = rw h (unnamed n (content_of e) h)

seen_items : (n : ℕ) (es : List LogEntry) → filter_map (receipt_in n) (map (seen_by n) es) ≡ recvs n es
seen_items n [] = refl
seen_items n (e ∷ es) =
    ap (λ (x : Option (List ℕ)). cons_option x (filter_map (receipt_in n) (map (seen_by n) es))) (by_name n e (names n (content_of e)) refl)
    ∙ ap (λ (x : List (List ℕ)). cons_option (received_from n (content_of e)) x) (seen_items n es)

drop_map : {A B : Type 0} (f : A → B) (i : ℕ) (xs : List A) → drop i (map f xs) ≡ map f (drop i xs)
drop_map f zero xs = refl
drop_map f (suc i) [] = refl
drop_map f (suc i) (x ∷ xs) = drop_map f i xs

receipts_shown : (n : ℕ) (log : List LogEntry) (after k seq : ℕ) (f : Frame) → Shows n log after k f → after ≤ seq → receipts n seq f ≡ recvs n (drop seq (take k log))
receipts_shown n log after k seq f shows le =
    let one : seq + 1 - f.first ≡ seq - after = omega (arith, shows.first) in
    let two : after + (seq - after) ≡ seq = omega arith in
    ap (λ (i : ℕ). filter_map (receipt_in n) (drop i f.items)) one
    ∙ ap (λ (is : List FrameItem). filter_map (receipt_in n) (drop (seq - after) is)) shows.items
    ∙ ap (filter_map (receipt_in n)) (drop_map (seen_by n) (seq - after) (drop after (take k log)))
    ∙ seen_items n (drop (seq - after) (drop after (take k log)))
    ∙ ap (recvs n) (drop-drop (seq - after) after (take k log) ∙ ap (λ (i : ℕ). drop i (take k log)) two)

last_shown : (n : ℕ) (log : List LogEntry) (after k : ℕ) (f : Frame) → Shows n log after k f → last_seq f ≡ k
last_shown n log after k f shows =
    omega (
      arith,
      shows.some,
      shows.within,
      shows.first,
      ap (λ (is : List FrameItem). length is) shows.items,
      length-map (drop after (take k log)) (seen_by n),
      length-drop after (take k log),
      length-take k log,
    )

-- ---- what an accepting verdict says

pub record Accepts (v : View) (f : Frame) (u : ℕ) : Type 0 where
  pub linked : f.first - 1 ≤ v.seq
  pub later : v.seq < last_seq f
  pub matches : matched v.upto 0 (receipts v.number v.seq f) v.pending ≡ Accepted u

else_of : {A : Type 0} (test : Bool) (x y z : A) → cond test x y ≡ z → (x ≡ z → ⊥) → (test ≡ false) × (y ≡ z)
else_of true x y z e other = absurd (other e)
else_of false x y z e other = (refl, e)

unlike_unsigned : (u : ℕ) → Unsigned ≡ Accepted u → ⊥
unlike_unsigned u e = cc

unlike_unlinked : (u : ℕ) → Unlinked ≡ Accepted u → ⊥
unlike_unlinked u e = cc

unlike_conflict : (seq : ℕ) (kept found : List ℕ) (u : ℕ) → Conflict seq kept found ≡ Accepted u → ⊥
unlike_conflict seq kept found u e = cc

unlike_old : (u : ℕ) → Old ≡ Accepted u → ⊥
unlike_old u e = cc

accepting : (v : View) (f : Frame) (u : ℕ) → verdict v f ≡ Accepted u → Accepts v f u
unfolding verdict
accepting v f u e =
    let last : Verdict = matched v.upto 0 (receipts v.number v.seq f) v.pending in
    let third : Verdict = cond (leb (last_seq f) v.seq) Old last in
    let second : Verdict = cond (is_conflicting v f) (Conflict v.seq v.hash (frame_value f v.seq)) third in
    let first : Verdict = cond (ltb v.seq (f.first - 1)) Unlinked second in
    let a = else_of (not (is_signed_end v.root f)) Unsigned first (Accepted u) e (unlike_unsigned u) in
    let b = else_of (ltb v.seq (f.first - 1)) Unlinked second (Accepted u) a.1 (unlike_unlinked u) in
    let c = else_of (is_conflicting v f) (Conflict v.seq v.hash (frame_value f v.seq)) third (Accepted u) b.1 (unlike_conflict v.seq v.hash (frame_value f v.seq) u) in
    let d = else_of (leb (last_seq f) v.seq) Old last (Accepted u) c.1 (unlike_old u) in
    record { linked = ltb-false _ _ b.0; later = leb-false _ _ d.0; matches = d.1 }

-- what is matched ends among what is pending
pub in_bounds : (v : View) (f : Frame) (u : ℕ) → verdict v f ≡ Accepted u → (v.upto ≤ u) × (u ≤ v.upto + length v.pending)
in_bounds v f u e =
    let m = matched_takes v.upto 0 (receipts v.number v.seq f) v.pending u (accepting v f u e).matches in
    (omega (arith, m.up), omega (arith, m.up, m.within))

-- A frame of a log that is accepted: what came up to its last entry stands up to the acknowledged number.
pub stands : (n : ℕ) (log : List LogEntry) (after k : ℕ) (f : Frame) (v : View) (all : List (List ℕ)) (u : ℕ)
    → Shows n log after k f → v.number ≡ n → v.pending ≡ drop v.upto all → Stands n log all v.upto v.seq → verdict v f ≡ Accepted u → Stands n log all u k
stands n log after k f v all u shows same rest so_far e =
    let a : Accepts v f u = accepting v f u e in
    let linked : after ≤ v.seq = omega (arith, a.linked, shows.first) in
    let later : v.seq < k = omega (arith, a.later, last_shown n log after k f shows) in
    let shown : receipts v.number v.seq f ≡ recvs n (drop v.seq (take k log)) =
    ap (λ (m : ℕ). receipts m v.seq f) same ∙ receipts_shown n log after k v.seq f shows linked in
    let m : Match v.upto (recvs n (drop v.seq (take k log))) (drop v.upto all) u =
    subst (λ (t : List (List ℕ)). Match v.upto (recvs n (drop v.seq (take k log))) t u) rest
    (subst (λ (t : List (List ℕ)). Match v.upto t v.pending u) shown (matched_takes v.upto 0 (receipts v.number v.seq f) v.pending u a.matches)) in
    let more = more_received (recvs n (take v.seq log)) (recvs n (drop v.seq (take k log))) all v.upto u so_far.within so_far.tight m in
    let front : take v.seq (take k log) ≡ take v.seq log = take-take v.seq k log (omega arith) in
    let both : recvs n (take k log) ≡ recvs n (take v.seq log) ++ recvs n (drop v.seq (take k log)) =
    ap (recvs n) (sym (take-append-drop v.seq (take k log)))
    ∙ filter_map-append _ (take v.seq (take k log)) (drop v.seq (take k log))
    ∙ ap (λ (t : List LogEntry). recvs n t ++ recvs n (drop v.seq (take k log))) front in
    record { known = shows.within; within = more.0; tight = subst (λ (t : List (List ℕ)). Tight t (take u all)) (sym both) more.1 }

pub matches : (v : View) (f : Frame) (u : ℕ) → verdict v f ≡ Accepted u → matched v.upto 0 (receipts v.number v.seq f) v.pending ≡ Accepted u
matches v f u e = (accepting v f u e).matches
