-- Items.
use Rattle.std.proofs.Common.{◌≡◌, ℕ, zero, suc, ◌+◌, ◌^◌, ◌<◌, ◌≤◌, Bool, true, false, eqb, leb, List, [], ◌∷◌, ◌++◌, length, Ok, refl, sym, ap, subst, ◌∙◌, append_assoc, arith}
use Rattle.std.specs.List.{flat_map}
use Rattle.std.proofs.lemmas.Bool.{leb-true, le-leb}
use Rattle.std.proofs.lemmas.List.{length-append}
use Rattle.std.proofs.lemmas.List.Concat.{flat_map-cons}
use Rattle.byteorder.specs.Endian.{big_bytes}
use Rattle.nr_spec_wire.specs.Reading.{Spot, IsBytes}
use Rattle.nr_spec_wire.proofs.Steps.{ok_is}
use Rattle.nr_spec_log.specs.Chain.{LogEntry}
use Rattle.nr_spec_log.specs.Authenticator.{digest_size}
use Rattle.nr_spec_frames.specs.Frames.{FrameItem, Shown, Hidden, IsItem, AreItemsFrom, frame_item, item_time, inside_at, item_at, items_at}
use Rattle.nr_laws_log.specs.Laws.{Takes, ReadsSpelled, SpelledReads, IsPrefixFree}
use Rattle.nr_laws_log.proofs.Fields.{Takes-then, step, number_step, number_again, bytes_step, bytes_again, prefix_free, wants_step, reads_then, wants_then}
use Rattle.nr_laws_frames.specs.Laws.{IsNextItem, AreNextItems}

-- ---- after tag, time and kind

abbrev tag_of : Bool → ℕ
tag_of true = 1
tag_of false = 0

tag_is : (n : ℕ) → leb n 1 ≡ true → n ≡ tag_of (eqb n 1)
tag_is zero e = refl
tag_is (suc zero) e = refl
tag_is (suc (suc n)) e = absurd (omega (arith, leb-true _ _ e))

record Inside (shown : Bool) (time kind : ℕ) (s : Spot) (v : FrameItem) (new : Spot) : Type 0 where
  pub time_is : time ≡ item_time v
  pub fits : time < 2 ^ 64 → kind < 256 → IsItem v
  pub takes : (s0 s1 s2 : Spot) → Takes s0 (big_bytes 1 (tag_of shown)) s1 → Takes s1 (big_bytes 8 time) s2 → Takes s2 (big_bytes 1 kind) s → Takes s0 (frame_item v) new

inside_takes : (shown : Bool) (time kind : ℕ) (s : Spot) (v : FrameItem) (new : Spot) → IsBytes s.rest → inside_at shown time kind s ≡ Ok (v, new) → Inside shown time kind s v new
unfolding inside_at
inside_takes true time kind s v new fits e =
    let a = number_step 2 s _ (v, new) fits e in
    let b = bytes_step a.value a.next _ (v, new) a.takes.rest_fits a.goes_on in
    let made : LogEntry = record { time = time; kind = kind; content = b.value } in
    let len : length b.value ≡ a.value = b.value_fits in
    let small : length b.value < 2 ^ 16 = omega (arith, len, a.value_fits) in
    let both = Takes-then s (big_bytes 2 a.value) a.next b.value b.next a.takes b.takes in
    let tail : Takes s (big_bytes 2 (length b.value) ++ b.value) b.next = subst (λ (k : ℕ). Takes s (big_bytes 2 k ++ b.value) b.next) (sym len) both in
    subst (λ (p : FrameItem × Spot). Inside true time kind s p.0 p.1) (ok_is (Shown made, b.next) (v, new) b.goes_on) (record {
      time_is = refl;
      fits = λ t k. record { time = t; kind = k; content = small };
      takes = λ s0 s1 s2 t0 t1 t2.
          let w2 = Takes-then s2 (big_bytes 1 kind) s (big_bytes 2 (length b.value) ++ b.value) b.next t2 tail in
          let w1 = Takes-then s1 (big_bytes 8 time) s2 (big_bytes 1 kind ++ (big_bytes 2 (length b.value) ++ b.value)) b.next t1 w2 in
          Takes-then s0 (big_bytes 1 1) s1 (big_bytes 8 time ++ (big_bytes 1 kind ++ (big_bytes 2 (length b.value) ++ b.value))) b.next t0 w1;
    })
inside_takes false time kind s v new fits e =
    let b = bytes_step digest_size s _ (v, new) fits e in
    subst (λ (p : FrameItem × Spot). Inside false time kind s p.0 p.1) (ok_is (Hidden time kind b.value, b.next) (v, new) b.goes_on) (record {
      time_is = refl;
      fits = λ t k. (t, k, b.value_fits);
      takes = λ s0 s1 s2 t0 t1 t2.
          let w2 = Takes-then s2 (big_bytes 1 kind) s b.value b.next t2 b.takes in
          let w1 = Takes-then s1 (big_bytes 8 time) s2 (big_bytes 1 kind ++ b.value) b.next t1 w2 in
          Takes-then s0 (big_bytes 1 0) s1 (big_bytes 8 time ++ (big_bytes 1 kind ++ b.value)) b.next t0 w1;
    })

shown_again : (time kind : ℕ) (content : List ℕ) (at : ℕ) (rest : List ℕ) → length content < 2 ^ 16
    → inside_at true time kind (record { at = at; rest = big_bytes 2 (length content) ++ (content ++ rest) })
    ≡ Ok (Shown (record { time = time; kind = kind; content = content }), record { at = at + length (big_bytes 2 (length content)) + length content; rest = rest })
unfolding inside_at
shown_again time kind content at rest small =
    reads_then _ _ _ _ (number_again 2 (length content) at (content ++ rest) small)
    (reads_then _ _ _ _ (bytes_again (length content) content (at + length (big_bytes 2 (length content))) rest refl) refl)

hidden_again : (time kind : ℕ) (digest : List ℕ) (at : ℕ) (rest : List ℕ) → length digest ≡ digest_size
    → inside_at false time kind (record { at = at; rest = digest ++ rest }) ≡ Ok (Hidden time kind digest, record { at = at + length digest; rest = rest })
unfolding inside_at
hidden_again time kind digest at rest size = reads_then _ _ _ _ (bytes_again digest_size digest at rest size) refl

-- ---- an item

pub item_takes : (last : ℕ) → ReadsSpelled (item_at last) (IsNextItem last) frame_item
unfolding item_at
item_takes last s v new fits e =
    let t = number_step 1 s _ (v, new) fits e in
    let t_is = wants_step (leb t.value 1) s.at (t.value, t.next) _ (v, new) t.goes_on in
    let a = number_step 8 t.next _ (v, new) t.takes.rest_fits t_is.1 in
    let a_is = wants_step (leb last a.value) t.next.at (a.value, a.next) _ (v, new) a.goes_on in
    let k = number_step 1 a.next _ (v, new) a.takes.rest_fits a_is.1 in
    let i = inside_takes (eqb t.value 1) a.value k.value k.next v new k.takes.rest_fits k.goes_on in
    let tag : Takes s (big_bytes 1 (tag_of (eqb t.value 1))) t.next = subst (λ (n : ℕ). Takes s (big_bytes 1 n) t.next) (tag_is t.value t_is.0) t.takes in
    let after : last ≤ a.value = leb-true _ _ a_is.0 in
    let time : a.value < 2 ^ 64 = a.value_fits in
    let kind : k.value < 256 = k.value_fits in
    (record { is_one = i.fits time kind; not_before = subst (λ (n : ℕ). last ≤ n) i.time_is after }, i.takes s t.next a.next tag a.takes k.takes)

pub item_again : (last : ℕ) → SpelledReads (item_at last) (IsNextItem last) frame_item
unfolding item_at
item_again last (Shown e) at rest fits =
    let size : ℕ = length e.content in
    let r2 : List ℕ = big_bytes 2 size ++ (e.content ++ rest) in
    let r1 : List ℕ = big_bytes 1 e.kind ++ r2 in
    let r0 : List ℕ = big_bytes 8 e.time ++ r1 in
    let spelled : frame_item (Shown e) ++ rest ≡ big_bytes 1 1 ++ r0 = simp append_assoc in
    let a0 : ℕ = at + length (big_bytes 1 1) in
    let a1 : ℕ = a0 + length (big_bytes 8 e.time) in
    let a2 : ℕ = a1 + length (big_bytes 1 e.kind) in
    let a3 : ℕ = a2 + length (big_bytes 2 size) + length e.content in
    let places : a3 ≡ at + length (frame_item (Shown e)) = simp length-append (omega arith) in
    let whole : item_at last (record { at = at; rest = big_bytes 1 1 ++ r0 }) ≡ Ok (Shown e, record { at = a3; rest = rest }) =
    reads_then _ _ _ _ (number_again 1 1 at r0 (omega arith))
    (reads_then _ _ _ _ (number_again 8 e.time a0 r1 (omega (arith, fits.is_one.time))) (wants_then (leb last e.time) a0 _ _ _ (le-leb _ _ fits.not_before)
    (reads_then _ _ _ _ (number_again 1 e.kind a1 r2 (omega (arith, fits.is_one.kind)))
    (shown_again e.time e.kind e.content a2 rest fits.is_one.content)))) in
    ap (λ (t : List ℕ). item_at last (record { at = at; rest = t })) spelled ∙ whole ∙ ap (λ (k : ℕ). Ok (Shown e, record { at = k; rest = rest })) places
item_again last (Hidden time kind digest) at rest fits =
    let r1 : List ℕ = big_bytes 1 kind ++ (digest ++ rest) in
    let r0 : List ℕ = big_bytes 8 time ++ r1 in
    let spelled : frame_item (Hidden time kind digest) ++ rest ≡ big_bytes 1 0 ++ r0 = simp append_assoc in
    let a0 : ℕ = at + length (big_bytes 1 0) in
    let a1 : ℕ = a0 + length (big_bytes 8 time) in
    let a2 : ℕ = a1 + length (big_bytes 1 kind) in
    let a3 : ℕ = a2 + length digest in
    let places : a3 ≡ at + length (frame_item (Hidden time kind digest)) = simp length-append (omega arith) in
    let whole : item_at last (record { at = at; rest = big_bytes 1 0 ++ r0 }) ≡ Ok (Hidden time kind digest, record { at = a3; rest = rest }) =
    reads_then _ _ _ _ (number_again 1 0 at r0 (omega arith))
    (reads_then _ _ _ _ (number_again 8 time a0 r1 (omega (arith, fits.is_one.0))) (wants_then (leb last time) a0 _ _ _ (le-leb _ _ fits.not_before)
    (reads_then _ _ _ _ (number_again 1 kind a1 (digest ++ rest) (omega (arith, fits.is_one.1)))
    (hidden_again time kind digest a2 rest fits.is_one.2)))) in
    ap (λ (t : List ℕ). item_at last (record { at = at; rest = t })) spelled ∙ whole ∙ ap (λ (k : ℕ). Ok (Hidden time kind digest, record { at = k; rest = rest })) places

one_again : SpelledReads (item_at 0) IsItem frame_item
one_again i at rest fits = item_again 0 i at rest (record { is_one = fits; not_before = omega arith })

pub items_prefix_free : IsPrefixFree IsItem frame_item
items_prefix_free = prefix_free (item_at 0) IsItem frame_item one_again

-- ---- so many of them

pub items_take : (last n : ℕ) → ReadsSpelled (items_at last n) (AreNextItems last n) (flat_map frame_item)
unfolding items_at
items_take last zero s v new fits e =
    let nothing : Takes s [] s = record { parts = refl; place = omega arith; rest_fits = fits } in
    subst (λ (p : List FrameItem × Spot). AreNextItems last 0 p.0 × Takes s (flat_map frame_item p.0) p.1) (ok_is ([], s) (v, new) e) (record { fit = tt; as_many = refl }, nothing)
items_take last (suc n) s v new fits e =
    let a = step (item_at last) (IsNextItem last) frame_item (item_takes last) s _ (v, new) fits e in
    let time = item_time a.value in
    let b = step (items_at time n) (AreNextItems time n) (flat_map frame_item) (items_take time n) a.next _ (v, new) a.takes.rest_fits a.goes_on in
    let both = Takes-then s (frame_item a.value) a.next (flat_map frame_item b.value) b.next a.takes b.takes in
    let made : List FrameItem = a.value ∷ b.value in
    let made_fits : AreNextItems last (suc n) made = record {
      fit = (a.value_fits.is_one, a.value_fits.not_before, b.value_fits.fit);
      as_many = ap suc b.value_fits.as_many;
    } in
    let whole : Takes s (flat_map frame_item made) b.next = subst (λ (t : List ℕ). Takes s t b.next) (sym (flat_map-cons frame_item a.value b.value)) both in
    subst (λ (p : List FrameItem × Spot). AreNextItems last (suc n) p.0 × Takes s (flat_map frame_item p.0) p.1) (ok_is (made, b.next) (v, new) b.goes_on) (made_fits, whole)

all_again : (last : ℕ) (is : List FrameItem) (at : ℕ) (rest : List ℕ) → AreItemsFrom last is
    → items_at last (length is) (record { at = at; rest = flat_map frame_item is ++ rest }) ≡ Ok (is, record { at = at + length (flat_map frame_item is); rest = rest })
unfolding items_at
all_again last [] at rest fits = ap (λ (k : ℕ). Ok ([], record { at = k; rest = rest })) (omega arith)
all_again last (i ∷ is) at rest fits =
    let others = flat_map frame_item is in
    let spelled : flat_map frame_item (i ∷ is) ++ rest ≡ frame_item i ++ (others ++ rest) = ap (λ (t : List ℕ). t ++ rest) (flat_map-cons frame_item i is) ∙ append_assoc (frame_item i) others rest in
    let split = ap length (flat_map-cons frame_item i is) in
    let places : at + length (frame_item i) + length others ≡ at + length (flat_map frame_item (i ∷ is)) = omega (arith, split, length-append (frame_item i) others) in
    let first = item_again last i at (others ++ rest) (record { is_one = fits.0; not_before = fits.1 }) in
    let second = all_again (item_time i) is (at + length (frame_item i)) rest fits.2 in
    let end : Spot = record { at = at + length (frame_item i) + length others; rest = rest } in
    let whole : items_at last (suc (length is)) (record { at = at; rest = frame_item i ++ (others ++ rest) }) ≡ Ok (i ∷ is, end) =
    reads_then _ _ _ _ first (reads_then _ _ _ _ second refl) in
    ap (λ (t : List ℕ). items_at last (suc (length is)) (record { at = at; rest = t })) spelled ∙ whole ∙ ap (λ (k : ℕ). Ok (i ∷ is, record { at = k; rest = rest })) places

pub items_again : (last n : ℕ) → SpelledReads (items_at last n) (AreNextItems last n) (flat_map frame_item)
items_again last n is at rest fits =
    subst (λ (k : ℕ). items_at last k (record { at = at; rest = flat_map frame_item is ++ rest }) ≡ Ok (is, record { at = at + length (flat_map frame_item is); rest = rest })) fits.as_many
    (all_again last is at rest fits.fit)
