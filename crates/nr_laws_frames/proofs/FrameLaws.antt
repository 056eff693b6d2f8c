-- Frames.
use Rattle.std.proofs.Common.{◌≡◌, ℕ, ◌+◌, ◌^◌, ◌<◌, ◌≤◌, ◌&&◌, Bool, true, false, eqb, leb, ltb, List, [], ◌++◌, length, Ok, refl, sym, ap, subst, ◌∙◌, append_assoc, arith}
use Rattle.std.specs.List.{flat_map}
use Rattle.std.proofs.lemmas.Bool.{eqb-true, leb-true, le-leb, ltb-true, lt-ltb}
use Rattle.std.proofs.lemmas.List.{length-append, append-nil, nil_from_length}
use Rattle.nr_spec_wire.specs.Reading.{Spot, Read, ◌>>=◌, start_of, ends_at, bytes_at, number_at, wants, IsBytes}
use Rattle.nr_spec_wire.proofs.Steps.{ok_is, wants_ok}
use Rattle.nr_spec_log.specs.Authenticator.{Authenticator, IsAuthenticator, authenticator, authenticator_at, digest_size}
use Rattle.nr_spec_log.specs.Answer.{is_first, most_first}
use Rattle.nr_spec_entry.specs.Contents.{most_neighbours}
use Rattle.nr_spec_frames.specs.Frames.{Frame, FrameFront, FrameItem, IsFrame, frame, frame_front, frame_item, frame_of, frame_with, front_at, is_count, items_at, most_items}
use Rattle.nr_laws_log.specs.Laws.{Takes, ReadsSpelled, SpelledReads}
use Rattle.nr_laws_log.proofs.Fields.{Takes-then, step, number_text, text_step, text_again, bytes_step, bytes_again, wants_step, reads_then, wants_then}
use Rattle.nr_laws_log.proofs.AuthenticatorLaws.{authenticator_takes, authenticator_again}
use Rattle.nr_laws_frames.specs.Laws.{AreNextItems}
use Rattle.nr_laws_frames.proofs.ItemLaws.{items_take, items_again}

both_parts : (x y : Bool) → (x && y) ≡ true → (x ≡ true) × (y ≡ true)
both_parts true true e = (refl, refl)
both_parts true false e = absurd cc
both_parts false y e = absurd cc

both_true : (x y : Bool) → x ≡ true → y ≡ true → (x && y) ≡ true
both_true true y e h = h
both_true false y e h = absurd cc

-- ---- what stands before the items

record FitsFront (o : FrameFront) : Type 0 where
  pub from_as : o.from_as < 2 ^ 32
  pub to_as : o.to_as < 2 ^ 32
  pub number : o.number < most_neighbours
  pub start : 1 ≤ o.first
  pub first : o.first ≤ most_first
  pub prev : length o.prev ≡ digest_size
  pub least : 1 ≤ o.count
  pub most : o.count ≤ most_items

-- with the numbers' bytes closed
abbrev front_text : FrameFront → List ℕ
front_text o = number_text 4 o.from_as ++ (number_text 4 o.to_as ++ (number_text 2 o.number ++ (number_text 8 o.first ++ (o.prev ++ number_text 4 o.count))))

abbrev front_with : ℕ → ℕ → ℕ → ℕ → List ℕ → ℕ → FrameFront
front_with from_as to_as number first prev count = record { from_as = from_as; to_as = to_as; number = number; first = first; prev = prev; count = count }

-- the value before the first entry and the number of items
abbrev tail_at : ℕ → ℕ → ℕ → ℕ → Spot → Read FrameFront
tail_at from_as to_as number first s = bytes_at digest_size s >>= λ prev. number_at 4 prev.1 >>= λ any. wants (is_count any.0) prev.1.at any >>= λ count.
    let read : FrameFront × Spot = (front_with from_as to_as number first prev.0 count.0, count.1) in Ok read

record IsTail (from_as to_as number first : ℕ) (s : Spot) (v : FrameFront) (new : Spot) : Type 0 where
  pub prev : List ℕ
  pub count : ℕ
  pub is : front_with from_as to_as number first prev count ≡ v
  pub size : length prev ≡ digest_size
  pub least : 1 ≤ count
  pub most : count ≤ most_items
  pub takes : Takes s (prev ++ number_text 4 count) new

tail_takes : (from_as to_as number first : ℕ) (s : Spot) (v : FrameFront) (new : Spot) → IsBytes s.rest → tail_at from_as to_as number first s ≡ Ok (v, new) → IsTail from_as to_as number first s v new
tail_takes from_as to_as number first s v new fits e =
    let p = bytes_step digest_size s _ (v, new) fits e in
    let c = text_step 4 p.next _ (v, new) p.takes.rest_fits p.goes_on in
    let c_is = wants_step (is_count c.value) p.next.at (c.value, c.next) _ (v, new) c.goes_on in
    let made : FrameFront = front_with from_as to_as number first p.value c.value in
    let count = both_parts (leb 1 c.value) (leb c.value most_items) c_is.0 in
    let both = Takes-then s p.value p.next (number_text 4 c.value) c.next p.takes c.takes in
    subst (λ (q : FrameFront × Spot). IsTail from_as to_as number first s q.0 q.1) (ok_is (made, c.next) (v, new) c_is.1)
    (record { prev = p.value; count = c.value; is = refl; size = p.value_fits; least = leb-true _ _ count.0; most = leb-true _ _ count.1; takes = both })

-- the parts one after another
joined : (from_as to_as number first : ℕ) (tail : List ℕ) (s s1 s2 s3 s4 new : Spot) → Takes s (number_text 4 from_as) s1 → Takes s1 (number_text 4 to_as) s2 → Takes s2 (number_text 2 number) s3
    → Takes s3 (number_text 8 first) s4 → Takes s4 tail new → Takes s (number_text 4 from_as ++ (number_text 4 to_as ++ (number_text 2 number ++ (number_text 8 first ++ tail)))) new
joined from_as to_as number first tail s s1 s2 s3 s4 new t0 t1 t2 t3 t4 =
    let r3 = Takes-then s3 (number_text 8 first) s4 tail new t3 t4 in
    let r2 = Takes-then s2 (number_text 2 number) s3 (number_text 8 first ++ tail) new t2 r3 in
    let r1 = Takes-then s1 (number_text 4 to_as) s2 (number_text 2 number ++ (number_text 8 first ++ tail)) new t1 r2 in
    Takes-then s (number_text 4 from_as) s1 (number_text 4 to_as ++ (number_text 2 number ++ (number_text 8 first ++ tail))) new t0 r1

front_takes : ReadsSpelled front_at FitsFront front_text
unfolding front_at
front_takes s v new fits e =
    let a = text_step 4 s _ (v, new) fits e in
    let b = text_step 4 a.next _ (v, new) a.takes.rest_fits a.goes_on in
    let n = text_step 2 b.next _ (v, new) b.takes.rest_fits b.goes_on in
    let n_is = wants_step (ltb n.value most_neighbours) b.next.at (n.value, n.next) _ (v, new) n.goes_on in
    let f = text_step 8 n.next _ (v, new) n.takes.rest_fits n_is.1 in
    let f_is = wants_step (is_first f.value) n.next.at (f.value, f.next) _ (v, new) f.goes_on in
    let t = tail_takes a.value b.value n.value f.value f.next v new f.takes.rest_fits f_is.1 in
    let first = both_parts (leb 1 f.value) (leb f.value most_first) f_is.0 in
    let made : FrameFront = front_with a.value b.value n.value f.value t.prev t.count in
    let made_fits : FitsFront made = record {
      from_as = a.value_fits;
      to_as = b.value_fits;
      number = ltb-true _ _ n_is.0;
      start = leb-true _ _ first.0;
      first = leb-true _ _ first.1;
      prev = t.size;
      least = t.least;
      most = t.most;
    } in
    let whole : Takes s (front_text made) new = joined a.value b.value n.value f.value (t.prev ++ number_text 4 t.count) s a.next b.next n.next f.next new a.takes b.takes n.takes f.takes t.takes in
    subst (λ (q : FrameFront). FitsFront q × Takes s (front_text q) new) t.is (made_fits, whole)

front_again : SpelledReads front_at FitsFront front_text
unfolding front_at
front_again v at rest fits =
    let r4 = number_text 4 v.count ++ rest in
    let r3 = v.prev ++ r4 in
    let r2 = number_text 8 v.first ++ r3 in
    let r1 = number_text 2 v.number ++ r2 in
    let r0 = number_text 4 v.to_as ++ r1 in
    let spelled : front_text v ++ rest ≡ number_text 4 v.from_as ++ r0 = simp append_assoc in
    let a0 = at + length (number_text 4 v.from_as) in
    let a1 = a0 + length (number_text 4 v.to_as) in
    let a2 = a1 + length (number_text 2 v.number) in
    let a3 = a2 + length (number_text 8 v.first) in
    let a4 = a3 + length v.prev in
    let a5 = a4 + length (number_text 4 v.count) in
    let places : a5 ≡ at + length (front_text v) = simp length-append (omega arith) in
    let number : v.number < 256 ^ 2 = omega (arith, fits.number) in
    let first : v.first < 256 ^ 8 = omega (arith, fits.first) in
    let count : v.count < 256 ^ 4 = omega (arith, fits.most) in
    let first_is : is_first v.first ≡ true = both_true _ _ (le-leb _ _ fits.start) (le-leb _ _ fits.first) in
    let count_is : is_count v.count ≡ true = both_true _ _ (le-leb _ _ fits.least) (le-leb _ _ fits.most) in
    let end : Spot = record { at = a5; rest = rest } in
    let whole : front_at (record { at = at; rest = number_text 4 v.from_as ++ r0 }) ≡ Ok (v, end) =
    reads_then _ _ _ _ (text_again 4 v.from_as at r0 fits.from_as)
    (reads_then _ _ _ _ (text_again 4 v.to_as a0 r1 fits.to_as)
    (reads_then _ _ _ _ (text_again 2 v.number a1 r2 number) (wants_then (ltb v.number most_neighbours) a1 _ _ _ (lt-ltb _ _ fits.number)
    (reads_then _ _ _ _ (text_again 8 v.first a2 r3 first) (wants_then (is_first v.first) a2 _ _ _ first_is
    (reads_then _ _ _ _ (bytes_again digest_size v.prev a3 r4 fits.prev)
    (reads_then _ _ _ _ (text_again 4 v.count a4 rest count) (wants_then (is_count v.count) a4 _ _ _ count_is refl)))))))) in
    ap (λ (t : List ℕ). front_at (record { at = at; rest = t })) spelled ∙ whole ∙ ap (λ (k : ℕ). Ok (v, record { at = k; rest = rest })) places

-- ---- whole frames

abbrev parts_text : FrameFront → List FrameItem → Authenticator → List ℕ
parts_text o is a = front_text o ++ (flat_map frame_item is ++ authenticator a)

text_is : (o : FrameFront) (is : List FrameItem) (a : Authenticator) → length is ≡ o.count → parts_text o is a ≡ frame (frame_with o is a)
unfolding frame number_text
text_is o is a e = ap (λ (k : ℕ). frame_front o.from_as o.to_as o.number o.first o.prev k ++ (flat_map frame_item is ++ authenticator a)) (sym e)

ended : (s : Spot) (x y : Frame) → ends_at s x ≡ Ok y → (length s.rest ≡ 0) × (x ≡ y)
ended s x y e = let w = wants_ok (eqb (length s.rest) 0) s.at x y e in (eqb-true _ _ w.0, w.1)

is_frame : (o : FrameFront) (is : List FrameItem) (a : Authenticator) → FitsFront o → AreNextItems 0 o.count is → IsAuthenticator a → IsFrame (frame_with o is a)
is_frame o is a fits are auth = record {
  from_as = fits.from_as;
  to_as = fits.to_as;
  number = fits.number;
  start = fits.start;
  first = fits.first;
  prev = fits.prev;
  least = subst (λ (k : ℕ). 1 ≤ k) (sym are.as_many) fits.least;
  most = subst (λ (k : ℕ). k ≤ most_items) (sym are.as_many) fits.most;
  items = are.fit;
  auth = auth;
}

pub frame_takes : (bytes : List ℕ) (f : Frame) → IsBytes bytes → frame_of bytes ≡ Ok f → IsFrame f × (bytes ≡ frame f)
unfolding frame_of
frame_takes bytes f fits e =
    let o = step front_at FitsFront front_text front_takes (start_of bytes) _ f fits e in
    let n = o.value.count in
    let is = step (items_at 0 n) (AreNextItems 0 n) (flat_map frame_item) (items_take 0 n) o.next _ f o.takes.rest_fits o.goes_on in
    let a = step authenticator_at IsAuthenticator authenticator authenticator_takes is.next _ f is.takes.rest_fits is.goes_on in
    let made : Frame = frame_with o.value is.value a.value in
    let over = ended a.next made f a.goes_on in
    let text = parts_text o.value is.value a.value in
    let back = Takes-then o.next (flat_map frame_item is.value) is.next (authenticator a.value) a.next is.takes a.takes in
    let all = Takes-then (start_of bytes) (front_text o.value) o.next (flat_map frame_item is.value ++ authenticator a.value) a.next o.takes back in
    let nothing : a.next.rest ≡ [] = nil_from_length a.next.rest over.0 in
    let whole : bytes ≡ text = all.parts ∙ (ap (λ (t : List ℕ). text ++ t) nothing ∙ append-nil text) in
    let spelled : bytes ≡ frame made = whole ∙ text_is o.value is.value a.value is.value_fits.as_many in
    subst (λ (x : Frame). IsFrame x × (bytes ≡ frame x)) over.1 (is_frame o.value is.value a.value o.value_fits is.value_fits a.value_fits, spelled)

abbrev front_of : Frame → FrameFront
front_of f = record { from_as = f.from_as; to_as = f.to_as; number = f.number; first = f.first; prev = f.prev; count = length f.items }

front_fits : (f : Frame) → IsFrame f → FitsFront (front_of f)
front_fits f fits = record {
  from_as = fits.from_as;
  to_as = fits.to_as;
  number = fits.number;
  start = fits.start;
  first = fits.first;
  prev = fits.prev;
  least = fits.least;
  most = fits.most;
}

ending : (at : ℕ) (x : Frame) → ends_at (record { at = at; rest = [] }) x ≡ Ok x
ending at x = refl

-- the spelling of a frame is read as that frame
pub frame_again : (f : Frame) → IsFrame f → frame_of (frame f) ≡ Ok f
unfolding frame_of
frame_again f fits =
    let o : FrameFront = front_of f in
    let n : ℕ = length f.items in
    let items : List ℕ = flat_map frame_item f.items in
    let end : List ℕ = authenticator f.auth in
    let a0 = 0 + length (front_text o) in
    let a1 = a0 + length items in
    let a2 = a1 + length end in
    let front = front_again o 0 (items ++ end) (front_fits f fits) in
    let are : AreNextItems 0 n f.items = record { fit = fits.items; as_many = refl } in
    let auth : authenticator_at (record { at = a1; rest = end }) ≡ Ok (f.auth, record { at = a2; rest = [] }) =
    ap (λ (t : List ℕ). authenticator_at (record { at = a1; rest = t })) (sym (append-nil end)) ∙ authenticator_again f.auth a1 [] fits.auth in
    let whole : frame_of (parts_text o f.items f.auth) ≡ Ok f =
    reads_then _ _ _ _ front (reads_then _ _ _ _ (items_again 0 n f.items a0 end are) (reads_then _ _ _ _ auth (ending a2 f))) in
    ap frame_of (sym (text_is o f.items f.auth refl)) ∙ whole
