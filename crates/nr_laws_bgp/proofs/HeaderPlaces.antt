-- The places of faults of a header.
use Rattle.std.proofs.Common.{◌≡◌, ◌≢◌, ℕ, ◌+◌, ◌≤◌, ◌<◌, Bool, true, false, ◌&&◌, cond, eqb, leb, ltb, List, ◌++◌, length, take, Result, Ok, Err, refl, sym, ap, subst, ◌∙◌, arith, length-take}
use Rattle.std.specs.Prelude.{replicate}
use Rattle.std.proofs.lemmas.Bool.{leb-true, eqb-true, ne_eqb, lt-leb}
use Rattle.byteorder.specs.Endian.{big_number}
use Rattle.nr_spec_wire.specs.Reading.{Spot, ◌>>=◌, start_of, past, number_at, bytes_at, wants}
use Rattle.nr_spec_bgp.specs.Messages.{Notifies, KeepsAlive, Refreshes, is_marker, open_at, update_at, body_at, message_at, message_of}
use Rattle.nr_spec_bgp.proofs.Steps.{bytes_takes}
use Rattle.nr_spec_bgp.proofs.Back.{spot, then_back, bytes_back}
use Rattle.nr_laws_bgp.specs.Places.{IsSized, AreHeaderPlaces}
use Rattle.nr_laws_bgp.proofs.Pieces.{number_found}
use Rattle.nr_laws_bgp.proofs.GrammarMessages.{of_both, ones_are, header_again}

test_of : (b : Bool) → (b ≡ true → ⊥) → b ≡ false
test_of true h = absurd (h refl)
test_of false h = refl

wants_no : {A B : Type 0} (b : Bool) (place : ℕ) (x : A) (f : A → Result B ℕ) → b ≡ false → (wants b place x >>= f) ≡ Err place
wants_no false place x f e = refl
wants_no true place x f e = absurd cc

alone_no : {A : Type 0} (b : Bool) (place : ℕ) (x : A) → b ≡ false → wants b place x ≡ Err place
alone_no false place x e = refl
alone_no true place x e = absurd cc

-- what a reading gives is a fault at this place, where its steps are
fault_of : {A B : Type 0} (r : Result A ℕ) (f : A → Result B ℕ) (place : ℕ) → ((p : ℕ) → r ≡ Err p → p ≡ place) → ((x : A) → r ≡ Ok x → f x ≡ Err place) → (r >>= f) ≡ Err place
fault_of (Ok x) f place h g = g x refl
fault_of (Err p) f place h g = let same : p ≡ place = h p refl in rw same refl

abbrev short : {A : Type 0} → ℕ → Result A ℕ
short place = Err place

short_at : {A : Type 0} (b : Bool) (d p : ℕ) (x : A) → cond b (short d) (Ok x) ≡ Err p → d ≡ p
short_at true d p x e = cc
short_at false d p x e = absurd cc

marker_place : (as4 : Bool) (raw : List ℕ) → take 16 raw ≢ replicate 16 255 → message_of as4 raw ≡ Err 0
unfolding message_at
marker_place as4 raw other =
    fault_of (bytes_at 16 (start_of raw)) _ 0 (λ p e. sym (short_at (ltb (length raw) 16) 0 p (take 16 raw, past 16 (start_of raw)) e)) (λ x e.
    let t = bytes_takes 16 (start_of raw) x e in
    let front : x.0 ≡ take 16 raw = ap (λ (y : List ℕ × Spot). y.0) t.1 in
    let len : length x.0 ≡ 16 = ap length front ∙ omega (arith, length-take 16 raw, t.0) in
    wants_no (is_marker x.0) 0 x.1 _ (test_of (is_marker x.0) (λ ones. other (sym front ∙ ones_are 16 x.0 len ones))))

size_place_of : (as4 : Bool) (more : List ℕ) → (IsSized (replicate 16 255 ++ more) more → ⊥) → message_of as4 (replicate 16 255 ++ more) ≡ Err 16
unfolding message_at
size_place_of as4 more other =
    let raw = replicate 16 255 ++ more in
    then_back (bytes_at 16 (spot 0 raw)) _ (replicate 16 255, spot 16 more) _ (bytes_back 16 0 (replicate 16 255) more refl)
    (fault_of (number_at 2 (spot 16 more)) _ 16 (λ p e. sym (short_at (ltb (length more) 2) 16 p (big_number 2 more, past 2 (spot 16 more)) e)) (λ x e.
    let f = number_found 2 (spot 16 more) x e in
    wants_no (leb 19 x.0 && eqb x.0 (length raw)) 16 x.0 _ (test_of (leb 19 x.0 && eqb x.0 (length raw)) (λ t.
    let both = of_both (leb 19 x.0) (eqb x.0 (length raw)) t in
    let whole : x.0 ≡ length raw = eqb-true x.0 (length raw) both.1 in
    other (record {
      size = f.field;
      more = x.1.rest;
      spelled = f.spelled;
      sized = record { len = f.holds.len; value = f.holds.value ∙ whole };
      least = subst (λ (n : ℕ). 19 ≤ n) whole (leb-true 19 x.0 both.0);
    })))))

size_place : (as4 : Bool) (raw more : List ℕ) → raw ≡ replicate 16 255 ++ more → (IsSized raw more → ⊥) → message_of as4 raw ≡ Err 16
size_place as4 raw more e other =
    let P : List ℕ → Type 0 = λ r. (IsSized r more → ⊥) → message_of as4 r ≡ Err 16 in
    subst P (sym e) (size_place_of as4 more) other

-- a length that is too small for its type
too_small : (n : ℕ) (body : List ℕ) → length body < n → leb (19 + n) (19 + length body) ≡ false
too_small n body h = lt-leb (19 + n) (19 + length body) (omega arith)

pub header_places : (as4 : Bool) (raw : List ℕ) → AreHeaderPlaces as4 raw
unfolding body_at
header_places as4 raw = record {
  marker = marker_place as4 raw;
  size = size_place as4 raw;
  opening = λ body h small. header_again as4 raw 1 body h ∙ wants_no (leb 29 (19 + length body)) 16 (spot 19 body) (λ b. open_at (19 + length body) b) (too_small 10 body small);
  update = λ body h small. header_again as4 raw 2 body h ∙ wants_no (leb 23 (19 + length body)) 16 (spot 19 body) (λ b. update_at as4 b) (too_small 4 body small);
  notification = λ body h small. header_again as4 raw 3 body h ∙ alone_no (leb 21 (19 + length body)) 16 Notifies (too_small 2 body small);
  keepalive = λ body h some. header_again as4 raw 4 body h ∙ alone_no (eqb (19 + length body) 19) 16 KeepsAlive (ne_eqb (19 + length body) 19 (λ e. omega (arith, e, some)));
  refresh = λ body h small. header_again as4 raw 5 body h ∙ alone_no (leb 23 (19 + length body)) 16 Refreshes (too_small 4 body small);
  kind = λ kind body h n1 n2 n3 n4 n5. header_again as4 raw kind body h ∙ rw (ne_eqb kind 1 n1, ne_eqb kind 2 n2, ne_eqb kind 3 n3, ne_eqb kind 4 n4, ne_eqb kind 5 n5) refl;
}
