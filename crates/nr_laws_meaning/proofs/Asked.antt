-- The questions on a route.
use Rattle.std.proofs.Common.{◌≡◌, ◌≢◌, ℕ, ◌+◌, ◌<◌, ◌^◌, ◌==◌, Bool, true, false, cond, List, [], ◌∷◌, ◌++◌, length, refl, ap, ◌∙◌, arith, append-nil, sym}
use Rattle.std.proofs.lemmas.Bool.Decides.{Decides-eqb}
use Rattle.std.proofs.lemmas.List.Sums.{sum_by-append}
use Rattle.byteorder.specs.Endian.{big_bytes, big_number}
use Rattle.byteorder.specs.Numbers.{big_number-reads_back}
use Rattle.nr_spec_bgp.specs.Paths.{Segment, segment_len, path_len, first_number, last_number, last_of, last_as}
use Rattle.nr_spec_bgp.specs.Attributes.{first_of, number_of, path_in, communities_in}
use Rattle.nr_laws_meaning.specs.Questions.{IsNumberOf, Numbers, sequence, Ends, Counts, Absent}

reads_back : (size n : ℕ) → n < 256 ^ size → big_number size (big_bytes size n) ≡ n
reads_back size n h = ap (λ l. big_number size l) (sym (append-nil (big_bytes size n))) ∙ big_number-reads_back size n [] h

numbered : (kind size : ℕ) → IsNumberOf (λ b. number_of size (first_of kind b.list)) kind size
numbered kind size = record {
  there = λ b n h e. ap (number_of size) e ∙ reads_back size n h;
  absent = λ b e. ap (number_of size) e;
}

pub numbers : Numbers
numbers = record { origin = numbered 1 1; next_hop = numbered 3 4; med = numbered 4 4; pref = numbered 5 4 }

not_same : (n m : ℕ) (b : Bool) → (n == m) ≡ b → n ≢ m → b ≡ false
not_same n m true e h = absurd (h ((Decides-eqb n m).0 e))
not_same n m false e h = refl

last_of_more : (numbers : List ℕ) (n : ℕ) → last_number (numbers ++ n ∷ []) ≡ n
last_of_more [] n = refl
last_of_more (m ∷ []) n = refl
last_of_more (m ∷ k ∷ numbers) n = last_of_more (k ∷ numbers) n

last_segment : (path : List Segment) (s : Segment) → last_as (path ++ s ∷ []) ≡ last_of s
last_segment [] s = refl
last_segment (p ∷ []) s = refl
last_segment (p ∷ q ∷ path) s = last_segment (q ∷ path) s

pub ends : Ends
ends = record {
  first = λ n numbers path. refl;
  no_first = λ s path h. ap (λ b. cond b (first_number s.numbers) 0) (not_same s.kind 2 (s.kind == 2) refl h);
  last = λ n numbers path. last_segment path (sequence (numbers ++ n ∷ [])) ∙ last_of_more numbers n;
  no_last = λ s path h. last_segment path s ∙ ap (λ b. cond b (last_number s.numbers) 0) (not_same s.kind 2 (s.kind == 2) refl h);
  none = (refl, refl);
}

path_more : (s : Segment) (path : List Segment) (n : ℕ) → segment_len s ≡ n → path_len (s ∷ path) ≡ n + path_len path
path_more s path n h = let e = sum_by-append segment_len (s ∷ []) path in omega (arith, e, h)

other_len : (s : Segment) → s.kind ≢ 1 → s.kind ≢ 2 → segment_len s ≡ 0
other_len s g h = ap (λ b. cond b (length s.numbers) (cond (s.kind == 1) 1 0)) (not_same s.kind 2 (s.kind == 2) refl h) ∙ ap (λ b. cond b 1 0) (not_same s.kind 1 (s.kind == 1) refl g)

pub counts : Counts
counts = record {
  sequence_ = λ numbers path. path_more (sequence numbers) path (length numbers) refl;
  set = λ numbers path. path_more (record { kind = 1; numbers = numbers }) path 1 refl;
  other = λ s path g h. path_more s path 0 (other_len s g h) ∙ omega arith;
  none = refl;
}

pub absent : Absent
absent = record { path = λ b e. ap (path_in b.as4) e; communities = λ b e. ap communities_in e }
