-- What is kept of each neighbour, one more at a time.
use Rattle.std.proofs.Common.{◌≡◌, map, ℕ, zero, suc, ◌+◌, ◌<◌, List, [], ◌∷◌, ◌++◌, length, get_or, Option, None, slice_set, refl, sym, ap, ◌∙◌, arith}
use Rattle.std.specs.List.{range_with_len}
use Rattle.std.proofs.lemmas.List.FromFn.{map-range_with_len_more}
use Rattle.std.proofs.lemmas.List.{get_or-set_other, get_or-set_same}
use Rattle.nr_spec_bodies.specs.Reading.{Known}
use Rattle.nr_discipline.specs.Decoded.{known_below, known_in, tally_of}
use Rattle.nr_discipline.specs.Kept.{IsKeptOf, Kept}

same_range : {A : Type 0} (f g : ℕ → A) (from n : ℕ) → ((j : ℕ) → j < from + n → f j ≡ g j) → map f (range_with_len from n) ≡ map g (range_with_len from n)
same_range f g from zero same = refl
same_range f g from (suc n) same =
    let here = same from (omega arith) in
    let rest = same_range f g (from + 1) n (λ j below. same j (omega (arith, below))) in
    λ i. here i ∷ rest i

pub known_none : (sends acked : List ℕ) (oldest : List (Option ℕ)) → known_below 0 sends acked oldest ≡ []
unfolding known_below
known_none sends acked oldest = refl

pub known_more : (n : ℕ) (sends acked : List ℕ) (oldest : List (Option ℕ)) (new_sends new_acked : List ℕ) (new_oldest : List (Option ℕ)) (k : Known)
    → ((j : ℕ) → j < n → known_in new_sends new_acked new_oldest j ≡ known_in sends acked oldest j) → known_in new_sends new_acked new_oldest n ≡ k
    → known_below (n + 1) new_sends new_acked new_oldest ≡ known_below n sends acked oldest ++ k ∷ []
unfolding known_below
known_more n sends acked oldest new_sends new_acked new_oldest k same here =
    let from_0 : 0 + n ≡ n = omega arith in
    let f = known_in new_sends new_acked new_oldest in
    let g = known_in sends acked oldest in
    let front = same_range f g 0 n (λ j below. same j (omega (arith, below))) in
    map-range_with_len_more f 0 n n from_0 ∙ (λ i. front i ++ here i ∷ [])

pub known_set : (n : ℕ) (sends acked : List ℕ) (oldest : List (Option ℕ)) (k : Known) → n < length sends → n < length acked → n < length oldest
    → known_below (n + 1) (slice_set sends n k.sends) (slice_set acked n k.acked) (slice_set oldest n k.oldest) ≡ known_below n sends acked oldest ++ k ∷ []
known_set n sends acked oldest k s a o =
    known_more n sends acked oldest (slice_set sends n k.sends) (slice_set acked n k.acked) (slice_set oldest n k.oldest) k
    (λ j below i. record {
      sends = get_or-set_other sends n j k.sends 0 (λ e. omega (arith, e, below)) i;
      acked = get_or-set_other acked n j k.acked 0 (λ e. omega (arith, e, below)) i;
      oldest = get_or-set_other oldest n j k.oldest None (λ e. omega (arith, e, below)) i;
    })
    (λ i. record { sends = get_or-set_same sends n k.sends 0 s i; acked = get_or-set_same acked n k.acked 0 a i; oldest = get_or-set_same oldest n k.oldest None o i })

-- ---- what is kept of the tally that a body states

got : {A : Type 0} (g : Known → A) (d : A) (k : Kept) (n : ℕ) → n < 256 → get_or (map g (known_below 256 k.sends k.acked k.oldest)) n d ≡ g (known_in k.sends k.acked k.oldest n)
unfolding known_below
got g d k n below = let f = known_in k.sends k.acked k.oldest in let from_0 : 0 + n ≡ n = omega arith in mapped g d f 0 256 n below ∙ ap (λ m. g (f m)) from_0
  where
    mapped : {A : Type 0} (g : Known → A) (d : A) (f : ℕ → Known) (from bound n : ℕ) → n < bound → get_or (map g (map f (range_with_len from bound))) n d ≡ g (f (from + n))
    mapped g d f from zero n below = absurd (omega (arith, below))
    mapped g d f from (suc bound) zero below = let e : from ≡ from + 0 = omega arith in ap (λ m. g (f m)) e
    mapped g d f from (suc bound) (suc n) below =
        let e : from + 1 + n ≡ from + suc n = omega arith in
        mapped g d f (from + 1) bound n (omega (arith, below)) ∙ ap (λ m. g (f m)) e

pub kept_of : (k : Kept) → IsKeptOf (tally_of k) k
kept_of k = record {
  sends = λ n below. sym (got (λ (x : Known). x.sends) 0 k n below);
  acked = λ n below. sym (got (λ (x : Known). x.acked) 0 k n below);
  oldest = λ n below. sym (got (λ (x : Known). x.oldest) None k n below);
  commits = refl;
  in_force = refl;
  last = refl;
}
