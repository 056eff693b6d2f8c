-- Lists and chains of words.
use Rattle.std.proofs.Common.{◌≡◌, ℕ, zero, suc, ◌+◌, ◌≤◌, List, [], ◌∷◌, length, map, drop, refl, ap, arith}
use Rattle.std.specs.List.{AllByRecursion}
use Rattle.nr_spec_rules.specs.declared.kind.Kind.{Kind}
use Rattle.nr_spec_rules.specs.Parsing.{Outcome, Parser, others, prepend, following, list, chain}
use Rattle.nr_laws_print.proofs.Words.{Shown, Words, each_behind, joined}
use Rattle.nr_laws_print.proofs.Gives.{laid, Gives, gives_then, gives_pure, gives_map, gives_seen, gives_unseen, gives_behind, IsApart}

-- an item: its words, and what it is but for places
pub record Item (B : Type 0) : Type 0 where
  pub words : Words
  pub is : B

-- in front of such words the item is read
pub record IsItem {A B : Type 0} (view : A → B) (item : Parser A) (Fits : List Shown → Type 0) (x : Item B) : Type 0 where
  pub grows : (rest : List Shown) → length rest ≤ length (x.words rest)
  pub gives : (rest : List Shown) → Fits rest → Gives view x.is item (x.words rest) rest

abbrev pub words_of : {B : Type 0} → List (Item B) → List Words
words_of xs = map (λ x. x.words) xs

abbrev pub values_of : {B : Type 0} → List (Item B) → List B
values_of xs = map (λ x. x.is) xs

pub grows_each : {A B : Type 0} (view : A → B) (item : Parser A) (Fits : List Shown → Type 0) (between : Shown) (xs : List (Item B)) (rest : List Shown)
    → AllByRecursion (IsItem view item Fits) xs → length xs + length rest ≤ length (each_behind between (words_of xs) rest)
grows_each view item Fits between [] rest all = omega arith
grows_each view item Fits between (x ∷ xs) rest all =
    let more : length xs + length rest ≤ length (each_behind between (words_of xs) rest) = grows_each view item Fits between xs rest all.1 in
    let one : length (each_behind between (words_of xs) rest) ≤ length (x.words (each_behind between (words_of xs) rest)) = all.0.grows (each_behind between (words_of xs) rest) in
    omega arith

fits_behind : {B : Type 0} (Fits : List Shown → Type 0) (between : Shown) (rest : List Shown) → ((more : List Shown) → Fits (between ∷ more)) → Fits rest → (xs : List (Item B))
    → Fits (each_behind between (words_of xs) rest)
fits_behind Fits between rest goes ends [] = ends
fits_behind Fits between rest goes ends (x ∷ xs) = goes (x.words (each_behind between (words_of xs) rest))

-- each behind the word between
pub gives_others : {A B : Type 0} (view : A → B) (item : Parser A) (Fits : List Shown → Type 0) (between : Shown) (xs : List (Item B)) (n : ℕ) (rest : List Shown)
    → AllByRecursion (IsItem view item Fits) xs → ((more : List Shown) → Fits (between ∷ more)) → Fits rest → IsApart between.kind rest → length xs ≤ n
    → Gives (map view) (values_of xs) (others between.kind item n) (each_behind between (words_of xs) rest) rest
unfolding others
gives_others view item Fits between [] zero rest all goes ends apart enough = gives_pure refl
gives_others view item Fits between [] (suc n) rest all goes ends apart enough = gives_unseen _ _ apart (gives_pure refl)
gives_others view item Fits between (x ∷ xs) zero rest all goes ends apart enough = absurd (omega arith)
gives_others view item Fits between (x ∷ xs) (suc n) rest all goes ends apart enough =
    gives_seen _ _ (gives_behind between _ (
    gives_then (all.0.gives (each_behind between (words_of xs) rest) (fits_behind Fits between rest goes ends xs)) (λ first e.
    gives_then (gives_others view item Fits between xs n rest all.1 goes ends apart (omega arith)) (λ more h. gives_pure (cc (e, h))))))

length_laid : (ws : List Shown) (ps : List ℕ) → length (laid ws ps) ≡ length ws
length_laid [] ps = refl
length_laid (w ∷ ws) ps = let more : length (laid ws (drop 1 ps)) ≡ length ws = length_laid ws (drop 1 ps) in omega arith

-- the items behind one that was read
pub gives_following : {A B : Type 0} (view : A → B) (item : Parser A) (Fits : List Shown → Type 0) (between : Shown) (first : A) (v : B) (xs : List (Item B)) (rest : List Shown)
    → AllByRecursion (IsItem view item Fits) xs → ((more : List Shown) → Fits (between ∷ more)) → Fits rest → IsApart between.kind rest → view first ≡ v
    → Gives (map view) (v ∷ values_of xs) (following first between.kind item) (each_behind between (words_of xs) rest) rest
unfolding following
gives_following {A = A} {B = B} view item Fits between first v xs rest all goes ends apart e = record {
  run = λ ps.
      let input : List Shown = each_behind between (words_of xs) rest in
      let long : length xs + length rest ≤ length (each_behind between (words_of xs) rest) = grows_each view item Fits between xs rest all in
      let enough : length xs ≤ length (laid (each_behind between (words_of xs) rest) ps) = omega (arith, length_laid (each_behind between (words_of xs) rest) ps) in
      let g = (gives_others view item Fits between xs (length (laid (each_behind between (words_of xs) rest) ps)) rest all goes ends apart enough).run ps in
      record { value = first ∷ g.value; left = g.left; reads = ap (λ (q : Outcome (List A)). prepend (first ∷ []) q) g.reads; same = cc (e, g.same) };
}

-- one or more, with a word between
pub gives_list : {A B : Type 0} (view : A → B) (item : Parser A) (Fits : List Shown → Type 0) (between : Shown) (x : Item B) (xs : List (Item B)) (rest : List Shown)
    → AllByRecursion (IsItem view item Fits) (x ∷ xs) → ((more : List Shown) → Fits (between ∷ more)) → Fits rest → IsApart between.kind rest
    → Gives (map view) (values_of (x ∷ xs)) (list between.kind item) (joined between (words_of (x ∷ xs)) rest) rest
unfolding list
gives_list view item Fits between x xs rest all goes ends apart =
    gives_then (all.0.gives (each_behind between (words_of xs) rest) (fits_behind Fits between rest goes ends xs)) (λ first e. gives_following view item Fits between first x.is xs rest all.1 goes ends apart e)

-- a chain of two or more is made into one
pub gives_chain : {A : Type 0} (view : A → A) (item : Parser A) (Fits : List Shown → Type 0) (between : Shown) (make : List A → A) (v : A) (x y : Item A) (xs : List (Item A)) (rest : List Shown)
    → AllByRecursion (IsItem view item Fits) (x ∷ y ∷ xs) → ((more : List Shown) → Fits (between ∷ more)) → Fits rest → IsApart between.kind rest
    → ((found : List A) → map view found ≡ values_of (x ∷ y ∷ xs) → view (make found) ≡ v)
    → Gives view v (chain between.kind make item) (joined between (words_of (x ∷ y ∷ xs)) rest) rest
unfolding chain
gives_chain view item Fits between make v x y xs rest all goes ends apart made =
    gives_then (all.0.gives (each_behind between (words_of (y ∷ xs)) rest) (goes (y.words (each_behind between (words_of xs) rest)))) (λ first e.
    gives_seen _ _ (gives_map make (gives_following view item Fits between first x.is (y ∷ xs) rest all.1 goes ends apart e) made))

-- one alone stays as it is
pub gives_alone : {A B : Type 0} {view : A → B} {v : B} {item : Parser A} (between : Kind) (make : List A → A) {input rest : List Shown}
    → IsApart between rest → Gives view v item input rest → Gives view v (chain between make item) input rest
unfolding chain
gives_alone between make apart g = gives_then g (λ first e. gives_unseen _ _ apart (gives_pure e))

-- words with a word between
pub grows_joined : (between : Shown) (ws : List Words) → AllByRecursion (λ (w : Words). (rest : List Shown) → length rest ≤ length (w rest)) ws → (rest : List Shown) → length rest ≤ length (joined between ws rest)
grows_joined between [] all rest = omega arith
grows_joined between (w ∷ ws) all rest = omega (arith, all.0 (each_behind between ws rest), each ws all.1)
  where
    each : (vs : List Words) → AllByRecursion (λ (w : Words). (rest : List Shown) → length rest ≤ length (w rest)) vs → length rest ≤ length (each_behind between vs rest)
    each [] more = omega arith
    each (v ∷ vs) more = omega (arith, more.0 (each_behind between vs rest), each vs more.1)
