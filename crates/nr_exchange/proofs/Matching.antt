-- Receipts against what is pending, item by item.
use Rattle.std.proofs.Common.{◌≡◌, ℕ, zero, suc, ◌+◌, ◌-◌, ◌<◌, ◌≤◌, Bool, true, false, ltb, List, [], ◌∷◌, length, map, take, drop, get_or, Option, Some, None, refl, sym, ap, ◌∙◌, arith}
use Rattle.std.specs.Prelude.{slice_get}
use Rattle.std.specs.List.{filter_map, cons_option}
use Rattle.std.specs.Str.{bytes_eq}
use Rattle.std.proofs.lemmas.Bool.{ltb-true, ltb-false}
use Rattle.std.proofs.lemmas.Option.{same_Some}
use Rattle.std.proofs.lemmas.List.{drop_more, drop_all}
use Rattle.std.proofs.lemmas.Slice.Eq.{bytes_eq-Decides}
use Rattle.nr_chain.specs.Views.{item_of}
use Rattle.nr_chain.specs.declared.item.Item.{Item}
use Rattle.nr_chain.specs.declared.item.Item.TheVariants.{Shown, Hidden}
use Rattle.nr_spec_log.specs.Chain.{Chain, chained}
use Rattle.nr_spec_frames.specs.Frames.{FrameItem}
use Rattle.nr_spec_frames.specs.Verdicts.{Verdict, chain_item, chain_after, receipt_in, matched, Disputed, Accepted}
use Rattle.nr_exchange.specs.Views.{frame_item_of}
use Rattle.nr_exchange.specs.Matching.{Finds, receipt_if}

-- ---- one send more

bytes_apart : (xs ys : List ℕ) → (xs ≡ ys → ⊥) → bytes_eq ys xs ≡ false
bytes_apart xs ys h = by_bool (bytes_eq ys xs) refl
  where
    by_bool : (t : Bool) → bytes_eq ys xs ≡ t → bytes_eq ys xs ≡ false
    by_bool true e = absurd (h (sym ((bytes_eq-Decides ys xs).0 e)))
    by_bool false e = e

pub passes_over : (sends : List (List ℕ)) (i : ℕ) (send raw : List ℕ) → i < length sends → get_or sends i [] ≡ send → (send ≡ raw → ⊥)
    → (upto j : ℕ) (others : List (List ℕ)) → matched upto j (raw ∷ others) (drop i sends) ≡ matched (upto + 1) j (raw ∷ others) (drop (i + 1) sends)
unfolding matched
passes_over sends i send raw lt is other upto j others =
    rw (drop_more sends i [] lt, is, bytes_apart send raw other) refl

pub comes_to : (sends : List (List ℕ)) (i : ℕ) (send raw : List ℕ) → i < length sends → get_or sends i [] ≡ send → send ≡ raw
    → (upto j : ℕ) (others : List (List ℕ)) → matched upto j (raw ∷ others) (drop i sends) ≡ matched (upto + 1) (j + 1) others (drop (i + 1) sends)
unfolding matched
comes_to sends i send raw lt is same upto j others =
    rw (drop_more sends i [] lt, is, same, (bytes_eq-Decides raw raw).1 refl) refl

pub comes_to_none : (sends : List (List ℕ)) (i : ℕ) (raw : List ℕ) → length sends ≤ i
    → (upto j : ℕ) (others : List (List ℕ)) → matched upto j (raw ∷ others) (drop i sends) ≡ Disputed j
unfolding matched
comes_to_none sends i raw le upto j others = rw (drop_all i sends le) refl

-- ---- one item more

pub item_more : (n accepted seq : ℕ) (i : FrameItem) (rest : List FrameItem)
    → filter_map (receipt_in n) (drop (accepted + 1 - seq) (i ∷ rest)) ≡ cons_option (receipt_if n accepted seq i) (filter_map (receipt_in n) (drop (accepted + 1 - (seq + 1)) rest))
item_more n accepted seq i rest = by_bool (ltb accepted seq) refl
  where
    Goal : Type 0
    Goal = filter_map (receipt_in n) (drop (accepted + 1 - seq) (i ∷ rest)) ≡ cons_option (receipt_if n accepted seq i) (filter_map (receipt_in n) (drop (accepted + 1 - (seq + 1)) rest))

    by_bool : (t : Bool) → ltb accepted seq ≡ t → Goal
    by_bool true e =
        let lt : accepted < seq = ltb-true _ _ e in
        let one : accepted + 1 - seq ≡ 0 = omega arith in
        let two : accepted + 1 - (seq + 1) ≡ 0 = omega arith in
        rw (one, two, e) refl
    by_bool false e =
        let le : seq ≤ accepted = ltb-false _ _ e in
        let one : accepted + 1 - seq ≡ suc (accepted + 1 - (seq + 1)) = omega arith in
        rw (one, e) refl

pub chain_item_is : (i : Item) → chain_item (frame_item_of i) ≡ item_of i
chain_item_is (Shown e) = refl
chain_item_is (Hidden time kind digest) = refl

pub chain_more : (chain : Chain) (seq : ℕ) (i : FrameItem) (rest : List FrameItem) → chain.seq ≤ seq
    → chain_after chain (take (seq + 1 - chain.seq) (i ∷ rest)) ≡ chain_after (chained chain (chain_item i)) (take (seq + 1 - (chain.seq + 1)) rest)
chain_more chain seq i rest le =
    let one : seq + 1 - chain.seq ≡ suc (seq + 1 - (chain.seq + 1)) = omega arith in
    rw one refl

abbrev nothing : {A : Type 0} → List A
nothing = []

-- ---- the loop

drop_none : {A : Type 0} (n : ℕ) → drop n (nothing {A = A}) ≡ []
drop_none zero = refl
drop_none (suc n) = refl

pub goes_on : (upto j n accepted seq : ℕ) (i : FrameItem) (rest all : List FrameItem) (sends : List (List ℕ)) (total : Verdict) → all ≡ i ∷ rest → None ≡ receipt_if n accepted seq i
    → matched upto j (filter_map (receipt_in n) (drop (accepted + 1 - seq) all)) sends ≡ total
    → matched upto j (filter_map (receipt_in n) (drop (accepted + 1 - (seq + 1)) rest)) sends ≡ total
goes_on upto j n accepted seq i rest all sends total items none so_far =
    let others : List (List ℕ) = filter_map (receipt_in n) (drop (accepted + 1 - (seq + 1)) rest) in
    let same : filter_map (receipt_in n) (drop (accepted + 1 - seq) all) ≡ others =
    ap (λ (t : List FrameItem). filter_map (receipt_in n) (drop (accepted + 1 - seq) t)) items ∙ item_more n accepted seq i rest ∙ ap (λ (t : Option (List ℕ)). cons_option t others) (sym none) in
    ap (λ (t : List (List ℕ)). matched upto j t sends) (sym same) ∙ so_far

pub goes_past : (base next at j n accepted seq : ℕ) (i : FrameItem) (rest all : List FrameItem) (sends : List (List ℕ)) (raw : List ℕ) (total : Verdict) → all ≡ i ∷ rest → Some raw ≡ receipt_if n accepted seq i
    → Finds sends next raw (Some at)
    → matched (base + next) j (filter_map (receipt_in n) (drop (accepted + 1 - seq) all)) (drop next sends) ≡ total
    → matched (base + (at + 1)) (j + 1) (filter_map (receipt_in n) (drop (accepted + 1 - (seq + 1)) rest)) (drop (at + 1) sends) ≡ total
goes_past base next at j n accepted seq i rest all sends raw total items some finds so_far =
    let others : List (List ℕ) = filter_map (receipt_in n) (drop (accepted + 1 - (seq + 1)) rest) in
    let same : filter_map (receipt_in n) (drop (accepted + 1 - seq) all) ≡ raw ∷ others =
    ap (λ (t : List FrameItem). filter_map (receipt_in n) (drop (accepted + 1 - seq) t)) items ∙ item_more n accepted seq i rest ∙ ap (λ (t : Option (List ℕ)). cons_option t others) (sym some) in
    let sum : base + (at + 1) ≡ base + next + (at + 1 - next) = omega (arith, finds.0) in
    ap (λ (k : ℕ). matched k (j + 1) others (drop (at + 1) sends)) sum ∙ sym (finds.2 (base + next) j others) ∙ ap (λ (t : List (List ℕ)). matched (base + next) j t (drop next sends)) (sym same) ∙ so_far

pub ends : (upto j n k : ℕ) (all : List FrameItem) (sends : List (List ℕ)) (total : Verdict) → all ≡ [] → matched upto j (filter_map (receipt_in n) (drop k all)) sends ≡ total → Accepted upto ≡ total
unfolding matched
ends upto j n k all sends total none so_far =
    let same : filter_map (receipt_in n) (drop k all) ≡ [] =
    ap (λ (t : List FrameItem). filter_map (receipt_in n) (drop k t)) none ∙ ap (filter_map (receipt_in n)) (drop_none k) in
    ap (λ (t : List (List ℕ)). matched upto j t sends) (sym same) ∙ so_far

pub found_at : {A : Type 0} (f : A → List ℕ) (xs : List A) (i : ℕ) (x : A) → slice_get xs i ≡ Some x → get_or (map f xs) i [] ≡ f x
found_at f [] i x e = absurd cc
found_at f (y ∷ ys) zero x e = ap f (same_Some y x e)
found_at f (y ∷ ys) (suc i) x e = found_at f ys i x e

pub within_some : {A : Type 0} (xs : List A) (i : ℕ) → i < length xs → slice_get xs i ≡ None → ⊥
within_some [] i lt e = omega arith
within_some (x ∷ xs) zero lt e = cc
within_some (x ∷ xs) (suc i) lt e = within_some xs i (omega (arith, lt)) e

pub unequal : (xs ys : List ℕ) → bytes_eq xs ys ≡ false → xs ≡ ys → ⊥
unequal xs ys e same = clash (bytes_eq xs ys) ((bytes_eq-Decides xs ys).1 same) e
  where
    clash : (t : Bool) → t ≡ true → t ≡ false → ⊥
    clash t p q = cc
