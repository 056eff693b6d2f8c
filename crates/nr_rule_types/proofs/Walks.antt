-- A loop that finds something of each item, up to the first fault, and what holds of the items so far.
use Rattle.std.proofs.Common.{◌≡◌, ℕ, suc, ◌+◌, ◌<◌, ◌≤◌, List, [], ◌∷◌, ◌++◌, map, length, take, drop, get_or, Result, Ok, Err, refl, ap, sym, subst, ◌∙◌, append_assoc, arith}
use Rattle.std.proofs.Math.Seq.{drop-cons}
use Rattle.std.proofs.Math.ListN.{drop_of_length-le}
use Rattle.std.specs.List.{All}
use Rattle.std.proofs.lemmas.List.{append-nil, take_more, take_all}
use Rattle.std.proofs.lemmas.List.Elements.{All-push}
use Rattle.nr_spec_wire.specs.Reading.{◌>>=◌}
use Rattle.nr_spec_typing.specs.Steps.{◌<$>◌, all_of, in_turn}
use Rattle.nr_rule_types.specs.declared.fault.TypeError.{TypeError}
use Rattle.nr_rule_types.specs.declared.fault.TypeError.TheVariants.{At, Memory}
use Rattle.nr_rule_types.specs.Views.{Fails}

abbrev pub behind : {B : Type 0} → List B → Result (List B) ℕ → Result (List B) ℕ
behind front (Ok more) = Ok (front ++ more)
behind front (Err place) = Err place

-- what is left of the list, from its next item on
pub first_left : {A : Type 0} (xs : List A) (i : ℕ) (x : A) → i < length xs → x ≡ get_or xs i x → drop i xs ≡ x ∷ drop (i + 1) xs
first_left xs i x lt e =
    let n : suc i ≡ i + 1 = omega arith in
    drop-cons xs i x lt ∙ ap (λ y. y ∷ drop (suc i) xs) (sym e) ∙ ap (λ k. x ∷ drop k xs) n

none_before : {B : Type 0} (read : Result (List B) ℕ) → behind [] read ≡ read
none_before (Ok more) = refl
none_before (Err place) = refl

one_more : {B : Type 0} (front : List B) (y : B) (read : Result (List B) ℕ) → behind (front ++ y ∷ []) read ≡ behind front (read >>= (λ more. Ok (y ∷ more)))
one_more front y (Ok more) = ap (λ l. Ok l) (append_assoc front (y ∷ []) more)
one_more front y (Err place) = refl

-- what is there so far, before what is found of the rest, is the whole
pub record IsSoFar {A B : Type 0} (f : A → Result B ℕ) (xs : List A) (i : ℕ) (front : List B) : Type 0 where
  pub same : behind front (all_of f (drop i xs)) ≡ all_of f xs

pub so_far_none : {A B : Type 0} (f : A → Result B ℕ) (xs : List A) → IsSoFar f xs 0 []
so_far_none f xs = record { same = none_before (all_of f xs) }

pub so_far_more : {A B : Type 0} {f : A → Result B ℕ} {xs : List A} {i : ℕ} {front : List B} → IsSoFar f xs i front
    → (x : A) (y : B) → i < length xs → x ≡ get_or xs i x → f x ≡ Ok y → IsSoFar f xs (i + 1) (front ++ y ∷ [])
unfolding all_of
so_far_more {f = f} {xs = xs} {i = i} {front = front} h x y lt e g = record {
  same = one_more front y (all_of f (drop (i + 1) xs)) ∙ (rw (first_left xs i x lt e, g) at h.same);
}

pub so_far_fails : {A B : Type 0} {f : A → Result B ℕ} {xs : List A} {i : ℕ} {front : List B} → IsSoFar f xs i front
    → (x : A) (e : TypeError) → i < length xs → x ≡ get_or xs i x → Fails e (f x) → Fails e (all_of f xs)
unfolding all_of
so_far_fails h x Memory lt e g = tt
so_far_fails {f = f} {xs = xs} {i = i} {front = front} h x (At place) lt e g = sym (rw (first_left xs i x lt e, g) at h.same)

pub so_far_done : {A B : Type 0} {f : A → Result B ℕ} {xs : List A} {i : ℕ} {front : List B} → IsSoFar f xs i front
    → length xs ≤ i → all_of f xs ≡ Ok front
unfolding all_of
so_far_done {f = f} {xs = xs} {i = i} {front = front} h le = sym (rw (drop_of_length-le xs le) at h.same) ∙ ap (λ l. Ok l) (append-nil front)

pub all_of_map : {A B C : Type 0} (f : B → Result C ℕ) (g : A → B) (xs : List A) → all_of f (map g xs) ≡ all_of (λ x. f (g x)) xs
unfolding all_of
all_of_map f g [] = refl
all_of_map f g (x ∷ xs) = ap (λ others. f (g x) >>= (λ first. others >>= (λ more. Ok (first ∷ more)))) (all_of_map f g xs)

-- ---- a loop in which each makes something of what was there before

-- what is there so far, with the rest still to come, gives what the whole gives
pub record IsOnItsWay {A S : Type 0} (step : S → A → Result S ℕ) (start : S) (xs : List A) (i : ℕ) (now : S) : Type 0 where
  pub same : in_turn step now (drop i xs) ≡ in_turn step start xs

pub way_start : {A S : Type 0} (step : S → A → Result S ℕ) (start : S) (xs : List A) → IsOnItsWay step start xs 0 start
way_start step start xs = record { same = refl }

pub way_more : {A S : Type 0} {step : S → A → Result S ℕ} {start : S} {xs : List A} {i : ℕ} {now : S} → IsOnItsWay step start xs i now
    → (x : A) (next : S) → i < length xs → x ≡ get_or xs i x → step now x ≡ Ok next → IsOnItsWay step start xs (i + 1) next
unfolding in_turn
way_more {xs = xs} {i = i} h x next lt e g = record { same = rw (first_left xs i x lt e, g) at h.same }

pub way_fails : {A S : Type 0} {step : S → A → Result S ℕ} {start : S} {xs : List A} {i : ℕ} {now : S} → IsOnItsWay step start xs i now
    → (x : A) (e : TypeError) → i < length xs → x ≡ get_or xs i x → Fails e (step now x) → Fails e (in_turn step start xs)
unfolding in_turn
way_fails h x Memory lt e g = tt
way_fails {xs = xs} {i = i} h x (At place) lt e g = sym (rw (first_left xs i x lt e, g) at h.same)

pub way_done : {A S : Type 0} {step : S → A → Result S ℕ} {start : S} {xs : List A} {i : ℕ} {now : S} → IsOnItsWay step start xs i now
    → length xs ≤ i → in_turn step start xs ≡ Ok now
unfolding in_turn
way_done {xs = xs} h le = sym (rw (drop_of_length-le xs le) at h.same)

-- this of what wasn't found
pub mapped_fails : {A B : Type 0} (f : A → B) (read : Result A ℕ) (e : TypeError) → Fails e read → Fails e (f <$> read)
mapped_fails f read Memory h = tt
mapped_fails f read (At place) h = ap (λ r. f <$> r) h

-- ---- what holds of each item so far

pub all_so_far : {A : Type 0} (P : A → Type 0) (xs : List A) (i : ℕ) (x : A) → i < length xs → x ≡ get_or xs i x → All P (take i xs) → P x → All P (take (i + 1) xs)
all_so_far P xs i x lt e before now = rw (take_more xs i x lt) (All-push P (take i xs) (get_or xs i x) before (subst P e now))

pub all_of_whole : {A : Type 0} (P : A → Type 0) (xs : List A) (i : ℕ) → length xs ≤ i → All P (take i xs) → All P xs
all_of_whole P xs i le before = rw (take_all i xs le) at before
