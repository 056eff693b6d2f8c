-- Pieces that were joined are cut apart again.
use Rattle.std.proofs.Common.{◌≡◌, ℕ, zero, suc, ◌+◌, ◌*◌, ◌<◌, List, [], ◌∷◌, ◌++◌, length, take, drop, get_or, refl, ap, ◌∙◌, append_assoc, add-one, arith, inl, inr, sym}
use Rattle.std.proofs.lemmas.List.{length-append, append-nil, take_at, take-take, drop_at, get_or_push, get_or_append_left}
use Rattle.std.proofs.lemmas.Bool.{cases_lt}
use Rattle.nr_spec_keys.specs.Pieces.{joined, piece_of}

pub joined-none : {A : Type 0} (piece : ℕ → List A) → joined piece 0 ≡ []
unfolding joined
joined-none piece = refl

pub joined-more : {A : Type 0} (piece : ℕ → List A) (n : ℕ) → joined piece (n + 1) ≡ joined piece n ++ piece n
unfolding joined
joined-more piece n = ap (joined piece) (add-one n)

pub joined-same : {A : Type 0} (f g : ℕ → List A) (n : ℕ) → ((k : ℕ) → k < n → f k ≡ g k) → joined f n ≡ joined g n
unfolding joined
joined-same f g zero same = refl
joined-same f g (suc n) same =
    let before = joined-same f g n (λ k lt. same k (omega arith)) in
    let last = same n (omega arith) in
    rw (before, last) refl

-- pieces of one size
abbrev pub AreOfSize : {A : Type 0} → ℕ → (ℕ → List A) → ℕ → Type 0
AreOfSize size piece n = (k : ℕ) → k < n → length (piece k) ≡ size

pub length-joined : {A : Type 0} (size : ℕ) (piece : ℕ → List A) (n : ℕ) → AreOfSize size piece n → length (joined piece n) ≡ size * n
unfolding joined
length-joined size piece zero sizes = omega arith
length-joined size piece (suc n) sizes =
    let before = length-joined size piece n (λ k lt. sizes k (omega arith)) in
    omega (arith, length-append (joined piece n) (piece n), sizes n (omega arith))

-- what stands before and after a piece
pub joined_split : {A : Type 0} (piece : ℕ → List A) (k n : ℕ) → k < n → (rest : List A) × (joined piece n ≡ joined piece k ++ (piece k ++ rest))
unfolding joined
joined_split piece k zero lt = absurd (omega arith)
joined_split {A} piece k (suc n) lt = elim (cases_lt k n) [ inl below ↦ earlier (joined_split piece k n below) | inr past ↦ last (omega arith) ]
  where
    Split : Type 0
    Split = (rest : List A) × (joined piece n ++ piece n ≡ joined piece k ++ (piece k ++ rest))

    earlier : ((rest : List A) × (joined piece n ≡ joined piece k ++ (piece k ++ rest))) → Split
    earlier (rest, is) =
        (rest ++ piece n, ap (λ (xs : List A). xs ++ piece n) is ∙ append_assoc (joined piece k) (piece k ++ rest) (piece n) ∙ ap (λ (xs : List A). joined piece k ++ xs) (append_assoc (piece k) rest (piece n)))

    last : k ≡ n → Split
    last is = ([], rw (is, append-nil (piece n)) refl)

-- a piece of a piece: the front of what stands after the pieces before it
pub drop-joined : {A : Type 0} (size : ℕ) (piece : ℕ → List A) (k n : ℕ) → k < n → AreOfSize size piece n → (rest : List A) × (drop (size * k) (joined piece n) ≡ piece k ++ rest)
drop-joined {A} size piece k n lt sizes =
    let split = joined_split piece k n lt in
    let before : length (joined piece k) ≡ size * k = length-joined size piece k (λ j below. sizes j (omega arith)) in
    (split.0, ap (drop (size * k)) split.1 ∙ drop_at (joined piece k) (piece k ++ split.0) (size * k) before)

pub piece_of-joined : (size : ℕ) (piece : ℕ → List ℕ) (k n : ℕ) → k < n → AreOfSize size piece n → piece_of size (joined piece n) k ≡ piece k
piece_of-joined size piece k n lt sizes =
    let behind = drop-joined size piece k n lt sizes in
    ap (take size) behind.1 ∙ take_at (piece k) behind.0 size (sizes k lt)

-- an element of a list of single elements
pub get_or-joined : {A : Type 0} (f : ℕ → A) (k n : ℕ) (d : A) → k < n → get_or (joined (λ j. f j ∷ []) n) k d ≡ f k
unfolding joined
get_or-joined f k zero d lt = absurd (omega arith)
get_or-joined {A} f k (suc n) d lt =
    let len : length (joined (λ j. f j ∷ []) n) ≡ n = length-joined 1 (λ j. f j ∷ []) n (λ j below. refl) ∙ omega arith in
    elim (cases_lt k n) [
      | inl below ↦ get_or_append_left (joined (λ j. f j ∷ []) n) (f n ∷ []) d k (omega arith) ∙ get_or-joined f k n d below
      | inr past ↦
          let is : n ≡ k = omega arith in
          get_or_push (joined (λ j. f j ∷ []) n) (f n) d k (len ∙ is) ∙ ap f is
    ]

-- ---- appending piece by piece

pub appends-none : (piece : ℕ → List ℕ) (out : List ℕ) → out ≡ out ++ joined piece 0
appends-none piece out = sym (append-nil out) ∙ ap (λ (xs : List ℕ). out ++ xs) (sym (joined-none piece))

pub appends-more : (piece : ℕ → List ℕ) (out now new added : List ℕ) (i : ℕ) → now ≡ out ++ joined piece i → new ≡ now ++ added → added ≡ piece i → new ≡ out ++ joined piece (i + 1)
appends-more piece out now new added i so_far is piece_is =
    is ∙ ap (λ (xs : List ℕ). now ++ xs) piece_is ∙ ap (λ (xs : List ℕ). xs ++ piece i) so_far ∙ append_assoc out (joined piece i) (piece i) ∙ ap (λ (xs : List ℕ). out ++ xs) (sym (joined-more piece i))

-- what stood there before stands there still
pub front-stays : (out more now new : List ℕ) → now ≡ out ++ more → take (length now) new ≡ now → take (length out) new ≡ out
front-stays out more now new so_far kept =
    let len : length now ≡ length out + length more = ap length so_far ∙ length-append out more in
    sym (take-take (length out) (length now) new (omega arith)) ∙ ap (take (length out)) (kept ∙ so_far) ∙ take_at out more (length out) refl

-- four appended one after another
pub appended : (out a b c d first second third fourth : List ℕ) → a ≡ out ++ first → b ≡ a ++ second → c ≡ b ++ third → d ≡ c ++ fourth → d ≡ out ++ (first ++ (second ++ (third ++ fourth)))
appended out a b c d first second third fourth a_is b_is c_is d_is =
    d_is ∙ ap (λ (xs : List ℕ). xs ++ fourth) (c_is ∙ ap (λ (xs : List ℕ). xs ++ third) (b_is ∙ ap (λ (xs : List ℕ). xs ++ second) a_is)) ∙ simp append_assoc

pub appended_three : (out a b c first second third : List ℕ) → a ≡ out ++ first → b ≡ a ++ second → c ≡ b ++ third → c ≡ out ++ (first ++ (second ++ third))
appended_three out a b c first second third a_is b_is c_is =
    c_is ∙ ap (λ (xs : List ℕ). xs ++ third) (b_is ∙ ap (λ (xs : List ℕ). xs ++ second) a_is) ∙ simp append_assoc
