-- Reading to the end of the bytes: the number of bytes is fuel enough.
use Rattle.std.proofs.Common.{◌≡◌, ◌≢◌, ℕ, zero, suc, ◌*◌, ◌≤◌, ◌<◌, Bool, true, false, cond, eqb, leb, ◌&&◌, List, [], ◌∷◌, ◌++◌, length, Result, Ok, Err, refl, sym, ap, subst, ◌∙◌, arith}
use Rattle.std.proofs.lemmas.Bool.{eq-eqb, ne_eqb, eqb-true}
use Rattle.nr_spec_wire.specs.Reading.{Spot, Read, ◌>>=◌, number_at, bytes_at, wants, rows_at, all_rows_at, values, all_at}
use Rattle.nr_spec_bgp.specs.Prefixes.{Cidr, masked, address_of, bytes_for, faults_at, cidr_at}
use Rattle.nr_spec_bgp.specs.Messages.{cidrs_at}
use Rattle.nr_spec_bgp.specs.Paths.{as_size, numbers_in, segment_at}
use Rattle.nr_spec_bgp.specs.Attributes.{Attribute, Placed, size_bytes, fields_at, attribute_at, may_follow, attributes_from}
use Rattle.nr_spec_bgp.proofs.Steps.{bind_ok, ok_is, faults_ok, number_leaves, bytes_leaves}

-- what a reader leaves is shorter
abbrev pub Eats : {A : Type 0} → (Spot → Read A) → Type 0
Eats {A} item = (s : Spot) (x : A × Spot) → item s ≡ Ok x → length x.1.rest < length s.rest

-- ---- values

-- what a reader reads of the first value and the others, and where that ends
abbrev rows_of : {A : Type 0} → Read A → (Spot → Read (List A)) → Read (List A)
rows_of r f = r >>= λ first. f first.1 >>= λ others. Ok (first.0 ∷ others.0, others.1)

same_step : {A : Type 0} (b : Bool) (s : Spot) (r : Read A) (f g : Spot → Read (List A)) → ((x : A × Spot) → r ≡ Ok x → f x.1 ≡ g x.1)
    → cond b (Ok ([], s)) (rows_of r f) ≡ cond b (Ok ([], s)) (rows_of r g)
same_step true s r f g h = refl
same_step {A} false s (Ok x) f g h = ap (λ (v : Read (List A)). v >>= λ others. Ok (x.0 ∷ others.0, others.1)) (h x refl)
same_step false s (Err e) f g h = refl

ended : {A : Type 0} (item : Spot → Read A) (n : ℕ) (s : Spot) → length s.rest ≡ 0 → rows_at item n s ≡ Ok ([], s)
unfolding rows_at
ended item zero s none = refl
ended item (suc n) s none = let e : eqb (length s.rest) 0 ≡ true = eq-eqb _ _ none in rw e refl

pub enough_rows : {A : Type 0} (item : Spot → Read A) (eats : Eats item) (n m : ℕ) (s : Spot)
    → length s.rest ≤ n → length s.rest ≤ m → rows_at item n s ≡ rows_at item m s
unfolding rows_at
enough_rows item eats zero m s a b = ended item zero s (omega arith) ∙ sym (ended item m s (omega arith))
enough_rows item eats (suc n) zero s a b = ended item (suc n) s (omega arith) ∙ sym (ended item zero s (omega arith))
enough_rows item eats (suc n) (suc m) s a b =
    same_step (eqb (length s.rest) 0) s (item s) (rows_at item n) (rows_at item m) (λ x e. enough_rows item eats n m x.1 (omega (arith, eats s x e)) (omega (arith, eats s x e)))

rows_step : {A : Type 0} (item : Spot → Read A) (eats : Eats item) (n : ℕ) (s : Spot) → length s.rest ≢ 0 → length s.rest ≡ n
    → rows_at item n s ≡ rows_of (item s) (all_rows_at item)
unfolding rows_at
rows_step item eats zero s some e = absurd (some e)
rows_step item eats (suc n) s some e =
    let ne : eqb (length s.rest) 0 ≡ false = ne_eqb _ _ some in
    rw ne (same_step false s (item s) (rows_at item n) (all_rows_at item) (λ x is. enough_rows item eats n (length x.1.rest) x.1 (omega (arith, eats s x is)) (omega arith)))

-- the values alone are those of the first and of the others
values_others : {A : Type 0} (x : A) (others : Read (List A)) → values (others >>= λ o. Ok (x ∷ o.0, o.1)) ≡ (values others >>= λ o. Ok (x ∷ o))
values_others x (Ok o) = refl
values_others x (Err e) = refl

values_of : {A : Type 0} (r : Read A) (f : Spot → Read (List A)) → values (rows_of r f) ≡ (r >>= λ first. values (f first.1) >>= λ others. Ok (first.0 ∷ others))
values_of (Ok x) f = values_others x.0 (f x.1)
values_of (Err e) f = refl

-- the first value, and then the others
pub all_step : {A : Type 0} (item : Spot → Read A) (eats : Eats item) (s : Spot) → length s.rest ≢ 0
    → all_at item s ≡ (item s >>= λ first. all_at item first.1 >>= λ others. Ok (first.0 ∷ others))
all_step item eats s some = ap values (rows_step item eats (length s.rest) s some refl) ∙ values_of (item s) (all_rows_at item)

-- nothing is left
pub all_end : {A : Type 0} (item : Spot → Read A) (s : Spot) → length s.rest ≡ 0 → all_at item s ≡ Ok []
all_end item s none = ap values (ended item (length s.rest) s none)

-- what each step of a reading to the end keeps
each_step : {A : Type 0} (item : Spot → Read A) (Keeps : Spot → List A → Type 0) (s : Spot) (others : Spot → Read (List A)) (b : Bool) (xs : List A)
    → (b ≡ true → Keeps s []) → ((x : A × Spot) (rest : List A) → item s ≡ Ok x → values (others x.1) ≡ Ok rest → Keeps s (x.0 ∷ rest))
    → values (cond b (Ok ([], s)) (rows_of (item s) others)) ≡ Ok xs → Keeps s xs
each_step item Keeps s others true xs end more e = subst (Keeps s) (ok_is [] xs e) (end refl)
each_step item Keeps s others false xs end more e =
    let a = bind_ok (item s) (λ first. values (others first.1) >>= λ o. Ok (first.0 ∷ o)) xs (sym (values_of (item s) others) ∙ e) in
    let r = bind_ok (values (others a.0.1)) (λ o. Ok (a.0.0 ∷ o)) xs a.2 in
    subst (Keeps s) (ok_is (a.0.0 ∷ r.0) xs r.2) (more a.0 r.0 a.1 r.1)

each_from : {A : Type 0} (item : Spot → Read A) (eats : Eats item) (Keeps : Spot → List A → Type 0)
    → ((s : Spot) → length s.rest ≡ 0 → Keeps s [])
    → ((s : Spot) (x : A × Spot) (rest : List A) → item s ≡ Ok x → Keeps x.1 rest → Keeps s (x.0 ∷ rest))
    → (n : ℕ) (s : Spot) (xs : List A) → length s.rest ≤ n → values (rows_at item n s) ≡ Ok xs → Keeps s xs
unfolding rows_at
each_from item eats Keeps end more zero s xs few e = subst (Keeps s) (ok_is [] xs e) (end s (omega arith))
each_from item eats Keeps end more (suc n) s xs few e =
    each_step item Keeps s (rows_at item n) (eqb (length s.rest) 0) xs (λ t. end s (eqb-true (length s.rest) 0 t))
    (λ x rest is read. more s x rest is (each_from item eats Keeps end more n x.1 rest (omega (arith, eats s x is)) read)) e

-- What holds where nothing is left, and of a value with others where it holds of the others, holds of all values to
-- the end.
pub each_value : {A : Type 0} (item : Spot → Read A) (eats : Eats item) (Keeps : Spot → List A → Type 0)
    → ((s : Spot) → length s.rest ≡ 0 → Keeps s [])
    → ((s : Spot) (x : A × Spot) (rest : List A) → item s ≡ Ok x → Keeps x.1 rest → Keeps s (x.0 ∷ rest))
    → (s : Spot) (xs : List A) → all_at item s ≡ Ok xs → Keeps s xs
each_value item eats Keeps end more s xs e = each_from item eats Keeps end more (length s.rest) s xs (omega arith) e

-- ---- prefixes

pub cidr_eats : Eats cidr_at
unfolding cidr_at
cidr_eats s x e =
    let a = bind_ok (number_at 1 s) _ x e in
    let b = bind_ok (wants (leb a.0.0 32) s.at a.0.0) _ x a.2 in
    let c = bind_ok (faults_at s.at (bytes_at (bytes_for b.0) a.0.1)) _ x b.2 in
    let out = ok_is (masked (address_of c.0.0) b.0, c.0.1) x c.2 in
    rw (← out) (omega (arith, number_leaves 1 s a.0 a.1, bytes_leaves (bytes_for b.0) a.0.1 c.0 (faults_ok s.at _ c.0 c.1)))

-- a prefix in front of others
abbrev pub goes_on : Cidr → Result (List Cidr) ℕ → Result (List Cidr) ℕ
goes_on first others = others >>= λ o. Ok (first ∷ o)

pub all_of : (s : Spot) (x : Cidr) (t : Spot) → 0 < length s.rest → cidr_at s ≡ Ok (x, t) → cidrs_at s ≡ goes_on x (cidrs_at t)
all_of s x t some e = all_step cidr_at cidr_eats s (omega arith) ∙ rw e refl

-- ---- segments

pub segment_eats : (as4 : Bool) → Eats (segment_at as4)
unfolding segment_at
segment_eats as4 s x e =
    let a = bind_ok (number_at 1 s) _ x e in
    let b = bind_ok (wants (leb 1 a.0.0 && leb a.0.0 4) s.at a.0.0) _ x a.2 in
    let c = bind_ok (number_at 1 a.0.1) _ x b.2 in
    let d = bind_ok (wants (leb 1 c.0.0) a.0.1.at c.0.0) _ x c.2 in
    let f = bind_ok (bytes_at (d.0 * as_size as4) c.0.1) _ x d.2 in
    let out = ok_is (record { kind = b.0; numbers = numbers_in (as_size as4) f.0.0 }, f.0.1) x f.2 in
    rw (← out) (omega (arith, number_leaves 1 s a.0 a.1, number_leaves 1 a.0.1 c.0 c.1, bytes_leaves (d.0 * as_size as4) c.0.1 f.0 f.1))

-- ---- attributes

pub fields_eat : Eats fields_at
unfolding fields_at
fields_eat s x e =
    let a = bind_ok (number_at 1 s) _ x e in
    let b = bind_ok (number_at 1 a.0.1) _ x a.2 in
    let c = bind_ok (number_at (size_bytes a.0.0) b.0.1) _ x b.2 in
    let d = bind_ok (bytes_at c.0.0 c.0.1) _ x c.2 in
    let out = ok_is _ x d.2 in
    rw (← out) (omega (arith, number_leaves 1 s a.0 a.1, number_leaves 1 a.0.1 b.0 b.1, number_leaves _ b.0.1 c.0 c.1, bytes_leaves _ c.0.1 d.0 d.1))

pub attribute_eats : Eats attribute_at
attribute_eats s x e = fields_eat s x (faults_ok s.at (fields_at s) x e)

-- what follows the first attribute, read by next
abbrev pub going_on : Bool → List Attribute → (List Attribute → Spot → Result (List Attribute) ℕ) → Placed × Spot → Result (List Attribute) ℕ
going_on as4 before next a = wants (may_follow as4 before a.0.what) a.0.at a.0.what >>= λ (w : Attribute). next (before ++ w ∷ []) a.1

same_next : (b : Bool) (place : ℕ) (w : Attribute) (f g : Attribute → Result (List Attribute) ℕ) → ((v : Attribute) → f v ≡ g v) → (wants b place w >>= f) ≡ (wants b place w >>= g)
same_next true place w f g h = h w
same_next false place w f g h = refl

same_walk : (as4 : Bool) (before : List Attribute) (b : Bool) (r : Read Placed) (f g : List Attribute → Spot → Result (List Attribute) ℕ) → ((x : Placed × Spot) (l : List Attribute) → r ≡ Ok x → f l x.1 ≡ g l x.1)
    → cond b (Ok before) (r >>= going_on as4 before f) ≡ cond b (Ok before) (r >>= going_on as4 before g)
same_walk as4 before true r f g h = refl
same_walk as4 before false (Ok x) f g h = same_next (may_follow as4 before x.0.what) x.0.at x.0.what (λ w. f (before ++ w ∷ []) x.1) (λ w. g (before ++ w ∷ []) x.1) (λ w. h x (before ++ w ∷ []) refl)
same_walk as4 before false (Err e) f g h = refl

pub enough_attributes : (as4 : Bool) (n m : ℕ) (before : List Attribute) (s : Spot) → length s.rest ≤ n → length s.rest ≤ m → attributes_from n as4 before s ≡ attributes_from m as4 before s
unfolding attributes_from
enough_attributes as4 zero zero before s a b = refl
enough_attributes as4 zero (suc m) before s a b = let e : eqb (length s.rest) 0 ≡ true = eq-eqb _ _ (omega arith) in rw e refl
enough_attributes as4 (suc n) zero before s a b = let e : eqb (length s.rest) 0 ≡ true = eq-eqb _ _ (omega arith) in rw e refl
enough_attributes as4 (suc n) (suc m) before s a b =
    same_walk as4 before (eqb (length s.rest) 0) (attribute_at s) (attributes_from n as4) (attributes_from m as4)
    (λ x l e. enough_attributes as4 n m l x.1 (omega (arith, attribute_eats s x e)) (omega (arith, attribute_eats s x e)))

-- the attributes after those before, with as much fuel as there are bytes
abbrev pub attributes_behind : Bool → List Attribute → Spot → Result (List Attribute) ℕ
attributes_behind as4 before s = attributes_from (length s.rest) as4 before s

attributes_step_at : (as4 : Bool) (before : List Attribute) (n : ℕ) (s : Spot) → length s.rest ≢ 0 → length s.rest ≡ n
    → attributes_from n as4 before s ≡ (attribute_at s >>= going_on as4 before (attributes_behind as4))
unfolding attributes_from
attributes_step_at as4 before zero s some e = absurd (some e)
attributes_step_at as4 before (suc n) s some e =
    let ne : eqb (length s.rest) 0 ≡ false = ne_eqb _ _ some in
    rw ne
    (same_walk as4 before false (attribute_at s) (attributes_from n as4) (attributes_behind as4)
    (λ x l is. enough_attributes as4 n (length x.1.rest) l x.1 (omega (arith, attribute_eats s x is)) (omega arith)))

-- the first attribute, and then the others
pub attributes_step : (as4 : Bool) (before : List Attribute) (s : Spot) → length s.rest ≢ 0 → attributes_behind as4 before s ≡ (attribute_at s >>= going_on as4 before (attributes_behind as4))
attributes_step as4 before s some = attributes_step_at as4 before (length s.rest) s some refl

attributes_end_at : (as4 : Bool) (before : List Attribute) (n : ℕ) (s : Spot) → length s.rest ≡ 0 → attributes_from n as4 before s ≡ Ok before
unfolding attributes_from
attributes_end_at as4 before zero s none = refl
attributes_end_at as4 before (suc n) s none = let e : eqb (length s.rest) 0 ≡ true = eq-eqb _ _ none in rw e refl

-- nothing is left
pub attributes_end : (as4 : Bool) (before : List Attribute) (s : Spot) → length s.rest ≡ 0 → attributes_behind as4 before s ≡ Ok before
attributes_end as4 before s none = attributes_end_at as4 before (length s.rest) s none
