-- What a block reads as doesn't depend on where it stands.
use Rattle.std.proofs.Common.{◌≡◌, ℕ, zero, suc, Bool, true, false, cond, ltb, eqb, List, [], ◌∷◌, ◌++◌, length, take, Result, Ok, Err, refl, sym, ap, subst, ◌∙◌}
use Rattle.byteorder.specs.Endian.{big_number}
use Rattle.nr_spec_wire.specs.Reading.{Spot, ◌>>=◌, past, number_at, bytes_at, wants}
use Rattle.nr_spec_bgp.specs.Prefixes.{faults_at}
use Rattle.nr_spec_bgp.specs.Attributes.{Attribute, Placed, size_bytes, fields_at, attribute_at, may_follow, attributes_from, attributes_at}

-- two readings both have values, which are alike, or both have faults
abbrev pub Alike : {A : Type 0} → (A → A → Type 0) → Result A ℕ → Result A ℕ → Type 0
Alike like (Ok x) (Ok y) = like x y
Alike like (Ok x) (Err e) = ⊥
Alike like (Err d) (Ok y) = ⊥
Alike like (Err d) (Err e) = Unit {0}

alike_bind : {A B : Type 0} (like : A → A → Type 0) (then_like : B → B → Type 0) (r q : Result A ℕ) (f g : A → Result B ℕ) → Alike like r q → ((x y : A) → like x y → Alike then_like (f x) (g y)) → Alike then_like (r >>= f) (q >>= g)
alike_bind like then_like (Ok x) (Ok y) f g a h = h x y a
alike_bind like then_like (Ok x) (Err e) f g a h = absurd a
alike_bind like then_like (Err d) (Ok y) f g a h = absurd a
alike_bind like then_like (Err d) (Err e) f g a h = tt

alike_faults : {A : Type 0} (like : A → A → Type 0) (p t : ℕ) (r q : Result A ℕ) → Alike like r q → Alike like (faults_at p r) (faults_at t q)
alike_faults like p t (Ok x) (Ok y) a = a
alike_faults like p t (Ok x) (Err e) a = a
alike_faults like p t (Err d) (Ok y) a = a
alike_faults like p t (Err d) (Err e) a = tt

-- the same value, and the same bytes left
abbrev OnSame : {A : Type 0} → A × Spot → A × Spot → Type 0
OnSame x y = (x.0 ≡ y.0) × (x.1.rest ≡ y.1.rest)

alike_cond : {A : Type 0} (like : A → A → Type 0) (b : Bool) (d e : ℕ) (x y : A) → like x y → Alike like (cond b (Err d) (Ok x)) (cond b (Err e) (Ok y))
alike_cond like true d e x y h = tt
alike_cond like false d e x y h = h

number_alike : (n m : ℕ) (s t : Spot) → n ≡ m → s.rest ≡ t.rest → Alike OnSame (number_at n s) (number_at m t)
number_alike n m s t en e =
    let P : ℕ × List ℕ → Type 0 = λ k. Alike OnSame (number_at n s) (number_at k.0 (record { at = t.at; rest = k.1 })) in
    let same : (n, s.rest) ≡ (m, t.rest) = cc in
    subst P same (alike_cond OnSame (ltb (length s.rest) n) s.at t.at (big_number n s.rest, past n s) (big_number n s.rest, past n (record { at = t.at; rest = s.rest })) (refl, refl))

bytes_alike : (n m : ℕ) (s t : Spot) → n ≡ m → s.rest ≡ t.rest → Alike OnSame (bytes_at n s) (bytes_at m t)
bytes_alike n m s t en e =
    let P : ℕ × List ℕ → Type 0 = λ k. Alike OnSame (bytes_at n s) (bytes_at k.0 (record { at = t.at; rest = k.1 })) in
    let same : (n, s.rest) ≡ (m, t.rest) = cc in
    subst P same (alike_cond OnSame (ltb (length s.rest) n) s.at t.at (take n s.rest, past n s) (take n s.rest, past n (record { at = t.at; rest = s.rest })) (refl, refl))

-- the same attribute, at any place, and the same bytes left
abbrev SameAttribute : Placed × Spot → Placed × Spot → Type 0
SameAttribute x y = (x.0.what ≡ y.0.what) × (x.1.rest ≡ y.1.rest)

attribute_made : (k l : ℕ) (v w : List ℕ) → k ≡ l → v ≡ w → (let a : Attribute = record { kind = k; value = v } in a) ≡ record { kind = l; value = w }
attribute_made k l v w e f = cc

fields_alike : (s t : Spot) → s.rest ≡ t.rest → Alike SameAttribute (fields_at s) (fields_at t)
unfolding fields_at
fields_alike s t e =
    alike_bind OnSame SameAttribute (number_at 1 s) (number_at 1 t) _ _ (number_alike 1 1 s t refl e) (λ a b ab.
    alike_bind OnSame SameAttribute (number_at 1 a.1) (number_at 1 b.1) _ _ (number_alike 1 1 a.1 b.1 refl ab.1) (λ c d cd.
    alike_bind OnSame SameAttribute (number_at (size_bytes a.0) c.1) (number_at (size_bytes b.0) d.1) _ _ (number_alike (size_bytes a.0) (size_bytes b.0) c.1 d.1 (ap size_bytes ab.0) cd.1) (λ f g fg.
    alike_bind OnSame SameAttribute (bytes_at f.0 f.1) (bytes_at g.0 g.1) _ _ (bytes_alike f.0 g.0 f.1 g.1 fg.0 fg.1) (λ u v uv.
    (attribute_made c.0 d.0 u.0 v.0 cd.0 uv.0, uv.1)))))

attribute_alike : (s t : Spot) → s.rest ≡ t.rest → Alike SameAttribute (attribute_at s) (attribute_at t)
attribute_alike s t e = alike_faults SameAttribute s.at t.at (fields_at s) (fields_at t) (fields_alike s t e)

abbrev IsSame : List Attribute → List Attribute → Type 0
IsSame l m = l ≡ m

alike_wants : (b : Bool) (d e : ℕ) (x : Attribute) (f g : Attribute → Result (List Attribute) ℕ) → Alike IsSame (f x) (g x) → Alike IsSame (wants b d x >>= f) (wants b e x >>= g)
alike_wants true d e x f g h = h
alike_wants false d e x f g h = tt

alike_if : (b : Bool) (l : List Attribute) (r q : Result (List Attribute) ℕ) → Alike IsSame r q → Alike IsSame (cond b (Ok l) r) (cond b (Ok l) q)
alike_if true l r q h = refl
alike_if false l r q h = h

-- one walk goes on as another does
walk_on : (as4 : Bool) (before : List Attribute) (f g : List Attribute → Spot → Result (List Attribute) ℕ) → ((l : List Attribute) (s t : Spot) → s.rest ≡ t.rest → Alike IsSame (f l s) (g l t))
    → (x y : Placed × Spot) → SameAttribute x y
    → Alike IsSame (wants (may_follow as4 before x.0.what) x.0.at x.0.what >>= λ w. f (before ++ w ∷ []) x.1) (wants (may_follow as4 before y.0.what) y.0.at y.0.what >>= λ w. g (before ++ w ∷ []) y.1)
walk_on as4 before f g h x y xy =
    let P : Attribute → Type 0 = λ a. Alike IsSame (wants (may_follow as4 before x.0.what) x.0.at x.0.what >>= λ w. f (before ++ w ∷ []) x.1) (wants (may_follow as4 before a) y.0.at a >>= λ w. g (before ++ w ∷ []) y.1) in
    subst P xy.0 (alike_wants (may_follow as4 before x.0.what) x.0.at y.0.at x.0.what _ _ (h (before ++ x.0.what ∷ []) x.1 y.1 xy.1))

pub attributes_alike : (as4 : Bool) (n : ℕ) (before : List Attribute) (s t : Spot) → s.rest ≡ t.rest → Alike IsSame (attributes_from n as4 before s) (attributes_from n as4 before t)
unfolding attributes_from
attributes_alike as4 zero before s t e = refl
attributes_alike as4 (suc n) before s t e =
    let P : List ℕ → Type 0 = λ r. Alike IsSame (attributes_from (suc n) as4 before s) (cond (eqb (length r) 0) (Ok before) (attribute_at t >>= λ a. wants (may_follow as4 before a.0.what) a.0.at a.0.what >>= λ w. attributes_from n as4 (before ++ w ∷ []) a.1)) in
    subst P e
    (alike_if (eqb (length s.rest) 0) before _ _
    (alike_bind SameAttribute IsSame (attribute_at s) (attribute_at t) _ _ (attribute_alike s t e)
    (walk_on as4 before (attributes_from n as4) (attributes_from n as4) (attributes_alike as4 n))))

alike_ok : (r q : Result (List Attribute) ℕ) (l : List Attribute) → Alike IsSame r q → r ≡ Ok l → q ≡ Ok l
alike_ok (Ok x) (Ok y) l a e = let x-is : x ≡ l = cc in let y-is : y ≡ l = sym a ∙ x-is in ap (λ (v : List Attribute). Ok v) y-is
alike_ok (Ok x) (Err d) l a e = absurd a
alike_ok (Err d) q l a e = absurd cc

-- a block that reads at one spot reads so at every spot
pub same_block : (as4 : Bool) (s t : Spot) (list : List Attribute) → s.rest ≡ t.rest → attributes_at as4 s ≡ Ok list → attributes_at as4 t ≡ Ok list
same_block as4 s t list e ok =
    let P : List ℕ → Type 0 = λ r. attributes_from (length r) as4 [] t ≡ Ok list in
    subst P e (alike_ok _ _ list (attributes_alike as4 (length s.rest) [] s t e) ok)
