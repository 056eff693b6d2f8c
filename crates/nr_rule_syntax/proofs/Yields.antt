-- What a parser gives, where it is given tokens of a text: each step by itself.
use Rattle.std.proofs.Common.{◌≡◌, ℕ, zero, suc, ◌≤◌, Bool, true, false, cond, List, [], ◌∷◌, length, drop, Option, Some, None, Ok, Err, refl, sym, subst, arith, rules}
use denote.Enum.Bare.{same_true}
use Rattle.nr_spec_rules.specs.contracts.kind.Kind.{the_type}
use Rattle.std.specs.List.{AllByRecursion as AllOf}
use Rattle.nr_spec_rules.specs.declared.kind.Kind.{Kind}
use Rattle.nr_spec_rules.specs.declared.kind.Kind.TheVariants as k
use Rattle.nr_spec_rules.specs.declared.span.Span.{Span}
use Rattle.nr_spec_rules.specs.Tokens.{Token, same_kind, kind_of, text_of, span_of, place_of}
use Rattle.nr_spec_rules.specs.Parsing.{Outcome, Parser, and_then, ◌>>=◌, ◌<$>◌, pure, refuse, sees, expect, found, valued, others, prepend, following, list, chain, until}
use Rattle.nr_rule_syntax.specs.Written.{is_name_word}

-- a token of a text: where it is a name, its bytes are those of a name
abbrev pub IsProper : Token → Type 0
IsProper t = t.kind ≡ k.Name → is_name_word t.text ≡ true

abbrev pub AreProper : List Token → Type 0
AreProper [] = Unit {0}
AreProper (t ∷ ts) = IsProper t × AreProper ts

-- the tokens in front of a list give such a value, and the tokens left are proper too
pub record Yields {A : Type 0} (Q : A → Type 0) (p : Parser A) : Type 0 where
  pub holds : (ts : List Token) (x : A) (rest : List Token) → AreProper ts → p ts ≡ Ok (x, rest) → Q x × AreProper rest

abbrev pub Anything : {A : Type 0} → A → Type 0
Anything x = Unit {0}

bind_of : {A B : Type 0} (r : Outcome A) (f : A → Parser B) (y : B × List Token) → and_then r f ≡ Ok y → (x : A × List Token) × (r ≡ Ok x) × (f x.0 x.1 ≡ Ok y)
bind_of (Ok x) f y e = (x, refl, e)
bind_of (Err p) f y e = absurd cc

ok_is : {A : Type 0} (x y : A × List Token) → (let o : Outcome A = Ok x in o) ≡ Ok y → x ≡ y
ok_is x y e = cc

pub rest_proper : (ts : List Token) → AreProper ts → AreProper (drop 1 ts)
rest_proper [] h = tt
rest_proper (t ∷ ts) h = h.1

pub yields_then : {A B : Type 0} {P : A → Type 0} {Q : B → Type 0} {p : Parser A} {f : A → Parser B} → Yields P p → ((x : A) → P x → Yields Q (f x)) → Yields Q (p >>= f)
yields_then {p = p} {f = f} yp yf = record {
  holds = λ ts y rest proper e.
      let first = bind_of (p ts) f (y, rest) e in
      let known = yp.holds ts first.0.0 first.0.1 proper first.1 in
      (yf first.0.0 known.0).holds first.0.1 y rest known.1 first.2;
}

pub yields_pure : {A : Type 0} {Q : A → Type 0} {x : A} → Q x → Yields Q (pure x)
yields_pure {Q = Q} {x = x} q = record {
  holds = λ ts y rest proper e. let same = ok_is (x, ts) (y, rest) e in subst (λ (z : _ × List Token). Q z.0 × AreProper z.1) same (q, proper);
}

pub yields_map : {A B : Type 0} {P : A → Type 0} {Q : B → Type 0} {p : Parser A} (f : A → B) → Yields P p → ((x : A) → P x → Q (f x)) → Yields Q (f <$> p)
yields_map f yp h = yields_then yp (λ x px. yields_pure (h x px))

pub yields_refuse : {A : Type 0} {Q : A → Type 0} → Yields Q refuse
yields_refuse = record { holds = λ ts y rest proper e. absurd cc }

-- behind a token that is passed
pub yields_behind : {A : Type 0} {Q : A → Type 0} (p : Parser A) → Yields Q p → Yields Q (λ ts. p (drop 1 ts))
yields_behind p y = record { holds = λ ts x rest proper e. y.holds (drop 1 ts) x rest (rest_proper ts proper) e }

-- what a test guards
guarded : {A : Type 0} (test : Bool) (x y : A × List Token) (place : ℕ) → cond test (Ok x) (Err place) ≡ Ok y → (test ≡ true) × (x ≡ y)
guarded true x y place e = (refl, ok_is x y e)
guarded false x y place e = absurd cc

pub yields_expect : (kind : Kind) → Yields Anything (expect kind)
unfolding expect
yields_expect kind = record {
  holds = λ ts y rest proper e.
      let same = guarded (sees kind ts) (span_of ts, drop 1 ts) (y, rest) (place_of ts) e in
      subst (λ (z : Span × List Token). Unit {0} × AreProper z.1) same.1 (tt, rest_proper ts proper);
}

pub yields_weaken : {A : Type 0} {P Q : A → Type 0} {p : Parser A} → Yields P p → ((x : A) → P x → Q x) → Yields Q p
yields_weaken y h = record { holds = λ ts x rest proper e. let known = y.holds ts x rest proper e in (h x known.0, known.1) }

-- both ways of a test
pub yields_if : {A : Type 0} {Q : A → Type 0} {p q : Parser A} (test : List Token → Bool) → Yields Q p → Yields Q q → Yields Q (λ ts. cond (test ts) (p ts) (q ts))
yields_if {Q = Q} {p = p} {q = q} test yp yq = record { holds = λ ts x rest proper e. by_test ts x rest (test ts) proper e }
  where
    by_test : (ts : List Token) (x : _) (rest : List Token) (b : Bool) → AreProper ts → cond b (p ts) (q ts) ≡ Ok (x, rest) → Q x × AreProper rest
    by_test ts x rest true proper e = yp.holds ts x rest proper e
    by_test ts x rest false proper e = yq.holds ts x rest proper e

-- ---- tokens with a value

same_kinds : (a b : Kind) → same_kind a b ≡ true → a ≡ b
unfolding same_kind
same_kinds a b e = same_true the_type (search rules) a b e

some : {A : Type 0} → A → Option A
some x = Some x

found_of : {A : Type 0} (o : Option A) (ts : List Token) (y : (A × Span) × List Token) → found o ts ≡ Ok y → (o ≡ some y.0.0) × (y.1 ≡ drop 1 ts)
unfolding some
found_of None ts y e = absurd cc
found_of {A} (Some a) ts y e = let same = ok_is ((a, span_of ts), drop 1 ts) y e in subst (λ (z : (A × Span) × List Token). (some a ≡ some z.0.0) × (z.1 ≡ drop 1 ts)) same (refl, refl)

choice : {X : Type 0} (test : Bool) (a : Outcome X) (y : X × List Token) (place : ℕ) → cond test a (Err place) ≡ Ok y → (test ≡ true) × (a ≡ Ok y)
choice true a y place e = (refl, e)
choice false a y place e = absurd cc

-- a token of this kind, with what its text stands for
pub yields_valued : {A : Type 0} {Q : A → Type 0} (kind : Kind) (value : List ℕ → Option A)
    → ((text : List ℕ) (a : A) → value text ≡ Some a → Q a) → Yields (λ (x : A × Span). Q x.0) (valued kind value)
unfolding valued some
yields_valued {A = A} {Q = Q} kind value h = record {
  holds = λ ts y rest proper e.
      let seen = choice (sees kind ts) (found (value (text_of ts)) ts) (y, rest) (place_of ts) e in
      let got = found_of (value (text_of ts)) ts (y, rest) seen.1 in
      (h (text_of ts) y.0 got.0, subst AreProper (sym got.1) (rest_proper ts proper));
}

-- the text of a name
first_proper : (ts : List Token) → AreProper ts → kind_of ts ≡ k.Name → is_name_word (text_of ts) ≡ true
first_proper [] proper e = absurd cc
first_proper (t ∷ ts) proper e = proper.0 e

pub yields_word : Yields (λ (x : List ℕ × Span). is_name_word x.0 ≡ true) (valued k.Name (λ text. Some text))
unfolding valued some
yields_word = record {
  holds = λ ts y rest proper e.
      let seen = choice (sees k.Name ts) (found (some (text_of ts)) ts) (y, rest) (place_of ts) e in
      let got = found_of (some (text_of ts)) ts (y, rest) seen.1 in
      let is : text_of ts ≡ y.0 = cc (got.0) in
      let named = first_proper ts proper (same_kinds (kind_of ts) k.Name seen.0) in
      (subst (λ (w : List ℕ). is_name_word w ≡ true) is named, subst AreProper (sym got.1) (rest_proper ts proper));
}

-- ---- chains

others_more : {A : Type 0} {Q : A → Type 0} {item : Parser A} (between : Kind) (n : ℕ) → Yields Q item → Yields (AllOf Q) (others between item n) → (b : Bool) (ts : List Token) (x : List A) (rest : List Token)
    → AreProper ts → cond b ((item >>= (λ first. others between item n >>= (λ more. pure (first ∷ more)))) (drop 1 ts)) (Ok ([], ts)) ≡ Ok (x, rest) → AllOf Q x × AreProper rest
others_more between n y all true ts x rest proper e =
    (yields_then y (λ first q. yields_then all (λ more qs. yields_pure {Q = AllOf _} (q, qs)))).holds (drop 1 ts) x rest (rest_proper ts proper) e
others_more {Q = Q} between n y all false ts x rest proper e = (yields_pure {Q = AllOf Q} tt).holds ts x rest proper e

pub yields_others : {A : Type 0} {Q : A → Type 0} {item : Parser A} (between : Kind) → Yields Q item → (n : ℕ) → Yields (AllOf Q) (others between item n)
unfolding others
yields_others between y zero = yields_pure tt
yields_others between y (suc n) = record { holds = λ ts x rest proper e. others_more between n y (yields_others between y n) (sees between ts) ts x rest proper e }

-- ---- more than one

-- one or more, with a token between
pub yields_following : {A : Type 0} {Q : A → Type 0} {item : Parser A} (first : A) (between : Kind) → Q first → Yields Q item
    → Yields (λ (xs : List A). (1 ≤ length xs) × AllOf Q xs) (following first between item)
unfolding following
yields_following {A = A} {Q = Q} {item = item} first between q y = record {
  holds = λ ts x rest proper e.
      (yields_then (yields_others between y (length ts)) (λ more all. yields_pure {Q = λ (xs : List A). (1 ≤ length xs) × AllOf Q xs} (omega arith, (q, all)))).holds ts x rest proper e;
}

pub yields_list : {A : Type 0} {Q : A → Type 0} {item : Parser A} (between : Kind) → Yields Q item → Yields (λ (xs : List A). (1 ≤ length xs) × AllOf Q xs) (list between item)
unfolding list
yields_list between y = yields_then y (λ first q. yields_following first between q y)

-- one more, where its token comes next
two_at : {A : Type 0} {Q : A → Type 0} {item : Parser A} (first : A) (between : Kind) → Q first → Yields Q item → (n : ℕ) (b : Bool) → b ≡ true → (ts : List Token) (xs : List A) (rest : List Token)
    → AreProper ts → prepend (first ∷ []) (cond b ((item >>= (λ x. others between item n >>= (λ more. pure (x ∷ more)))) (drop 1 ts)) (Ok ([], ts))) ≡ Ok (xs, rest)
    → ((2 ≤ length xs) × AllOf Q xs) × AreProper rest
two_at first between q y n false is ts xs rest proper e = absurd cc
two_at {A = A} {Q = Q} {item = item} first between q y n true is ts xs rest proper e =
    outer.holds (drop 1 ts) xs rest (rest_proper ts proper) e
  where
    inner : Yields (λ (zs : List A). (1 ≤ length zs) × AllOf Q zs) (item >>= (λ x. others between item n >>= (λ more. pure (x ∷ more))))
    inner = yields_then y (λ x qx. yields_then (yields_others between y n) (λ more all. yields_pure (omega arith, (qx, all))))

    outer : Yields (λ (zs : List A). (2 ≤ length zs) × AllOf Q zs) ((item >>= (λ x. others between item n >>= (λ more. pure (x ∷ more)))) >>= (λ more. pure (first ∷ more)))
    outer = yields_then inner (λ more all. yields_pure (omega (arith, all.0), (q, all.1)))

yields_two : {A : Type 0} {Q : A → Type 0} {item : Parser A} (first : A) (between : Kind) → same_kind k.End between ≡ false → Q first → Yields Q item
    → (ts : List Token) (xs : List A) (rest : List Token)
    → AreProper ts → sees between ts ≡ true → following first between item ts ≡ Ok (xs, rest) → ((2 ≤ length xs) × AllOf Q xs) × AreProper rest
unfolding following others
yields_two first between last q y [] xs rest proper s e = absurd (cc (last, s))
yields_two {A = A} {Q = Q} {item = item} first between last q y (t ∷ ts) xs rest proper s e =
    two_at first between q y (length ts) (sees between (t ∷ ts)) s (t ∷ ts) xs rest proper e

-- a chain: one item, or two and more
pub yields_chain : {A : Type 0} {Q R : A → Type 0} {make : List A → A} {item : Parser A} (between : Kind) → same_kind k.End between ≡ false → Yields Q item → ((x : A) → Q x → R x)
    → ((xs : List A) → 2 ≤ length xs → AllOf Q xs → R (make xs)) → Yields R (chain between make item)
unfolding chain
yields_chain {A = A} {Q = Q} {R = R} {make = make} {item = item} between last y one many = yields_then y behind_first
  where
    by_test : (first : A) → Q first → (b : Bool) (ts : List Token) → sees between ts ≡ b → (x : A) (rest : List Token) → AreProper ts
        → cond b ((make <$> following first between item) ts) (Ok (first, ts)) ≡ Ok (x, rest) → R x × AreProper rest
    by_test first q true ts s x rest proper e =
        let found = bind_of (following first between item ts) (λ xs. pure (make xs)) (x, rest) e in
        let known = yields_two first between last q y ts found.0.0 found.0.1 proper s found.1 in
        let same = ok_is (make found.0.0, found.0.1) (x, rest) found.2 in
        subst (λ (z : A × List Token). R z.0 × AreProper z.1) same (many found.0.0 known.0.0 known.0.1, known.1)
    by_test first q false ts s x rest proper e = (yields_pure {Q = R} (one first q)).holds ts x rest proper e

    behind_first : (first : A) → Q first → Yields R (λ ts. cond (sees between ts) ((make <$> following first between item) ts) (Ok (first, ts)))
    behind_first first q = record { holds = λ ts x rest proper e. by_test first q (sees between ts) ts refl x rest proper e }

pub yields_until : {A : Type 0} {Q : A → Type 0} {item : Parser A} (last : Kind) → Yields Q item → (n : ℕ) → Yields (AllOf Q) (until last item n)
unfolding until
yields_until last y zero = yields_pure tt
yields_until {A = A} {Q = Q} {item = item} last y (suc n) =
    yields_if (sees last) (yields_pure {Q = AllOf Q} tt) (yields_then y (λ first q. yields_then (yields_until last y n) (λ more all. yields_pure (q, all))))
