-- What differs, declaration by declaration.
use Rattle.std.proofs.Common.{◌≡◌, ℕ, zero, suc, ◌+◌, ◌<◌, ◌≤◌, Bool, true, false, ◌&&◌, ◌||◌, ◌==◌, not, cond, List, [], ◌∷◌, ◌++◌, map, length, slice_get, nat_lt, nat_le, is_none, is_some, count_by, Option, Some, None, Result, Ok, ◌⊎◌, inl, inr, refl, ap, sym, subst, ◌∙◌, arith, append_assoc, append-nil}
use Rattle.std.proofs.lemmas.List.{map-append}
use Rattle.std.proofs.lemmas.Grind.{flat_map-append}
use Rattle.std.proofs.lemmas.List.Folds.{list_any-append}
use Rattle.std.specs.List.{All, list_any, flat_map}
use Rattle.std.specs.Str.{bytes_eq}
use Rattle.std.specs.Bool.{Decides}
use Rattle.std.proofs.lemmas.Slice.Eq.{bytes_eq-Decides}
use Rattle.std.proofs.lemmas.Bool.Decides.{nat_tests, Decides-eqb}
use Rattle.nr_chain.specs.declared.digest.Digest.{Digest}
use Rattle.nr_spec_rules.specs.declared.span.Span.{Span}
use Rattle.nr_spec_bgp.specs.Prefixes.{Cidr}
use Rattle.nr_prefix.specs.declared.set.Pattern.{Pattern}
use Rattle.nr_spec_wire.specs.Reading.{◌>>=◌, wants}
use Rattle.nr_rule_syntax.specs.declared.tree.Name.{Name}
use Rattle.nr_rule_syntax.specs.declared.tree.Num.{Num}
use Rattle.nr_rule_syntax.specs.declared.tree.RootText.{RootText}
use Rattle.nr_rule_syntax.specs.declared.tree.PatternText.{PatternText}
use Rattle.nr_rule_syntax.specs.declared.tree.PrefixText.{PrefixText}
use Rattle.nr_rule_syntax.specs.declared.tree.Form.{Form}
use Rattle.nr_rule_syntax.specs.declared.tree.File.{File}
use Rattle.nr_rule_syntax.specs.declared.tree.Decl.{Decl}
use Rattle.nr_rule_syntax.specs.declared.tree.Decl.TheVariants as decls
use Rattle.nr_spec_typing.specs.declared.name.Named.{Named}
use Rattle.nr_spec_typing.specs.declared.name.Named.TheVariants as named
use Rattle.nr_spec_typing.specs.declared.name.Declared.{Declared}
use Rattle.nr_spec_typing.specs.declared.text.Neighbour.{Neighbour}
use Rattle.nr_spec_typing.specs.declared.text.Promise.{Promise}
use Rattle.nr_spec_typing.specs.declared.tree.Typing.{Typing}
use Rattle.nr_spec_typing.specs.Steps.{◌<$>◌, all_of, in_turn}
use Rattle.nr_spec_typing.specs.Scopes.{Scope, meaning}
use Rattle.nr_spec_typing.specs.Forms.{typed}
use Rattle.nr_spec_typing.specs.Declarations.{TypedText, Known, nothing, is_group, is_define, is_new, declare, most_seconds, at_most, network, commit, same_number, is_like, is_neighbour_name, key_of, neighbour, members, group, pattern, define, places, promise, declaration, declarations, whole_by, whole, typed_text}
use Rattle.nr_spec_typing.proofs.Fitting.{mapped, chained, passed, both, left, right}
use Rattle.nr_spec_typing.specs.Apart.{NoTwo, name_in, names_in, SameWord, SameAddress, SameNumber, SameName, SamePromise}

ok_same : {A : Type 0} (x y : A) → wants true 0 x ≡ Ok y → x ≡ y
ok_same x y h = cc

-- ---- no two alike

pub got : {A : Type 0} (xs : List A) (x : A) (i : ℕ) (y : A) → slice_get (xs ++ x ∷ []) i ≡ Some y → (slice_get xs i ≡ Some y) ⊎ ((i ≡ length xs) × (x ≡ y))
got [] x zero y h = inr (refl, cc)
got [] x (suc i) y h = cc
got (z ∷ xs) x zero y h = inl h
got (z ∷ xs) x (suc i) y h = elim (got xs x i y h) [ inl g ↦ inl g | inr g ↦ inr (ap (λ n. suc n) g.0, g.1) ]

-- nothing among them is alike with what comes next
abbrev pub NoneLike : {A : Type 0} → (A → A → Type 0) → List A → A → Type 0
NoneLike {A} Alike xs x = (i : ℕ) (y : A) → slice_get xs i ≡ Some y → Alike y x → ⊥

two_cases : {A : Type 0} (Alike : A → A → Type 0) (turn : (x y : A) → Alike x y → Alike y x) (xs : List A) (x : A) → NoTwo Alike xs → NoneLike Alike xs x
    → (i j : ℕ) (a b : A) → Alike a b → (slice_get xs i ≡ Some a) ⊎ ((i ≡ length xs) × (x ≡ a)) → (slice_get xs j ≡ Some b) ⊎ ((j ≡ length xs) × (x ≡ b)) → i ≡ j
two_cases Alike turn xs x fine none i j a b alike (inl p) (inl q) = fine i j a b p q alike
two_cases Alike turn xs x fine none i j a b alike (inl p) (inr q) = absurd (none i a p (subst (λ y. Alike a y) (sym q.1) alike))
two_cases Alike turn xs x fine none i j a b alike (inr p) (inl q) = absurd (none j b q (subst (λ y. Alike b y) (sym p.1) (turn a b alike)))
two_cases Alike turn xs x fine none i j a b alike (inr p) (inr q) = p.0 ∙ sym q.0

pub no_two_more : {A : Type 0} (Alike : A → A → Type 0) (turn : (x y : A) → Alike x y → Alike y x) (xs : List A) (x : A) → NoTwo Alike xs → NoneLike Alike xs x → NoTwo Alike (xs ++ x ∷ [])
no_two_more Alike turn xs x fine none i j a b g h alike = two_cases Alike turn xs x fine none i j a b alike (got xs x i a g) (got xs x j b h)

or_first : (a b : Bool) → a || b ≡ false → a ≡ true → ⊥
or_first true b e f = cc
or_first false b e f = cc

or_second : (a b : Bool) → a || b ≡ false → b ≡ false
or_second true b e = cc
or_second false b e = e

pub none_like : {A : Type 0} (p : A → Bool) (xs : List A) (i : ℕ) (y : A) → list_any p xs ≡ false → slice_get xs i ≡ Some y → p y ≡ true → ⊥
none_like p [] i y n g h = cc
none_like p (x ∷ xs) zero y n g h = let e : x ≡ y = cc in or_first (p x) (list_any p xs) n (subst (λ z. p z ≡ true) (sym e) h)
none_like p (x ∷ xs) (suc i) y n g h = none_like p xs i y (or_second (p x) (list_any p xs) n) g h

not_true : (a : Bool) → not a ≡ true → a ≡ false
not_true true h = cc
not_true false h = refl

same_bytes : (xs ys : List ℕ) → xs ≡ ys → bytes_eq xs ys ≡ true
same_bytes xs ys = (bytes_eq-Decides xs ys).1

-- ---- names

-- a name that is new is none of those that were declared
abbrev word_of : Declared → List ℕ
word_of d = d.word

new_by : (same : Bool) (d : Named) (more : Option Named) → is_none (cond same (Some d) more) ≡ true → (same ≡ false) × (is_none more ≡ true)
new_by true d more h = cc
new_by false d more h = (refl, h)

is_not_among : (names : List Declared) (word : List ℕ) → is_none (meaning names word) ≡ true → list_any (λ d. bytes_eq d.word word) names ≡ false
is_not_among [] word h = refl
is_not_among (d ∷ names) word h =
    let p = new_by (bytes_eq d.word word) d.means (meaning names word) h in
    ap (λ b. b || list_any (λ d. bytes_eq d.word word) names) p.0 ∙ is_not_among names word p.1

-- ---- what is kept from declaration to declaration

-- each of these has the word of some name
abbrev pub AreAmong : {A : Type 0} → (A → List ℕ) → List A → List Declared → Type 0
AreAmong {A} word xs names = (i : ℕ) (x : A) → slice_get xs i ≡ Some x → list_any (λ d. bytes_eq d.word (word x)) names ≡ true

pub record IsApart (before : List Decl) (k : Known) : Type 0 where
  pub words : map (λ (n : Name). n.word) (names_in before) ≡ map word_of k.names
  pub names : NoTwo (λ (a b : Declared). a.word ≡ b.word) k.names
  pub address : NoTwo SameAddress k.neighbours
  pub number : NoTwo SameNumber k.neighbours
  pub neighbour_names : NoTwo SameName k.neighbours
  pub neighbours_named : AreAmong (λ (n : Neighbour). n.name) k.neighbours k.names
  pub promise_names : NoTwo SamePromise k.promises
  pub promises_named : AreAmong (λ (p : Promise). p.name) k.promises k.names

pub kept : {A S : Type 0} (step : S → A → Result S ℕ) (I : List A → S → Type 0) → ((before : List A) (s : S) (x : A) (t : S) → I before s → step s x ≡ Ok t → I (before ++ x ∷ []) t)
    → (before xs : List A) (s t : S) → I before s → in_turn step s xs ≡ Ok t → I (before ++ xs) t
unfolding in_turn
kept step I keeps before [] s t i h = subst (λ l. I l t) (sym (append-nil before)) (subst (I before) (ok_same s t h) i)
kept step I keeps before (x ∷ xs) s t i h =
    let p = chained (λ next. in_turn step next xs) (step s x) t h in
    subst (λ l. I l t) (append_assoc before (x ∷ []) xs) (kept step I keeps (before ++ x ∷ []) xs p.0 t (keeps before s x p.0 i p.1) p.2)

among_more : (word : List ℕ) (names : List Declared) (d : Declared) → list_any (λ d. bytes_eq d.word word) names ≡ true → list_any (λ d. bytes_eq d.word word) (names ++ d ∷ []) ≡ true
among_more word names d h = list_any-append (λ d. bytes_eq d.word word) names (d ∷ []) ∙ ap (λ b. b || list_any (λ d. bytes_eq d.word word) (d ∷ [])) h

or_true : (a b : Bool) → b ≡ true → a || b ≡ true
or_true true b e = refl
or_true false b e = e

among_last : (word : List ℕ) (names : List Declared) (d : Declared) → d.word ≡ word → list_any (λ d. bytes_eq d.word word) (names ++ d ∷ []) ≡ true
among_last word names d e =
    list_any-append (λ d. bytes_eq d.word word) names (d ∷ [])
    ∙ or_true (list_any (λ d. bytes_eq d.word word) names) (bytes_eq d.word word || false) (ap (λ b. b || false) (same_bytes d.word word e))

-- the words of the declarations up to here
words_more : (before : List Decl) (d : Decl) (names : List Declared) → map (λ (n : Name). n.word) (names_in before) ≡ map word_of names → (more : List Declared)
    → map (λ (n : Name). n.word) (name_in d) ≡ map word_of more → map (λ (n : Name). n.word) (names_in (before ++ d ∷ [])) ≡ map word_of (names ++ more)
words_more before d names h more e =
    ap (λ l. map (λ (n : Name). n.word) l) (flat_map-append name_in before (d ∷ []))
    ∙ map-append (λ (n : Name). n.word) (names_in before) (name_in d ++ [])
    ∙ ap (λ l. map (λ (n : Name). n.word) (names_in before) ++ map (λ (n : Name). n.word) l) (append-nil (name_in d))
    ∙ ap (λ l. l ++ map (λ (n : Name). n.word) (name_in d)) h ∙ ap (λ l. map word_of names ++ l) e ∙ sym (map-append word_of names more)

turn_words : (a b : Declared) → a.word ≡ b.word → b.word ≡ a.word
turn_words a b e = sym e

-- a declaration of this name, and what it leaves as it was
named_apart : (before : List Decl) (d : Decl) (k : Known) (name : Name) (means : Named) → name_in d ≡ name ∷ [] → is_new k.names name ≡ true → IsApart before k
    → IsApart (before ++ d ∷ []) (record k { names = declare k.names name means })
named_apart before d k name means e fresh g = record {
  words = words_more before d k.names g.words (record { word = name.word; means = means } ∷ []) (ap (λ l. map (λ (n : Name). n.word) l) e);
  names = no_two_more (λ (a b : Declared). a.word ≡ b.word) turn_words k.names (record { word = name.word; means = means }) g.names
      (λ i y s f. none_like (λ (d : Declared). bytes_eq d.word name.word) k.names i y (is_not_among k.names name.word fresh) s (same_bytes y.word name.word f));
  address = g.address;
  number = g.number;
  neighbour_names = g.neighbour_names;
  neighbours_named = λ i x s. among_more x.name k.names (record { word = name.word; means = means }) (g.neighbours_named i x s);
  promise_names = g.promise_names;
  promises_named = λ i x s. among_more x.name k.names (record { word = name.word; means = means }) (g.promises_named i x s);
}

-- a declaration without a name
nameless_apart : (before : List Decl) (d : Decl) (k next : Known) → name_in d ≡ [] → next.names ≡ k.names → next.neighbours ≡ k.neighbours → next.promises ≡ k.promises
    → IsApart before k → IsApart (before ++ d ∷ []) next
nameless_apart before d k next e n m p g = record {
  words = words_more before d k.names g.words [] (ap (λ l. map (λ (n : Name). n.word) l) e) ∙ ap (λ l. map word_of l) (append-nil k.names ∙ sym n);
  names = subst (λ l. NoTwo (λ (a b : Declared). a.word ≡ b.word) l) (sym n) g.names;
  address = subst (λ l. NoTwo SameAddress l) (sym m) g.address;
  number = subst (λ l. NoTwo SameNumber l) (sym m) g.number;
  neighbour_names = subst (λ l. NoTwo SameName l) (sym m) g.neighbour_names;
  neighbours_named = subst (λ l. AreAmong (λ (n : Neighbour). n.name) l next.names) (sym m) (subst (λ l. AreAmong (λ (n : Neighbour). n.name) k.neighbours l) (sym n) g.neighbours_named);
  promise_names = subst (λ l. NoTwo SamePromise l) (sym p) g.promise_names;
  promises_named = subst (λ l. AreAmong (λ (n : Promise). n.name) l next.names) (sym p) (subst (λ l. AreAmong (λ (n : Promise). n.name) k.promises l) (sym n) g.promises_named);
}

network_apart : (before : List Decl) (k next : Known) (value : Num) (span : Span) → IsApart before k → network k value span ≡ Ok next → IsApart (before ++ decls.Network value span ∷ []) next
unfolding network
network_apart before k next value span g h =
    let made : Known = record k { network = Some value.value } in
    let p = passed (is_none k.network) span.from made next h in
    subst (IsApart (before ++ decls.Network value span ∷ [])) p.1 (nameless_apart before (decls.Network value span) k made refl refl refl refl g)

commit_apart : (before : List Decl) (k next : Known) (value : Num) (span : Span) → IsApart before k → commit k value span ≡ Ok next → IsApart (before ++ decls.Commit value span ∷ []) next
unfolding commit
commit_apart before k next value span g h =
    let p = chained (λ first. at_most most_seconds first >>= (λ seconds. Ok (record k { commit = Some seconds }))) (wants (is_none k.commit) span.from value) next h in
    let q = chained (λ seconds. Ok (record k { commit = Some seconds })) (at_most most_seconds p.0) next p.2 in
    let made : Known = record k { commit = Some q.0 } in
    subst (IsApart (before ++ decls.Commit value span ∷ [])) (ok_same made next q.2) (nameless_apart before (decls.Commit value span) k made refl refl refl refl g)

group_apart : (before : List Decl) (k next : Known) (name : Name) (texts : List Name) → IsApart before k → group k name texts ≡ Ok next → IsApart (before ++ decls.Group name texts ∷ []) next
unfolding group
group_apart before k next name texts g h =
    let make : Name → List ℕ → Known = λ called numbers. record k { names = declare k.names called (named.Group numbers) } in
    let p = chained (λ called. members k.names texts >>= (λ numbers. Ok (make called numbers))) (wants (is_new k.names name && nat_lt (count_by is_group k.names) 64) name.span.from name) next h in
    let q = chained (λ numbers. Ok (make p.0 numbers)) (members k.names texts) next p.2 in
    let test = passed (is_new k.names name && nat_lt (count_by is_group k.names) 64) name.span.from name p.0 p.1 in
    subst (IsApart (before ++ decls.Group name texts ∷ [])) (ap (λ n. make n q.0) test.1 ∙ ok_same (make p.0 q.0) next q.2)
    (named_apart before (decls.Group name texts) k name (named.Group q.0) refl (left (is_new k.names name) (nat_lt (count_by is_group k.names) 64) test.0) g)

define_apart : (before : List Decl) (k next : Known) (name : Name) (texts : List PatternText) → IsApart before k → define k name texts ≡ Ok next → IsApart (before ++ decls.Define name texts ∷ []) next
unfolding define
define_apart before k next name texts g h =
    let make : Name → List Pattern → Known = λ called set. record k { names = declare k.names called (named.Define set) } in
    let p = chained (λ called. all_of pattern texts >>= (λ set. Ok (make called set))) (wants (is_new k.names name && nat_lt (count_by is_define k.names) 64) name.span.from name) next h in
    let q = chained (λ set. Ok (make p.0 set)) (all_of pattern texts) next p.2 in
    let test = passed (is_new k.names name && nat_lt (count_by is_define k.names) 64) name.span.from name p.0 p.1 in
    subst (IsApart (before ++ decls.Define name texts ∷ [])) (ap (λ n. make n q.0) test.1 ∙ ok_same (make p.0 q.0) next q.2)
    (named_apart before (decls.Define name texts) k name (named.Define q.0) refl (left (is_new k.names name) (nat_lt (count_by is_define k.names) 64) test.0) g)

-- a name that is new is that of no neighbour and of no promise before
no_such : {A : Type 0} (word : A → List ℕ) (xs : List A) (names : List Declared) (new : List ℕ) → AreAmong word xs names → is_none (meaning names new) ≡ true
    → (i : ℕ) (y : A) → slice_get xs i ≡ Some y → word y ≡ new → ⊥
no_such word xs names new among fresh i y s e =
    let a = is_not_among names new fresh in
    let b = subst (λ w. list_any (λ d. bytes_eq d.word w) names ≡ true) e (among i y s) in
    cc

promise_apart : (before : List Decl) (k next : Known) (name : Name) (grace : Num) (at : List PrefixText) (form : Form) → IsApart before k → promise k name grace at form ≡ Ok next
    → IsApart (before ++ decls.Promise name grace at form ∷ []) next
unfolding promise
promise_apart before k next name grace at form g h =
    let scope : Name → Scope = λ called. record { names = declare k.names called named.Promise; variables = [] } in
    let make : Name → ℕ → List Cidr → Typing → Known = λ called seconds prefixes held. record k {
      names = declare k.names called named.Promise;
      promises = k.promises ++ record { name = called.word; grace = seconds; at = prefixes; form = held } ∷ [];
    } in
    let p = chained (λ called. at_most most_seconds grace >>= (λ seconds. places at >>= (λ prefixes. typed form (scope called) >>= (λ held. Ok (make called seconds prefixes held)))))
    (wants (is_new k.names name && nat_lt (length k.promises) 256) name.span.from name) next h in
    let q = chained (λ seconds. places at >>= (λ prefixes. typed form (scope p.0) >>= (λ held. Ok (make p.0 seconds prefixes held)))) (at_most most_seconds grace) next p.2 in
    let r = chained (λ prefixes. typed form (scope p.0) >>= (λ held. Ok (make p.0 q.0 prefixes held))) (places at) next q.2 in
    let u = chained (λ held. Ok (make p.0 q.0 r.0 held)) (typed form (scope p.0)) next r.2 in
    let test = passed (is_new k.names name && nat_lt (length k.promises) 256) name.span.from name p.0 p.1 in
    let fresh = left (is_new k.names name) (nat_lt (length k.promises) 256) test.0 in
    let x : Promise = record { name = name.word; grace = q.0; at = r.0; form = u.0 } in
    let d : Declared = record { word = name.word; means = named.Promise } in
    let i = named_apart before (decls.Promise name grace at form) k name named.Promise refl fresh g in
    subst (IsApart (before ++ decls.Promise name grace at form ∷ [])) (ap (λ n. make n q.0 r.0 u.0) test.1 ∙ ok_same (make p.0 q.0 r.0 u.0) next u.2) (record {
      words = i.words;
      names = i.names;
      address = g.address;
      number = g.number;
      neighbour_names = g.neighbour_names;
      neighbours_named = i.neighbours_named;
      promise_names = no_two_more SamePromise (λ a b e. sym e) k.promises x g.promise_names
          (no_such (λ (p : Promise). p.name) k.promises k.names name.word g.promises_named fresh);
      promises_named = λ j y s. elim (got k.promises x j y s) [ inl s ↦ i.promises_named j y s | inr s ↦ among_last y.name k.names d (ap (λ (p : Promise). p.name) s.1) ];
    })

-- ---- neighbours

number_or : Option (Digest × ℕ) → ℕ
number_or None = 0
number_or (Some k) = k.1

second : (r s : Digest) (n m : ℕ) (one other : Option (Digest × ℕ)) → one ≡ Some (r, n) → other ≡ Some (s, m) → one ≡ other → n ≡ m
unfolding number_or
second r s n m one other e f g = ap number_or (sym e ∙ g ∙ f)

eq_true : (n m : ℕ) → n ≡ m → (n == m) ≡ true
eq_true n m = (Decides-eqb n m).1

like_address : (asn addr : Num) (signs : Option (RootText × Num)) (n : Neighbour) → n.asn ≡ asn.value → n.addr ≡ addr.value → is_like asn addr signs n ≡ true
like_address asn addr signs n e f =
    ap (λ b. b && (n.addr == addr.value || same_number n.key signs)) (eq_true n.asn asn.value e) ∙ ap (λ b. b || same_number n.key signs) (eq_true n.addr addr.value f)

like_number : (asn addr : Num) (signs : Option (RootText × Num)) (n : Neighbour) → n.asn ≡ asn.value → same_number n.key signs ≡ true → is_like asn addr signs n ≡ true
like_number asn addr signs n e f =
    ap (λ b. b && (n.addr == addr.value || same_number n.key signs)) (eq_true n.asn asn.value e) ∙ or_true (n.addr == addr.value) (same_number n.key signs) f

-- the number of a key is that of its text
number_text : (signs : Option (RootText × Num)) (key : Option (Digest × ℕ)) (held : Option (Digest × ℕ)) (n : ℕ) (r s : Digest) → key_of signs ≡ Ok key → held ≡ Some (r, n) → key ≡ Some (s, n)
    → same_number held signs ≡ true
number_text None key held n r s h e f = let none : Option (Digest × ℕ) = None in let g : none ≡ key = ok_same none key h in let k : none ≡ Some (s, n) = g ∙ f in cc
number_text (Some sign) key held n r s h e f =
    let make : ℕ → Option (Digest × ℕ) = λ n. Some (sign.0.digest, n) in
    let p = mapped make (at_most 255 sign.1) key h in
    let q = passed (nat_le sign.1.value 255) sign.1.span.from sign.1.value p.0 p.1 in
    let m : p.0 ≡ n = second sign.0.digest s p.0 n (make p.0) (make p.0) refl (p.2 ∙ f) refl in
    subst (λ (o : Option (Digest × ℕ)). same_number o (Some sign) ≡ true) (sym e) (eq_true n sign.1.value (sym m ∙ sym q.1))

neighbour_apart : (before : List Decl) (k next : Known) (name : Name) (asn addr : Num) (signs : Option (RootText × Num)) → IsApart before k → neighbour k name asn addr signs ≡ Ok next
    → IsApart (before ++ decls.Neighbour name asn addr signs ∷ []) next
unfolding neighbour
neighbour_apart before k next name asn addr signs g h =
    let make : Name → Option (Digest × ℕ) → Known = λ called key. record k {
      names = declare k.names called (named.Neighbour (length k.neighbours));
      neighbours = k.neighbours ++ record { name = called.word; asn = asn.value; addr = addr.value; key = key } ∷ [];
    } in
    let p = chained (λ called. key_of signs >>= (λ key. Ok (make called key))) (wants (is_neighbour_name k name asn addr signs) name.span.from name) next h in
    let q = chained (λ key. Ok (make p.0 key)) (key_of signs) next p.2 in
    let test = passed (is_neighbour_name k name asn addr signs) name.span.from name p.0 p.1 in
    let fresh = left (is_new k.names name) (nat_lt (length k.neighbours) 256) (left (is_new k.names name && nat_lt (length k.neighbours) 256) (not (list_any (is_like asn addr signs) k.neighbours)) test.0) in
    let unlike = not_true (list_any (is_like asn addr signs) k.neighbours) (right (is_new k.names name && nat_lt (length k.neighbours) 256) (not (list_any (is_like asn addr signs) k.neighbours)) test.0) in
    let x : Neighbour = record { name = name.word; asn = asn.value; addr = addr.value; key = q.0 } in
    let d : Declared = record { word = name.word; means = named.Neighbour (length k.neighbours) } in
    let i = named_apart before (decls.Neighbour name asn addr signs) k name (named.Neighbour (length k.neighbours)) refl fresh g in
    subst (IsApart (before ++ decls.Neighbour name asn addr signs ∷ [])) (ap (λ n. make n q.0) test.1 ∙ ok_same (make p.0 q.0) next q.2) (record {
      words = i.words;
      names = i.names;
      address = no_two_more SameAddress (λ a b e. (sym e.0, sym e.1)) k.neighbours x g.address
          (λ j y s e. none_like (is_like asn addr signs) k.neighbours j y unlike s (like_address asn addr signs y e.0 e.1));
      number = no_two_more SameNumber (λ a b e. (sym e.0, (e.1.0, e.1.2, e.1.1, e.1.4, e.1.3))) k.neighbours x g.number
          (λ j y s e. none_like (is_like asn addr signs) k.neighbours j y unlike s (like_number asn addr signs y e.0 (number_text signs q.0 y.key e.1.0 e.1.1 e.1.2 q.1 e.1.3 e.1.4)));
      neighbour_names = no_two_more SameName (λ a b e. sym e) k.neighbours x g.neighbour_names
          (no_such (λ (n : Neighbour). n.name) k.neighbours k.names name.word g.neighbours_named fresh);
      neighbours_named = λ j y s. elim (got k.neighbours x j y s) [ inl s ↦ i.neighbours_named j y s | inr s ↦ among_last y.name k.names d (ap (λ (n : Neighbour). n.name) s.1) ];
      promise_names = g.promise_names;
      promises_named = i.promises_named;
    })

declaration_apart : (before : List Decl) (k : Known) (d : Decl) (next : Known) → IsApart before k → declaration k d ≡ Ok next → IsApart (before ++ d ∷ []) next
declaration_apart before k (decls.Network value span) next g h = network_apart before k next value span g h
declaration_apart before k (decls.Commit value span) next g h = commit_apart before k next value span g h
declaration_apart before k (decls.Neighbour name asn addr key) next g h = neighbour_apart before k next name asn addr key g h
declaration_apart before k (decls.Group name texts) next g h = group_apart before k next name texts g h
declaration_apart before k (decls.Define name texts) next g h = define_apart before k next name texts g h
declaration_apart before k (decls.Promise name grace at form) next g h = promise_apart before k next name grace at form g h

empty : {A : Type 0} (Alike : A → A → Type 0) → NoTwo Alike []
empty Alike i j x y g h e = cc

nothing_apart : IsApart [] nothing
nothing_apart = record {
  words = refl;
  names = empty (λ (a b : Declared). a.word ≡ b.word);
  address = empty SameAddress;
  number = empty SameNumber;
  neighbour_names = empty SameName;
  neighbours_named = λ i x s. cc;
  promise_names = empty SamePromise;
  promises_named = λ i x s. cc;
}

known_apart : (decls : List Decl) (k : Known) → declarations decls ≡ Ok k → IsApart decls k
known_apart decls k h = kept declaration IsApart declaration_apart [] decls nothing k nothing_apart h

pub whole_lists : (end : ℕ) (k : Known) (network commit : Option ℕ) (t : TypedText) → whole_by end k network commit ≡ Ok t → (k.neighbours ≡ t.neighbours) × (k.promises ≡ t.promises)
whole_lists end k None None t h = cc
whole_lists end k None (Some m) t h = cc
whole_lists end k (Some n) None t h = cc
whole_lists end k (Some n) (Some m) t h =
    let made : TypedText = record { network = n; commit = m; neighbours = k.neighbours; promises = k.promises } in
    let e : made ≡ t = ok_same made t h in
    (ap (λ (t : TypedText). t.neighbours) e, ap (λ (t : TypedText). t.promises) e)

-- what is apart in a text
pub record AreApart (t : TypedText) : Type 0 where
  pub addresses : NoTwo SameAddress t.neighbours
  pub numbers : NoTwo SameNumber t.neighbours
  pub names : NoTwo SameName t.neighbours
  pub promise_names : NoTwo SamePromise t.promises

pub text_apart : (file : File) (t : TypedText) → typed_text file ≡ Ok t → AreApart t
unfolding typed_text
text_apart file t h =
    let p = chained (λ known. whole file.end known) (declarations file.decls) t h in
    let g = known_apart file.decls p.0 p.1 in
    let e = whole_lists file.end p.0 p.0.network p.0.commit t p.2 in
    record {
      addresses = subst (NoTwo SameAddress) e.0 g.address;
      numbers = subst (NoTwo SameNumber) e.0 g.number;
      names = subst (NoTwo SameName) e.0 g.neighbour_names;
      promise_names = subst (NoTwo SamePromise) e.1 g.promise_names;
    }

first_or : List ℕ → List (List ℕ) → List ℕ
first_or d [] = d
first_or d (x ∷ xs) = x

rest_of : List (List ℕ) → List (List ℕ)
rest_of [] = []
rest_of (x ∷ xs) = xs

-- places in two lists with the same words
same_words : (ns : List Name) (names : List Declared) → map (λ (n : Name). n.word) ns ≡ map word_of names → (i : ℕ) (n : Name) → slice_get ns i ≡ Some n
    → (d : Declared) × (slice_get names i ≡ Some d) × (d.word ≡ n.word)
unfolding first_or rest_of
same_words [] names e i n s = cc
same_words (m ∷ ns) [] e i n s = cc
same_words (m ∷ ns) (d ∷ names) e zero n s = let f : m ≡ n = cc in (d, refl, sym (ap (first_or m.word) e) ∙ ap (λ (n : Name). n.word) f)
same_words (m ∷ ns) (d ∷ names) e (suc i) n s = same_words ns names (ap (rest_of) e) i n s

pub names_differ : (file : File) (t : TypedText) → typed_text file ≡ Ok t → NoTwo SameWord (names_in file.decls)
unfolding typed_text
names_differ file t h i j x y s u e =
    let p = chained (λ known. whole file.end known) (declarations file.decls) t h in
    let g = known_apart file.decls p.0 p.1 in
    let a = same_words (names_in file.decls) p.0.names g.words i x s in
    let b = same_words (names_in file.decls) p.0.names g.words j y u in
    g.names i j a.0 b.0 a.1 b.1 (a.2 ∙ e ∙ sym b.2)
