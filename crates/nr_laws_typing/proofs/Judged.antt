-- The fault of a file is its first mistake.
use Rattle.std.proofs.Common.{◌≡◌, ℕ, ◌+◌, ◌<◌, ◌≤◌, cond, Bool, true, false, ◌&&◌, ◌||◌, ◌==◌, not, List, [], ◌∷◌, ◌++◌, map, length, slice_get, nat_lt, nat_le, is_none, is_some, count_by, Option, Some, None, Ok, refl, ap, sym, subst, ◌∙◌, ◌⊎◌, inl, inr, arith}
use Rattle.std.specs.List.{list_any, flat_map}
use Rattle.std.specs.Str.{bytes_eq}
use Rattle.std.proofs.lemmas.List.{length-append}
use Rattle.std.proofs.lemmas.List.Folds.{list_any-append}
use Rattle.std.proofs.lemmas.Bool.Decides.{Decides-eqb}
use Rattle.nr_chain.specs.declared.digest.Digest.{Digest}
use Rattle.nr_spec_rules.specs.declared.span.Span.{Span}
use Rattle.nr_spec_bgp.specs.Prefixes.{Cidr}
use Rattle.nr_prefix.specs.declared.set.Pattern.{Pattern}
use Rattle.nr_spec_wire.specs.Reading.{◌>>=◌, wants, fault}
use Rattle.nr_rule_syntax.specs.declared.tree.Name.{Name}
use Rattle.nr_rule_syntax.specs.declared.tree.Num.{Num}
use Rattle.nr_rule_syntax.specs.declared.tree.RootText.{RootText}
use Rattle.nr_rule_syntax.specs.declared.tree.PatternText.{PatternText}
use Rattle.nr_rule_syntax.specs.declared.tree.PrefixText.{PrefixText}
use Rattle.nr_rule_syntax.specs.declared.tree.Form.{Form}
use Rattle.nr_rule_syntax.specs.declared.tree.File.{File}
use Rattle.nr_rule_syntax.specs.declared.tree.Decl.{Decl}
use Rattle.nr_rule_syntax.specs.declared.tree.Decl.TheVariants as decls
use Rattle.nr_spec_typing.specs.declared.name.Named.{Named}
use Rattle.nr_spec_typing.specs.declared.name.Named.TheVariants as named
use Rattle.nr_spec_typing.specs.declared.name.Declared.{Declared}
use Rattle.nr_spec_typing.specs.declared.text.Neighbour.{Neighbour}
use Rattle.nr_spec_typing.specs.declared.text.Promise.{Promise}
use Rattle.nr_spec_typing.specs.declared.tree.Typing.{Typing}
use Rattle.nr_spec_typing.specs.Steps.{all_of, in_turn}
use Rattle.nr_spec_typing.specs.Scopes.{Scope, meaning}
use Rattle.nr_spec_typing.specs.Forms.{typed}
use Rattle.nr_spec_typing.specs.Declarations as text
use Rattle.nr_spec_typing.specs.Declarations.{TypedText, Known, nothing, declare, at_most, network, commit, is_like, is_neighbour_name, key_of, neighbour, member_by, member, add_member, members, group, most_of, pattern, define, places_by, places, promise, declaration, declarations, whole_by, whole, typed_text}
use Rattle.nr_spec_typing.proofs.Fitting.{mapped, chained, passed}
use Rattle.nr_spec_typing.specs.declared.name.Variable.{Variable}
use Rattle.nr_spec_typing.specs.declared.name.Bound.TheVariants.{Neighbour as ForNeighbour}
use Rattle.nr_laws_typing.specs.Uses as want
use Rattle.nr_laws_typing.specs.Uses.{Kind, Want, Use, ANeighbour, AGroup, ASet, APromise, is_neighbour, is_group, is_set, is_bound, is_wanted, demand_of, uses}
use Rattle.nr_laws_typing.specs.Fine.{is_network, is_commit, kind_of, declares, kind_in, is_new, is_a, has_room, same_number, is_alike, of_key, is_named, of_members, of_most, of_pattern, of_place, of_places, most_seconds, demands, all_demands, first_mistake}
use Rattle.nr_laws_typing.specs.Views.{kind_named, kind_by}
use Rattle.nr_laws_typing.specs.Demands.{Demand, unless, or_else, first_unmet}
use Rattle.nr_laws_typing.proofs.Used.{fault_map, fault_then, fault_wants, or_none, unmet_append, none_named, formula_told}
use Rattle.std.proofs.lemmas.List.Sums.{sum_by-append}
use Rattle.std.proofs.lemmas.Slice.Eq.{bytes_eq-Decides}
use Rattle.nr_spec_typing.proofs.Differ.{kept}

ok_same : {A : Type 0} (x y : A) → wants true 0 x ≡ Ok y → x ≡ y
ok_same x y h = cc

-- ---- what is known mirrors the declarations before

pub record Mirrors (before : List Decl) (k : Known) : Type 0 where
  pub network : is_some k.network ≡ list_any is_network before
  pub commit : is_some k.commit ≡ list_any is_commit before
  pub kinds : (word : List ℕ) → kind_by k.names word ≡ kind_in before word
  pub neighbours : length k.neighbours ≡ count_by (is_a ANeighbour) before
  pub groups : count_by text.is_group k.names ≡ count_by (is_a AGroup) before
  pub sets : count_by text.is_define k.names ≡ count_by (is_a ASet) before
  pub promises : length k.promises ≡ count_by (is_a APromise) before
  pub alike : (asn addr : Num) (key : Option (RootText × Num)) → list_any (is_like asn addr key) k.neighbours ≡ list_any (is_alike asn addr key) before
  -- a neighbour's number is below their count, and no two names have one
  pub below : (word : List ℕ) (n : ℕ) → meaning k.names word ≡ Some (named.Neighbour n) → n < length k.neighbours
  pub single : (one other : List ℕ) (n : ℕ) → meaning k.names one ≡ Some (named.Neighbour n) → meaning k.names other ≡ Some (named.Neighbour n) → bytes_eq one other ≡ true

pub nothing_mirrors : Mirrors [] nothing
nothing_mirrors = record {
  network = refl;
  commit = refl;
  kinds = λ word. refl;
  neighbours = refl;
  groups = refl;
  sets = refl;
  promises = refl;
  alike = λ asn addr key. refl;
  below = λ word n h. cc;
  single = λ one other n h i. cc;
}

-- ---- one declaration more

or_false : (b : Bool) → b || false ≡ b
or_false true = refl
or_false false = refl

any_more : {A : Type 0} (p : A → Bool) (xs : List A) (x : A) → list_any p (xs ++ x ∷ []) ≡ list_any p xs || p x
any_more p xs x = list_any-append p xs (x ∷ []) ∙ ap (λ b. list_any p xs || b) (or_false (p x))

any_not : {A : Type 0} (p : A → Bool) (xs : List A) (x : A) → p x ≡ false → list_any p (xs ++ x ∷ []) ≡ list_any p xs
any_not p xs x h = any_more p xs x ∙ ap (λ b. list_any p xs || b) h ∙ or_false (list_any p xs)

or_true : (a : Bool) → a || true ≡ true
or_true true = refl
or_true false = refl

any_is : {A : Type 0} (p : A → Bool) (xs : List A) (x : A) → p x ≡ true → list_any p (xs ++ x ∷ []) ≡ true
any_is p xs x h = any_more p xs x ∙ ap (λ b. list_any p xs || b) h ∙ or_true (list_any p xs)

count_more : {A : Type 0} (p : A → Bool) (xs : List A) (x : A) → count_by p (xs ++ x ∷ []) ≡ count_by p xs + cond (p x) 1 0
count_more p xs x = let e = sum_by-append (λ x. cond (p x) 1 0) xs (x ∷ []) in omega (arith, e)

count_not : {A : Type 0} (p : A → Bool) (xs : List A) (x : A) → p x ≡ false → count_by p (xs ++ x ∷ []) ≡ count_by p xs
count_not p xs x h = let e = count_more p xs x ∙ ap (λ b. count_by p xs + cond b 1 0) h in omega (arith, e)

some_named : (m : Named) → is_some (kind_named (Some m)) ≡ true
some_named (named.Neighbour n) = refl
some_named (named.Group members) = refl
some_named (named.Define patterns) = refl
some_named named.Promise = refl

-- one, else the other
abbrev kind_or : Option Kind → Option Kind → Option Kind
kind_or one other = cond (is_some one) one other

named_step : (b : Bool) (m : Named) (rest more : Option Named) (x : Option Kind) → kind_named more ≡ kind_or (kind_named rest) x
    → kind_named (cond b (Some m) more) ≡ kind_or (kind_named (cond b (Some m) rest)) x
named_step true m rest more x h = ap (λ b. cond b (kind_named (Some m)) x) (sym (some_named m))
named_step false m rest more x h = h

last_kind : (b : Bool) (m : Named) → kind_named (cond b (Some m) None) ≡ cond b (kind_named (Some m)) None
last_kind true m = refl
last_kind false m = refl

-- the first of a name is meant
named_more : (names : List Declared) (d : Declared) (word : List ℕ) → kind_by (names ++ d ∷ []) word ≡ kind_or (kind_by names word) (cond (bytes_eq d.word word) (kind_named (Some d.means)) None)
named_more [] d word = last_kind (bytes_eq d.word word) d.means
named_more (e ∷ names) d word = named_step (bytes_eq e.word word) e.means (meaning names word) (meaning (names ++ d ∷ []) word) (cond (bytes_eq d.word word) (kind_named (Some d.means)) None) (named_more names d word)

kind_step : (b : Bool) (m : Kind) (rest more x : Option Kind) → more ≡ kind_or rest x → cond b (Some m) more ≡ kind_or (cond b (Some m) rest) x
kind_step true m rest more x h = refl
kind_step false m rest more x h = h

kind_more : (before : List Decl) (d : Decl) (word : List ℕ) → kind_in (before ++ d ∷ []) word ≡ kind_or (kind_in before word) (cond (declares d word) (kind_of d) None)
kind_more [] d word = refl
kind_more (decls.Network value span ∷ before) d word = kind_more before d word
kind_more (decls.Commit value span ∷ before) d word = kind_more before d word
kind_more (decls.Neighbour name asn addr key ∷ before) d word = kind_step (bytes_eq name.word word) ANeighbour (kind_in before word) (kind_in (before ++ d ∷ []) word) (cond (declares d word) (kind_of d) None) (kind_more before d word)
kind_more (decls.Group name members ∷ before) d word = kind_step (bytes_eq name.word word) AGroup (kind_in before word) (kind_in (before ++ d ∷ []) word) (cond (declares d word) (kind_of d) None) (kind_more before d word)
kind_more (decls.Define name patterns ∷ before) d word = kind_step (bytes_eq name.word word) ASet (kind_in before word) (kind_in (before ++ d ∷ []) word) (cond (declares d word) (kind_of d) None) (kind_more before d word)
kind_more (decls.Promise name grace at form ∷ before) d word = kind_step (bytes_eq name.word word) APromise (kind_in before word) (kind_in (before ++ d ∷ []) word) (cond (declares d word) (kind_of d) None) (kind_more before d word)

kinds_more : (before : List Decl) (d : Decl) (names : List Declared) (name : Name) (means : Named) → ((word : List ℕ) → kind_by names word ≡ kind_in before word)
    → ((word : List ℕ) → declares d word ≡ bytes_eq name.word word) → kind_of d ≡ kind_named (Some means)
    → (word : List ℕ) → kind_by (declare names name means) word ≡ kind_in (before ++ d ∷ []) word
kinds_more before d names name means same e f word =
    named_more names (record { word = name.word; means = means }) word
    ∙ ap (λ k. kind_or k (cond (bytes_eq name.word word) (kind_named (Some means)) None)) (same word)
    ∙ ap (λ b. kind_or (kind_in before word) (cond b (kind_named (Some means)) None)) (sym (e word))
    ∙ ap (λ k. kind_or (kind_in before word) (cond (declares d word) k None)) (sym f)
    ∙ sym (kind_more before d word)

kind_or_none : (k : Option Kind) → k ≡ kind_or k None
kind_or_none None = refl
kind_or_none (Some k) = refl

kinds_same : (before : List Decl) (d : Decl) (names : List Declared) → ((word : List ℕ) → kind_by names word ≡ kind_in before word) → ((word : List ℕ) → declares d word ≡ false)
    → (word : List ℕ) → kind_by names word ≡ kind_in (before ++ d ∷ []) word
kinds_same before d names same e word =
    same word ∙ kind_or_none (kind_in before word) ∙ ap (λ b. kind_or (kind_in before word) (cond b (kind_of d) None)) (sym (e word)) ∙ sym (kind_more before d word)

-- what a name means behind one declaration more
meant_step : (b : Bool) (m x y : Named) (rest more : Option Named) (P : Type 0) → (more ≡ Some x → (rest ≡ Some x) ⊎ P) → cond b (Some m) more ≡ Some x → (cond b (Some m) rest ≡ Some x) ⊎ P
meant_step true m x y rest more P f h = inl h
meant_step false m x y rest more P f h = f h

meant_last : (b : Bool) (m x : Named) → cond b (Some m) None ≡ Some x → (b ≡ true) × (m ≡ x)
meant_last true m x h = (refl, cc)
meant_last false m x h = cc

pub meant : (names : List Declared) (d : Declared) (word : List ℕ) (x : Named) → meaning (names ++ d ∷ []) word ≡ Some x → (meaning names word ≡ Some x) ⊎ ((bytes_eq d.word word ≡ true) × (d.means ≡ x))
meant [] d word x h = inr (meant_last (bytes_eq d.word word) d.means x h)
meant (e ∷ names) d word x h = meant_step (bytes_eq e.word word) e.means x x (meaning names word) (meaning (names ++ d ∷ []) word) ((bytes_eq d.word word ≡ true) × (d.means ≡ x)) (meant names d word x) h

abbrev IsBelow : List Declared → ℕ → Type 0
IsBelow names count = (word : List ℕ) (n : ℕ) → meaning names word ≡ Some (named.Neighbour n) → n < count

abbrev IsSingle : List Declared → Type 0
IsSingle names = (one other : List ℕ) (n : ℕ) → meaning names one ≡ Some (named.Neighbour n) → meaning names other ≡ Some (named.Neighbour n) → bytes_eq one other ≡ true

below_more : (names : List Declared) (name : Name) (means : Named) (count more : ℕ) → count ≤ more → ((n : ℕ) → means ≡ named.Neighbour n → n < more) → IsBelow names count → IsBelow (declare names name means) more
below_more names name means count more le fit b word n h =
    elim (meant names (record { word = name.word; means = means }) word (named.Neighbour n) h) [ inl g ↦ (let lt = b word n g in omega arith) | inr g ↦ fit n g.1 ]

same_word : (w one other : List ℕ) → bytes_eq w one ≡ true → bytes_eq w other ≡ true → bytes_eq one other ≡ true
same_word w one other e f = (bytes_eq-Decides one other).1 (sym ((bytes_eq-Decides w one).0 e) ∙ (bytes_eq-Decides w other).0 f)

single_cases : (names : List Declared) (d : Declared) (count : ℕ) (one other : List ℕ) (n : ℕ) → IsBelow names count → IsSingle names → (d.means ≡ named.Neighbour n → n ≡ count)
    → (meaning names one ≡ Some (named.Neighbour n)) ⊎ ((bytes_eq d.word one ≡ true) × (d.means ≡ named.Neighbour n))
    → (meaning names other ≡ Some (named.Neighbour n)) ⊎ ((bytes_eq d.word other ≡ true) × (d.means ≡ named.Neighbour n)) → bytes_eq one other ≡ true
single_cases names d count one other n b s fit (inl g) (inl h) = s one other n g h
single_cases names d count one other n b s fit (inl g) (inr h) = let lt = b one n g in let e = fit h.1 in absurd (omega arith)
single_cases names d count one other n b s fit (inr g) (inl h) = let lt = b other n h in let e = fit g.1 in absurd (omega arith)
single_cases names d count one other n b s fit (inr g) (inr h) = same_word d.word one other g.0 h.0

single_more : (names : List Declared) (name : Name) (means : Named) (count : ℕ) → IsBelow names count → IsSingle names → ((n : ℕ) → means ≡ named.Neighbour n → n ≡ count) → IsSingle (declare names name means)
single_more names name means count b s fit one other n g h =
    let d : Declared = record { word = name.word; means = means } in
    single_cases names d count one other n b s (fit n) (meant names d one (named.Neighbour n) g) (meant names d other (named.Neighbour n) h)

number_in : Option Named → ℕ
number_in (Some (named.Neighbour n)) = n
number_in _ = 0

-- ---- tests

none_some : {A : Type 0} (o : Option A) → is_none o ≡ not (is_some o)
none_some None = refl
none_some (Some x) = refl

new_told : (before : List Decl) (k : Known) (name : Name) → Mirrors before k → text.is_new k.names name ≡ is_new before name
new_told before k name m = none_named (meaning k.names name.word) ∙ ap (λ (o : Option Kind). is_none o) (m.kinds name.word)

at_most_told : (most : ℕ) (n : Num) → fault (at_most most n) ≡ unless (nat_le n.value most) n.span.from
at_most_told most n = fault_wants (nat_le n.value most) n.span.from n.value

-- ---- `network` and `commit`

network_told : (before : List Decl) (k : Known) (value : Num) (span : Span) → Mirrors before k → fault (network k value span) ≡ first_unmet (demands before (decls.Network value span))
unfolding network
network_told before k value span m =
    fault_wants (is_none k.network) span.from (record k { network = Some value.value })
    ∙ ap (λ b. unless b span.from) (none_some k.network ∙ ap not m.network) ∙ sym (or_none (unless (not (list_any is_network before)) span.from))

commit_told : (before : List Decl) (k : Known) (value : Num) (span : Span) → Mirrors before k → fault (commit k value span) ≡ first_unmet (demands before (decls.Commit value span))
unfolding commit
commit_told before k value span m =
    let late : Option ℕ = unless (nat_le value.value most_seconds) value.span.from in
    fault_then (wants (is_none k.commit) span.from value) (λ first. at_most text.most_seconds first >>= (λ seconds. Ok (record k { commit = Some seconds }))) (or_else late None)
    (λ first e. fault_then (at_most text.most_seconds first) (λ seconds. Ok (record k { commit = Some seconds })) None (λ seconds d. refl)
    ∙ ap (λ o. or_else o None) (at_most_told text.most_seconds first
    ∙ ap (λ (n : Num). unless (nat_le n.value most_seconds) n.span.from) (sym (passed (is_none k.commit) span.from value first e).1)))
    ∙ ap (λ b. or_else b (or_else late None)) (fault_wants (is_none k.commit) span.from value ∙ ap (λ b. unless b span.from) (none_some k.commit ∙ ap not m.commit))

-- ---- neighbours

key_told : (signs : Option (RootText × Num)) → fault (key_of signs) ≡ first_unmet (of_key signs)
key_told None = refl
key_told (Some key) = fault_map (λ n. let o : Option (Digest × ℕ) = Some (key.0.digest, n) in o) (at_most 255 key.1) ∙ at_most_told 255 key.1 ∙ sym (or_none (unless (nat_le key.1.value 255) key.1.span.from))

neighbour_told : (before : List Decl) (k : Known) (name : Name) (asn addr : Num) (signs : Option (RootText × Num)) → Mirrors before k
    → fault (neighbour k name asn addr signs) ≡ first_unmet (demands before (decls.Neighbour name asn addr signs))
unfolding neighbour
neighbour_told before k name asn addr signs m =
    let make : Name → Option (Digest × ℕ) → Known = λ called key. record k {
      names = declare k.names called (named.Neighbour (length k.neighbours));
      neighbours = k.neighbours ++ record { name = called.word; asn = asn.value; addr = addr.value; key = key } ∷ [];
    } in
    fault_then (wants (is_neighbour_name k name asn addr signs) name.span.from name) (λ called. key_of signs >>= (λ key. Ok (make called key))) (first_unmet (of_key signs))
    (λ called e. fault_then (key_of signs) (λ key. Ok (make called key)) None (λ key d. refl) ∙ or_none (fault (key_of signs)) ∙ key_told signs)
    ∙ ap (λ b. or_else b (first_unmet (of_key signs))) (fault_wants (is_neighbour_name k name asn addr signs) name.span.from name
    ∙ ap (λ b. unless (b && nat_lt (length k.neighbours) 256 && not (list_any (is_like asn addr signs) k.neighbours)) name.span.from) (new_told before k name m)
    ∙ ap (λ n. unless (is_new before name && nat_lt n 256 && not (list_any (is_like asn addr signs) k.neighbours)) name.span.from) m.neighbours
    ∙ ap (λ b. unless (is_new before name && has_room 256 ANeighbour before && not b) name.span.from) (m.alike asn addr signs))

-- ---- groups

-- the numbers of the members before
abbrev IsSeen : List Declared → List ℕ → List Name → Type 0
IsSeen names found before = (t : Name) (n : ℕ) → meaning names t.word ≡ Some (named.Neighbour n) → list_any (λ m. m == n) found ≡ list_any (λ s. bytes_eq s.word t.word) before

bool_same : (a b : Bool) → (a ≡ true → b ≡ true) → (b ≡ true → a ≡ true) → a ≡ b
bool_same true b f g = sym (f refl)
bool_same false true f g = g refl
bool_same false false f g = refl

some_same : (n m : ℕ) (o : Option Named) → o ≡ Some (named.Neighbour n) → o ≡ Some (named.Neighbour m) → n ≡ m
unfolding number_in
some_same n m None g h = cc
some_same n m (Some (named.Neighbour k)) g h = ap number_in (sym g ∙ h)
some_same n m (Some (named.Group l)) g h = cc
some_same n m (Some (named.Define l)) g h = cc
some_same n m (Some named.Promise) g h = cc

seen_more : (names : List Declared) (found : List ℕ) (before : List Name) (s : Name) (n : ℕ) → IsSingle names → IsSeen names found before → meaning names s.word ≡ Some (named.Neighbour n)
    → IsSeen names (found ++ n ∷ []) (before ++ s ∷ [])
seen_more names found before s n single seen is t m h =
    any_more (λ k. k == m) found n
    ∙ ap (λ b. b || (n == m)) (seen t m h)
    ∙ ap (λ b. list_any (λ (s : Name). bytes_eq s.word t.word) before || b)
    (bool_same (n == m) (bytes_eq s.word t.word)
    (λ e. single s.word t.word m (is ∙ ap (λ n. let o : Option Named = Some (named.Neighbour n) in o) ((Decides-eqb n m).0 e)) h)
    (λ e. (Decides-eqb n m).1 (some_same n m (meaning names s.word) is (ap (meaning names) ((bytes_eq-Decides s.word t.word).0 e) ∙ h))))
    ∙ sym (any_more (λ (s : Name). bytes_eq s.word t.word) before s)

member_told_by : (place : ℕ) (found : List ℕ) (o : Option Named) (b : Bool) → ((n : ℕ) → o ≡ Some (named.Neighbour n) → list_any (λ m. m == n) found ≡ b)
    → fault (member_by place found o) ≡ unless (is_neighbour (kind_named o) && not b) place
member_told_by place found None b h = refl
member_told_by place found (Some (named.Neighbour n)) b h = fault_wants (not (list_any (λ m. m == n) found)) place n ∙ ap (λ b. unless (not b) place) (h n refl)
member_told_by place found (Some (named.Group l)) b h = refl
member_told_by place found (Some (named.Define l)) b h = refl
member_told_by place found (Some named.Promise) b h = refl

member_means_by : (place : ℕ) (found : List ℕ) (o : Option Named) (n : ℕ) → member_by place found o ≡ Ok n → o ≡ Some (named.Neighbour n)
member_means_by place found None n h = cc
member_means_by place found (Some (named.Neighbour k)) n h = ap (λ n. let o : Option Named = Some (named.Neighbour n) in o) (passed (not (list_any (λ m. m == k) found)) place k n h).1
member_means_by place found (Some (named.Group l)) n h = cc
member_means_by place found (Some (named.Define l)) n h = cc
member_means_by place found (Some named.Promise) n h = cc

members_told : (kinds : List ℕ → Option Kind) (names : List Declared) (found : List ℕ) (before texts : List Name) → ((w : List ℕ) → kind_by names w ≡ kinds w) → IsSingle names → IsSeen names found before
    → fault (in_turn (add_member names) found texts) ≡ first_unmet (of_members kinds before texts)
unfolding in_turn
members_told kinds names found before [] same single seen = refl
members_told kinds names found before (t ∷ texts) same single seen =
    let twice = is_named t before in
    let others = first_unmet (of_members kinds (before ++ t ∷ []) texts) in
    fault_then (add_member names found t) (λ next. in_turn (add_member names) next texts) others
    (λ next e. let p = mapped (λ n. found ++ n ∷ []) (member names found t) next e in
    subst (λ next. fault (in_turn (add_member names) next texts) ≡ others) p.2
    (members_told kinds names (found ++ p.0 ∷ []) (before ++ t ∷ []) texts same single (seen_more names found before t p.0 single seen (member_means_by t.span.from found (meaning names t.word) p.0 p.1))))
    ∙ ap (λ b. or_else b others) (fault_map (λ n. found ++ n ∷ []) (member names found t) ∙ member_told_by t.span.from found (meaning names t.word) twice (λ n h. seen t n h)
    ∙ ap (λ k. unless (is_neighbour k && not twice) t.span.from) (same t.word))

group_told : (before : List Decl) (k : Known) (name : Name) (texts : List Name) → Mirrors before k → fault (group k name texts) ≡ first_unmet (demands before (decls.Group name texts))
unfolding group
group_told before k name texts m =
    let make : Name → List ℕ → Known = λ called numbers. record k { names = declare k.names called (named.Group numbers) } in
    let rest = first_unmet (of_members (kind_in before) [] texts) in
    fault_then (wants (text.is_new k.names name && nat_lt (count_by text.is_group k.names) 64) name.span.from name) (λ called. members k.names texts >>= (λ numbers. Ok (make called numbers))) rest
    (λ called e. fault_then (members k.names texts) (λ numbers. Ok (make called numbers)) None (λ numbers d. refl) ∙ or_none (fault (members k.names texts))
    ∙ members_told (kind_in before) k.names [] [] texts m.kinds m.single (λ t n h. refl))
    ∙ ap (λ b. or_else b rest) (fault_wants (text.is_new k.names name && nat_lt (count_by text.is_group k.names) 64) name.span.from name
    ∙ ap (λ b. unless (b && nat_lt (count_by text.is_group k.names) 64) name.span.from) (new_told before k name m) ∙ ap (λ n. unless (is_new before name && nat_lt n 64) name.span.from) m.groups)

-- ---- sets

most_told : (len : ℕ) (most : Option Num) → fault (most_of len most) ≡ first_unmet (of_most len most)
most_told len None = refl
most_told len (Some n) = fault_wants (nat_le len n.value && nat_le n.value 32) n.span.from n.value ∙ sym (or_none (unless (nat_le len n.value && nat_le n.value 32) n.span.from))

patterns_told : (texts : List PatternText) → fault (all_of pattern texts) ≡ first_unmet (flat_map of_pattern texts)
unfolding all_of
patterns_told [] = refl
patterns_told (t ∷ texts) =
    let rest = first_unmet (flat_map of_pattern texts) in
    fault_then (pattern t) (λ first. all_of pattern texts >>= (λ others. Ok (first ∷ others))) rest
    (λ first e. fault_then (all_of pattern texts) (λ others. Ok (first ∷ others)) None (λ others d. refl) ∙ or_none (fault (all_of pattern texts)) ∙ patterns_told texts)
    ∙ ap (λ b. or_else b rest) (fault_map (λ most. let w : Pattern = record { prefix = t.prefix; most = most } in w) (most_of t.prefix.len t.most) ∙ most_told t.prefix.len t.most)
    ∙ sym (unmet_append (of_pattern t) (flat_map of_pattern texts))

define_told : (before : List Decl) (k : Known) (name : Name) (texts : List PatternText) → Mirrors before k → fault (define k name texts) ≡ first_unmet (demands before (decls.Define name texts))
unfolding define
define_told before k name texts m =
    let make : Name → List Pattern → Known = λ called set. record k { names = declare k.names called (named.Define set) } in
    let rest = first_unmet (flat_map of_pattern texts) in
    fault_then (wants (text.is_new k.names name && nat_lt (count_by text.is_define k.names) 64) name.span.from name) (λ called. all_of pattern texts >>= (λ set. Ok (make called set))) rest
    (λ called e. fault_then (all_of pattern texts) (λ set. Ok (make called set)) None (λ set d. refl) ∙ or_none (fault (all_of pattern texts)) ∙ patterns_told texts)
    ∙ ap (λ b. or_else b rest) (fault_wants (text.is_new k.names name && nat_lt (count_by text.is_define k.names) 64) name.span.from name
    ∙ ap (λ b. unless (b && nat_lt (count_by text.is_define k.names) 64) name.span.from) (new_told before k name m) ∙ ap (λ n. unless (is_new before name && nat_lt n 64) name.span.from) m.sets)

-- ---- promises

places_told_by : (at : List PrefixText) (over : Option PrefixText) → fault (places_by at over) ≡ first_unmet (of_place over)
places_told_by at None = refl
places_told_by at (Some p) = refl

all_demanded : (f g : Use → Demand) → ((u : Use) → f u ≡ g u) → (us : List Use) → map f us ≡ map g us
all_demanded f g e [] = refl
all_demanded f g e (u ∷ us) = ap (λ d. d ∷ map f us) (e u) ∙ ap (λ l. g u ∷ l) (all_demanded f g e us)

wanted_same : (f g : List ℕ → Option Kind) → ((w : List ℕ) → f w ≡ g w) → (name : Name) (around : List Variable) (w : Want) → is_wanted f name around w ≡ is_wanted g name around w
wanted_same f g e name around want.New = ap (λ (o : Option Kind). is_none o && not (list_any (λ (v : Variable). bytes_eq v.word name.word) around)) (e name.word)
wanted_same f g e name around want.Who = ap (λ (o : Option Kind). is_bound ForNeighbour name around || is_neighbour o) (e name.word)
wanted_same f g e name around want.OneRoute = refl
wanted_same f g e name around want.Group = ap (λ (o : Option Kind). is_group o) (e name.word)
wanted_same f g e name around want.Set = ap (λ (o : Option Kind). is_set o) (e name.word)

promise_told : (before : List Decl) (k : Known) (name : Name) (grace : Num) (at : List PrefixText) (form : Form) → Mirrors before k
    → fault (promise k name grace at form) ≡ first_unmet (demands before (decls.Promise name grace at form))
unfolding promise
promise_told before k name grace at form m =
    let scope : Name → Scope = λ called. record { names = declare k.names called named.Promise; variables = [] } in
    let make : Name → ℕ → List Cidr → Typing → Known = λ called seconds prefixes held. record k {
      names = declare k.names called named.Promise;
      promises = k.promises ++ record { name = called.word; grace = seconds; at = prefixes; form = held } ∷ [];
    } in
    let known = kind_in (before ++ decls.Promise name grace at form ∷ []) in
    let mine = kind_by (declare k.names name named.Promise) in
    let late = unless (nat_le grace.value most_seconds) grace.span.from in
    let over = first_unmet (of_places at) in
    let unfitting = first_unmet (map (demand_of known) (uses form [])) in
    let told : fault (typed form (scope name)) ≡ unfitting = formula_told form (scope name) ∙ ap first_unmet (all_demanded (demand_of mine) (demand_of known)
    (λ u. ap (λ b. let d : Demand = record { met = b; at = u.name.span } in d)
    (wanted_same mine known (kinds_more before (decls.Promise name grace at form) k.names name named.Promise m.kinds (λ w. refl) refl) u.name u.around u.want)) (uses form [])) in
    fault_then (wants (text.is_new k.names name && nat_lt (length k.promises) 256) name.span.from name)
    (λ called. at_most text.most_seconds grace >>= (λ seconds. places at >>= (λ prefixes. typed form (scope called) >>= (λ held. Ok (make called seconds prefixes held))))) (or_else late (or_else over unfitting))
    (λ called e. fault_then (at_most text.most_seconds grace) (λ seconds. places at >>= (λ prefixes. typed form (scope called) >>= (λ held. Ok (make called seconds prefixes held)))) (or_else over unfitting)
    (λ seconds z. fault_then (places at) (λ prefixes. typed form (scope called) >>= (λ held. Ok (make called seconds prefixes held))) unfitting
    (λ prefixes y. fault_then (typed form (scope called)) (λ held. Ok (make called seconds prefixes held)) None (λ held x. refl) ∙ or_none (fault (typed form (scope called)))
    ∙ subst (λ called. fault (typed form (scope called)) ≡ unfitting) (passed (text.is_new k.names name && nat_lt (length k.promises) 256) name.span.from name called e).1 told)
    ∙ ap (λ x. or_else x unfitting) (places_told_by at (slice_get at 1024)))
    ∙ ap (λ x. or_else x (or_else over unfitting)) (at_most_told text.most_seconds grace))
    ∙ ap (λ x. or_else x (or_else late (or_else over unfitting))) (fault_wants (text.is_new k.names name && nat_lt (length k.promises) 256) name.span.from name
    ∙ ap (λ b. unless (b && nat_lt (length k.promises) 256) name.span.from) (new_told before k name m) ∙ ap (λ n. unless (is_new before name && nat_lt n 256) name.span.from) m.promises)
    ∙ ap (λ x. or_else (unless (is_new before name && has_room 256 APromise before) name.span.from) (or_else late x)) (sym (unmet_append (of_places at) (map (demand_of known) (uses form []))))

declaration_told : (before : List Decl) (k : Known) (d : Decl) → Mirrors before k → fault (declaration k d) ≡ first_unmet (demands before d)
declaration_told before k (decls.Network value span) m = network_told before k value span m
declaration_told before k (decls.Commit value span) m = commit_told before k value span m
declaration_told before k (decls.Neighbour name asn addr key) m = neighbour_told before k name asn addr key m
declaration_told before k (decls.Group name texts) m = group_told before k name texts m
declaration_told before k (decls.Define name texts) m = define_told before k name texts m
declaration_told before k (decls.Promise name grace at form) m = promise_told before k name grace at form m

-- ---- what is known mirrors one declaration more

-- a declaration without a name, which is no network or no commit
nameless : (before : List Decl) (d : Decl) (k : Known) → ((word : List ℕ) → declares d word ≡ false) → is_a ANeighbour d ≡ false → is_a AGroup d ≡ false → is_a ASet d ≡ false → is_a APromise d ≡ false
    → ((asn addr : Num) (key : Option (RootText × Num)) → is_alike asn addr key d ≡ false) → (n c : Option ℕ) → is_some n ≡ list_any is_network (before ++ d ∷ []) → is_some c ≡ list_any is_commit (before ++ d ∷ [])
    → Mirrors before k → Mirrors (before ++ d ∷ []) (record k { network = n; commit = c })
nameless before d k w a b e f g n c h i m = record {
  network = h;
  commit = i;
  kinds = kinds_same before d k.names m.kinds w;
  neighbours = m.neighbours ∙ sym (count_not (is_a ANeighbour) before d a);
  groups = m.groups ∙ sym (count_not (is_a AGroup) before d b);
  sets = m.sets ∙ sym (count_not (is_a ASet) before d e);
  promises = m.promises ∙ sym (count_not (is_a APromise) before d f);
  alike = λ asn addr key. m.alike asn addr key ∙ sym (any_not (is_alike asn addr key) before d (g asn addr key));
  below = m.below;
  single = m.single;
}

network_mirrors : (before : List Decl) (k next : Known) (value : Num) (span : Span) → Mirrors before k → network k value span ≡ Ok next → Mirrors (before ++ decls.Network value span ∷ []) next
unfolding network
network_mirrors before k next value span m h =
    let d = decls.Network value span in
    let made : Known = record k { network = Some value.value } in
    let p = passed (is_none k.network) span.from made next h in
    subst (Mirrors (before ++ d ∷ [])) p.1
    (nameless before d k (λ w. refl) refl refl refl refl (λ asn addr key. refl) (Some value.value) k.commit (sym (any_is is_network before d refl)) (m.commit ∙ sym (any_not is_commit before d refl)) m)

commit_mirrors : (before : List Decl) (k next : Known) (value : Num) (span : Span) → Mirrors before k → commit k value span ≡ Ok next → Mirrors (before ++ decls.Commit value span ∷ []) next
unfolding commit
commit_mirrors before k next value span m h =
    let d = decls.Commit value span in
    let p = chained (λ first. at_most text.most_seconds first >>= (λ seconds. Ok (record k { commit = Some seconds }))) (wants (is_none k.commit) span.from value) next h in
    let q = chained (λ seconds. Ok (record k { commit = Some seconds })) (at_most text.most_seconds p.0) next p.2 in
    let made : Known = record k { commit = Some q.0 } in
    subst (Mirrors (before ++ d ∷ [])) (ok_same made next q.2)
    (nameless before d k (λ w. refl) refl refl refl refl (λ asn addr key. refl) k.network (Some q.0) (m.network ∙ sym (any_not is_network before d refl)) (sym (any_is is_commit before d refl)) m)

-- a declaration with a name, which is no neighbour
named_mirrors : (before : List Decl) (d : Decl) (k : Known) (name : Name) (means : Named) (more : List Promise) → ((word : List ℕ) → declares d word ≡ bytes_eq name.word word) → kind_of d ≡ kind_named (Some means)
    → is_network d ≡ false → is_commit d ≡ false → is_a ANeighbour d ≡ false → ((asn addr : Num) (key : Option (RootText × Num)) → is_alike asn addr key d ≡ false)
    → ((n : ℕ) → means ≡ named.Neighbour n → ⊥)
    → count_by text.is_group (declare k.names name means) ≡ count_by (is_a AGroup) (before ++ d ∷ []) → count_by text.is_define (declare k.names name means) ≡ count_by (is_a ASet) (before ++ d ∷ [])
    → length more ≡ count_by (is_a APromise) (before ++ d ∷ []) → Mirrors before k → Mirrors (before ++ d ∷ []) (record k { names = declare k.names name means; promises = more })
named_mirrors before d k name means more w f n c a g other groups sets promises m = record {
  network = m.network ∙ sym (any_not is_network before d n);
  commit = m.commit ∙ sym (any_not is_commit before d c);
  kinds = kinds_more before d k.names name means m.kinds w f;
  neighbours = m.neighbours ∙ sym (count_not (is_a ANeighbour) before d a);
  groups = groups;
  sets = sets;
  promises = promises;
  alike = λ asn addr key. m.alike asn addr key ∙ sym (any_not (is_alike asn addr key) before d (g asn addr key));
  below = below_more k.names name means (length k.neighbours) (length k.neighbours) (omega arith) (λ n e. absurd (other n e)) m.below;
  single = single_more k.names name means (length k.neighbours) m.below m.single (λ n e. absurd (other n e));
}

count_both : {A B : Type 0} (p : A → Bool) (q : B → Bool) (xs : List A) (ys : List B) (x : A) (y : B) → count_by p xs ≡ count_by q ys → p x ≡ q y → count_by p (xs ++ x ∷ []) ≡ count_by q (ys ++ y ∷ [])
count_both p q xs ys x y e f = count_more p xs x ∙ ap (λ n. n + cond (p x) 1 0) e ∙ ap (λ b. count_by q ys + cond b 1 0) f ∙ sym (count_more q ys y)

length_both : {A B : Type 0} (q : B → Bool) (xs : List A) (ys : List B) (x : A) (y : B) → length xs ≡ count_by q ys → q y ≡ true → length (xs ++ x ∷ []) ≡ count_by q (ys ++ y ∷ [])
length_both q xs ys x y e f = length-append xs (x ∷ []) ∙ ap (λ n. n + 1) e ∙ ap (λ b. count_by q ys + cond b 1 0) (sym f) ∙ sym (count_more q ys y)

group_mirrors : (before : List Decl) (k next : Known) (name : Name) (texts : List Name) → Mirrors before k → group k name texts ≡ Ok next → Mirrors (before ++ decls.Group name texts ∷ []) next
unfolding group
group_mirrors before k next name texts m h =
    let d = decls.Group name texts in
    let make : Name → List ℕ → Known = λ called numbers. record k { names = declare k.names called (named.Group numbers) } in
    let test = text.is_new k.names name && nat_lt (count_by text.is_group k.names) 64 in
    let p = chained (λ called. members k.names texts >>= (λ numbers. Ok (make called numbers))) (wants test name.span.from name) next h in
    let q = chained (λ numbers. Ok (make p.0 numbers)) (members k.names texts) next p.2 in
    let x : Declared = record { word = name.word; means = named.Group q.0 } in
    subst (Mirrors (before ++ d ∷ [])) (ap (λ n. make n q.0) (passed test name.span.from name p.0 p.1).1 ∙ ok_same (make p.0 q.0) next q.2)
    (named_mirrors before d k name (named.Group q.0) k.promises (λ w. refl) refl refl refl refl (λ asn addr key. refl) (λ n e. cc)
    (count_both text.is_group (is_a AGroup) k.names before x d m.groups refl) (count_both text.is_define (is_a ASet) k.names before x d m.sets refl) (m.promises ∙ sym (count_not (is_a APromise) before d refl)) m)

define_mirrors : (before : List Decl) (k next : Known) (name : Name) (texts : List PatternText) → Mirrors before k → define k name texts ≡ Ok next → Mirrors (before ++ decls.Define name texts ∷ []) next
unfolding define
define_mirrors before k next name texts m h =
    let d = decls.Define name texts in
    let make : Name → List Pattern → Known = λ called set. record k { names = declare k.names called (named.Define set) } in
    let test = text.is_new k.names name && nat_lt (count_by text.is_define k.names) 64 in
    let p = chained (λ called. all_of pattern texts >>= (λ set. Ok (make called set))) (wants test name.span.from name) next h in
    let q = chained (λ set. Ok (make p.0 set)) (all_of pattern texts) next p.2 in
    let x : Declared = record { word = name.word; means = named.Define q.0 } in
    subst (Mirrors (before ++ d ∷ [])) (ap (λ n. make n q.0) (passed test name.span.from name p.0 p.1).1 ∙ ok_same (make p.0 q.0) next q.2)
    (named_mirrors before d k name (named.Define q.0) k.promises (λ w. refl) refl refl refl refl (λ asn addr key. refl) (λ n e. cc)
    (count_both text.is_group (is_a AGroup) k.names before x d m.groups refl) (count_both text.is_define (is_a ASet) k.names before x d m.sets refl) (m.promises ∙ sym (count_not (is_a APromise) before d refl)) m)

promise_mirrors : (before : List Decl) (k next : Known) (name : Name) (grace : Num) (at : List PrefixText) (form : Form) → Mirrors before k → promise k name grace at form ≡ Ok next
    → Mirrors (before ++ decls.Promise name grace at form ∷ []) next
unfolding promise
promise_mirrors before k next name grace at form m h =
    let d = decls.Promise name grace at form in
    let scope : Name → Scope = λ called. record { names = declare k.names called named.Promise; variables = [] } in
    let make : Name → ℕ → List Cidr → Typing → Known = λ called seconds prefixes held. record k {
      names = declare k.names called named.Promise;
      promises = k.promises ++ record { name = called.word; grace = seconds; at = prefixes; form = held } ∷ [];
    } in
    let test = text.is_new k.names name && nat_lt (length k.promises) 256 in
    let p = chained (λ called. at_most text.most_seconds grace >>= (λ seconds. places at >>= (λ prefixes. typed form (scope called) >>= (λ held. Ok (make called seconds prefixes held))))) (wants test name.span.from name) next h in
    let q = chained (λ seconds. places at >>= (λ prefixes. typed form (scope p.0) >>= (λ held. Ok (make p.0 seconds prefixes held)))) (at_most text.most_seconds grace) next p.2 in
    let r = chained (λ prefixes. typed form (scope p.0) >>= (λ held. Ok (make p.0 q.0 prefixes held))) (places at) next q.2 in
    let u = chained (λ held. Ok (make p.0 q.0 r.0 held)) (typed form (scope p.0)) next r.2 in
    let x : Declared = record { word = name.word; means = named.Promise } in
    let y : Promise = record { name = name.word; grace = q.0; at = r.0; form = u.0 } in
    subst (Mirrors (before ++ d ∷ [])) (ap (λ n. make n q.0 r.0 u.0) (passed test name.span.from name p.0 p.1).1 ∙ ok_same (make p.0 q.0 r.0 u.0) next u.2)
    (named_mirrors before d k name named.Promise (k.promises ++ y ∷ []) (λ w. refl) refl refl refl refl (λ asn addr key. refl) (λ n e. cc)
    (count_both text.is_group (is_a AGroup) k.names before x d m.groups refl) (count_both text.is_define (is_a ASet) k.names before x d m.sets refl) (length_both (is_a APromise) k.promises before y d m.promises refl) m)

-- a neighbour is like another where its declaration is
same_key : (signs other : Option (RootText × Num)) (key : Option (Digest × ℕ)) → key_of signs ≡ Ok key → text.same_number key other ≡ same_number signs other
same_key None other key h = let none : Option (Digest × ℕ) = None in let e : none ≡ key = ok_same none key h in ap (λ k. text.same_number k other) (sym e)
same_key (Some sign) None key h =
    let make : ℕ → Option (Digest × ℕ) = λ n. Some (sign.0.digest, n) in
    let p = mapped make (at_most 255 sign.1) key h in
    ap (λ (k : Option (Digest × ℕ)). text.same_number k None) (sym p.2)
same_key (Some sign) (Some other) key h =
    let make : ℕ → Option (Digest × ℕ) = λ n. Some (sign.0.digest, n) in
    let p = mapped make (at_most 255 sign.1) key h in
    let q = passed (nat_le sign.1.value 255) sign.1.span.from sign.1.value p.0 p.1 in
    ap (λ (k : Option (Digest × ℕ)). text.same_number k (Some other)) (sym p.2) ∙ ap (λ n. n == other.1.value) (sym q.1)

number_same : (n m : ℕ) → named.Neighbour n ≡ named.Neighbour m → m ≡ n
unfolding number_in
number_same n m e = ap (λ (x : Named). number_in (Some x)) (sym e)

neighbour_mirrors : (before : List Decl) (k next : Known) (name : Name) (asn addr : Num) (signs : Option (RootText × Num)) → Mirrors before k → neighbour k name asn addr signs ≡ Ok next
    → Mirrors (before ++ decls.Neighbour name asn addr signs ∷ []) next
unfolding neighbour
neighbour_mirrors before k next name asn addr signs m h =
    let d = decls.Neighbour name asn addr signs in
    let make : Name → Option (Digest × ℕ) → Known = λ called key. record k {
      names = declare k.names called (named.Neighbour (length k.neighbours));
      neighbours = k.neighbours ++ record { name = called.word; asn = asn.value; addr = addr.value; key = key } ∷ [];
    } in
    let test = is_neighbour_name k name asn addr signs in
    let p = chained (λ called. key_of signs >>= (λ key. Ok (make called key))) (wants test name.span.from name) next h in
    let q = chained (λ key. Ok (make p.0 key)) (key_of signs) next p.2 in
    let x : Declared = record { word = name.word; means = named.Neighbour (length k.neighbours) } in
    let y : Neighbour = record { name = name.word; asn = asn.value; addr = addr.value; key = q.0 } in
    let size : length (k.neighbours ++ y ∷ []) ≡ length k.neighbours + 1 = length-append k.neighbours (y ∷ []) in
    subst (Mirrors (before ++ d ∷ [])) (ap (λ n. make n q.0) (passed test name.span.from name p.0 p.1).1 ∙ ok_same (make p.0 q.0) next q.2) (record {
      network = m.network ∙ sym (any_not is_network before d refl);
      commit = m.commit ∙ sym (any_not is_commit before d refl);
      kinds = kinds_more before d k.names name (named.Neighbour (length k.neighbours)) m.kinds (λ w. refl) refl;
      neighbours = length_both (is_a ANeighbour) k.neighbours before y d m.neighbours refl;
      groups = count_both text.is_group (is_a AGroup) k.names before x d m.groups refl;
      sets = count_both text.is_define (is_a ASet) k.names before x d m.sets refl;
      promises = m.promises ∙ sym (count_not (is_a APromise) before d refl);
      alike = λ n a other. any_more (is_like n a other) k.neighbours y
          ∙ ap (λ b. b || is_like n a other y) (m.alike n a other)
          ∙ ap (λ b. list_any (is_alike n a other) before || (asn.value == n.value && (addr.value == a.value || b))) (same_key signs other q.0 q.1)
          ∙ sym (any_more (is_alike n a other) before d);
      below = below_more k.names name (named.Neighbour (length k.neighbours)) (length k.neighbours) (length (k.neighbours ++ y ∷ [])) (omega arith)
          (λ n e. let z : n ≡ length k.neighbours = number_same (length k.neighbours) n e in omega arith) m.below;
      single = single_more k.names name (named.Neighbour (length k.neighbours)) (length k.neighbours) m.below m.single (λ n e. number_same (length k.neighbours) n e);
    })

pub declaration_mirrors : (before : List Decl) (k : Known) (d : Decl) (next : Known) → Mirrors before k → declaration k d ≡ Ok next → Mirrors (before ++ d ∷ []) next
declaration_mirrors before k (decls.Network value span) next m h = network_mirrors before k next value span m h
declaration_mirrors before k (decls.Commit value span) next m h = commit_mirrors before k next value span m h
declaration_mirrors before k (decls.Neighbour name asn addr key) next m h = neighbour_mirrors before k next name asn addr key m h
declaration_mirrors before k (decls.Group name texts) next m h = group_mirrors before k next name texts m h
declaration_mirrors before k (decls.Define name texts) next m h = define_mirrors before k next name texts m h
declaration_mirrors before k (decls.Promise name grace at form) next m h = promise_mirrors before k next name grace at form m h

-- ---- the whole text

turns_told : (before ds : List Decl) (k : Known) → Mirrors before k → fault (in_turn declaration k ds) ≡ first_unmet (all_demands before ds)
unfolding in_turn
turns_told before [] k m = refl
turns_told before (d ∷ ds) k m =
    let rest = first_unmet (all_demands (before ++ d ∷ []) ds) in
    fault_then (declaration k d) (λ next. in_turn declaration next ds) rest (λ next e. turns_told (before ++ d ∷ []) ds next (declaration_mirrors before k d next m e))
    ∙ ap (λ b. or_else b rest) (declaration_told before k d m) ∙ sym (unmet_append (demands before d) (all_demands (before ++ d ∷ []) ds))

whole_told_by : (end : ℕ) (k : Known) (n c : Option ℕ) → fault (whole_by end k n c) ≡ unless (is_some n && is_some c) end
whole_told_by end k None None = refl
whole_told_by end k None (Some c) = refl
whole_told_by end k (Some n) None = refl
whole_told_by end k (Some n) (Some c) = refl

pub file_told : (file : File) → fault (typed_text file) ≡ first_mistake file
unfolding typed_text
file_told file =
    let n = list_any is_network file.decls in
    let c = list_any is_commit file.decls in
    let rest = unless (n && c) file.end in
    fault_then (declarations file.decls) (λ known. whole file.end known) rest
    (λ k e. let m : Mirrors file.decls k = kept declaration Mirrors declaration_mirrors [] file.decls nothing k nothing_mirrors e in
    whole_told_by file.end k k.network k.commit ∙ ap (λ b. unless (b && is_some k.commit) file.end) m.network ∙ ap (λ b. unless (n && b) file.end) m.commit)
    ∙ ap (λ b. or_else b rest) (turns_told [] file.decls nothing nothing_mirrors)
