-- The words of declarations are read as these declarations.
use Rattle.std.proofs.Common.{◌≡◌, ℕ, ◌<◌, ◌≤◌, true, List, [], ◌∷◌, length, map, Option, Some, None, refl, ap, subst, ◌∙◌, arith}
use Rattle.std.specs.List.{AllByRecursion}
use Rattle.std.specs.Prelude.{codes}
use Rattle.std.specs.Fmt.{decimal}
use Rattle.hex.specs.Hex.{encode_lower}
use Rattle.nr_spec_bgp.specs.Prefixes.{Cidr, masked}
use Rattle.nr_spec_bgp.specs.PrefixText.{address_text, cidr_text}
use Rattle.nr_spec_rules.specs.declared.kind.Kind.TheVariants as k
use Rattle.nr_spec_rules.specs.declared.span.Span.{Span}
use Rattle.nr_spec_rules.specs.Figures.{address_of, prefix_of, digest_of}
use Rattle.nr_spec_rules.specs.Tokens.{same_kind}
use Rattle.nr_spec_rules.specs.Parsing.{Parser}
use Rattle.nr_rule_syntax.specs.declared.tree.Name.{Name}
use Rattle.nr_rule_syntax.specs.declared.tree.Num.{Num}
use Rattle.nr_rule_syntax.specs.declared.tree.RootText.{RootText}
use Rattle.nr_rule_syntax.specs.declared.tree.PatternText.{PatternText}
use Rattle.nr_rule_syntax.specs.declared.tree.PrefixText.{PrefixText}
use Rattle.nr_rule_syntax.specs.declared.tree.Decl.{Decl}
use Rattle.nr_rule_syntax.specs.declared.tree.Decl.TheVariants as decls
use Rattle.nr_rule_syntax.specs.declared.tree.Form.{Form}
use Rattle.nr_rule_syntax.specs.Nesting.{depth, IsNested}
use Rattle.nr_rule_syntax.specs.Reading as spec
use Rattle.nr_rule_syntax.specs.Written.{is_written, IsName, IsNumber, IsPrefix, IsMost, IsPattern, IsRoot, IsKey, AreSome, IsWritten}
use Rattle.nr_laws_print.specs.Bare.{nowhere, bare_name, bare_number, bare_root, bare_key, bare_most, bare_pattern, bare_prefix, bare_form, bare_declaration}
use Rattle.nr_laws_print.proofs.Words.{Shown, Words, word, semicolon, comma, equal, open_brace, close_brace, name_words, number_words, key_words, most_words, pattern_words, prefix_words, places_words, joined, declaration_words, worded}
use Rattle.nr_laws_print.proofs.Gives.{Gives, IsApart, gives_then, gives_pure, gives_map, gives_behind, gives_expect, gives_seen, gives_unseen, gives_valued}
use Rattle.nr_laws_print.proofs.Chains.{Item, IsItem, words_of, values_of, gives_list, grows_joined}
use Rattle.nr_laws_print.proofs.Parts.{gives_name, gives_number, gives_by_kind, num_of}
use Rattle.nr_laws_print.proofs.Texts.{short_of, address_text_read, prefix_text_read, root_text_read}
use Rattle.nr_laws_print.proofs.Returns.{Stops}
use Rattle.nr_laws_print.proofs.Formulas.{form_returns}

-- ---- tokens with a value

gives_address : (n : Num) {rest : List Shown} → IsNumber n → Gives bare_number (bare_number n) spec.address (word k.Address (address_text n.value) ∷ rest) rest
unfolding spec.address num_of
gives_address n h = gives_map _ (gives_valued (word k.Address (address_text n.value)) address_of (address_text_read n.value (short_of n.value h))) (λ x e. ap num_of e)

prefix_at : Cidr → PrefixText
prefix_at p = record { prefix = p; span = nowhere }

gives_prefix : (p : PrefixText) {rest : List Shown} → IsPrefix p → Gives bare_prefix (bare_prefix p) spec.prefix (word k.Prefix (cidr_text p.prefix) ∷ rest) rest
unfolding spec.prefix prefix_at
gives_prefix p h = gives_map _ (gives_valued (word k.Prefix (cidr_text p.prefix)) prefix_of (prefix_text_read p.prefix h)) (λ x e.
    ap (λ (q : ℕ × ℕ). prefix_at (masked q.0 q.1)) e ∙ ap (λ (a : ℕ). prefix_at (record { addr = a; len = p.prefix.len })) h.clear)

root_at : List ℕ → RootText
root_at bytes = record { digest = record { 0 = bytes }; span = nowhere }

gives_root : (r : RootText) {rest : List Shown} → IsRoot r → Gives bare_root (bare_root r) spec.root (word k.Root (35 ∷ encode_lower r.digest.0) ∷ rest) rest
unfolding spec.root root_at
gives_root r h = gives_map _ (gives_valued (word k.Root (35 ∷ encode_lower r.digest.0)) digest_of (root_text_read r.digest.0 h.0 h.1)) (λ x e. ap root_at e)

-- ---- declarations

-- the number of `network` or `commit`
abbrev bare_numbered : Num × Span → Num
bare_numbered x = bare_number x.0

gives_numbered : (first : Shown) (n : Num) {rest : List Shown} → IsNumber n → Gives bare_numbered (bare_number n) (spec.numbered first.kind) (first ∷ word k.Number (decimal n.value) ∷ semicolon ∷ rest) rest
unfolding spec.numbered
gives_numbered first n h = gives_then (gives_expect first) (λ span _. gives_then (gives_number n h) (λ value e. gives_then (gives_expect semicolon) (λ _ _. gives_pure e)))

some_pair : (a b : RootText) (c d : Num) → a ≡ b → c ≡ d → (let x : Option (RootText × Num) = Some (a, c) in x) ≡ Some (b, d)
some_pair a b c d e f = cc (e, f)

apart_root : (rest : List Shown) → IsApart k.RootWord (semicolon ∷ rest)
unfolding same_kind
apart_root rest = record { apart = refl }

gives_key : (key : Option (RootText × Num)) {rest : List Shown} → IsKey key → Gives bare_key (bare_key key) spec.key (key_words key (semicolon ∷ rest)) (semicolon ∷ rest)
unfolding spec.key
gives_key None {rest} h = gives_unseen _ _ (apart_root rest) (gives_pure refl)
gives_key (Some (root, number)) h =
    gives_seen _ _ (gives_behind (word k.RootWord _) _ (gives_then (gives_root root h.0) (λ r p. gives_then (gives_expect (word k.NumberWord _)) (λ _ _. gives_then (gives_number number h.1) (λ n q.
    gives_pure (some_pair (bare_root r) (bare_root root) (bare_number n) (bare_number number) p q))))))

neighbour_of : (a b : Name) (c d e f : Num) (g h : Option (RootText × Num)) → a ≡ b → c ≡ d → e ≡ f → g ≡ h → decls.Neighbour a c e g ≡ decls.Neighbour b d f h
neighbour_of a b c d e f g h p q r s = cc (p, q, r, s)

gives_neighbour : (name : Name) (asn addr : Num) (key : Option (RootText × Num)) {rest : List Shown} → IsNumber asn → IsNumber addr → IsKey key
    → Gives bare_declaration (bare_declaration (decls.Neighbour name asn addr key)) spec.neighbour (declaration_words (decls.Neighbour name asn addr key) rest) rest
unfolding spec.neighbour
gives_neighbour name asn addr key hn ha hk =
    gives_behind (word k.Neighbour _) _ (gives_then (gives_name name) (λ a p. gives_then (gives_expect (word k.As _)) (λ _ _. gives_then (gives_number asn hn) (λ c q. gives_then (gives_expect (word k.At _)) (λ _ _.
    gives_then (gives_address addr ha) (λ e r. gives_then (gives_key key hk) (λ g s. gives_then (gives_expect semicolon) (λ _ _.
    gives_pure (neighbour_of (bare_name a) (bare_name name) (bare_number c) (bare_number asn) (bare_number e) (bare_number addr) (bare_key g) (bare_key key) p q r s)))))))))

-- ---- lists

abbrev items : {A : Type 0} → (A → Words) → (A → A) → List A → List (Item A)
items words view xs = map (λ x. record { words = words x; is = view x }) xs

same_words : {A : Type 0} (words : A → Words) (view : A → A) (xs : List A) → words_of (items words view xs) ≡ map words xs
same_words words view [] = refl
same_words words view (x ∷ xs) = ap (λ (ws : List Words). words x ∷ ws) (same_words words view xs)

same_values : {A : Type 0} (words : A → Words) (view : A → A) (xs : List A) → values_of (items words view xs) ≡ map view xs
same_values words view [] = refl
same_values {A} words view (x ∷ xs) = ap (λ (vs : List A). view x ∷ vs) (same_values words view xs)

-- one or more, with a comma between
gives_listed : {A : Type 0} (view : A → A) (read : Parser A) (words : A → Words) (Fits : List Shown → Type 0) (Q : A → Type 0) (xs : List A) (rest : List Shown)
    → ((x : A) → Q x → IsItem view read Fits (record { words = words x; is = view x })) → 1 ≤ length xs → AllByRecursion Q xs
    → ((more : List Shown) → Fits (comma ∷ more)) → Fits rest → IsApart k.Comma rest
    → Gives (map view) (map view xs) (Rattle.nr_spec_rules.specs.Parsing.list k.Comma read) (joined comma (map words xs) rest) rest
gives_listed view read words Fits Q [] rest each some all goes ends apart = absurd (omega arith)
gives_listed {A} view read words Fits Q (x ∷ xs) rest each some all goes ends apart =
    subst (λ (vs : List A). Gives (map view) vs (Rattle.nr_spec_rules.specs.Parsing.list k.Comma read) (joined comma (map words (x ∷ xs)) rest) rest) (same_values words view (x ∷ xs))
    (subst (λ (ws : List Words). Gives (map view) (values_of (items words view (x ∷ xs))) (Rattle.nr_spec_rules.specs.Parsing.list k.Comma read) (joined comma ws rest) rest) (same_words words view (x ∷ xs))
    (gives_list view read Fits comma (record { words = words x; is = view x }) (items words view xs) rest (all_items (x ∷ xs) all) goes ends apart))
  where
    all_items : (ys : List A) → AllByRecursion Q ys → AllByRecursion (IsItem view read Fits) (items words view ys)
    all_items [] qs = tt
    all_items (y ∷ ys) qs = (each y qs.0, all_items ys qs.1)

apart_comma : (rest : List Shown) → IsApart k.Comma (semicolon ∷ rest)
unfolding same_kind
apart_comma rest = record { apart = refl }

name_item : (n : Name) → IsItem bare_name spec.name (λ _. Unit {0}) (record { words = name_words n; is = bare_name n })
name_item n = record { grows = λ rest. omega arith; gives = λ rest fits. gives_name n }

group_of : (a b : Name) (c d : List Name) → a ≡ b → c ≡ d → decls.Group a c ≡ decls.Group b d
group_of a b c d p q = cc (p, q)

gives_group : (name : Name) (members : List Name) {rest : List Shown} → AreSome IsName members
    → Gives bare_declaration (bare_declaration (decls.Group name members)) spec.group (declaration_words (decls.Group name members) rest) rest
unfolding spec.group
gives_group name members {rest} h =
    gives_behind (word k.Group _) _ (gives_then (gives_name name) (λ a p. gives_then (gives_expect equal) (λ _ _.
    gives_then (gives_listed bare_name spec.name name_words (λ _. Unit {0}) IsName members (semicolon ∷ rest) (λ n q. name_item n) h.0 h.1 (λ more. tt) tt (apart_comma rest)) (λ ms q.
    gives_then (gives_expect semicolon) (λ _ _. gives_pure (group_of (bare_name a) (bare_name name) (map bare_name ms) (map bare_name members) p q))))))

-- a prefix isn't followed by `le`, unless it is written
pattern_at : PrefixText → Option Num → PatternText
pattern_at p most = record { prefix = p.prefix; most = most; span = nowhere }

pattern_of : (a b : PrefixText) (m n : Option Num) → a ≡ b → m ≡ n → pattern_at a m ≡ pattern_at b n
pattern_of a b m n p q = cc (p, q)

some_number : (a b : Num) → a ≡ b → (let x : Option Num = Some a in x) ≡ Some b
some_number a b e = cc e

pattern_alone : (base : PrefixText) (rest : List Shown) → IsPrefix base → IsApart k.Le rest
    → Gives bare_pattern (pattern_at base None) spec.pattern (word k.Prefix (cidr_text base.prefix) ∷ rest) rest
unfolding spec.pattern pattern_at
pattern_alone base rest h apart = gives_then (gives_prefix base h) (λ b p. gives_unseen _ _ apart (gives_pure (pattern_of (bare_prefix b) (bare_prefix base) None None p refl)))

pattern_to : (base : PrefixText) (most : Num) (rest : List Shown) → IsPrefix base → IsNumber most
    → Gives bare_pattern (pattern_at base (Some (bare_number most))) spec.pattern (word k.Prefix (cidr_text base.prefix) ∷ word k.Le (codes "le") ∷ number_words most rest) rest
unfolding spec.pattern pattern_at
pattern_to base most rest h m =
    gives_then (gives_prefix base h) (λ b p. gives_seen _ _ (gives_behind (word k.Le _) _ (gives_map _ (gives_number most m) (λ n q.
    pattern_of (bare_prefix b) (bare_prefix base) (Some (bare_number n)) (Some (bare_number most)) p (some_number (bare_number n) (bare_number most) q)))))

gives_pattern : (p : PatternText) (rest : List Shown) → IsPattern p → IsApart k.Le rest → Gives bare_pattern (bare_pattern p) spec.pattern (pattern_words p rest) rest
unfolding pattern_at
gives_pattern p rest h apart = by_most p.most h.1
  where
    by_most : (most : Option Num) → IsMost most
        → Gives bare_pattern (record { prefix = p.prefix; most = bare_most most; span = nowhere }) spec.pattern (word k.Prefix (cidr_text p.prefix) ∷ most_words most rest) rest
    by_most None m = pattern_alone (record { prefix = p.prefix; span = p.span }) rest h.0 apart
    by_most (Some most) m = pattern_to (record { prefix = p.prefix; span = p.span }) most rest h.0 m

grows_most : (most : Option Num) (rest : List Shown) → length rest ≤ length (most_words most rest)
grows_most None rest = omega arith
grows_most (Some n) rest = omega arith

pattern_item : (p : PatternText) → IsPattern p → IsItem bare_pattern spec.pattern (IsApart k.Le) (record { words = pattern_words p; is = bare_pattern p })
pattern_item p h = record { grows = λ rest. omega (arith, grows_most p.most rest); gives = λ rest apart. gives_pattern p rest h apart }

apart_le : (rest : List Shown) → IsApart k.Le (semicolon ∷ rest)
unfolding same_kind
apart_le rest = record { apart = refl }

apart_le_comma : (rest : List Shown) → IsApart k.Le (comma ∷ rest)
unfolding same_kind
apart_le_comma rest = record { apart = refl }

define_of : (a b : Name) (c d : List PatternText) → a ≡ b → c ≡ d → decls.Define a c ≡ decls.Define b d
define_of a b c d p q = cc (p, q)

gives_define : (name : Name) (patterns : List PatternText) {rest : List Shown} → AreSome IsPattern patterns
    → Gives bare_declaration (bare_declaration (decls.Define name patterns)) spec.define (declaration_words (decls.Define name patterns) rest) rest
unfolding spec.define
gives_define name patterns {rest} h =
    gives_behind (word k.Define _) _ (gives_then (gives_name name) (λ a p. gives_then (gives_expect equal) (λ _ _.
    gives_then (gives_listed bare_pattern spec.pattern pattern_words (IsApart k.Le) IsPattern patterns (semicolon ∷ rest) pattern_item h.0 h.1 apart_le_comma (apart_le rest) (apart_comma rest)) (λ ms q.
    gives_then (gives_expect semicolon) (λ _ _. gives_pure (define_of (bare_name a) (bare_name name) (map bare_pattern ms) (map bare_pattern patterns) p q))))))

-- ---- promises

prefix_item : (p : PrefixText) → IsPrefix p → IsItem bare_prefix spec.prefix (λ _. Unit {0}) (record { words = prefix_words p; is = bare_prefix p })
prefix_item p h = record { grows = λ rest. omega arith; gives = λ rest fits. gives_prefix p h }

apart_at : (rest : List Shown) → IsApart k.At (open_brace ∷ rest)
unfolding same_kind
apart_at rest = record { apart = refl }

apart_brace : (rest : List Shown) → IsApart k.Comma (open_brace ∷ rest)
unfolding same_kind
apart_brace rest = record { apart = refl }

gives_places : (at : List PrefixText) {rest : List Shown} → AllByRecursion IsPrefix at → Gives (map bare_prefix) (map bare_prefix at) spec.places (places_words at (open_brace ∷ rest)) (open_brace ∷ rest)
unfolding spec.places
gives_places [] {rest} h = gives_unseen _ _ (apart_at rest) (gives_pure refl)
gives_places (p ∷ ps) {rest} h =
    gives_seen _ _ (gives_behind (word k.At _) _ (gives_listed bare_prefix spec.prefix prefix_words (λ _. Unit {0}) IsPrefix (p ∷ ps) (open_brace ∷ rest) prefix_item (omega arith) h (λ more. tt) tt (apart_brace rest)))

abbrev bare_head : Name × Num × List PrefixText → Name × Num × List PrefixText
bare_head x = (bare_name x.0, bare_number x.1, map bare_prefix x.2)

head_of : (a b : Name) (c d : Num) (e f : List PrefixText) → a ≡ b → c ≡ d → e ≡ f → (let x : Name × Num × List PrefixText = (a, c, e) in x) ≡ (b, d, f)
head_of a b c d e f p q r = cc (p, q, r)

gives_terms : (name : Name) (grace : Num) (at : List PrefixText) {rest : List Shown} → IsNumber grace → AllByRecursion IsPrefix at
    → Gives bare_head (bare_name name, bare_number grace, map bare_prefix at) spec.terms_of_promise
    (word k.Name name.word ∷ word k.Grace (codes "grace") ∷ word k.Number (decimal grace.value) ∷ places_words at (open_brace ∷ rest)) (open_brace ∷ rest)
unfolding spec.terms_of_promise
gives_terms name grace at hg ha =
    gives_then (gives_name name) (λ a p. gives_then (gives_expect (word k.Grace _)) (λ _ _. gives_then (gives_number grace hg) (λ c q. gives_then (gives_places at ha) (λ e r.
    gives_pure (head_of (bare_name a) (bare_name name) (bare_number c) (bare_number grace) (map bare_prefix e) (map bare_prefix at) p q r)))))

stops_close_brace : (rest : List Shown) → Stops (close_brace ∷ rest)
unfolding same_kind
stops_close_brace rest = record { no_and = record { apart = refl }; no_or = record { apart = refl }; no_implies = record { apart = refl } }

gives_whole : (form : Form) {rest : List Shown} → is_written form ≡ true → depth form ≤ 64 → Gives bare_form (bare_form form) spec.whole_formula ((worded form).words (close_brace ∷ rest)) (close_brace ∷ rest)
unfolding spec.inside
gives_whole form {rest} h e = (form_returns form h).whole 64 (close_brace ∷ rest) e (stops_close_brace rest)

promise_of : (x y : Name × Num × List PrefixText) (f g : Form) → x ≡ y → f ≡ g → decls.Promise x.0 x.1 x.2 f ≡ decls.Promise y.0 y.1 y.2 g
promise_of x y f g e h = ap (λ (z : Name × Num × List PrefixText). decls.Promise z.0 z.1 z.2 f) e ∙ ap (λ (z : Form). decls.Promise y.0 y.1 y.2 z) h

gives_promise : (name : Name) (grace : Num) (at : List PrefixText) (form : Form) {rest : List Shown} → IsNumber grace → AllByRecursion IsPrefix at → is_written form ≡ true → depth form ≤ 64
    → Gives bare_declaration (bare_declaration (decls.Promise name grace at form)) spec.promise (declaration_words (decls.Promise name grace at form) rest) rest
unfolding spec.promise
gives_promise name grace at form hg ha hf he =
    gives_behind (word k.Promise _) _ (gives_then (gives_terms name grace at hg ha) (λ head p. gives_then (gives_expect open_brace) (λ _ _. gives_then (gives_whole form hf he) (λ held q.
    gives_then (gives_expect close_brace) (λ _ _. gives_pure (promise_of (bare_head head) (bare_name name, bare_number grace, map bare_prefix at) (bare_form held) (bare_form form) p q))))))

-- ---- a declaration

pub gives_declaration : (d : Decl) (rest : List Shown) → IsWritten d → IsNested d → Gives bare_declaration (bare_declaration d) spec.declaration (declaration_words d rest) rest
unfolding spec.declaration
gives_declaration (decls.Network value span) rest h e =
    gives_by_kind spec.declaration_by (word k.Network _) (gives_map (λ (x : Num × Span). decls.Network x.0 x.1) (gives_numbered (word k.Network _) value h) (λ x p. ap (λ (n : Num). decls.Network n nowhere) p))
gives_declaration (decls.Commit value span) rest h e =
    gives_by_kind spec.declaration_by (word k.Commit _) (gives_map (λ (x : Num × Span). decls.Commit x.0 x.1) (gives_numbered (word k.Commit _) value h) (λ x p. ap (λ (n : Num). decls.Commit n nowhere) p))
gives_declaration (decls.Neighbour name asn addr key) rest h e = gives_by_kind spec.declaration_by (word k.Neighbour _) (gives_neighbour name asn addr key h.1 h.2 h.3)
gives_declaration (decls.Group name members) rest h e = gives_by_kind spec.declaration_by (word k.Group _) (gives_group name members h.1)
gives_declaration (decls.Define name patterns) rest h e = gives_by_kind spec.declaration_by (word k.Define _) (gives_define name patterns h.1)
gives_declaration (decls.Promise name grace at form) rest h e = gives_by_kind spec.declaration_by (word k.Promise _) (gives_promise name grace at form h.1 h.2 h.3 e)

-- ---- how many words there are

grows_all : {A : Type 0} (words : A → Words) → ((x : A) (rest : List Shown) → length rest ≤ length (words x rest)) → (xs : List A)
    → AllByRecursion (λ (w : Words). (rest : List Shown) → length rest ≤ length (w rest)) (map words xs)
grows_all words h [] = tt
grows_all words h (x ∷ xs) = (h x, grows_all words h xs)

grows_pattern : (p : PatternText) (rest : List Shown) → length rest ≤ length (pattern_words p rest)
grows_pattern p rest = omega (arith, grows_most p.most rest)

grows_key : (key : Option (RootText × Num)) (rest : List Shown) → length rest ≤ length (key_words key rest)
grows_key None rest = omega arith
grows_key (Some (root, number)) rest = omega arith

grows_places : (at : List PrefixText) (rest : List Shown) → length rest ≤ length (places_words at rest)
grows_places [] rest = omega arith
grows_places (p ∷ ps) rest = omega (arith, grows_joined comma (map prefix_words (p ∷ ps)) (grows_all prefix_words (λ x more. omega arith) (p ∷ ps)) rest)

pub grows_declaration : (d : Decl) (rest : List Shown) → IsWritten d → length rest < length (declaration_words d rest)
grows_declaration (decls.Network value span) rest h = omega arith
grows_declaration (decls.Commit value span) rest h = omega arith
grows_declaration (decls.Neighbour name asn addr key) rest h = omega (arith, grows_key key (semicolon ∷ rest))
grows_declaration (decls.Group name members) rest h = omega (arith, grows_joined comma (map name_words members) (grows_all name_words (λ x more. omega arith) members) (semicolon ∷ rest))
grows_declaration (decls.Define name patterns) rest h = omega (arith, grows_joined comma (map pattern_words patterns) (grows_all pattern_words grows_pattern patterns) (semicolon ∷ rest))
grows_declaration (decls.Promise name grace at form) rest h =
    omega (arith, grows_places at (open_brace ∷ (worded form).words (close_brace ∷ rest)), (form_returns form h.3).grows (close_brace ∷ rest))
