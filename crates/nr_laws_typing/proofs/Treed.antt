-- The tree of a promise, along the declarations.
use Rattle.std.proofs.Common.{◌≡◌, ℕ, zero, suc, true, ◌&&◌, List, [], ◌∷◌, ◌++◌, length, slice_get, nat_lt, is_none, count_by, Option, Some, Result, Ok, refl, ap, sym, subst, ◌∙◌}
use Rattle.nr_chain.specs.declared.digest.Digest.{Digest}
use Rattle.nr_spec_rules.specs.declared.span.Span.{Span}
use Rattle.nr_spec_bgp.specs.Prefixes.{Cidr}
use Rattle.nr_prefix.specs.declared.set.Pattern.{Pattern}
use Rattle.nr_spec_wire.specs.Reading.{◌>>=◌, wants}
use Rattle.nr_rule_syntax.specs.declared.tree.Name.{Name}
use Rattle.nr_rule_syntax.specs.declared.tree.Num.{Num}
use Rattle.nr_rule_syntax.specs.declared.tree.RootText.{RootText}
use Rattle.nr_rule_syntax.specs.declared.tree.PatternText.{PatternText}
use Rattle.nr_rule_syntax.specs.declared.tree.PrefixText.{PrefixText}
use Rattle.nr_rule_syntax.specs.declared.tree.Form.{Form}
use Rattle.nr_rule_syntax.specs.declared.tree.File.{File}
use Rattle.nr_rule_syntax.specs.declared.tree.Decl.{Decl}
use Rattle.nr_rule_syntax.specs.declared.tree.Decl.TheVariants as decls
use Rattle.nr_spec_typing.specs.declared.name.Named.TheVariants as named
use Rattle.nr_spec_typing.specs.declared.text.Promise.{Promise}
use Rattle.nr_spec_typing.specs.declared.tree.Typing.{Typing}
use Rattle.nr_spec_typing.specs.Steps.{all_of, in_turn}
use Rattle.nr_spec_typing.specs.Scopes.{Scope}
use Rattle.nr_spec_typing.specs.Forms.{typed}
use Rattle.nr_spec_typing.specs.Declarations.{TypedText, Known, nothing, is_group, is_define, is_new, declare, most_seconds, at_most, network, commit, is_neighbour_name, key_of, neighbour, members, group, pattern, define, places, promise, declaration, declarations, whole, typed_text}
use Rattle.nr_spec_typing.proofs.Fitting.{chained, passed}
use Rattle.nr_spec_typing.proofs.Differ.{kept, whole_lists}
use Rattle.nr_laws_typing.specs.Trees.{HasTree}
use Rattle.nr_laws_typing.proofs.Judged.{Mirrors, nothing_mirrors, declaration_mirrors}

ok_same : {A : Type 0} (x y : A) → wants true 0 x ≡ Ok y → x ≡ y
ok_same x y h = cc

-- ---- lists

goes_on : {A : Type 0} (xs ys : List A) (i : ℕ) (x : A) → slice_get xs i ≡ Some x → slice_get (xs ++ ys) i ≡ Some x
goes_on [] ys i x h = cc
goes_on (y ∷ xs) ys zero x h = h
goes_on (y ∷ xs) ys (suc i) x h = goes_on xs ys i x h

next_one : {A : Type 0} (xs : List A) (x : A) → slice_get (xs ++ x ∷ []) (length xs) ≡ Some x
next_one [] x = refl
next_one (y ∷ xs) x = next_one xs x

-- ---- the walk up to a place, and from there on

pub record Halves {A S : Type 0} (step : S → A → Result S ℕ) (s : S) (xs : List A) (x : A) (ys : List A) (t : S) : Type 0 where
  pub here : S
  pub next : S
  pub up_to : in_turn step s xs ≡ Ok here
  pub one : step here x ≡ Ok next
  pub from : in_turn step next ys ≡ Ok t

pub halves : {A S : Type 0} (step : S → A → Result S ℕ) (s : S) (xs : List A) (x : A) (ys : List A) (t : S) → in_turn step s (xs ++ x ∷ ys) ≡ Ok t → Halves step s xs x ys t
unfolding in_turn
halves step s [] x ys t h =
    let p = chained (λ next. in_turn step next ys) (step s x) t h in
    record { here = s; next = p.0; up_to = refl; one = p.1; from = p.2 }
halves step s (y ∷ xs) x ys t h =
    let p = chained (λ next. in_turn step next (xs ++ x ∷ ys)) (step s y) t h in
    let q = halves step p.0 xs x ys t p.2 in
    record { here = q.here; next = q.next; up_to = ap (λ r. r >>= (λ next. in_turn step next xs)) p.1 ∙ q.up_to; one = q.one; from = q.from }

-- ---- promises stay

-- this promise has this number
abbrev HasPromise : ℕ → Promise → Known → Type 0
HasPromise i x k = slice_get k.promises i ≡ Some x

network_stays : (i : ℕ) (x : Promise) (k next : Known) (value : Num) (span : Span) → HasPromise i x k → network k value span ≡ Ok next → HasPromise i x next
unfolding network
network_stays i x k next value span s h = subst (HasPromise i x) (passed (is_none k.network) span.from (record k { network = Some value.value }) next h).1 s

commit_stays : (i : ℕ) (x : Promise) (k next : Known) (value : Num) (span : Span) → HasPromise i x k → commit k value span ≡ Ok next → HasPromise i x next
unfolding commit
commit_stays i x k next value span s h =
    let p = chained (λ first. at_most most_seconds first >>= (λ seconds. Ok (record k { commit = Some seconds }))) (wants (is_none k.commit) span.from value) next h in
    let q = chained (λ seconds. Ok (record k { commit = Some seconds })) (at_most most_seconds p.0) next p.2 in
    subst (HasPromise i x) (ok_same (record k { commit = Some q.0 }) next q.2) s

neighbour_stays : (i : ℕ) (x : Promise) (k next : Known) (name : Name) (asn addr : Num) (signs : Option (RootText × Num)) → HasPromise i x k → neighbour k name asn addr signs ≡ Ok next → HasPromise i x next
unfolding neighbour
neighbour_stays i x k next name asn addr signs s h =
    let make : Name → Option (Digest × ℕ) → Known = λ called key. record k {
      names = declare k.names called (named.Neighbour (length k.neighbours));
      neighbours = k.neighbours ++ record { name = called.word; asn = asn.value; addr = addr.value; key = key } ∷ [];
    } in
    let p = chained (λ called. key_of signs >>= (λ key. Ok (make called key))) (wants (is_neighbour_name k name asn addr signs) name.span.from name) next h in
    let q = chained (λ key. Ok (make p.0 key)) (key_of signs) next p.2 in
    subst (HasPromise i x) (ok_same (make p.0 q.0) next q.2) s

group_stays : (i : ℕ) (x : Promise) (k next : Known) (name : Name) (texts : List Name) → HasPromise i x k → group k name texts ≡ Ok next → HasPromise i x next
unfolding group
group_stays i x k next name texts s h =
    let make : Name → List ℕ → Known = λ called numbers. record k { names = declare k.names called (named.Group numbers) } in
    let p = chained (λ called. members k.names texts >>= (λ numbers. Ok (make called numbers))) (wants (is_new k.names name && nat_lt (count_by is_group k.names) 64) name.span.from name) next h in
    let q = chained (λ numbers. Ok (make p.0 numbers)) (members k.names texts) next p.2 in
    subst (HasPromise i x) (ok_same (make p.0 q.0) next q.2) s

define_stays : (i : ℕ) (x : Promise) (k next : Known) (name : Name) (texts : List PatternText) → HasPromise i x k → define k name texts ≡ Ok next → HasPromise i x next
unfolding define
define_stays i x k next name texts s h =
    let make : Name → List Pattern → Known = λ called set. record k { names = declare k.names called (named.Define set) } in
    let p = chained (λ called. all_of pattern texts >>= (λ set. Ok (make called set))) (wants (is_new k.names name && nat_lt (count_by is_define k.names) 64) name.span.from name) next h in
    let q = chained (λ set. Ok (make p.0 set)) (all_of pattern texts) next p.2 in
    subst (HasPromise i x) (ok_same (make p.0 q.0) next q.2) s

-- what a promise's declaration adds
pub record Adds (k next : Known) (name : Name) (form : Form) : Type 0 where
  pub promise : Promise
  pub called : promise.name ≡ name.word
  pub tree : typed form (record { names = declare k.names name named.Promise; variables = [] }) ≡ Ok promise.form
  pub promises : next.promises ≡ k.promises ++ promise ∷ []

promise_adds : (k next : Known) (name : Name) (grace : Num) (at : List PrefixText) (form : Form) → promise k name grace at form ≡ Ok next → Adds k next name form
unfolding promise
promise_adds k next name grace at form h =
    let scope : Name → Scope = λ called. record { names = declare k.names called named.Promise; variables = [] } in
    let made : Name → ℕ → List Cidr → Typing → Promise = λ called seconds prefixes held. record { name = called.word; grace = seconds; at = prefixes; form = held } in
    let make : Name → ℕ → List Cidr → Typing → Known = λ called seconds prefixes held. record k {
      names = declare k.names called named.Promise;
      promises = k.promises ++ made called seconds prefixes held ∷ [];
    } in
    let test = is_new k.names name && nat_lt (length k.promises) 256 in
    let p = chained (λ called. at_most most_seconds grace >>= (λ seconds. places at >>= (λ prefixes. typed form (scope called) >>= (λ held. Ok (make called seconds prefixes held))))) (wants test name.span.from name) next h in
    let q = chained (λ seconds. places at >>= (λ prefixes. typed form (scope p.0) >>= (λ held. Ok (make p.0 seconds prefixes held)))) (at_most most_seconds grace) next p.2 in
    let r = chained (λ prefixes. typed form (scope p.0) >>= (λ held. Ok (make p.0 q.0 prefixes held))) (places at) next q.2 in
    let u = chained (λ held. Ok (make p.0 q.0 r.0 held)) (typed form (scope p.0)) next r.2 in
    let same : name ≡ p.0 = (passed test name.span.from name p.0 p.1).1 in
    record {
      promise = made p.0 q.0 r.0 u.0;
      called = ap (λ (n : Name). n.word) (sym same);
      tree = ap (λ n. typed form (scope n)) same ∙ u.1;
      promises = ap (λ (k : Known). k.promises) (sym (ok_same (make p.0 q.0 r.0 u.0) next u.2));
    }

promise_stays : (i : ℕ) (x : Promise) (k next : Known) (name : Name) (grace : Num) (at : List PrefixText) (form : Form) → HasPromise i x k → promise k name grace at form ≡ Ok next → HasPromise i x next
promise_stays i x k next name grace at form s h =
    let a = promise_adds k next name grace at form h in
    subst (λ l. slice_get l i ≡ Some x) (sym a.promises) (goes_on k.promises (a.promise ∷ []) i x s)

declaration_stays : (i : ℕ) (x : Promise) (k : Known) (d : Decl) (next : Known) → HasPromise i x k → declaration k d ≡ Ok next → HasPromise i x next
declaration_stays i x k (decls.Network value span) next s h = network_stays i x k next value span s h
declaration_stays i x k (decls.Commit value span) next s h = commit_stays i x k next value span s h
declaration_stays i x k (decls.Neighbour name asn addr key) next s h = neighbour_stays i x k next name asn addr key s h
declaration_stays i x k (decls.Group name texts) next s h = group_stays i x k next name texts s h
declaration_stays i x k (decls.Define name texts) next s h = define_stays i x k next name texts s h
declaration_stays i x k (decls.Promise name grace at form) next s h = promise_stays i x k next name grace at form s h

all_stay : (i : ℕ) (x : Promise) (ds : List Decl) (k t : Known) → HasPromise i x k → in_turn declaration k ds ≡ Ok t → HasPromise i x t
unfolding in_turn
all_stay i x [] k t s h = subst (HasPromise i x) (ok_same k t h) s
all_stay i x (d ∷ ds) k t s h =
    let p = chained (λ next. in_turn declaration next ds) (declaration k d) t h in
    all_stay i x ds p.0 t (declaration_stays i x k d p.0 s p.1) p.2

-- ---- the whole text

pub has_tree : (file : File) (text : TypedText) (before after : List Decl) (name : Name) (grace : Num) (at : List PrefixText) (form : Form) → typed_text file ≡ Ok text
    → file.decls ≡ before ++ decls.Promise name grace at form ∷ after → HasTree text before name form
unfolding typed_text
has_tree file text before after name grace at form h e =
    let d = decls.Promise name grace at form in
    let p = chained (λ known. whole file.end known) (declarations file.decls) text h in
    let all : declarations (before ++ d ∷ after) ≡ Ok p.0 = ap declarations (sym e) ∙ p.1 in
    let w = halves declaration nothing before d after p.0 all in
    let a = promise_adds w.here w.next name grace at form w.one in
    let m : Mirrors before w.here = kept declaration Mirrors declaration_mirrors [] before nothing w.here nothing_mirrors w.up_to in
    let fresh : HasPromise (length w.here.promises) a.promise w.next = subst (λ l. slice_get l (length w.here.promises) ≡ Some a.promise) (sym a.promises) (next_one w.here.promises a.promise) in
    let stands : HasPromise (length w.here.promises) a.promise p.0 = all_stay (length w.here.promises) a.promise after w.next p.0 fresh w.from in
    let lists = whole_lists file.end p.0 p.0.network p.0.commit text p.2 in
    record {
      promise = a.promise;
      stands = subst (λ n. slice_get text.promises n ≡ Some a.promise) m.promises (subst (λ l. slice_get l (length w.here.promises) ≡ Some a.promise) lists.1 stands);
      called = a.called;
      known = w.here;
      says = w.up_to;
      tree = a.tree;
    }
