-- The numbers of neighbours, declaration by declaration.
use Rattle.std.proofs.Common.{◌≡◌, ℕ, zero, suc, Bool, true, false, ◌&&◌, not, cond, List, [], ◌∷◌, ◌++◌, length, slice_get, nat_lt, is_none, count_by, Option, Some, None, Ok, inl, inr, refl, ap, sym, subst, ◌∙◌}
use Rattle.std.specs.List.{list_any}
use Rattle.std.specs.Str.{bytes_eq}
use Rattle.std.proofs.lemmas.Slice.Eq.{bytes_eq-Decides}
use Rattle.nr_chain.specs.declared.digest.Digest.{Digest}
use Rattle.nr_spec_bgp.specs.Prefixes.{Cidr}
use Rattle.nr_prefix.specs.declared.set.Pattern.{Pattern}
use Rattle.nr_spec_wire.specs.Reading.{◌>>=◌, wants}
use Rattle.nr_rule_syntax.specs.declared.tree.Name.{Name}
use Rattle.nr_rule_syntax.specs.declared.tree.Num.{Num}
use Rattle.nr_rule_syntax.specs.declared.tree.RootText.{RootText}
use Rattle.nr_rule_syntax.specs.declared.tree.Decl.{Decl}
use Rattle.nr_rule_syntax.specs.declared.tree.Decl.TheVariants as decls
use Rattle.nr_spec_typing.specs.declared.name.Named.{Named}
use Rattle.nr_spec_typing.specs.declared.name.Named.TheVariants as named
use Rattle.nr_spec_typing.specs.declared.name.Declared.{Declared}
use Rattle.nr_spec_typing.specs.declared.text.Neighbour.{Neighbour}
use Rattle.nr_spec_typing.specs.declared.tree.Typing.{Typing}
use Rattle.nr_spec_typing.specs.Steps.{all_of}
use Rattle.nr_spec_typing.specs.Scopes.{Scope, meaning}
use Rattle.nr_spec_typing.specs.Forms.{typed}
use Rattle.nr_spec_typing.specs.Declarations.{Known, nothing, is_group, is_define, is_new, declare, most_seconds, at_most, network, commit, is_like, is_neighbour_name, key_of, neighbour, members, group, pattern, define, places, promise, declaration, declarations}
use Rattle.nr_spec_typing.proofs.Fitting.{chained, passed, left}
use Rattle.nr_laws_typing.specs.Numbered.{AreNumbered}
use Rattle.nr_spec_typing.proofs.Differ.{kept, got}
use Rattle.nr_laws_typing.proofs.Judged.{meant}
use Rattle.nr_laws_typing.proofs.Saying.{Said, declaration_said, nothing_said}

ok_same : {A : Type 0} (x y : A) → wants true 0 x ≡ Ok y → x ≡ y
ok_same x y h = cc

pub record IsNumbered (k : Known) : Type 0 where
  pub means : (n : ℕ) (x : Neighbour) → slice_get k.neighbours n ≡ Some x → meaning k.names x.name ≡ Some (named.Neighbour n)
  pub meant : (n : ℕ) (word : List ℕ) → meaning k.names word ≡ Some (named.Neighbour n) → (x : Neighbour) × (slice_get k.neighbours n ≡ Some x) × (x.name ≡ word)

-- what a name meant it goes on to mean
stays_step : (b : Bool) (m x : Named) (rest more : Option Named) → (rest ≡ Some x → more ≡ Some x) → cond b (Some m) rest ≡ Some x → cond b (Some m) more ≡ Some x
stays_step true m x rest more f h = h
stays_step false m x rest more f h = f h

stays : (names : List Declared) (d : Declared) (word : List ℕ) (x : Named) → meaning names word ≡ Some x → meaning (names ++ d ∷ []) word ≡ Some x
stays [] d word x h = cc
stays (e ∷ names) d word x h = stays_step (bytes_eq e.word word) e.means x (meaning names word) (meaning (names ++ d ∷ []) word) (stays names d word x) h

-- a new name means what it was declared as
new_step : (b : Bool) (m x : Named) (rest more : Option Named) → (is_none rest ≡ true → more ≡ Some x) → is_none (cond b (Some m) rest) ≡ true → cond b (Some m) more ≡ Some x
new_step true m x rest more f h = cc
new_step false m x rest more f h = f h

new_means : (names : List Declared) (d : Declared) → is_none (meaning names d.word) ≡ true → meaning (names ++ d ∷ []) d.word ≡ Some d.means
new_means [] d h = ap (λ b. let o : Option Named = cond b (Some d.means) None in o) ((bytes_eq-Decides d.word d.word).1 refl)
new_means (e ∷ names) d h = new_step (bytes_eq e.word d.word) e.means d.means (meaning names d.word) (meaning (names ++ d ∷ []) d.word) (new_means names d) h

-- a name that is no neighbour's
other_numbered : (k : Known) (name : Name) (m : Named) → ((n : ℕ) → m ≡ named.Neighbour n → ⊥) → IsNumbered k → IsNumbered (record k { names = declare k.names name m })
other_numbered k name m other g = record {
  means = λ n x h. stays k.names (record { word = name.word; means = m }) x.name (named.Neighbour n) (g.means n x h);
  meant = λ n word h. elim (meant k.names (record { word = name.word; means = m }) word (named.Neighbour n) h) [ inl e ↦ g.meant n word e | inr e ↦ absurd (other n e.1) ];
}

number_in : Named → ℕ
number_in (named.Neighbour n) = n
number_in _ = 0

same_number_in : (n m : ℕ) → named.Neighbour n ≡ named.Neighbour m → n ≡ m
unfolding number_in
same_number_in n m e = ap number_in e

last_at : {A : Type 0} (xs : List A) (x : A) → slice_get (xs ++ x ∷ []) (length xs) ≡ Some x
last_at [] x = refl
last_at (y ∷ xs) x = last_at xs x

before_at : {A : Type 0} (xs : List A) (x : A) (n : ℕ) (y : A) → slice_get xs n ≡ Some y → slice_get (xs ++ x ∷ []) n ≡ Some y
before_at [] x n y h = cc
before_at (z ∷ xs) x zero y h = h
before_at (z ∷ xs) x (suc n) y h = before_at xs x n y h

neighbour_numbered : (k next : Known) (name : Name) (asn addr : Num) (signs : Option (RootText × Num)) → IsNumbered k → neighbour k name asn addr signs ≡ Ok next → IsNumbered next
unfolding neighbour
neighbour_numbered k next name asn addr signs g h =
    let make : Name → Option (Digest × ℕ) → Known = λ called key. record k {
      names = declare k.names called (named.Neighbour (length k.neighbours));
      neighbours = k.neighbours ++ record { name = called.word; asn = asn.value; addr = addr.value; key = key } ∷ [];
    } in
    let test = is_neighbour_name k name asn addr signs in
    let p = chained (λ called. key_of signs >>= (λ key. Ok (make called key))) (wants test name.span.from name) next h in
    let q = chained (λ key. Ok (make p.0 key)) (key_of signs) next p.2 in
    let t = passed test name.span.from name p.0 p.1 in
    let fresh = left (is_new k.names name) (nat_lt (length k.neighbours) 256) (left (is_new k.names name && nat_lt (length k.neighbours) 256) (not (list_any (is_like asn addr signs) k.neighbours)) t.0) in
    let d : Declared = record { word = name.word; means = named.Neighbour (length k.neighbours) } in
    let y : Neighbour = record { name = name.word; asn = asn.value; addr = addr.value; key = q.0 } in
    subst IsNumbered (ap (λ n. make n q.0) t.1 ∙ ok_same (make p.0 q.0) next q.2) (record {
      means = λ n x e. elim (got k.neighbours y n x e) [
        | inl f ↦ stays k.names d x.name (named.Neighbour n) (g.means n x f)
        | inr f ↦ ap (meaning (k.names ++ d ∷ [])) (sym (ap (λ (x : Neighbour). x.name) f.1)) ∙ new_means k.names d fresh ∙ ap (λ n. let o : Option Named = Some (named.Neighbour n) in o) (sym f.0)
      ];
      meant = λ n word e. elim (meant k.names d word (named.Neighbour n) e) [
        | inl f ↦ (let x = g.meant n word f in (x.0, before_at k.neighbours y n x.0 x.1, x.2))
        | inr f ↦ (y, ap (λ n. slice_get (k.neighbours ++ y ∷ []) n) (sym (same_number_in (length k.neighbours) n f.1)) ∙ last_at k.neighbours y, (bytes_eq-Decides name.word word).0 f.0)
      ];
    })

declaration_numbered : (k : Known) (d : Decl) (next : Known) → IsNumbered k → declaration k d ≡ Ok next → IsNumbered next
unfolding network commit group define promise
declaration_numbered k (decls.Network value span) next g h =
    let made : Known = record k { network = Some value.value } in
    subst IsNumbered (passed (is_none k.network) span.from made next h).1 (record { means = g.means; meant = g.meant })
declaration_numbered k (decls.Commit value span) next g h =
    let p = chained (λ first. at_most most_seconds first >>= (λ seconds. Ok (record k { commit = Some seconds }))) (wants (is_none k.commit) span.from value) next h in
    let q = chained (λ seconds. Ok (record k { commit = Some seconds })) (at_most most_seconds p.0) next p.2 in
    let made : Known = record k { commit = Some q.0 } in
    subst IsNumbered (ok_same made next q.2) (record { means = g.means; meant = g.meant })
declaration_numbered k (decls.Neighbour name asn addr key) next g h = neighbour_numbered k next name asn addr key g h
declaration_numbered k (decls.Group name texts) next g h =
    let make : Name → List ℕ → Known = λ called numbers. record k { names = declare k.names called (named.Group numbers) } in
    let p = chained (λ called. members k.names texts >>= (λ numbers. Ok (make called numbers))) (wants (is_new k.names name && nat_lt (count_by is_group k.names) 64) name.span.from name) next h in
    let q = chained (λ numbers. Ok (make p.0 numbers)) (members k.names texts) next p.2 in
    subst IsNumbered (ok_same (make p.0 q.0) next q.2) (other_numbered k p.0 (named.Group q.0) (λ n e. cc) g)
declaration_numbered k (decls.Define name texts) next g h =
    let make : Name → List Pattern → Known = λ called set. record k { names = declare k.names called (named.Define set) } in
    let p = chained (λ called. all_of pattern texts >>= (λ set. Ok (make called set))) (wants (is_new k.names name && nat_lt (count_by is_define k.names) 64) name.span.from name) next h in
    let q = chained (λ set. Ok (make p.0 set)) (all_of pattern texts) next p.2 in
    subst IsNumbered (ok_same (make p.0 q.0) next q.2) (other_numbered k p.0 (named.Define q.0) (λ n e. cc) g)
declaration_numbered k (decls.Promise name grace at form) next g h =
    let scope : Name → Scope = λ called. record { names = declare k.names called named.Promise; variables = [] } in
    let make : Name → ℕ → List Cidr → Typing → Known = λ called seconds prefixes held. record k {
      names = declare k.names called named.Promise;
      promises = k.promises ++ record { name = called.word; grace = seconds; at = prefixes; form = held } ∷ [];
    } in
    let p = chained (λ called. at_most most_seconds grace >>= (λ seconds. places at >>= (λ prefixes. typed form (scope called) >>= (λ held. Ok (make called seconds prefixes held))))) (wants (is_new k.names name && nat_lt (length k.promises) 256) name.span.from name) next h in
    let q = chained (λ seconds. places at >>= (λ prefixes. typed form (scope p.0) >>= (λ held. Ok (make p.0 seconds prefixes held)))) (at_most most_seconds grace) next p.2 in
    let r = chained (λ prefixes. typed form (scope p.0) >>= (λ held. Ok (make p.0 q.0 prefixes held))) (places at) next q.2 in
    let u = chained (λ held. Ok (make p.0 q.0 r.0 held)) (typed form (scope p.0)) next r.2 in
    let o = other_numbered k p.0 named.Promise (λ n e. cc) g in
    subst IsNumbered (ok_same (make p.0 q.0 r.0 u.0) next u.2) (record { means = o.means; meant = o.meant })

nothing_numbered : IsNumbered nothing
nothing_numbered = record { means = λ n x h. cc; meant = λ n word h. cc }

pub numbered : (before : List Decl) (k : Known) → declarations before ≡ Ok k → AreNumbered before k.names
numbered before k h =
    let g = kept declaration (λ before k. IsNumbered k) (λ before k d next i e. declaration_numbered k d next i e) [] before nothing k nothing_numbered h in
    let s = kept declaration Said declaration_said [] before nothing k nothing_said h in
    record {
      means = λ n x e. g.means n x (ap (λ l. slice_get l n) s.neighbours ∙ e);
      meant = λ n word e. let x = g.meant n word e in (x.0, sym (ap (λ l. slice_get l n) s.neighbours) ∙ x.1, x.2);
    }
