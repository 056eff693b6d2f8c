-- What is said, declaration by declaration.
use Rattle.std.proofs.Common.{◌≡◌, ℕ, true, ◌&&◌, List, [], ◌∷◌, ◌++◌, map, length, slice_get, nat_lt, nat_le, is_none, count_by, Option, Some, None, Ok, refl, ap, sym, subst, ◌∙◌, append-nil}
use Rattle.std.proofs.lemmas.List.{map-append}
use Rattle.std.proofs.lemmas.Grind.{flat_map-append}
use Rattle.std.specs.List.{flat_map}
use Rattle.nr_chain.specs.declared.digest.Digest.{Digest}
use Rattle.nr_spec_rules.specs.declared.span.Span.{Span}
use Rattle.nr_spec_bgp.specs.Prefixes.{Cidr}
use Rattle.nr_prefix.specs.declared.set.Pattern.{Pattern}
use Rattle.nr_spec_wire.specs.Reading.{◌>>=◌, wants}
use Rattle.nr_rule_syntax.specs.declared.tree.Name.{Name}
use Rattle.nr_rule_syntax.specs.declared.tree.Num.{Num}
use Rattle.nr_rule_syntax.specs.declared.tree.RootText.{RootText}
use Rattle.nr_rule_syntax.specs.declared.tree.PatternText.{PatternText}
use Rattle.nr_rule_syntax.specs.declared.tree.PrefixText.{PrefixText}
use Rattle.nr_rule_syntax.specs.declared.tree.Form.{Form}
use Rattle.nr_rule_syntax.specs.declared.tree.File.{File}
use Rattle.nr_rule_syntax.specs.declared.tree.Decl.{Decl}
use Rattle.nr_rule_syntax.specs.declared.tree.Decl.TheVariants as decls
use Rattle.nr_spec_typing.specs.declared.name.Named.TheVariants as named
use Rattle.nr_spec_typing.specs.declared.text.Neighbour.{Neighbour}
use Rattle.nr_spec_typing.specs.declared.text.Promise.{Promise}
use Rattle.nr_spec_typing.specs.declared.tree.Typing.{Typing}
use Rattle.nr_spec_typing.specs.Steps.{all_of}
use Rattle.nr_spec_typing.specs.Scopes.{Scope}
use Rattle.nr_spec_typing.specs.Forms.{typed}
use Rattle.nr_spec_typing.specs.Declarations.{TypedText, Known, nothing, is_group, is_define, is_new, declare, most_seconds, at_most, network, commit, is_neighbour_name, key_of, neighbour, members, group, pattern, define, places_by, places, promise, declaration, declarations, whole_by, whole, typed_text}
use Rattle.nr_spec_typing.proofs.Fitting.{mapped, chained, passed}
use Rattle.nr_laws_typing.specs.Says.{key_said, Head, head_of, network_in, commit_in, neighbour_in, head_in, Says}
use Rattle.nr_spec_typing.proofs.Differ.{kept}

ok_same : {A : Type 0} (x y : A) → wants true 0 x ≡ Ok y → x ≡ y
ok_same x y h = cc

abbrev pub listed : Option ℕ → List ℕ
listed None = []
listed (Some n) = n ∷ []

pub record Said (before : List Decl) (k : Known) : Type 0 where
  pub network : flat_map network_in before ≡ listed k.network
  pub commit : flat_map commit_in before ≡ listed k.commit
  pub neighbours : k.neighbours ≡ flat_map neighbour_in before
  pub promises : map head_of k.promises ≡ flat_map head_in before

one_more : {A : Type 0} (f : Decl → List A) (before : List Decl) (d : Decl) → flat_map f (before ++ d ∷ []) ≡ flat_map f before ++ f d
one_more f before d = flat_map-append f before (d ∷ []) ∙ ap (λ l. flat_map f before ++ l) (append-nil (f d))

none_more : {A : Type 0} (f : Decl → List A) (before : List Decl) (d : Decl) → f d ≡ [] → flat_map f (before ++ d ∷ []) ≡ flat_map f before
none_more f before d e = one_more f before d ∙ ap (λ l. flat_map f before ++ l) e ∙ append-nil (flat_map f before)

was_none : (o : Option ℕ) (l : List ℕ) → is_none o ≡ true → l ≡ listed o → l ≡ []
was_none None l h e = e
was_none (Some n) l h e = cc

first_listed : (f : Decl → List ℕ) (before : List Decl) (d : Decl) (o : Option ℕ) (n : ℕ) → is_none o ≡ true → flat_map f before ≡ listed o → f d ≡ n ∷ [] → flat_map f (before ++ d ∷ []) ≡ listed (Some n)
first_listed f before d o n h e g = one_more f before d ∙ ap (λ l. l ++ f d) (was_none o (flat_map f before) h e) ∙ g

at_most_same : (most : ℕ) (n : Num) (x : ℕ) → at_most most n ≡ Ok x → n.value ≡ x
at_most_same most n x h = (passed (nat_le n.value most) n.span.from n.value x h).1

key_same : (signs : Option (RootText × Num)) (key : Option (Digest × ℕ)) → key_of signs ≡ Ok key → key ≡ key_said signs
key_same None key h = let none : Option (Digest × ℕ) = None in let e : none ≡ key = ok_same none key h in sym e
key_same (Some sign) key h =
    let make : ℕ → Option (Digest × ℕ) = λ n. Some (sign.0.digest, n) in
    let p = mapped make (at_most 255 sign.1) key h in
    sym p.2 ∙ ap make (sym (at_most_same 255 sign.1 p.0 p.1))

places_same_by : (at : List PrefixText) (over : Option PrefixText) (found : List Cidr) → places_by at over ≡ Ok found → found ≡ map (λ (p : PrefixText). p.prefix) at
places_same_by at None found h = sym (ok_same (map (λ (p : PrefixText). p.prefix) at) found h)
places_same_by at (Some p) found h = cc

-- nothing is said
quiet : (before : List Decl) (d : Decl) (k next : Known) → network_in d ≡ [] → commit_in d ≡ [] → neighbour_in d ≡ [] → head_in d ≡ [] → next.network ≡ k.network → next.commit ≡ k.commit
    → next.neighbours ≡ k.neighbours → next.promises ≡ k.promises → Said before k → Said (before ++ d ∷ []) next
quiet before d k next a b c e f g h i s = record {
  network = none_more network_in before d a ∙ s.network ∙ ap listed (sym f);
  commit = none_more commit_in before d b ∙ s.commit ∙ ap listed (sym g);
  neighbours = h ∙ s.neighbours ∙ sym (none_more neighbour_in before d c);
  promises = ap (map head_of) i ∙ s.promises ∙ sym (none_more head_in before d e);
}

network_said : (before : List Decl) (k next : Known) (value : Num) (span : Span) → Said before k → network k value span ≡ Ok next → Said (before ++ decls.Network value span ∷ []) next
unfolding network
network_said before k next value span s h =
    let d = decls.Network value span in
    let made : Known = record k { network = Some value.value } in
    let p = passed (is_none k.network) span.from made next h in
    subst (Said (before ++ d ∷ [])) p.1 (record {
      network = first_listed network_in before d k.network value.value p.0 s.network refl;
      commit = none_more commit_in before d refl ∙ s.commit;
      neighbours = s.neighbours ∙ sym (none_more neighbour_in before d refl);
      promises = s.promises ∙ sym (none_more head_in before d refl);
    })

commit_said : (before : List Decl) (k next : Known) (value : Num) (span : Span) → Said before k → commit k value span ≡ Ok next → Said (before ++ decls.Commit value span ∷ []) next
unfolding commit
commit_said before k next value span s h =
    let d = decls.Commit value span in
    let p = chained (λ first. at_most most_seconds first >>= (λ seconds. Ok (record k { commit = Some seconds }))) (wants (is_none k.commit) span.from value) next h in
    let q = chained (λ seconds. Ok (record k { commit = Some seconds })) (at_most most_seconds p.0) next p.2 in
    let made : Known = record k { commit = Some q.0 } in
    let t = passed (is_none k.commit) span.from value p.0 p.1 in
    subst (Said (before ++ d ∷ [])) (ok_same made next q.2) (record {
      network = none_more network_in before d refl ∙ s.network;
      commit = first_listed commit_in before d k.commit q.0 t.0 s.commit (ap (λ (n : ℕ). n ∷ []) (ap (λ (n : Num). n.value) t.1 ∙ at_most_same most_seconds p.0 q.0 q.1));
      neighbours = s.neighbours ∙ sym (none_more neighbour_in before d refl);
      promises = s.promises ∙ sym (none_more head_in before d refl);
    })

neighbour_said : (before : List Decl) (k next : Known) (name : Name) (asn addr : Num) (signs : Option (RootText × Num)) → Said before k → neighbour k name asn addr signs ≡ Ok next
    → Said (before ++ decls.Neighbour name asn addr signs ∷ []) next
unfolding neighbour
neighbour_said before k next name asn addr signs s h =
    let d = decls.Neighbour name asn addr signs in
    let person : List ℕ → Option (Digest × ℕ) → Neighbour = λ word key. record { name = word; asn = asn.value; addr = addr.value; key = key } in
    let make : Name → Option (Digest × ℕ) → Known = λ called key. record k {
      names = declare k.names called (named.Neighbour (length k.neighbours));
      neighbours = k.neighbours ++ person called.word key ∷ [];
    } in
    let test = is_neighbour_name k name asn addr signs in
    let p = chained (λ called. key_of signs >>= (λ key. Ok (make called key))) (wants test name.span.from name) next h in
    let q = chained (λ key. Ok (make p.0 key)) (key_of signs) next p.2 in
    let same = (passed test name.span.from name p.0 p.1).1 in
    subst (Said (before ++ d ∷ [])) (ap (λ n. make n q.0) same ∙ ok_same (make p.0 q.0) next q.2) (record {
      network = none_more network_in before d refl ∙ s.network;
      commit = none_more commit_in before d refl ∙ s.commit;
      neighbours = ap (λ key. k.neighbours ++ person name.word key ∷ []) (key_same signs q.0 q.1) ∙ ap (λ l. l ++ neighbour_in d) s.neighbours ∙ sym (one_more neighbour_in before d);
      promises = s.promises ∙ sym (none_more head_in before d refl);
    })

group_said : (before : List Decl) (k next : Known) (name : Name) (texts : List Name) → Said before k → group k name texts ≡ Ok next → Said (before ++ decls.Group name texts ∷ []) next
unfolding group
group_said before k next name texts s h =
    let make : Name → List ℕ → Known = λ called numbers. record k { names = declare k.names called (named.Group numbers) } in
    let p = chained (λ called. members k.names texts >>= (λ numbers. Ok (make called numbers))) (wants (is_new k.names name && nat_lt (count_by is_group k.names) 64) name.span.from name) next h in
    let q = chained (λ numbers. Ok (make p.0 numbers)) (members k.names texts) next p.2 in
    subst (Said (before ++ decls.Group name texts ∷ [])) (ok_same (make p.0 q.0) next q.2) (quiet before (decls.Group name texts) k (make p.0 q.0) refl refl refl refl refl refl refl refl s)

define_said : (before : List Decl) (k next : Known) (name : Name) (texts : List PatternText) → Said before k → define k name texts ≡ Ok next → Said (before ++ decls.Define name texts ∷ []) next
unfolding define
define_said before k next name texts s h =
    let make : Name → List Pattern → Known = λ called set. record k { names = declare k.names called (named.Define set) } in
    let p = chained (λ called. all_of pattern texts >>= (λ set. Ok (make called set))) (wants (is_new k.names name && nat_lt (count_by is_define k.names) 64) name.span.from name) next h in
    let q = chained (λ set. Ok (make p.0 set)) (all_of pattern texts) next p.2 in
    subst (Said (before ++ decls.Define name texts ∷ [])) (ok_same (make p.0 q.0) next q.2) (quiet before (decls.Define name texts) k (make p.0 q.0) refl refl refl refl refl refl refl refl s)

promise_said : (before : List Decl) (k next : Known) (name : Name) (grace : Num) (at : List PrefixText) (form : Form) → Said before k → promise k name grace at form ≡ Ok next
    → Said (before ++ decls.Promise name grace at form ∷ []) next
unfolding promise
promise_said before k next name grace at form s h =
    let d = decls.Promise name grace at form in
    let scope : Name → Scope = λ called. record { names = declare k.names called named.Promise; variables = [] } in
    let make : Name → ℕ → List Cidr → Typing → Known = λ called seconds prefixes held. record k {
      names = declare k.names called named.Promise;
      promises = k.promises ++ record { name = called.word; grace = seconds; at = prefixes; form = held } ∷ [];
    } in
    let test = is_new k.names name && nat_lt (length k.promises) 256 in
    let p = chained (λ called. at_most most_seconds grace >>= (λ seconds. places at >>= (λ prefixes. typed form (scope called) >>= (λ held. Ok (make called seconds prefixes held))))) (wants test name.span.from name) next h in
    let q = chained (λ seconds. places at >>= (λ prefixes. typed form (scope p.0) >>= (λ held. Ok (make p.0 seconds prefixes held)))) (at_most most_seconds grace) next p.2 in
    let r = chained (λ prefixes. typed form (scope p.0) >>= (λ held. Ok (make p.0 q.0 prefixes held))) (places at) next q.2 in
    let u = chained (λ held. Ok (make p.0 q.0 r.0 held)) (typed form (scope p.0)) next r.2 in
    let same = (passed test name.span.from name p.0 p.1).1 in
    let made : Promise = record { name = name.word; grace = q.0; at = r.0; form = u.0 } in
    let head : ℕ → List Cidr → Head = λ grace at. record { name = name.word; grace = grace; at = at } in
    subst (Said (before ++ d ∷ [])) (ap (λ n. make n q.0 r.0 u.0) same ∙ ok_same (make p.0 q.0 r.0 u.0) next u.2) (record {
      network = none_more network_in before d refl ∙ s.network;
      commit = none_more commit_in before d refl ∙ s.commit;
      neighbours = s.neighbours ∙ sym (none_more neighbour_in before d refl);
      promises = map-append head_of k.promises (made ∷ []) ∙ ap (λ l. l ++ head q.0 r.0 ∷ []) s.promises
          ∙ ap (λ n. flat_map head_in before ++ head n r.0 ∷ []) (sym (at_most_same most_seconds grace q.0 q.1))
          ∙ ap (λ l. flat_map head_in before ++ head grace.value l ∷ []) (places_same_by at (slice_get at 1024) r.0 r.1)
          ∙ sym (one_more head_in before d);
    })

pub declaration_said : (before : List Decl) (k : Known) (d : Decl) (next : Known) → Said before k → declaration k d ≡ Ok next → Said (before ++ d ∷ []) next
declaration_said before k (decls.Network value span) next s h = network_said before k next value span s h
declaration_said before k (decls.Commit value span) next s h = commit_said before k next value span s h
declaration_said before k (decls.Neighbour name asn addr key) next s h = neighbour_said before k next name asn addr key s h
declaration_said before k (decls.Group name texts) next s h = group_said before k next name texts s h
declaration_said before k (decls.Define name texts) next s h = define_said before k next name texts s h
declaration_said before k (decls.Promise name grace at form) next s h = promise_said before k next name grace at form s h

pub nothing_said : Said [] nothing
nothing_said = record { network = refl; commit = refl; neighbours = refl; promises = refl }

whole_said : (end : ℕ) (before : List Decl) (k : Known) (n c : Option ℕ) (t : TypedText) → k.network ≡ n → k.commit ≡ c → whole_by end k n c ≡ Ok t → Said before k → Says t before
whole_said end before k None None t e f h s = cc
whole_said end before k None (Some m) t e f h s = cc
whole_said end before k (Some n) None t e f h s = cc
whole_said end before k (Some n) (Some m) t e f h s =
    let made : TypedText = record { network = n; commit = m; neighbours = k.neighbours; promises = k.promises } in
    subst (λ t. Says t before) (ok_same made t h) (record { network = s.network ∙ ap listed e; commit = s.commit ∙ ap listed f; neighbours = s.neighbours; promises = s.promises })

pub text_said : (file : File) (t : TypedText) → typed_text file ≡ Ok t → Says t file.decls
unfolding typed_text
text_said file t h =
    let p = chained (λ known. whole file.end known) (declarations file.decls) t h in
    whole_said file.end file.decls p.0 p.0.network p.0.commit t refl refl p.2 (kept declaration Said declaration_said [] file.decls nothing p.0 nothing_said p.1)
