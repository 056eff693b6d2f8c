-- That a typed promise file and a key file make a recorder.
use Rattle.std.proofs.Common.{◌≡◌, ℕ, ◌+◌, ◌<◌, ◌≤◌, true, ◌&&◌, not, List, [], ◌∷◌, ◌++◌, length, nat_lt, nat_le, is_none, count_by, Option, Some, None, IfSome, Ok, refl, subst, inl, inr, arith}
use Rattle.std.specs.Prelude.{◌==◌}
use Rattle.std.specs.List.{list_any}
use Rattle.std.proofs.lemmas.Bool.{cases_Bool}
use Rattle.std.proofs.lemmas.Bool.Decides.{nat_tests}
use Rattle.std.proofs.lemmas.List.{length-append}
use Rattle.sha2.specs.Sha256.{sha256}
use Rattle.nr_chain.specs.declared.digest.Digest.{Digest}
use Rattle.nr_spec_rules.specs.declared.span.Span.{Span}
use Rattle.nr_spec_bgp.specs.Prefixes.{Cidr}
use Rattle.nr_prefix.specs.declared.set.Pattern.{Pattern}
use Rattle.nr_spec_wire.specs.Reading.{Spot, ◌>>=◌, bytes_at, ends_at, number_at, start_of, wants}
use Rattle.nr_spec_wire.proofs.Steps.{bind_ok}
use Rattle.nr_rule_syntax.specs.declared.tree.Name.{Name}
use Rattle.nr_rule_syntax.specs.declared.tree.Num.{Num}
use Rattle.nr_rule_syntax.specs.declared.tree.RootText.{RootText}
use Rattle.nr_rule_syntax.specs.declared.tree.PatternText.{PatternText}
use Rattle.nr_rule_syntax.specs.declared.tree.PrefixText.{PrefixText}
use Rattle.nr_rule_syntax.specs.declared.tree.Form.{Form}
use Rattle.nr_rule_syntax.specs.declared.tree.File.{File}
use Rattle.nr_rule_syntax.specs.declared.tree.Decl.{Decl}
use Rattle.nr_rule_syntax.specs.declared.tree.Decl.TheVariants as decls
use Rattle.nr_rule_syntax.specs.Reading.{file_of}
use Rattle.nr_spec_typing.specs.declared.name.Named.TheVariants as named
use Rattle.nr_spec_typing.specs.declared.text.Neighbour.{Neighbour}
use Rattle.nr_spec_typing.specs.declared.tree.Typing.{Typing}
use Rattle.nr_spec_typing.specs.Steps.{all_of, in_turn}
use Rattle.nr_spec_typing.specs.Scopes.{Scope}
use Rattle.nr_spec_typing.specs.Forms.{typed}
use Rattle.nr_spec_typing.specs.Declarations.{TypedText, Known, nothing, is_group, is_define, is_new, declare, most_seconds, at_most, network, commit, is_like, is_neighbour_name, key_of, neighbour, members, group, pattern, define, places, promise, declaration, declarations, whole, whole_by, typed_text}
use Rattle.nr_spec_typing.proofs.Fitting.{chained, passed, left, right}
use Rattle.nr_spec_keys.proofs.LeafLemmas.{length-sha256}
use Rattle.nr_spec_texts.specs.Promises.{PromiseFile, numbers_in, promise_of}
use Rattle.nr_spec_steps.specs.Telling.{IsOwn, IsRecorder}
use Rattle.nr_spec_log.specs.Authenticator.{magic_at}
use Rattle.nr_spec_history.specs.KeyFiles.{Key, key_magic, seed_size}
use Rattle.nr_spec_program.specs.Keys as keys
use Rattle.nr_spec_program.specs.Recording.{recorder_of}
use Rattle.nr_laws_log.proofs.Fields.{wants_step}

ok_same : {A : Type 0} (x y : A) → wants true 0 x ≡ Ok y → x ≡ y
ok_same x y h = cc

at_most_passed : (most : ℕ) (n : Num) (x : ℕ) → at_most most n ≡ Ok x → x ≤ most
at_most_passed most n x h =
    let p = passed (nat_le n.value most) n.span.from n.value x h in
    let test = p.0 in
    let e = p.1 in
    grind (arith, nat_tests)

lt_passed : (n m : ℕ) → nat_lt n m ≡ true → n < m
lt_passed n m h = grind (arith, nat_tests)

-- ---- what the declarations up to a place say is within the limits

record IsSmall (k : Known) : Type 0 where
  pub commit : IfSome k.commit (λ c. c ≤ most_seconds)
  pub neighbours : length k.neighbours ≤ 256

network_small : (k next : Known) (value : Num) (span : Span) → IsSmall k → network k value span ≡ Ok next → IsSmall next
unfolding network
network_small k next value span g h =
    let p = passed (is_none k.network) span.from (record k { network = Some value.value }) next h in
    subst IsSmall p.1 (record { commit = g.commit; neighbours = g.neighbours })

commit_small : (k next : Known) (value : Num) (span : Span) → IsSmall k → commit k value span ≡ Ok next → IsSmall next
unfolding commit
commit_small k next value span g h =
    let p = chained (λ first. at_most most_seconds first >>= (λ seconds. Ok (record k { commit = Some seconds }))) (wants (is_none k.commit) span.from value) next h in
    let q = chained (λ seconds. Ok (record k { commit = Some seconds })) (at_most most_seconds p.0) next p.2 in
    let e : record k { commit = Some q.0 } ≡ next = ok_same (record k { commit = Some q.0 }) next q.2 in
    subst IsSmall e (record { commit = at_most_passed most_seconds p.0 q.0 q.1; neighbours = g.neighbours })

neighbour_small : (k next : Known) (name : Name) (asn addr : Num) (signs : Option (RootText × Num)) → IsSmall k → neighbour k name asn addr signs ≡ Ok next → IsSmall next
unfolding neighbour
neighbour_small k next name asn addr signs g h =
    let make : Name → Option (Digest × ℕ) → Known = λ called key. record k {
      names = declare k.names called (named.Neighbour (length k.neighbours));
      neighbours = k.neighbours ++ record { name = called.word; asn = asn.value; addr = addr.value; key = key } ∷ [];
    } in
    let p = chained (λ called. key_of signs >>= (λ key. Ok (make called key))) (wants (is_neighbour_name k name asn addr signs) name.span.from name) next h in
    let q = chained (λ key. Ok (make p.0 key)) (key_of signs) next p.2 in
    let e : make p.0 q.0 ≡ next = ok_same (make p.0 q.0) next q.2 in
    let test = (passed (is_neighbour_name k name asn addr signs) name.span.from name p.0 p.1).0 in
    let room : length k.neighbours < 256 =
    lt_passed (length k.neighbours) 256 (right (is_new k.names name) (nat_lt (length k.neighbours) 256)
    (left (is_new k.names name && nat_lt (length k.neighbours) 256) (not (list_any (is_like asn addr signs) k.neighbours)) test)) in
    let n : Neighbour = record { name = p.0.word; asn = asn.value; addr = addr.value; key = q.0 } in
    let size : length (k.neighbours ++ n ∷ []) ≡ length k.neighbours + 1 = length-append k.neighbours (n ∷ []) in
    let few : length (k.neighbours ++ n ∷ []) ≤ 256 = omega arith in
    subst IsSmall e (record { commit = g.commit; neighbours = few })

group_small : (k next : Known) (name : Name) (texts : List Name) → IsSmall k → group k name texts ≡ Ok next → IsSmall next
unfolding group
group_small k next name texts g h =
    let make : Name → List ℕ → Known = λ called numbers. record k { names = declare k.names called (named.Group numbers) } in
    let p = chained (λ called. members k.names texts >>= (λ numbers. Ok (make called numbers))) (wants (is_new k.names name && nat_lt (count_by is_group k.names) 64) name.span.from name) next h in
    let q = chained (λ numbers. Ok (make p.0 numbers)) (members k.names texts) next p.2 in
    let e : make p.0 q.0 ≡ next = ok_same (make p.0 q.0) next q.2 in
    subst IsSmall e (record { commit = g.commit; neighbours = g.neighbours })

define_small : (k next : Known) (name : Name) (texts : List PatternText) → IsSmall k → define k name texts ≡ Ok next → IsSmall next
unfolding define
define_small k next name texts g h =
    let make : Name → List Pattern → Known = λ called set. record k { names = declare k.names called (named.Define set) } in
    let p = chained (λ called. all_of pattern texts >>= (λ set. Ok (make called set))) (wants (is_new k.names name && nat_lt (count_by is_define k.names) 64) name.span.from name) next h in
    let q = chained (λ set. Ok (make p.0 set)) (all_of pattern texts) next p.2 in
    let e : make p.0 q.0 ≡ next = ok_same (make p.0 q.0) next q.2 in
    subst IsSmall e (record { commit = g.commit; neighbours = g.neighbours })

promise_small : (k next : Known) (name : Name) (grace : Num) (at : List PrefixText) (form : Form) → IsSmall k → promise k name grace at form ≡ Ok next → IsSmall next
unfolding promise
promise_small k next name grace at form g h =
    let scope : Name → Scope = λ called. record { names = declare k.names called named.Promise; variables = [] } in
    let make : Name → ℕ → List Cidr → Typing → Known = λ called seconds prefixes held. record k {
      names = declare k.names called named.Promise;
      promises = k.promises ++ record { name = called.word; grace = seconds; at = prefixes; form = held } ∷ [];
    } in
    let p = chained (λ called. at_most most_seconds grace >>= (λ seconds. places at >>= (λ prefixes. typed form (scope called) >>= (λ held. Ok (make called seconds prefixes held)))))
    (wants (is_new k.names name && nat_lt (length k.promises) 256) name.span.from name) next h in
    let q = chained (λ seconds. places at >>= (λ prefixes. typed form (scope p.0) >>= (λ held. Ok (make p.0 seconds prefixes held)))) (at_most most_seconds grace) next p.2 in
    let r = chained (λ prefixes. typed form (scope p.0) >>= (λ held. Ok (make p.0 q.0 prefixes held))) (places at) next q.2 in
    let u = chained (λ held. Ok (make p.0 q.0 r.0 held)) (typed form (scope p.0)) next r.2 in
    let e : make p.0 q.0 r.0 u.0 ≡ next = ok_same (make p.0 q.0 r.0 u.0) next u.2 in
    subst IsSmall e (record { commit = g.commit; neighbours = g.neighbours })

declaration_small : (k : Known) (d : Decl) (next : Known) → IsSmall k → declaration k d ≡ Ok next → IsSmall next
declaration_small k (decls.Network value span) next g h = network_small k next value span g h
declaration_small k (decls.Commit value span) next g h = commit_small k next value span g h
declaration_small k (decls.Neighbour name asn addr key) next g h = neighbour_small k next name asn addr key g h
declaration_small k (decls.Group name members) next g h = group_small k next name members g h
declaration_small k (decls.Define name texts) next g h = define_small k next name texts g h
declaration_small k (decls.Promise name grace at form) next g h = promise_small k next name grace at form g h

all_small : (ds : List Decl) (k next : Known) → IsSmall k → in_turn declaration k ds ≡ Ok next → IsSmall next
unfolding in_turn
all_small [] k next g h = subst IsSmall (ok_same k next h) g
all_small (d ∷ ds) k next g h =
    let p = chained (λ s. in_turn declaration s ds) (declaration k d) next h in
    all_small ds p.0 next (declaration_small k d p.0 g p.1) p.2

-- ---- a whole text

record IsSmallText (t : TypedText) : Type 0 where
  pub commit : t.commit ≤ most_seconds
  pub neighbours : length t.neighbours ≤ 256

whole_small : (end : ℕ) (k : Known) (network commit : Option ℕ) (t : TypedText) → IsSmall k → k.commit ≡ commit → whole_by end k network commit ≡ Ok t → IsSmallText t
whole_small end k None None t g c h = absurd cc
whole_small end k None (Some m) t g c h = absurd cc
whole_small end k (Some n) None t g c h = absurd cc
whole_small end k (Some n) (Some m) t g c h =
    let made : TypedText = record { network = n; commit = m; neighbours = k.neighbours; promises = k.promises } in
    let e : made ≡ t = ok_same made t h in
    let le : m ≤ most_seconds = subst (λ (o : Option ℕ). IfSome o (λ c. c ≤ most_seconds)) c g.commit in
    subst IsSmallText e (record { commit = le; neighbours = g.neighbours })

text_small : (file : File) (t : TypedText) → typed_text file ≡ Ok t → IsSmallText t
unfolding typed_text
text_small file t h =
    let p = chained (λ known. whole file.end known) (declarations file.decls) t h in
    whole_small file.end p.0 p.0.network p.0.commit t (all_small file.decls nothing p.0 (record { commit = tt; neighbours = omega arith }) p.1) refl p.2

-- a promise file's numbers are a recorder's own
pub own_numbers : (text : List ℕ) (promise : PromiseFile) → promise_of text ≡ Ok promise → IsOwn (numbers_in promise)
unfolding promise_of
own_numbers text promise h =
    let a = bind_ok (file_of text) (λ file. typed_text file >>= λ says. Ok (record { text = text; digest = sha256 text; file = file; says = says })) promise h in
    let b = bind_ok (typed_text a.0) (λ says. Ok (record { text = text; digest = sha256 text; file = a.0; says = says })) promise a.2 in
    let made : PromiseFile = record { text = text; digest = sha256 text; file = a.0; says = b.0 } in
    let e : made ≡ promise = ok_same made promise b.2 in
    let small = text_small a.0 b.0 b.1 in
    subst (λ (p : PromiseFile). IsOwn (numbers_in p)) e (record { digest = length-sha256 text; count = small.neighbours; delay = small.commit })

-- ---- a key

record IsHigh (key : Key) : Type 0 where
  pub least : 1 ≤ key.height
  pub most : key.height ≤ 16

le_passed : (n m : ℕ) → nat_le n m ≡ true → n ≤ m
le_passed n m h = grind (arith, nat_tests)

key_ended : (s : Spot) (x y : Key) → ends_at s x ≡ Ok y → x ≡ y
key_ended s x y e = elim (cases_Bool (length s.rest == 0)) [ inl by ↦ (let k = rw by at e in cc) | inr by ↦ absurd (let k = rw by at e in cc) ]

key_high : (bytes : List ℕ) (key : Key) → keys.key_of bytes ≡ Ok key → IsHigh key
unfolding keys.key_of
key_high bytes key is =
    let a = bind_ok (magic_at key_magic (start_of bytes)) _ key is in
    let b = bind_ok (number_at 4 a.0.1) _ key a.2 in
    let c = bind_ok (number_at 1 b.0.1) _ key b.2 in
    let d = wants_step (nat_le 1 c.0.0 && nat_le c.0.0 16) b.0.1.at c.0 _ key c.2 in
    let e = bind_ok (bytes_at seed_size c.0.1) _ key d.1 in
    let f = key_ended e.0.1 (record { asn = b.0.0; height = c.0.0; seed = e.0.0 }) key e.2 in
    let least : 1 ≤ c.0.0 = le_passed 1 c.0.0 (left (nat_le 1 c.0.0) (nat_le c.0.0 16) d.0) in
    let most : c.0.0 ≤ 16 = le_passed c.0.0 16 (right (nat_le 1 c.0.0) (nat_le c.0.0 16) d.0) in
    subst IsHigh f (record { least = least; most = most })

-- a promise file and a key file make a recorder
pub made_recorder : (text bytes : List ℕ) (promise : PromiseFile) (key : Key) → promise_of text ≡ Ok promise → keys.key_of bytes ≡ Ok key → IsRecorder (recorder_of promise key)
made_recorder text bytes promise key typed keyed =
    let high = key_high bytes key keyed in
    record { own = own_numbers text promise typed; height = key.height; least = high.least; most = high.most; leaves = refl; fair = λ log frame content is fits none. absurd (let e = none in cc) }
