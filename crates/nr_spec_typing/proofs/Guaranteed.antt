-- What a typed text guarantees, declaration by declaration.
use Rattle.std.proofs.Common.{◌≡◌, ℕ, zero, suc, ◌+◌, ◌<◌, ◌≤◌, true, ◌&&◌, ◌||◌, ◌==◌, not, List, [], ◌∷◌, ◌++◌, map, length, slice_get, nat_lt, nat_le, is_none, count_by, Option, Some, None, IfSome, Result, Ok, refl, ap, sym, subst, arith}
use Rattle.std.specs.List.{All, list_all, list_any}
use Rattle.std.proofs.lemmas.Bool.Decides.{nat_tests}
use Rattle.std.proofs.lemmas.List.{length-append}
use Rattle.std.proofs.lemmas.List.Elements.{All-nil, All-head, All-tail, All-push, All-weaker}
use Rattle.nr_chain.specs.declared.digest.Digest.{Digest}
use Rattle.nr_spec_rules.specs.declared.span.Span.{Span}
use Rattle.nr_spec_bgp.specs.Prefixes.{Cidr}
use Rattle.nr_prefix.specs.declared.set.Pattern.{Pattern}
use Rattle.nr_spec_wire.specs.Reading.{◌>>=◌, wants}
use Rattle.nr_rule_syntax.specs.declared.tree.Name.{Name}
use Rattle.nr_rule_syntax.specs.declared.tree.Num.{Num}
use Rattle.nr_rule_syntax.specs.declared.tree.RootText.{RootText}
use Rattle.nr_rule_syntax.specs.declared.tree.PatternText.{PatternText}
use Rattle.nr_rule_syntax.specs.declared.tree.PrefixText.{PrefixText}
use Rattle.nr_rule_syntax.specs.declared.tree.Form.{Form}
use Rattle.nr_rule_syntax.specs.declared.tree.File.{File}
use Rattle.nr_rule_syntax.specs.declared.tree.Decl.{Decl}
use Rattle.nr_rule_syntax.specs.declared.tree.Decl.TheVariants as decls
use Rattle.nr_rule_syntax.specs.Nesting.{depth, IsNested}
use Rattle.nr_spec_typing.specs.declared.name.Named.{Named}
use Rattle.nr_spec_typing.specs.declared.name.Named.TheVariants as named
use Rattle.nr_spec_typing.specs.declared.name.Declared.{Declared}
use Rattle.nr_spec_typing.specs.declared.text.Neighbour.{Neighbour}
use Rattle.nr_spec_typing.specs.declared.text.Promise.{Promise}
use Rattle.nr_spec_typing.specs.declared.tree.Typing.{Typing}
use Rattle.nr_spec_typing.specs.Steps.{all_of, in_turn}
use Rattle.nr_spec_typing.specs.Scopes.{Scope, meaning}
use Rattle.nr_spec_typing.specs.Forms.{typed}
use Rattle.nr_spec_typing.specs.Declarations.{TypedText, Known, nothing, is_group, is_define, is_new, declare, most_seconds, at_most, network, commit, is_like, is_neighbour_name, key_of, neighbour, member_by, member, add_member, members, group, most_of, pattern, define, places_by, places, promise, declaration, declarations, whole_by, whole, typed_text}
use Rattle.nr_spec_typing.specs.Guarantees.{are_neighbours, is_pattern, IsPromise, IsKeyNumber, IsTyped}
use Rattle.nr_spec_typing.specs.Lengths.{FitsLength, FitsLengths}
use Rattle.nr_spec_typing.proofs.Differ.{AreApart, text_apart}
use Rattle.nr_spec_typing.proofs.Fitting.{mapped, chained, passed, both, left, right, below, IsWithin, AreWithin, meaning_within, every_good}

ok_same : {A : Type 0} (x y : A) → wants true 0 x ≡ Ok y → x ≡ y
ok_same x y h = cc

-- ---- what holds from step to step

kept_in_turn : {A S : Type 0} (step : S → A → Result S ℕ) (I : S → Type 0) (Q : A → Type 0) → ((s : S) (x : A) (t : S) → I s → Q x → step s x ≡ Ok t → I t)
    → (xs : List A) (s t : S) → All Q xs → I s → in_turn step s xs ≡ Ok t → I t
unfolding in_turn
kept_in_turn step I Q keeps [] s t q i h = subst I (ok_same s t h) i
kept_in_turn step I Q keeps (x ∷ xs) s t q i h =
    let p = chained (λ next. in_turn step next xs) (step s x) t h in
    kept_in_turn step I Q keeps xs p.0 t (All-tail Q x xs q) (keeps s x p.0 i (All-head Q x xs q) p.1) p.2

-- ---- numbers

at_most_passed : (most : ℕ) (n : Num) (x : ℕ) → at_most most n ≡ Ok x → x ≤ most
at_most_passed most n x h =
    let p = passed (nat_le n.value most) n.span.from n.value x h in
    let test = p.0 in
    let e = p.1 in
    grind (arith, nat_tests)

lt_passed : (n m : ℕ) → nat_lt n m ≡ true → n < m
lt_passed n m h = grind (arith, nat_tests)

own_most : (len : ℕ) → len ≤ 32 → nat_le len len && nat_le len 32 ≡ true
own_most len le = grind (arith, nat_tests)

nth_none : {A : Type 0} (xs : List A) (n : ℕ) → slice_get xs n ≡ None → length xs ≤ n
nth_none [] n h = omega arith
nth_none (x ∷ xs) zero h = cc
nth_none (x ∷ xs) (suc n) h = let r : length xs ≤ n = nth_none xs n h in omega arith

-- ---- names

below_grown : (count more n : ℕ) → count ≤ more → nat_lt n count ≡ true → nat_lt n more ≡ true
below_grown count more n le h = grind (arith, nat_tests)

group_grown : (count more : ℕ) (members : List ℕ) → count ≤ more → are_neighbours count members ≡ true → are_neighbours more members ≡ true
group_grown count more [] le w = refl
group_grown count more (n ∷ members) le w =
    both (nat_lt n more) (are_neighbours more members) (below_grown count more n le (left (nat_lt n count) (are_neighbours count members) w))
    (group_grown count more members le (right (nat_lt n count) (are_neighbours count members) w))

grown : (count more : ℕ) (m : Named) → count ≤ more → IsWithin count m → IsWithin more m
grown count more (named.Neighbour n) le w = omega arith
grown count more (named.Group members) le w = group_grown count more members le w
grown count more (named.Define patterns) le w = w
grown count more named.Promise le w = tt

all_grown : (count more : ℕ) (names : List Declared) → count ≤ more → AreWithin count names → AreWithin more names
all_grown count more [] le w = tt
all_grown count more (d ∷ names) le w = (grown count more d.means le w.0, all_grown count more names le w.1)

one_more : (count : ℕ) (names : List Declared) (d : Declared) → AreWithin count names → IsWithin count d.means → AreWithin count (names ++ d ∷ [])
one_more count [] d w n = (n, tt)
one_more count (e ∷ names) d w n = (w.0, one_more count names d w.1 n)

-- ---- the members of a group

are_more : (count : ℕ) (before : List ℕ) (n : ℕ) → are_neighbours count before ≡ true → n < count → are_neighbours count (before ++ n ∷ []) ≡ true
are_more count [] n h lt = both (nat_lt n count) true (below n count lt) refl
are_more count (m ∷ before) n h lt =
    both (nat_lt m count) (are_neighbours count (before ++ n ∷ [])) (left (nat_lt m count) (are_neighbours count before) h)
    (are_more count before n (right (nat_lt m count) (are_neighbours count before) h) lt)

member_within_by : (count place : ℕ) (before : List ℕ) (m : Option Named) (n : ℕ) → ((x : Named) → m ≡ Some x → IsWithin count x) → member_by place before m ≡ Ok n → n < count
member_within_by count place before None n d h = cc
member_within_by count place before (Some (named.Neighbour k)) n d h =
    let p = passed (not (list_any (λ m. m == k) before)) place k n h in
    subst (λ n. n < count) p.1 (d (named.Neighbour k) refl)
member_within_by count place before (Some (named.Group members)) n d h = cc
member_within_by count place before (Some (named.Define patterns)) n d h = cc
member_within_by count place before (Some named.Promise) n d h = cc

member_step : (count : ℕ) (names : List Declared) → AreWithin count names → (before : List ℕ) (name : Name) (after : List ℕ) → are_neighbours count before ≡ true → Unit {0}
    → add_member names before name ≡ Ok after → are_neighbours count after ≡ true
member_step count names w before name after h u e =
    let p = mapped (λ n. before ++ n ∷ []) (member names before name) after e in
    subst (λ l. are_neighbours count l ≡ true) p.2
    (are_more count before p.0 h (member_within_by count name.span.from before (meaning names name.word) p.0 (λ x f. meaning_within count names name.word x w f) p.1))

all_unit : {A : Type 0} (xs : List A) → All (λ (x : A). Unit {0}) xs
all_unit xs = λ k d lt. tt

members_within : (count : ℕ) (names : List Declared) (texts : List Name) (found : List ℕ) → AreWithin count names → members names texts ≡ Ok found → are_neighbours count found ≡ true
members_within count names texts found w h =
    kept_in_turn (add_member names) (λ l. are_neighbours count l ≡ true) (λ _. Unit {0}) (member_step count names w) texts [] found (all_unit texts) refl h

-- ---- what the declarations up to a place guarantee

pub record IsGoodKnown (k : Known) : Type 0 where
  pub commit : IfSome k.commit (λ c. c ≤ most_seconds)
  pub neighbours : length k.neighbours ≤ 256
  pub keys : All (λ n. IsKeyNumber n.key) k.neighbours
  pub promises : length k.promises ≤ 256
  pub formulas : All (λ p. (count : ℕ) → length k.neighbours ≤ count → IsPromise count p) k.promises
  pub names : AreWithin (length k.neighbours) k.names

network_good : (k next : Known) (value : Num) (span : Span) → IsGoodKnown k → network k value span ≡ Ok next → IsGoodKnown next
unfolding network
network_good k next value span g h =
    let p = passed (is_none k.network) span.from (record k { network = Some value.value }) next h in
    subst IsGoodKnown p.1 (record { commit = g.commit; neighbours = g.neighbours; keys = g.keys; promises = g.promises; formulas = g.formulas; names = g.names })

commit_good : (k next : Known) (value : Num) (span : Span) → IsGoodKnown k → commit k value span ≡ Ok next → IsGoodKnown next
unfolding commit
commit_good k next value span g h =
    let p = chained (λ first. at_most most_seconds first >>= (λ seconds. Ok (record k { commit = Some seconds }))) (wants (is_none k.commit) span.from value) next h in
    let q = chained (λ seconds. Ok (record k { commit = Some seconds })) (at_most most_seconds p.0) next p.2 in
    let e : record k { commit = Some q.0 } ≡ next = ok_same (record k { commit = Some q.0 }) next q.2 in
    subst IsGoodKnown e
    (record { commit = at_most_passed most_seconds p.0 q.0 q.1; neighbours = g.neighbours; keys = g.keys; promises = g.promises; formulas = g.formulas; names = g.names })

key_good : (signs : Option (RootText × Num)) (key : Option (Digest × ℕ)) → key_of signs ≡ Ok key → IsKeyNumber key
key_good None key h = let none : Option (Digest × ℕ) = None in let e : none ≡ key = ok_same none key h in subst IsKeyNumber e tt
key_good (Some sign) key h =
    let make : ℕ → Option (Digest × ℕ) = λ n. Some (sign.0.digest, n) in
    let p = mapped make (at_most 255 sign.1) key h in
    let le : p.0 ≤ 255 = at_most_passed 255 sign.1 p.0 p.1 in
    let lt : p.0 < 256 = omega arith in
    subst IsKeyNumber p.2 lt

neighbour_good : (k next : Known) (name : Name) (asn addr : Num) (signs : Option (RootText × Num)) → IsGoodKnown k → neighbour k name asn addr signs ≡ Ok next → IsGoodKnown next
unfolding neighbour
neighbour_good k next name asn addr signs g h =
    let make : Name → Option (Digest × ℕ) → Known = λ called key. record k {
      names = declare k.names called (named.Neighbour (length k.neighbours));
      neighbours = k.neighbours ++ record { name = called.word; asn = asn.value; addr = addr.value; key = key } ∷ [];
    } in
    let p = chained (λ called. key_of signs >>= (λ key. Ok (make called key))) (wants (is_neighbour_name k name asn addr signs) name.span.from name) next h in
    let q = chained (λ key. Ok (make p.0 key)) (key_of signs) next p.2 in
    let e : make p.0 q.0 ≡ next = ok_same (make p.0 q.0) next q.2 in
    let test = (passed (is_neighbour_name k name asn addr signs) name.span.from name p.0 p.1).0 in
    let room : length k.neighbours < 256 =
    lt_passed (length k.neighbours) 256 (right (is_new k.names name) (nat_lt (length k.neighbours) 256)
    (left (is_new k.names name && nat_lt (length k.neighbours) 256) (not (list_any (is_like asn addr signs) k.neighbours)) test)) in
    let n : Neighbour = record { name = p.0.word; asn = asn.value; addr = addr.value; key = q.0 } in
    let size : length (k.neighbours ++ n ∷ []) ≡ length k.neighbours + 1 = length-append k.neighbours (n ∷ []) in
    let le : length k.neighbours ≤ length (k.neighbours ++ n ∷ []) = omega arith in
    let self : length k.neighbours < length (k.neighbours ++ n ∷ []) = omega arith in
    subst IsGoodKnown e (record {
      commit = g.commit;
      neighbours = omega arith;
      keys = All-push (λ (n : Neighbour). IsKeyNumber n.key) k.neighbours n g.keys (key_good signs q.0 q.1);
      promises = g.promises;
      formulas = All-weaker (λ (p : Promise). (count : ℕ) → length k.neighbours ≤ count → IsPromise count p) (λ (p : Promise). (count : ℕ) → length (k.neighbours ++ n ∷ []) ≤ count → IsPromise count p)
          (λ x f count m. f count (omega arith)) k.promises g.formulas;
      names = one_more (length (k.neighbours ++ n ∷ [])) k.names (record { word = p.0.word; means = named.Neighbour (length k.neighbours) })
          (all_grown (length k.neighbours) (length (k.neighbours ++ n ∷ [])) k.names le g.names) self;
    })

-- one name more, which changes nothing else
named_good : (k : Known) (name : Name) (means : Named) → IsGoodKnown k → IsWithin (length k.neighbours) means → IsGoodKnown (record k { names = declare k.names name means })
named_good k name means g w = record {
  commit = g.commit;
  neighbours = g.neighbours;
  keys = g.keys;
  promises = g.promises;
  formulas = g.formulas;
  names = one_more (length k.neighbours) k.names (record { word = name.word; means = means }) g.names w;
}

group_good : (k next : Known) (name : Name) (texts : List Name) → IsGoodKnown k → group k name texts ≡ Ok next → IsGoodKnown next
unfolding group
group_good k next name texts g h =
    let make : Name → List ℕ → Known = λ called numbers. record k { names = declare k.names called (named.Group numbers) } in
    let p = chained (λ called. members k.names texts >>= (λ numbers. Ok (make called numbers))) (wants (is_new k.names name && nat_lt (count_by is_group k.names) 64) name.span.from name) next h in
    let q = chained (λ numbers. Ok (make p.0 numbers)) (members k.names texts) next p.2 in
    let e : make p.0 q.0 ≡ next = ok_same (make p.0 q.0) next q.2 in
    subst IsGoodKnown e (named_good k p.0 (named.Group q.0) g (members_within (length k.neighbours) k.names texts q.0 g.names q.1))

-- ---- patterns

most_within : (len : ℕ) (most : Option Num) (found : ℕ) → len ≤ 32 → most_of len most ≡ Ok found → nat_le len found && nat_le found 32 ≡ true
most_within len None found le h = let e : len ≡ found = ok_same len found h in subst (λ n. nat_le len n && nat_le n 32 ≡ true) e (own_most len le)
most_within len (Some n) found le h =
    let p = passed (nat_le len n.value && nat_le n.value 32) n.span.from n.value found h in
    subst (λ m. nat_le len m && nat_le m 32 ≡ true) p.1 p.0

pattern_fits : (text : PatternText) (found : Pattern) → FitsLength text → pattern text ≡ Ok found → is_pattern found ≡ true
pattern_fits text found w h =
    let make : ℕ → Pattern = λ most. record { prefix = text.prefix; most = most } in
    let p = mapped make (most_of text.prefix.len text.most) found h in
    subst (λ (w : Pattern). is_pattern w ≡ true) p.2 (most_within text.prefix.len text.most p.0 w p.1)

patterns_fit : (texts : List PatternText) (found : List Pattern) → All FitsLength texts → all_of pattern texts ≡ Ok found → list_all is_pattern found ≡ true
unfolding all_of
patterns_fit [] found w h = let none : List Pattern = [] in let e : none ≡ found = ok_same none found h in subst (λ (l : List Pattern). list_all is_pattern l ≡ true) e refl
patterns_fit (text ∷ texts) found w h =
    let p = chained (λ first. all_of pattern texts >>= (λ others. Ok (first ∷ others))) (pattern text) found h in
    let q = chained (λ others. Ok (p.0 ∷ others)) (all_of pattern texts) found p.2 in
    let e : p.0 ∷ q.0 ≡ found = ok_same (p.0 ∷ q.0) found q.2 in
    subst (λ (l : List Pattern). list_all is_pattern l ≡ true) e
    (both (is_pattern p.0) (list_all is_pattern q.0) (pattern_fits text p.0 (All-head FitsLength text texts w) p.1) (patterns_fit texts q.0 (All-tail FitsLength text texts w) q.1))

define_good : (k next : Known) (name : Name) (texts : List PatternText) → IsGoodKnown k → All FitsLength texts → define k name texts ≡ Ok next → IsGoodKnown next
unfolding define
define_good k next name texts g w h =
    let make : Name → List Pattern → Known = λ called set. record k { names = declare k.names called (named.Define set) } in
    let p = chained (λ called. all_of pattern texts >>= (λ set. Ok (make called set))) (wants (is_new k.names name && nat_lt (count_by is_define k.names) 64) name.span.from name) next h in
    let q = chained (λ set. Ok (make p.0 set)) (all_of pattern texts) next p.2 in
    let e : make p.0 q.0 ≡ next = ok_same (make p.0 q.0) next q.2 in
    subst IsGoodKnown e (named_good k p.0 (named.Define q.0) g (patterns_fit texts q.0 w q.1))

mapped_length : (at : List PrefixText) → length (map (λ (p : PrefixText). p.prefix) at) ≡ length at
mapped_length [] = refl
mapped_length (p ∷ at) = ap (λ n. suc n) (mapped_length at)

places_few_by : (at : List PrefixText) (over : Option PrefixText) (found : List Cidr) → slice_get at 1024 ≡ over → places_by at over ≡ Ok found → length found ≤ 1024
places_few_by at None found s h =
    let few : length at ≤ 1024 = nth_none at 1024 s in
    let e : map (λ (p : PrefixText). p.prefix) at ≡ found = ok_same (map (λ (p : PrefixText). p.prefix) at) found h in
    subst (λ (l : List Cidr). length l ≤ 1024) e (subst (λ n. n ≤ 1024) (sym (mapped_length at)) few)
places_few_by at (Some p) found s h = cc

promise_good : (k next : Known) (name : Name) (grace : Num) (at : List PrefixText) (form : Form) → IsGoodKnown k → depth form ≤ 64 → promise k name grace at form ≡ Ok next → IsGoodKnown next
unfolding promise
promise_good k next name grace at form g nested h =
    let scope : Name → Scope = λ called. record { names = declare k.names called named.Promise; variables = [] } in
    let make : Name → ℕ → List Cidr → Typing → Known = λ called seconds prefixes held. record k {
      names = declare k.names called named.Promise;
      promises = k.promises ++ record { name = called.word; grace = seconds; at = prefixes; form = held } ∷ [];
    } in
    let p = chained (λ called. at_most most_seconds grace >>= (λ seconds. places at >>= (λ prefixes. typed form (scope called) >>= (λ held. Ok (make called seconds prefixes held)))))
    (wants (is_new k.names name && nat_lt (length k.promises) 256) name.span.from name) next h in
    let q = chained (λ seconds. places at >>= (λ prefixes. typed form (scope p.0) >>= (λ held. Ok (make p.0 seconds prefixes held)))) (at_most most_seconds grace) next p.2 in
    let r = chained (λ prefixes. typed form (scope p.0) >>= (λ held. Ok (make p.0 q.0 prefixes held))) (places at) next q.2 in
    let u = chained (λ held. Ok (make p.0 q.0 r.0 held)) (typed form (scope p.0)) next r.2 in
    let e : make p.0 q.0 r.0 u.0 ≡ next = ok_same (make p.0 q.0 r.0 u.0) next u.2 in
    let test = (passed (is_new k.names name && nat_lt (length k.promises) 256) name.span.from name p.0 p.1).0 in
    let room : length k.promises < 256 = lt_passed (length k.promises) 256 (right (is_new k.names name) (nat_lt (length k.promises) 256) test) in
    let x : Promise = record { name = p.0.word; grace = q.0; at = r.0; form = u.0 } in
    let size : length (k.promises ++ x ∷ []) ≡ length k.promises + 1 = length-append k.promises (x ∷ []) in
    let names : AreWithin (length k.neighbours) (scope p.0).names = one_more (length k.neighbours) k.names (record { word = p.0.word; means = named.Promise }) g.names tt in
    let lev : 0 + depth form ≤ 64 = omega arith in
    subst IsGoodKnown e (record {
      commit = g.commit;
      neighbours = g.neighbours;
      keys = g.keys;
      promises = omega arith;
      formulas = All-push (λ (p : Promise). (count : ℕ) → length k.neighbours ≤ count → IsPromise count p) k.promises x g.formulas
          (λ count le.
          let i = (every_good count form).good (scope p.0) u.0 (all_grown (length k.neighbours) count (scope p.0).names le names) lev u.1 in
          record {
            grace = at_most_passed most_seconds grace q.0 q.1;
            places = places_few_by at (slice_get at 1024) r.0 refl r.1;
            fits = i.fits;
            nests = subst (λ m. m.levels ≤ 64) (sym i.same) nested;
          });
      names = names;
    })

-- a declaration as it is read
abbrev IsRead : Decl → Type 0
IsRead d = IsNested d × FitsLengths d

declaration_good : (k : Known) (d : Decl) (next : Known) → IsGoodKnown k → IsRead d → declaration k d ≡ Ok next → IsGoodKnown next
declaration_good k (decls.Network value span) next g n h = network_good k next value span g h
declaration_good k (decls.Commit value span) next g n h = commit_good k next value span g h
declaration_good k (decls.Neighbour name asn addr key) next g n h = neighbour_good k next name asn addr key g h
declaration_good k (decls.Group name texts) next g n h = group_good k next name texts g h
declaration_good k (decls.Define name texts) next g n h = define_good k next name texts g n.1 h
declaration_good k (decls.Promise name grace at form) next g n h = promise_good k next name grace at form g n.0 h

nothing_good : IsGoodKnown nothing
nothing_good = record {
  commit = tt;
  neighbours = omega arith;
  keys = All-nil (λ (n : Neighbour). IsKeyNumber n.key);
  promises = omega arith;
  formulas = All-nil (λ (p : Promise). (count : ℕ) → 0 ≤ count → IsPromise count p);
  names = tt;
}

-- ---- the whole text

whole_good : (end : ℕ) (k : Known) (network commit : Option ℕ) (t : TypedText) → IsGoodKnown k → AreApart t → k.commit ≡ commit → whole_by end k network commit ≡ Ok t → IsTyped t
whole_good end k None None t g a c h = cc
whole_good end k None (Some m) t g a c h = cc
whole_good end k (Some n) None t g a c h = cc
whole_good end k (Some n) (Some m) t g a c h =
    let made : TypedText = record { network = n; commit = m; neighbours = k.neighbours; promises = k.promises } in
    let e : made ≡ t = ok_same made t h in
    let le : m ≤ most_seconds = subst (λ (o : Option ℕ). IfSome o (λ c. c ≤ most_seconds)) c g.commit in
    let b : AreApart made = subst AreApart (sym e) a in
    subst IsTyped e (record {
      commit = le;
      neighbours = g.neighbours;
      keys = g.keys;
      promises = g.promises;
      addresses = b.addresses;
      numbers = b.numbers;
      names = b.names;
      promise_names = b.promise_names;
      formulas = All-weaker (λ (p : Promise). (count : ℕ) → length k.neighbours ≤ count → IsPromise count p) (IsPromise (length k.neighbours)) (λ x f. f (length k.neighbours) (omega arith)) k.promises g.formulas;
    })

all_both : {A : Type 0} (Q R : A → Type 0) (xs : List A) → All Q xs → All R xs → All (λ x. Q x × R x) xs
all_both Q R xs q r = λ k d lt. (q k d lt, r k d lt)

pub typed_texts_fit : (file : File) (t : TypedText) → All IsNested file.decls → All FitsLengths file.decls → typed_text file ≡ Ok t → IsTyped t
unfolding typed_text
typed_texts_fit file t nested short h =
    let p = chained (λ known. whole file.end known) (declarations file.decls) t h in
    whole_good file.end p.0 p.0.network p.0.commit t
    (kept_in_turn declaration IsGoodKnown IsRead declaration_good file.decls nothing p.0 (all_both IsNested FitsLengths file.decls nested short) nothing_good p.1) (text_apart file t h) refl p.2
