-- What declared names stand for, declaration by declaration.
use Rattle.std.proofs.Common.{◌≡◌, ℕ, zero, suc, ◌+◌, Bool, true, false, ◌&&◌, ◌==◌, not, List, [], ◌∷◌, ◌++◌, map, length, slice_get, nat_lt, nat_le, is_none, count_by, Option, Some, None, Result, Ok, refl, ap, sym, subst, ◌∙◌, append-nil, append_assoc, arith}
use Rattle.std.proofs.lemmas.List.{length-append}
use Rattle.std.proofs.lemmas.Grind.{flat_map-append}
use Rattle.std.specs.List.{list_any, flat_map}
use Rattle.std.proofs.lemmas.Bool.Decides.{nat_tests}
use Rattle.nr_chain.specs.declared.digest.Digest.{Digest}
use Rattle.nr_spec_rules.specs.declared.span.Span.{Span}
use Rattle.nr_spec_bgp.specs.Prefixes.{Cidr}
use Rattle.nr_prefix.specs.declared.set.Pattern.{Pattern}
use Rattle.nr_spec_wire.specs.Reading.{◌>>=◌, wants}
use Rattle.nr_rule_syntax.specs.declared.tree.Name.{Name}
use Rattle.nr_rule_syntax.specs.declared.tree.Num.{Num}
use Rattle.nr_rule_syntax.specs.declared.tree.RootText.{RootText}
use Rattle.nr_rule_syntax.specs.declared.tree.PatternText.{PatternText}
use Rattle.nr_rule_syntax.specs.declared.tree.PrefixText.{PrefixText}
use Rattle.nr_rule_syntax.specs.declared.tree.Form.{Form}
use Rattle.nr_rule_syntax.specs.declared.tree.Decl.{Decl}
use Rattle.nr_rule_syntax.specs.declared.tree.Decl.TheVariants as decls
use Rattle.nr_spec_typing.specs.declared.name.Named.{Named}
use Rattle.nr_spec_typing.specs.declared.name.Named.TheVariants as named
use Rattle.nr_spec_typing.specs.declared.name.Declared.{Declared}
use Rattle.nr_spec_typing.specs.declared.text.Neighbour.{Neighbour}
use Rattle.nr_spec_typing.specs.declared.text.Promise.{Promise}
use Rattle.nr_spec_typing.specs.declared.tree.Typing.{Typing}
use Rattle.nr_spec_typing.specs.Steps.{◌<$>◌, all_of, in_turn}
use Rattle.nr_spec_typing.specs.Scopes.{Scope, meaning}
use Rattle.nr_spec_typing.specs.Forms.{typed}
use Rattle.nr_spec_typing.specs.Declarations.{Known, nothing, is_group, is_define, is_new, declare, most_seconds, at_most, network, commit, is_neighbour_name, key_of, neighbour, member_by, member, add_member, members, group, most_of, pattern, define, places, promise, declaration, declarations}
use Rattle.nr_spec_typing.specs.Apart.{NoTwo, name_in, names_in}
use Rattle.nr_spec_typing.proofs.Fitting.{mapped, chained, passed}
use Rattle.nr_spec_typing.proofs.Differ.{kept, no_two_more, none_like}
use Rattle.nr_laws_typing.specs.Says.{neighbour_in}
use Rattle.nr_laws_typing.specs.Meanings.{IsMember, AreMembers, Same, IsGroup, most_said, pattern_said, Stands, IsDeclared, AreDeclared}
use Rattle.nr_laws_typing.proofs.Numbering.{numbered}
use Rattle.nr_laws_typing.proofs.Saying.{Said, declaration_said, nothing_said}
use Rattle.nr_laws_typing.proofs.Treed.{Halves, halves}

ok_same : {A : Type 0} (x y : A) → wants true 0 x ≡ Ok y → x ≡ y
ok_same x y h = cc

-- ---- members

more_members : (before : List Decl) (names : List Name) (numbers : List ℕ) (name : Name) (n : ℕ) → AreMembers before names numbers → IsMember before name n
    → AreMembers before (names ++ name ∷ []) (numbers ++ n ∷ [])
more_members before [] [] name n a m = (m, tt)
more_members before [] (k ∷ numbers) name n a m = absurd a
more_members before (other ∷ names) [] name n a m = absurd a
more_members before (other ∷ names) (k ∷ numbers) name n a m = (a.0, more_members before names numbers name n a.1 m)

not_true : (a : Bool) → not a ≡ true → a ≡ false
not_true true h = cc
not_true false h = refl

same_number : (n m : ℕ) → n ≡ m → (n == m) ≡ true
same_number n m e = grind (arith, nat_tests)

member_found : (place : ℕ) (before : List ℕ) (m : Option Named) (n : ℕ) → member_by place before m ≡ Ok n → (m ≡ Some (named.Neighbour n)) × (list_any (λ m. m == n) before ≡ false)
member_found place before None n h = cc
member_found place before (Some (named.Neighbour k)) n h =
    let p = passed (not (list_any (λ m. m == k) before)) place k n h in
    (ap (λ n. let o : Option Named = Some (named.Neighbour n) in o) p.1, subst (λ n. list_any (λ m. m == n) before ≡ false) p.1 (not_true (list_any (λ m. m == k) before) p.0))
member_found place before (Some (named.Group members)) n h = cc
member_found place before (Some (named.Define patterns)) n h = cc
member_found place before (Some named.Promise) n h = cc

grown_group : (before : List Decl) (k : Known) → declarations before ≡ Ok k → (names : List Name) (found : List ℕ) (name : Name) (next : List ℕ) → IsGroup before names found → add_member k.names found name ≡ Ok next
    → IsGroup before (names ++ name ∷ []) next
grown_group before k h names found name next g e =
    let p = mapped (λ n. found ++ n ∷ []) (member k.names found name) next e in
    let q = member_found name.span.from found (meaning k.names name.word) p.0 p.1 in
    subst (IsGroup before (names ++ name ∷ [])) p.2 (record {
      members = more_members before names found name p.0 g.members ((numbered before k h).meant p.0 name.word q.0);
      differ = no_two_more Same (λ a b e. sym e) found p.0 g.differ (λ i m s e. none_like (λ m. m == p.0) found i m q.1 s (same_number m p.0 e));
    })

is_group_of : (before : List Decl) (k : Known) → declarations before ≡ Ok k → (names : List Name) (found : List ℕ) → members k.names names ≡ Ok found → IsGroup before names found
is_group_of before k h names found e =
    kept (add_member k.names) (IsGroup before) (grown_group before k h) [] names [] found (record { members = tt; differ = λ i j x y s u e. cc }) e

-- ---- patterns

most_is : (len : ℕ) (most : Option Num) (found : ℕ) → most_of len most ≡ Ok found → found ≡ most_said len most
most_is len None found h = sym (ok_same len found h)
most_is len (Some n) found h = sym (passed (nat_le len n.value && nat_le n.value 32) n.span.from n.value found h).1

pattern_is : (text : PatternText) (found : Pattern) → pattern text ≡ Ok found → found ≡ pattern_said text
pattern_is text found h =
    let make : ℕ → Pattern = λ most. record { prefix = text.prefix; most = most } in
    let p = mapped make (most_of text.prefix.len text.most) found h in
    sym p.2 ∙ ap make (most_is text.prefix.len text.most p.0 p.1)

patterns_are : (texts : List PatternText) (found : List Pattern) → all_of pattern texts ≡ Ok found → found ≡ map pattern_said texts
unfolding all_of
patterns_are [] found h = let none : List Pattern = [] in sym (ok_same none found h)
patterns_are (text ∷ texts) found h =
    let p = chained (λ first. all_of pattern texts >>= (λ others. Ok (first ∷ others))) (pattern text) found h in
    let q = chained (λ others. Ok (p.0 ∷ others)) (all_of pattern texts) found p.2 in
    sym (ok_same (p.0 ∷ q.0) found q.2) ∙ ap (λ x. x ∷ q.0) (pattern_is text p.0 p.1) ∙ ap (λ l. pattern_said text ∷ l) (patterns_are texts q.0 q.1)

-- ---- what a declaration adds to the names

abbrev named_by : Name → Named → List Declared
named_by name means = record { word = name.word; means = means } ∷ []

pub record Adds (before : List Decl) (d : Decl) (name : Name) (k next : Known) : Type 0 where
  pub means : Named
  pub names : next.names ≡ k.names ++ named_by name means
  pub stands : Stands before d means

neighbour_adds : (before : List Decl) (k next : Known) (name : Name) (asn addr : Num) (signs : Option (RootText × Num)) → declarations before ≡ Ok k → neighbour k name asn addr signs ≡ Ok next
    → Adds before (decls.Neighbour name asn addr signs) name k next
unfolding neighbour
neighbour_adds before k next name asn addr signs g h =
    let make : Name → Option (Digest × ℕ) → Known = λ called key. record k {
      names = declare k.names called (named.Neighbour (length k.neighbours));
      neighbours = k.neighbours ++ record { name = called.word; asn = asn.value; addr = addr.value; key = key } ∷ [];
    } in
    let p = chained (λ called. key_of signs >>= (λ key. Ok (make called key))) (wants (is_neighbour_name k name asn addr signs) name.span.from name) next h in
    let q = chained (λ key. Ok (make p.0 key)) (key_of signs) next p.2 in
    let same = (passed (is_neighbour_name k name asn addr signs) name.span.from name p.0 p.1).1 in
    let s : Said before k = kept declaration Said declaration_said [] before nothing k nothing_said g in
    record {
      means = named.Neighbour (length k.neighbours);
      names = sym (ap (λ (k : Known). k.names) (ok_same (make p.0 q.0) next q.2)) ∙ ap (λ n. k.names ++ named_by n (named.Neighbour (length k.neighbours))) (sym same);
      stands = ap (λ (l : List Neighbour). named.Neighbour (length l)) s.neighbours;
    }

group_adds : (before : List Decl) (k next : Known) (name : Name) (texts : List Name) → declarations before ≡ Ok k → group k name texts ≡ Ok next → Adds before (decls.Group name texts) name k next
unfolding group
group_adds before k next name texts g h =
    let make : Name → List ℕ → Known = λ called numbers. record k { names = declare k.names called (named.Group numbers) } in
    let test = is_new k.names name && nat_lt (count_by is_group k.names) 64 in
    let p = chained (λ called. members k.names texts >>= (λ numbers. Ok (make called numbers))) (wants test name.span.from name) next h in
    let q = chained (λ numbers. Ok (make p.0 numbers)) (members k.names texts) next p.2 in
    let same = (passed test name.span.from name p.0 p.1).1 in
    record {
      means = named.Group q.0;
      names = sym (ap (λ (k : Known). k.names) (ok_same (make p.0 q.0) next q.2)) ∙ ap (λ n. k.names ++ named_by n (named.Group q.0)) (sym same);
      stands = (q.0, is_group_of before k g texts q.0 q.1, refl);
    }

define_adds : (before : List Decl) (k next : Known) (name : Name) (texts : List PatternText) → define k name texts ≡ Ok next → Adds before (decls.Define name texts) name k next
unfolding define
define_adds before k next name texts h =
    let make : Name → List Pattern → Known = λ called set. record k { names = declare k.names called (named.Define set) } in
    let test = is_new k.names name && nat_lt (count_by is_define k.names) 64 in
    let p = chained (λ called. all_of pattern texts >>= (λ set. Ok (make called set))) (wants test name.span.from name) next h in
    let q = chained (λ set. Ok (make p.0 set)) (all_of pattern texts) next p.2 in
    let same = (passed test name.span.from name p.0 p.1).1 in
    record {
      means = named.Define q.0;
      names = sym (ap (λ (k : Known). k.names) (ok_same (make p.0 q.0) next q.2)) ∙ ap (λ n. k.names ++ named_by n (named.Define q.0)) (sym same);
      stands = ap (λ l. named.Define l) (patterns_are texts q.0 q.1);
    }

promise_adds : (before : List Decl) (k next : Known) (name : Name) (grace : Num) (at : List PrefixText) (form : Form) → promise k name grace at form ≡ Ok next
    → Adds before (decls.Promise name grace at form) name k next
unfolding promise
promise_adds before k next name grace at form h =
    let scope : Name → Scope = λ called. record { names = declare k.names called named.Promise; variables = [] } in
    let make : Name → ℕ → List Cidr → Typing → Known = λ called seconds prefixes held. record k {
      names = declare k.names called named.Promise;
      promises = k.promises ++ record { name = called.word; grace = seconds; at = prefixes; form = held } ∷ [];
    } in
    let test = is_new k.names name && nat_lt (length k.promises) 256 in
    let p = chained (λ called. at_most most_seconds grace >>= (λ seconds. places at >>= (λ prefixes. typed form (scope called) >>= (λ held. Ok (make called seconds prefixes held))))) (wants test name.span.from name) next h in
    let q = chained (λ seconds. places at >>= (λ prefixes. typed form (scope p.0) >>= (λ held. Ok (make p.0 seconds prefixes held)))) (at_most most_seconds grace) next p.2 in
    let r = chained (λ prefixes. typed form (scope p.0) >>= (λ held. Ok (make p.0 q.0 prefixes held))) (places at) next q.2 in
    let u = chained (λ held. Ok (make p.0 q.0 r.0 held)) (typed form (scope p.0)) next r.2 in
    let same = (passed test name.span.from name p.0 p.1).1 in
    record {
      means = named.Promise;
      names = sym (ap (λ (k : Known). k.names) (ok_same (make p.0 q.0 r.0 u.0) next u.2)) ∙ ap (λ n. k.names ++ named_by n named.Promise) (sym same);
      stands = refl;
    }

-- what adds a name, and what adds none
abbrev OfName : List Decl → Decl → List Name → Known → Known → Type 0
OfName before d [] k next = next.names ≡ k.names
OfName before d (name ∷ names) k next = Adds before d name k next × (names ≡ [])

declaration_adds : (before : List Decl) (k : Known) (d : Decl) (next : Known) → declarations before ≡ Ok k → declaration k d ≡ Ok next → OfName before d (name_in d) k next
unfolding network commit
declaration_adds before k (decls.Network value span) next g h = sym (ap (λ (k : Known). k.names) (passed (is_none k.network) span.from (record k { network = Some value.value }) next h).1)
declaration_adds before k (decls.Commit value span) next g h =
    let p = chained (λ first. at_most most_seconds first >>= (λ seconds. Ok (record k { commit = Some seconds }))) (wants (is_none k.commit) span.from value) next h in
    let q = chained (λ seconds. Ok (record k { commit = Some seconds })) (at_most most_seconds p.0) next p.2 in
    sym (ap (λ (k : Known). k.names) (ok_same (record k { commit = Some q.0 }) next q.2))
declaration_adds before k (decls.Neighbour name asn addr key) next g h = (neighbour_adds before k next name asn addr key g h, refl)
declaration_adds before k (decls.Group name texts) next g h = (group_adds before k next name texts g h, refl)
declaration_adds before k (decls.Define name texts) next g h = (define_adds before k next name texts h, refl)
declaration_adds before k (decls.Promise name grace at form) next g h = (promise_adds before k next name grace at form h, refl)

-- ---- names stay, and are counted

goes_on : {A : Type 0} (xs ys : List A) (i : ℕ) (x : A) → slice_get xs i ≡ Some x → slice_get (xs ++ ys) i ≡ Some x
goes_on [] ys i x h = cc
goes_on (y ∷ xs) ys zero x h = h
goes_on (y ∷ xs) ys (suc i) x h = goes_on xs ys i x h

next_one : {A : Type 0} (xs : List A) (x : A) → slice_get (xs ++ x ∷ []) (length xs) ≡ Some x
next_one [] x = refl
next_one (y ∷ xs) x = next_one xs x

stays_by : (before : List Decl) (d : Decl) (names : List Name) (k next : Known) (i : ℕ) (x : Declared) → OfName before d names k next → slice_get k.names i ≡ Some x → slice_get next.names i ≡ Some x
stays_by before d [] k next i x a h = ap (λ l. slice_get l i) a ∙ h
stays_by before d (name ∷ names) k next i x a h = ap (λ l. slice_get l i) a.0.names ∙ goes_on k.names (named_by name a.0.means) i x h

walks_on : (s : Known) (before : List Decl) (k : Known) (d : Decl) (next : Known) → in_turn declaration s before ≡ Ok k → declaration k d ≡ Ok next → in_turn declaration s (before ++ d ∷ []) ≡ Ok next
unfolding in_turn
walks_on s [] k d next g h =
    ap (λ r. r >>= (λ next. in_turn declaration next [])) (subst (λ k. declaration k d ≡ Ok next) (sym (ok_same s k g)) h)
walks_on s (e ∷ before) k d next g h =
    let p = chained (λ next. in_turn declaration next before) (declaration s e) k g in
    ap (λ r. r >>= (λ next. in_turn declaration next (before ++ d ∷ []))) p.1 ∙ walks_on p.0 before k d next p.2 h

all_stay : (before ds : List Decl) (k t : Known) (i : ℕ) (x : Declared) → declarations before ≡ Ok k → slice_get k.names i ≡ Some x → in_turn declaration k ds ≡ Ok t → slice_get t.names i ≡ Some x
unfolding in_turn
all_stay before [] k t i x g s h = subst (λ (k : Known). slice_get k.names i ≡ Some x) (ok_same k t h) s
all_stay before (d ∷ ds) k t i x g s h =
    let p = chained (λ next. in_turn declaration next ds) (declaration k d) t h in
    all_stay (before ++ d ∷ []) ds p.0 t i x (walks_on nothing before k d p.0 g p.1) (stays_by before d (name_in d) k p.0 i x (declaration_adds before k d p.0 g p.1) s) p.2

one_more : (before : List Decl) (d : Decl) → names_in (before ++ d ∷ []) ≡ names_in before ++ name_in d
one_more before d = flat_map-append name_in before (d ∷ []) ∙ ap (λ l. names_in before ++ l) (append-nil (name_in d))

counted_by : (before : List Decl) (d : Decl) (names : List Name) (k next : Known) → OfName before d names k next → length k.names ≡ length (names_in before) → length next.names ≡ length (names_in before ++ names)
counted_by before d [] k next a e = ap length a ∙ e ∙ ap length (sym (append-nil (names_in before)))
counted_by before d (name ∷ names) k next a e =
    ap length a.0.names ∙ length-append k.names (named_by name a.0.means) ∙ ap (λ n. n + 1) e ∙ sym (length-append (names_in before) (name ∷ []))
    ∙ ap (λ (l : List Name). length (names_in before ++ name ∷ l)) (sym a.1)

-- the walk so far, and how many names there are
abbrev IsWalk : List Decl → Known → Type 0
IsWalk before k = (declarations before ≡ Ok k) × (length k.names ≡ length (names_in before))

walks : (before : List Decl) (k : Known) (d : Decl) (next : Known) → IsWalk before k → declaration k d ≡ Ok next → IsWalk (before ++ d ∷ []) next
walks before k d next w h = (
  walks_on nothing before k d next w.0 h,
  counted_by before d (name_in d) k next (declaration_adds before k d next w.0 h) w.1 ∙ ap length (sym (one_more before d)),
)

begins : IsWalk [] nothing
unfolding in_turn
begins = (refl, refl)

counted : (all : List Decl) (k : Known) → declarations all ≡ Ok k → length k.names ≡ length (names_in all)
counted all k h = (kept declaration IsWalk walks [] all nothing k begins h).1

pub are_declared : (all : List Decl) (k : Known) → declarations all ≡ Ok k → AreDeclared all k.names
are_declared all k h = record {
  number = counted all k h;
  each = λ before after d name e n.
      let w = halves declaration nothing before d after k (ap declarations (sym e) ∙ h) in
      let a : OfName before d (name ∷ []) w.here w.next = subst (λ l. OfName before d l w.here w.next) n (declaration_adds before w.here d w.next w.up_to w.one) in
      let x : Declared = record { word = name.word; means = a.0.means } in
      let fresh : slice_get w.next.names (length w.here.names) ≡ Some x = ap (λ l. slice_get l (length w.here.names)) a.0.names ∙ next_one w.here.names x in
      let there = all_stay (before ++ d ∷ []) after w.next k (length w.here.names) x (walks_on nothing before w.here d w.next w.up_to w.one) fresh w.from in
      record { declared = x; place = subst (λ n. slice_get k.names n ≡ Some x) (counted before w.here w.up_to) there; called = refl; stands = a.0.stands };
}
