-- The typing of a whole text, declaration by declaration: what it says, or the place of its first fault. Each
-- test stands where the token stands that a fault is placed at, so the order of the tests is that of the text. That two
-- neighbours are alike is a fault at the second's name, before its number is looked at.
use Rattle.std.specs.Prelude.{ℕ, Bool, true, false, ◌&&◌, ◌||◌, ◌==◌, not, List, [], ◌∷◌, ◌++◌, map, slice_get, length, count_by, nat_lt, nat_le, Option, Some, None, is_none, Result, Ok, Err}
use Rattle.std.specs.List.{list_any}
use Rattle.nr_chain.specs.declared.digest.Digest.{Digest}
use Rattle.nr_spec_rules.specs.declared.span.Span.{Span}
use Rattle.nr_spec_bgp.specs.Prefixes.{Cidr}
use Rattle.nr_spec_wire.specs.Reading.{◌>>=◌, wants}
use Rattle.nr_prefix.specs.declared.set.Pattern.{Pattern}
use Rattle.nr_rule_syntax.specs.declared.tree.Name.{Name}
use Rattle.nr_rule_syntax.specs.declared.tree.Num.{Num}
use Rattle.nr_rule_syntax.specs.declared.tree.RootText.{RootText}
use Rattle.nr_rule_syntax.specs.declared.tree.PatternText.{PatternText}
use Rattle.nr_rule_syntax.specs.declared.tree.PrefixText.{PrefixText}
use Rattle.nr_rule_syntax.specs.declared.tree.Form.{Form}
use Rattle.nr_rule_syntax.specs.declared.tree.File.{File}
use Rattle.nr_rule_syntax.specs.declared.tree.Decl.{Decl}
use Rattle.nr_rule_syntax.specs.declared.tree.Decl.TheVariants as decls
use Rattle.nr_spec_typing.specs.declared.name.Named.{Named}
use Rattle.nr_spec_typing.specs.declared.name.Named.TheVariants as named
use Rattle.nr_spec_typing.specs.declared.name.Declared.{Declared}
use Rattle.nr_spec_typing.specs.declared.text.Neighbour.{Neighbour}
use Rattle.nr_spec_typing.specs.declared.text.Promise.{Promise}
use Rattle.nr_spec_typing.specs.Scopes.{meaning}
use Rattle.nr_spec_typing.specs.Steps.{◌<$>◌, all_of, in_turn}
use Rattle.nr_spec_typing.specs.Forms.{typed}

-- what a well typed text says
pub record TypedText : Type 0 where
  pub network : ℕ
  pub commit : ℕ
  pub neighbours : List Neighbour
  pub promises : List Promise

-- what the declarations up to a place say; the names in the order of their declarations
pub record Known : Type 0 where
  pub network : Option ℕ
  pub commit : Option ℕ
  pub names : List Declared
  pub neighbours : List Neighbour
  pub promises : List Promise

abbrev pub nothing : Known
nothing = record { network = None; commit = None; names = []; neighbours = []; promises = [] }

-- ---- names

abbrev pub is_group : Declared → Bool
is_group d = elim d.means [ named.Group members ↦ true | _ ↦ false ]

abbrev pub is_define : Declared → Bool
is_define d = elim d.means [ named.Define patterns ↦ true | _ ↦ false ]

-- no earlier declaration has this name
abbrev pub is_new : List Declared → Name → Bool
is_new names name = is_none (meaning names name.word)

abbrev pub declare : List Declared → Name → Named → List Declared
declare names name means = names ++ record { word = name.word; means = means } ∷ []

-- ---- numbers

-- 365 days, in seconds
abbrev pub most_seconds : ℕ
most_seconds = 31536000

-- a number of at most this value, else a fault at it
abbrev pub at_most : ℕ → Num → Result ℕ ℕ
at_most most n = wants (nat_le n.value most) n.span.from n.value

-- ---- `network` and `commit`: a second one is a fault at its keyword

unfoldable pub network : Known → Num → Span → Result Known ℕ
network k value span = wants (is_none k.network) span.from (record k { network = Some value.value })

unfoldable pub commit : Known → Num → Span → Result Known ℕ
commit k value span = do
  first ← wants (is_none k.commit) span.from value
  seconds ← at_most most_seconds first
  Ok (record k { commit = Some seconds })

-- ---- neighbours

abbrev pub same_number : Option (Digest × ℕ) → Option (RootText × Num) → Bool
same_number (Some key) (Some other) = key.1 == other.1.value
same_number _ _ = false

-- a neighbour has this AS, and this address or this session number
abbrev pub is_like : Num → Num → Option (RootText × Num) → Neighbour → Bool
is_like asn addr key n = n.asn == asn.value && (n.addr == addr.value || same_number n.key key)

-- the name is new, fewer than 256 neighbours stand before it, and none of them is like it
abbrev pub is_neighbour_name : Known → Name → Num → Num → Option (RootText × Num) → Bool
is_neighbour_name k name asn addr key =
    is_new k.names name && nat_lt (length k.neighbours) 256 && not (list_any (is_like asn addr key) k.neighbours)

-- the root of a neighbour's key, and the number below 256 under which it knows this network
abbrev pub key_of : Option (RootText × Num) → Result (Option (Digest × ℕ)) ℕ
key_of None = Ok None
key_of (Some key) = (λ n. Some (key.0.digest, n)) <$> at_most 255 key.1

unfoldable pub neighbour : Known → Name → Num → Num → Option (RootText × Num) → Result Known ℕ
neighbour k name asn addr signs = do
  called ← wants (is_neighbour_name k name asn addr signs) name.span.from name
  key ← key_of signs
  Ok (record k {
    names = declare k.names called (named.Neighbour (length k.neighbours));
    neighbours = k.neighbours ++ record { name = called.word; asn = asn.value; addr = addr.value; key = key } ∷ [];
  })

-- ---- groups: a member is a neighbour that the group didn't name before

abbrev pub member_by : ℕ → List ℕ → Option Named → Result ℕ ℕ
member_by place before (Some (named.Neighbour n)) = wants (not (list_any (λ m. m == n) before)) place n
member_by place before _ = Err place

abbrev pub member : List Declared → List ℕ → Name → Result ℕ ℕ
member names before name = member_by name.span.from before (meaning names name.word)

abbrev pub add_member : List Declared → List ℕ → Name → Result (List ℕ) ℕ
add_member names before name = (λ n. before ++ n ∷ []) <$> member names before name

abbrev pub members : List Declared → List Name → Result (List ℕ) ℕ
members names texts = in_turn (add_member names) [] texts

unfoldable pub group : Known → Name → List Name → Result Known ℕ
group k name texts = do
  called ← wants (is_new k.names name && nat_lt (count_by is_group k.names) 64) name.span.from name
  numbers ← members k.names texts
  Ok (record k { names = declare k.names called (named.Group numbers) })

-- ---- sets of prefixes

-- the greatest length of a pattern: without `le` the prefix's own length, with it a number from that length to 32
abbrev pub most_of : ℕ → Option Num → Result ℕ ℕ
most_of len None = Ok len
most_of len (Some most) = wants (nat_le len most.value && nat_le most.value 32) most.span.from most.value

abbrev pub pattern : PatternText → Result Pattern ℕ
pattern p = (λ most. record { prefix = p.prefix; most = most }) <$> most_of p.prefix.len p.most

unfoldable pub define : Known → Name → List PatternText → Result Known ℕ
define k name texts = do
  called ← wants (is_new k.names name && nat_lt (count_by is_define k.names) 64) name.span.from name
  set ← all_of pattern texts
  Ok (record k { names = declare k.names called (named.Define set) })

-- ---- promises

abbrev pub places_by : List PrefixText → Option PrefixText → Result (List Cidr) ℕ
places_by at None = Ok (map (λ p. p.prefix) at)
places_by at (Some p) = Err p.span.from

-- 1,024 prefixes at most after `at`: the next is a fault
abbrev pub places : List PrefixText → Result (List Cidr) ℕ
places at = places_by at (slice_get at 1024)

-- a promise's name is declared where it stands, so no variable in it has that name
unfoldable pub promise : Known → Name → Num → List PrefixText → Form → Result Known ℕ
promise k name grace at form = do
  called ← wants (is_new k.names name && nat_lt (length k.promises) 256) name.span.from name
  seconds ← at_most most_seconds grace
  prefixes ← places at
  held ← typed form (record { names = declare k.names called named.Promise; variables = [] })
  Ok (record k {
    names = declare k.names called named.Promise;
    promises = k.promises ++ record { name = called.word; grace = seconds; at = prefixes; form = held } ∷ [];
  })

-- ---- the whole text

abbrev pub declaration : Known → Decl → Result Known ℕ
declaration k (decls.Network value span) = network k value span
declaration k (decls.Commit value span) = commit k value span
declaration k (decls.Neighbour name asn addr key) = neighbour k name asn addr key
declaration k (decls.Group name members) = group k name members
declaration k (decls.Define name patterns) = define k name patterns
declaration k (decls.Promise name grace at form) = promise k name grace at form

abbrev pub declarations : List Decl → Result Known ℕ
declarations decls = in_turn declaration nothing decls

-- a missing `network` or `commit` is a fault at the end of the text
abbrev pub whole_by : ℕ → Known → Option ℕ → Option ℕ → Result TypedText ℕ
whole_by end k (Some network) (Some commit) =
    Ok (record { network = network; commit = commit; neighbours = k.neighbours; promises = k.promises })
whole_by end k _ _ = Err end

abbrev pub whole : ℕ → Known → Result TypedText ℕ
whole end k = whole_by end k k.network k.commit

unfoldable pub typed_text : File → Result TypedText ℕ
typed_text file = do
  known ← declarations file.decls
  whole file.end known
