-- The one text that is printed for a file: a declaration a line, and parentheses where the tree needs them.
use Rattle.std.specs.Prelude.{ℕ, ◌/◌, ◌%◌, List, [], ◌∷◌, ◌++◌, map, Option, Some, None, nat_lt, if◌then◌else◌, codes}
use Rattle.std.specs.Fmt.{decimal}
use Rattle.hex.specs.Hex.{encode_lower}
use Rattle.nr_spec_bgp.specs.PrefixText.{address_text, cidr_text}
use Rattle.nr_rule_syntax.specs.declared.tree.Name.{Name}
use Rattle.nr_rule_syntax.specs.declared.tree.Num.{Num}
use Rattle.nr_rule_syntax.specs.declared.tree.RootText.{RootText}
use Rattle.nr_rule_syntax.specs.declared.tree.PatternText.{PatternText}
use Rattle.nr_rule_syntax.specs.declared.tree.PrefixText.{PrefixText}
use Rattle.nr_rule_syntax.specs.declared.tree.File.{File}
use Rattle.nr_rule_syntax.specs.declared.tree.Decl.{Decl}
use Rattle.nr_rule_syntax.specs.declared.tree.Decl.TheVariants.{Network, Commit, Neighbour, Group, Define, Promise}
use Rattle.nr_rule_syntax.specs.declared.tree.Side.{Side}
use Rattle.nr_rule_syntax.specs.declared.tree.Side.TheVariants.{Sent, Received}
use Rattle.nr_rule_syntax.specs.declared.tree.Form.{Form}
use Rattle.nr_rule_syntax.specs.declared.tree.Form.TheOpen.{Form-F}
use Rattle.nr_rule_syntax.specs.declared.tree.Form.TheFolds.{fold-Form}
use Rattle.nr_rule_syntax.specs.declared.tree.Term.{Term}
use Rattle.nr_rule_syntax.specs.declared.tree.Term.TheVariants as terms
use Rattle.nr_rule_syntax.specs.declared.tree.Cmp.{Cmp}
use Rattle.nr_rule_syntax.specs.declared.tree.Cmp.TheVariants as cmps

-- pieces of a text, one after another
abbrev pub spelled : List (List ℕ) → List ℕ
spelled [] = []
spelled (piece ∷ pieces) = piece ++ spelled pieces

-- this text before each
abbrev pub each_behind : List ℕ → List (List ℕ) → List ℕ
each_behind between texts = spelled (map (λ text. between ++ text) texts)

-- texts with this text between
abbrev pub joined : List ℕ → List (List ℕ) → List ℕ
joined between [] = []
joined between (first ∷ more) = first ++ each_behind between more

-- ---- terms

abbrev pub call_text : List ℕ → Name → List ℕ
call_text word of = spelled (word ∷ codes "(" ∷ of.word ∷ codes ")" ∷ [])

abbrev pub term_text : Term → List ℕ
term_text (terms.Number n) = decimal n.value
term_text terms.Bits = codes "bits"
term_text (terms.Length of) = call_text (codes "length") of
term_text (terms.Med of) = call_text (codes "med") of
term_text (terms.Pref of) = call_text (codes "pref") of
term_text (terms.Origin of) = call_text (codes "origin") of
term_text (terms.First of) = call_text (codes "first") of
term_text (terms.Last of) = call_text (codes "last") of
term_text (terms.Hop of) = call_text (codes "hop") of
term_text (terms.Asn of) = call_text (codes "asn") of

abbrev pub comparison_text : Cmp → List ℕ
comparison_text cmps.Eq = codes "="
comparison_text cmps.Ne = codes "!="
comparison_text cmps.Lt = codes "<"
comparison_text cmps.Le = codes "<="
comparison_text cmps.Gt = codes ">"
comparison_text cmps.Ge = codes ">="

abbrev pub compared_text : Term → Cmp → Term → List ℕ
compared_text left op right =
    spelled (term_text left ∷ codes " " ∷ comparison_text op ∷ codes " " ∷ term_text right ∷ [])

abbrev pub side_text : Side → List ℕ
side_text Sent = codes "sent"
side_text Received = codes "received"

abbrev pub route_text : Side → Name → List ℕ
route_text side of = call_text (side_text side) of

abbrev pub community_text : ℕ → List ℕ
community_text c = spelled (decimal (c / 65536) ∷ codes ":" ∷ decimal (c % 65536) ∷ [])

-- `if`, a variable and the route that it stands for, `then`
abbrev pub bound_text : Name → Side → Name → List ℕ
bound_text var side of = spelled (codes "if " ∷ var.word ∷ codes " = " ∷ route_text side of ∷ codes " then " ∷ [])

abbrev pub has_text : Name → ℕ → List ℕ
has_text var community = spelled (var.word ∷ codes " has " ∷ community_text community ∷ [])

abbrev pub crosses_text : Name → Term → List ℕ
crosses_text var term = spelled (var.word ∷ codes " crosses " ∷ term_text term ∷ [])

abbrev pub pair_text : Name → List ℕ → Name → List ℕ
pair_text left between right = spelled (left.word ∷ between ∷ right.word ∷ [])

-- ---- formulas

-- How tightly a formula binds, and its text: `implies` 0, `or` 1, `and` 2, and all others 3.
pub record Printed : Type 0 where
  pub binds : ℕ
  pub text : List ℕ

-- its text where a formula must bind as tightly as this: in parentheses if it doesn't
abbrev pub within : ℕ → Printed → List ℕ
within least p = if nat_lt p.binds least then spelled (codes "(" ∷ p.text ∷ codes ")" ∷ []) else p.text

abbrev pub tight : List (List ℕ) → Printed
tight pieces = record { binds = 3; text = spelled pieces }

-- members of an `and` or `or`
abbrev pub members_text : List ℕ → ℕ → List Printed → List ℕ
members_text between least members = joined between (map (within least) members)

-- one formula, with those that it holds in their place
abbrev pub printed_step : Form-F Printed → Printed
printed_step Form-F.True = tight (codes "true" ∷ [])
printed_step Form-F.False = tight (codes "false" ∷ [])
printed_step (Form-F.Not held) = tight (codes "not " ∷ within 3 held ∷ [])
printed_step (Form-F.And members) = record { binds = 2; text = members_text (codes " and ") 3 members }
printed_step (Form-F.Or members) = record { binds = 1; text = members_text (codes " or ") 2 members }
printed_step (Form-F.Implies left right) =
    record { binds = 0; text = spelled (within 1 left ∷ codes " implies " ∷ right.text ∷ []) }
printed_step (Form-F.All var group form) =
    tight (codes "all " ∷ pair_text var (codes " in ") group ∷ codes " { " ∷ form.text ∷ codes " }" ∷ [])
printed_step (Form-F.Some var group form) =
    tight (codes "some " ∷ pair_text var (codes " in ") group ∷ codes " { " ∷ form.text ∷ codes " }" ∷ [])
printed_step (Form-F.If var side of then_ else_) =
    tight (bound_text var side of ∷ then_.text ∷ codes " else " ∷ else_.text ∷ codes " end" ∷ [])
printed_step (Form-F.Stands side of) = tight (route_text side of ∷ [])
printed_step (Form-F.Has var community) = tight (has_text var community ∷ [])
printed_step (Form-F.Crosses var term) = tight (crosses_text var term ∷ [])
printed_step (Form-F.Is left right) = tight (pair_text left (codes " is ") right ∷ [])
printed_step (Form-F.PrefixIn set) = tight (codes "prefix in " ∷ set.word ∷ [])
printed_step (Form-F.Compare left op right) = tight (compared_text left op right ∷ [])

abbrev pub printed : Form → Printed
printed = fold-Form Printed printed_step

-- ---- declarations

abbrev pub key_text : Option (RootText × Num) → List ℕ
key_text None = []
key_text (Some (root, number)) =
    spelled (codes " root #" ∷ encode_lower root.digest.0 ∷ codes " number " ∷ decimal number.value ∷ [])

-- a greatest length only where one was written
abbrev pub most_text : Option Num → List ℕ
most_text None = []
most_text (Some most) = spelled (codes " le " ∷ decimal most.value ∷ [])

abbrev pub pattern_text : PatternText → List ℕ
pattern_text p = spelled (cidr_text p.prefix ∷ most_text p.most ∷ [])

abbrev pub name_text : Name → List ℕ
name_text n = n.word

abbrev pub prefix_text : PrefixText → List ℕ
prefix_text p = cidr_text p.prefix

abbrev pub places_text : List PrefixText → List ℕ
places_text [] = []
places_text (first ∷ more) =
    spelled (codes " at " ∷ prefix_text first ∷ each_behind (codes ", ") (map prefix_text more) ∷ [])

-- a word, a number, and the end of the line
abbrev pub numbered_text : List ℕ → ℕ → List ℕ
numbered_text word n = spelled (word ∷ decimal n ∷ codes ";\n" ∷ [])

-- a word, a name, and a word after it
abbrev pub head_text : List ℕ → Name → List ℕ → List ℕ
head_text word name behind = spelled (word ∷ name.word ∷ behind ∷ [])

abbrev pub declaration_text : Decl → List ℕ
declaration_text (Network value span) = numbered_text (codes "network ") value.value
declaration_text (Commit value span) = numbered_text (codes "commit ") value.value
declaration_text (Neighbour name asn addr key) =
    spelled (head_text (codes "neighbour ") name (codes " as ") ∷ decimal asn.value ∷ codes " at "
    ∷ address_text addr.value ∷ key_text key ∷ codes ";\n" ∷ [])
declaration_text (Group name members) =
    spelled (head_text (codes "group ") name (codes " = ")
    ∷ joined (codes ", ") (map name_text members) ∷ codes ";\n" ∷ [])
declaration_text (Define name patterns) =
    spelled (head_text (codes "define ") name (codes " = ")
    ∷ joined (codes ", ") (map pattern_text patterns) ∷ codes ";\n" ∷ [])
declaration_text (Promise name grace at form) =
    spelled (head_text (codes "promise ") name (codes " grace ") ∷ decimal grace.value ∷ places_text at
    ∷ codes " { " ∷ (printed form).text ∷ codes " }\n" ∷ [])

-- the one text of a file
abbrev pub file_text : File → List ℕ
file_text file = spelled (map declaration_text file.decls)
