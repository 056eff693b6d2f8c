-- The words of a file's one text: each with its kind and its bytes. Where other words follow, they are an argument.
use Rattle.std.specs.Prelude.{ℕ, List, [], ◌∷◌, map, Option, Some, None, nat_lt, if◌then◌else◌, codes}
use Rattle.std.specs.Fmt.{decimal}
use Rattle.hex.specs.Hex.{encode_lower}
use Rattle.nr_spec_bgp.specs.PrefixText.{address_text, cidr_text}
use Rattle.nr_spec_rules.specs.declared.kind.Kind.{Kind}
use Rattle.nr_spec_rules.specs.declared.kind.Kind.TheVariants as k
use Rattle.nr_rule_syntax.specs.declared.tree.Name.{Name}
use Rattle.nr_rule_syntax.specs.declared.tree.Num.{Num}
use Rattle.nr_rule_syntax.specs.declared.tree.RootText.{RootText}
use Rattle.nr_rule_syntax.specs.declared.tree.PatternText.{PatternText}
use Rattle.nr_rule_syntax.specs.declared.tree.PrefixText.{PrefixText}
use Rattle.nr_rule_syntax.specs.declared.tree.File.{File}
use Rattle.nr_rule_syntax.specs.declared.tree.Decl.{Decl}
use Rattle.nr_rule_syntax.specs.declared.tree.Decl.TheVariants.{Network, Commit, Neighbour, Group, Define, Promise}
use Rattle.nr_rule_syntax.specs.declared.tree.Side.{Side}
use Rattle.nr_rule_syntax.specs.declared.tree.Side.TheVariants.{Sent, Received}
use Rattle.nr_rule_syntax.specs.declared.tree.Form.{Form}
use Rattle.nr_rule_syntax.specs.declared.tree.Form.TheOpen.{Form-F}
use Rattle.nr_rule_syntax.specs.declared.tree.Form.TheFolds.{fold-Form}
use Rattle.nr_rule_syntax.specs.declared.tree.Term.{Term}
use Rattle.nr_rule_syntax.specs.declared.tree.Term.TheVariants as terms
use Rattle.nr_rule_syntax.specs.declared.tree.Cmp.{Cmp}
use Rattle.nr_rule_syntax.specs.declared.tree.Cmp.TheVariants as cmps
use Rattle.nr_rule_syntax.specs.Printing.{community_text}

pub record Shown : Type 0 where
  pub kind : Kind
  pub text : List ℕ

abbrev pub word : Kind → List ℕ → Shown
word kind text = record { kind = kind; text = text }

-- words in front of others
abbrev pub Words : Type 0
Words = List Shown → List Shown

-- ---- terms

abbrev pub open_paren : Shown
open_paren = word k.OpenParen (codes "(")

abbrev pub close_paren : Shown
close_paren = word k.CloseParen (codes ")")

abbrev pub name_words : Name → Words
name_words n more = word k.Name n.word ∷ more

abbrev pub number_words : Num → Words
number_words n more = word k.Number (decimal n.value) ∷ more

abbrev pub call_words : Shown → Name → Words
call_words called of more = called ∷ open_paren ∷ word k.Name of.word ∷ close_paren ∷ more

abbrev pub term_words : Term → Words
term_words (terms.Number n) more = number_words n more
term_words terms.Bits more = word k.Bits (codes "bits") ∷ more
term_words (terms.Length of) more = call_words (word k.Length (codes "length")) of more
term_words (terms.Med of) more = call_words (word k.Med (codes "med")) of more
term_words (terms.Pref of) more = call_words (word k.Pref (codes "pref")) of more
term_words (terms.Origin of) more = call_words (word k.Origin (codes "origin")) of more
term_words (terms.First of) more = call_words (word k.First (codes "first")) of more
term_words (terms.Last of) more = call_words (word k.Last (codes "last")) of more
term_words (terms.Hop of) more = call_words (word k.Hop (codes "hop")) of more
term_words (terms.Asn of) more = call_words (word k.Asn (codes "asn")) of more

abbrev pub comparison_word : Cmp → Shown
comparison_word cmps.Eq = word k.Equal (codes "=")
comparison_word cmps.Ne = word k.Unequal (codes "!=")
comparison_word cmps.Lt = word k.Less (codes "<")
comparison_word cmps.Le = word k.LessOrEqual (codes "<=")
comparison_word cmps.Gt = word k.Greater (codes ">")
comparison_word cmps.Ge = word k.GreaterOrEqual (codes ">=")

abbrev pub side_word : Side → Shown
side_word Sent = word k.Sent (codes "sent")
side_word Received = word k.Received (codes "received")

abbrev pub route_words : Side → Name → Words
route_words side of more = call_words (side_word side) of more

-- ---- formulas

-- how tightly a formula binds, and its words
pub record Worded : Type 0 where
  pub binds : ℕ
  pub words : Words

-- in parentheses where it doesn't bind as tightly as this
abbrev pub words_within : ℕ → Worded → Words
words_within least w more = if nat_lt w.binds least then open_paren ∷ w.words (close_paren ∷ more) else w.words more

abbrev pub each_behind : Shown → List Words → Words
each_behind between [] more = more
each_behind between (first ∷ others) more = between ∷ first (each_behind between others more)

abbrev pub joined : Shown → List Words → Words
joined between [] more = more
joined between (first ∷ others) more = first (each_behind between others more)

abbrev pub members_words : Shown → ℕ → List Worded → Words
members_words between least members = joined between (map (words_within least) members)

abbrev pub and_word : Shown
and_word = word k.And (codes "and")

abbrev pub or_word : Shown
or_word = word k.Or (codes "or")

abbrev pub not_word : Shown
not_word = word k.Not (codes "not")

abbrev pub implies_word : Shown
implies_word = word k.Implies (codes "implies")

abbrev pub in_word : Shown
in_word = word k.In (codes "in")

abbrev pub open_brace : Shown
open_brace = word k.OpenBrace (codes "{")

abbrev pub close_brace : Shown
close_brace = word k.CloseBrace (codes "}")

abbrev pub equal : Shown
equal = word k.Equal (codes "=")

abbrev pub if_word : Shown
if_word = word k.If (codes "if")

abbrev pub then_word : Shown
then_word = word k.Then (codes "then")

abbrev pub else_word : Shown
else_word = word k.Else (codes "else")

abbrev pub end_word : Shown
end_word = word k.EndWord (codes "end")

-- `all` or `some`, and what it holds
abbrev pub group_words : Shown → Name → Name → Words → Words
group_words first var group held more =
    first ∷ word k.Name var.word ∷ in_word ∷ word k.Name group.word ∷ open_brace ∷ held (close_brace ∷ more)

abbrev pub if_words : Name → Side → Name → Words → Words → Words
if_words var side of then_ else_ more =
    if_word ∷ word k.Name var.word ∷ equal
    ∷ route_words side of (then_word ∷ then_ (else_word ∷ else_ (end_word ∷ more)))

abbrev pub tight : Words → Worded
tight words = record { binds = 3; words = words }

-- one formula, with those that it holds in their place
abbrev pub worded_step : Form-F Worded → Worded
worded_step Form-F.True = tight (λ more. word k.True (codes "true") ∷ more)
worded_step Form-F.False = tight (λ more. word k.False (codes "false") ∷ more)
worded_step (Form-F.Not held) = tight (λ more. not_word ∷ words_within 3 held more)
worded_step (Form-F.And members) = record { binds = 2; words = members_words and_word 3 members }
worded_step (Form-F.Or members) = record { binds = 1; words = members_words or_word 2 members }
worded_step (Form-F.Implies left right) = record { binds = 0; words = λ more. words_within 1 left (implies_word ∷ right.words more) }
worded_step (Form-F.All var group form) = tight (group_words (word k.All (codes "all")) var group form.words)
worded_step (Form-F.Some var group form) = tight (group_words (word k.Some (codes "some")) var group form.words)
worded_step (Form-F.If var side of then_ else_) = tight (if_words var side of then_.words else_.words)
worded_step (Form-F.Stands side of) = tight (route_words side of)
worded_step (Form-F.Has var community) = tight (λ more. word k.Name var.word ∷ word k.Has (codes "has") ∷ word k.Community (community_text community) ∷ more)
worded_step (Form-F.Crosses var term) = tight (λ more. word k.Name var.word ∷ word k.Crosses (codes "crosses") ∷ term_words term more)
worded_step (Form-F.Is left right) = tight (λ more. word k.Name left.word ∷ word k.Is (codes "is") ∷ word k.Name right.word ∷ more)
worded_step (Form-F.PrefixIn set) = tight (λ more. word k.PrefixWord (codes "prefix") ∷ in_word ∷ word k.Name set.word ∷ more)
worded_step (Form-F.Compare left op right) = tight (λ more. term_words left (comparison_word op ∷ term_words right more))

abbrev pub worded : Form → Worded
worded = fold-Form Worded worded_step

-- ---- declarations

abbrev pub semicolon : Shown
semicolon = word k.Semicolon (codes ";")

abbrev pub comma : Shown
comma = word k.Comma (codes ",")

abbrev pub key_words : Option (RootText × Num) → Words
key_words None more = more
key_words (Some (root, number)) more =
    word k.RootWord (codes "root") ∷ word k.Root (35 ∷ encode_lower root.digest.0) ∷ word k.NumberWord (codes "number") ∷ number_words number more

abbrev pub most_words : Option Num → Words
most_words None more = more
most_words (Some most) more = word k.Le (codes "le") ∷ number_words most more

abbrev pub pattern_words : PatternText → Words
pattern_words p more = word k.Prefix (cidr_text p.prefix) ∷ most_words p.most more

abbrev pub prefix_words : PrefixText → Words
prefix_words p more = word k.Prefix (cidr_text p.prefix) ∷ more

abbrev pub places_words : List PrefixText → Words
places_words [] more = more
places_words (first ∷ others) more = word k.At (codes "at") ∷ joined comma (map prefix_words (first ∷ others)) more

abbrev pub declaration_words : Decl → Words
declaration_words (Network value span) more = word k.Network (codes "network") ∷ number_words value (semicolon ∷ more)
declaration_words (Commit value span) more = word k.Commit (codes "commit") ∷ number_words value (semicolon ∷ more)
declaration_words (Neighbour name asn addr key) more =
    word k.Neighbour (codes "neighbour") ∷ word k.Name name.word ∷ word k.As (codes "as") ∷ word k.Number (decimal asn.value)
    ∷ word k.At (codes "at") ∷ word k.Address (address_text addr.value) ∷ key_words key (semicolon ∷ more)
declaration_words (Group name members) more =
    word k.Group (codes "group") ∷ word k.Name name.word ∷ equal ∷ joined comma (map name_words members) (semicolon ∷ more)
declaration_words (Define name patterns) more =
    word k.Define (codes "define") ∷ word k.Name name.word ∷ equal ∷ joined comma (map pattern_words patterns) (semicolon ∷ more)
declaration_words (Promise name grace at form) more =
    word k.Promise (codes "promise") ∷ word k.Name name.word ∷ word k.Grace (codes "grace") ∷ word k.Number (decimal grace.value)
    ∷ places_words at (open_brace ∷ (worded form).words (close_brace ∷ more))

-- words one behind another
abbrev pub all_words : List Words → Words
all_words [] more = more
all_words (first ∷ others) more = first (all_words others more)

-- the words of a file, and behind them its end
abbrev pub file_words : File → List Shown
file_words file = all_words (map declaration_words file.decls) (word k.End [] ∷ [])
