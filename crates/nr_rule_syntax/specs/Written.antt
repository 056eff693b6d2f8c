-- What holds of each file that is read, and so can be relied on: names are written as names, numbers and addresses
-- have 32 bits, prefixes are masked, roots have 32 bytes, a list that is written has a member, and an `and` or `or`
-- has two or more.
use Rattle.std.specs.Prelude.{◌≡◌, ℕ, ◌≤◌, Bool, true, false, ◌&&◌, List, [], ◌∷◌, length, Option, Some, None, nat_le, nat_lt}
use Rattle.std.specs.Char.{is_ascii_alphabetic}
use Rattle.std.specs.List.{list_all, AllByRecursion}
use Rattle.nr_spec_bgp.specs.Prefixes.{IsCidr}
use Rattle.nr_spec_rules.specs.declared.kind.Kind.TheVariants as k
use Rattle.nr_spec_rules.specs.Tokens.{in_word, same_kind, word_kind}
use Rattle.hex.specs.Hex.{IsBytes}
use Rattle.nr_rule_syntax.specs.declared.tree.Name.{Name}
use Rattle.nr_rule_syntax.specs.declared.tree.Num.{Num}
use Rattle.nr_rule_syntax.specs.declared.tree.RootText.{RootText}
use Rattle.nr_rule_syntax.specs.declared.tree.PatternText.{PatternText}
use Rattle.nr_rule_syntax.specs.declared.tree.PrefixText.{PrefixText}
use Rattle.nr_rule_syntax.specs.declared.tree.Decl.{Decl}
use Rattle.nr_rule_syntax.specs.declared.tree.Decl.TheVariants.{Network, Commit, Neighbour, Group, Define, Promise}
use Rattle.nr_rule_syntax.specs.declared.tree.Form.{Form}
use Rattle.nr_rule_syntax.specs.declared.tree.Form.TheOpen.{Form-F}
use Rattle.nr_rule_syntax.specs.declared.tree.Form.TheFolds.{fold-Form}
use Rattle.nr_rule_syntax.specs.declared.tree.Term.{Term}
use Rattle.nr_rule_syntax.specs.declared.tree.Term.TheVariants as terms

-- a letter, and letters, digits and `_` after it
abbrev pub is_word : List ℕ → Bool
is_word [] = false
is_word (b ∷ more) = is_ascii_alphabetic b && list_all in_word (b ∷ more)

-- a word that is no keyword, of at most 32 bytes
unfoldable pub is_name_word : List ℕ → Bool
is_name_word word = is_word word && same_kind (word_kind word) k.Name

abbrev pub is_name : Name → Bool
is_name n = is_name_word n.word

-- below 2^32
abbrev pub is_short : ℕ → Bool
is_short n = nat_lt n 4294967296

abbrev pub is_term : Term → Bool
is_term (terms.Number n) = is_short n.value
is_term terms.Bits = true
is_term (terms.Length of) = is_name of
is_term (terms.Med of) = is_name of
is_term (terms.Pref of) = is_name of
is_term (terms.Origin of) = is_name of
is_term (terms.First of) = is_name of
is_term (terms.Last of) = is_name of
is_term (terms.Hop of) = is_name of
is_term (terms.Asn of) = is_name of

-- two members or more, each of them such
abbrev pub are_members : List Bool → Bool
are_members members = nat_le 2 (length members) && list_all (λ m. m) members

-- one formula, with what holds of those that it holds in their place
abbrev pub written_step : Form-F Bool → Bool
written_step Form-F.True = true
written_step Form-F.False = true
written_step (Form-F.Not held) = held
written_step (Form-F.And members) = are_members members
written_step (Form-F.Or members) = are_members members
written_step (Form-F.Implies left right) = left && right
written_step (Form-F.All var group form) = is_name var && is_name group && form
written_step (Form-F.Some var group form) = is_name var && is_name group && form
written_step (Form-F.If var side of then_ else_) = is_name var && is_name of && then_ && else_
written_step (Form-F.Stands side of) = is_name of
written_step (Form-F.Has var community) = is_name var && is_short community
written_step (Form-F.Crosses var term) = is_name var && is_term term
written_step (Form-F.Is left right) = is_name left && is_name right
written_step (Form-F.PrefixIn set) = is_name set
written_step (Form-F.Compare left op right) = is_term left && is_term right

abbrev pub is_written : Form → Bool
is_written = fold-Form Bool written_step

-- ---- declarations

abbrev pub IsName : Name → Type 0
IsName n = is_name n ≡ true

abbrev pub IsNumber : Num → Type 0
IsNumber n = is_short n.value ≡ true

abbrev pub IsPrefix : PrefixText → Type 0
IsPrefix p = IsCidr p.prefix

abbrev pub IsMost : Option Num → Type 0
IsMost None = Unit {0}
IsMost (Some n) = IsNumber n

abbrev pub IsPattern : PatternText → Type 0
IsPattern p = IsCidr p.prefix × IsMost p.most

abbrev pub IsRoot : RootText → Type 0
IsRoot r = (length r.digest.0 ≡ 32) × IsBytes r.digest.0

abbrev pub IsKey : Option (RootText × Num) → Type 0
IsKey None = Unit {0}
IsKey (Some (root, number)) = IsRoot root × IsNumber number

-- one or more, each of them such
abbrev pub AreSome : {A : Type 0} → (A → Type 0) → List A → Type 0
AreSome Q xs = (1 ≤ length xs) × AllByRecursion Q xs

abbrev pub IsWritten : Decl → Type 0
IsWritten (Network value span) = IsNumber value
IsWritten (Commit value span) = IsNumber value
IsWritten (Neighbour name asn addr key) = IsName name × IsNumber asn × IsNumber addr × IsKey key
IsWritten (Group name members) = IsName name × AreSome IsName members
IsWritten (Define name patterns) = IsName name × AreSome IsPattern patterns
IsWritten (Promise name grace at form) =
    IsName name × IsNumber grace × AllByRecursion IsPrefix at × (is_written form ≡ true)
