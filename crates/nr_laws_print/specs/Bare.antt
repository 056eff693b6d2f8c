-- A file without its places. Two files with the same one say the same.
use Rattle.std.specs.Prelude.{◌≡◌, map, Option, Some, None, Ok}
use Rattle.nr_spec_rules.specs.declared.span.Span.{Span}
use Rattle.nr_rule_syntax.specs.declared.tree.Name.{Name}
use Rattle.nr_rule_syntax.specs.declared.tree.Num.{Num}
use Rattle.nr_rule_syntax.specs.declared.tree.RootText.{RootText}
use Rattle.nr_rule_syntax.specs.declared.tree.PatternText.{PatternText}
use Rattle.nr_rule_syntax.specs.declared.tree.PrefixText.{PrefixText}
use Rattle.nr_rule_syntax.specs.declared.tree.File.{File}
use Rattle.nr_rule_syntax.specs.declared.tree.Decl.{Decl}
use Rattle.nr_rule_syntax.specs.declared.tree.Decl.TheVariants as decls
use Rattle.nr_rule_syntax.specs.declared.tree.Form.{Form}
use Rattle.nr_rule_syntax.specs.declared.tree.Form.TheOpen.{Form-F}
use Rattle.nr_rule_syntax.specs.declared.tree.Form.TheFolds.{fold-Form}
use Rattle.nr_rule_syntax.specs.declared.tree.Form.TheVariants as forms
use Rattle.nr_rule_syntax.specs.Printing.{file_text}
use Rattle.nr_rule_syntax.specs.Reading.{file_of}
use Rattle.nr_rule_syntax.specs.declared.tree.Term.{Term}
use Rattle.nr_rule_syntax.specs.declared.tree.Term.TheVariants as terms

abbrev pub nowhere : Span
nowhere = record { from = 0; to = 0 }

abbrev pub bare_name : Name → Name
bare_name n = record { word = n.word; span = nowhere }

abbrev pub bare_number : Num → Num
bare_number n = record { value = n.value; span = nowhere }

abbrev pub bare_term : Term → Term
bare_term (terms.Number n) = terms.Number (bare_number n)
bare_term terms.Bits = terms.Bits
bare_term (terms.Length of) = terms.Length (bare_name of)
bare_term (terms.Med of) = terms.Med (bare_name of)
bare_term (terms.Pref of) = terms.Pref (bare_name of)
bare_term (terms.Origin of) = terms.Origin (bare_name of)
bare_term (terms.First of) = terms.First (bare_name of)
bare_term (terms.Last of) = terms.Last (bare_name of)
bare_term (terms.Hop of) = terms.Hop (bare_name of)
bare_term (terms.Asn of) = terms.Asn (bare_name of)

-- one formula, with those that it holds in their place
abbrev pub bare_step : Form-F Form → Form
bare_step Form-F.True = forms.True
bare_step Form-F.False = forms.False
bare_step (Form-F.Not held) = forms.Not held
bare_step (Form-F.And members) = forms.And members
bare_step (Form-F.Or members) = forms.Or members
bare_step (Form-F.Implies left right) = forms.Implies left right
bare_step (Form-F.All var group form) = forms.All (bare_name var) (bare_name group) form
bare_step (Form-F.Some var group form) = forms.Some (bare_name var) (bare_name group) form
bare_step (Form-F.If var side of then_ else_) = forms.If (bare_name var) side (bare_name of) then_ else_
bare_step (Form-F.Stands side of) = forms.Stands side (bare_name of)
bare_step (Form-F.Has var community) = forms.Has (bare_name var) community
bare_step (Form-F.Crosses var term) = forms.Crosses (bare_name var) (bare_term term)
bare_step (Form-F.Is left right) = forms.Is (bare_name left) (bare_name right)
bare_step (Form-F.PrefixIn set) = forms.PrefixIn (bare_name set)
bare_step (Form-F.Compare left op right) = forms.Compare (bare_term left) op (bare_term right)

abbrev pub bare_form : Form → Form
bare_form = fold-Form Form bare_step

abbrev pub bare_root : RootText → RootText
bare_root r = record { digest = r.digest; span = nowhere }

abbrev pub bare_key : Option (RootText × Num) → Option (RootText × Num)
bare_key None = None
bare_key (Some (root, number)) = Some (bare_root root, bare_number number)

abbrev pub bare_most : Option Num → Option Num
bare_most None = None
bare_most (Some n) = Some (bare_number n)

abbrev pub bare_pattern : PatternText → PatternText
bare_pattern p = record { prefix = p.prefix; most = bare_most p.most; span = nowhere }

abbrev pub bare_prefix : PrefixText → PrefixText
bare_prefix p = record { prefix = p.prefix; span = nowhere }

abbrev pub bare_declaration : Decl → Decl
bare_declaration (decls.Network value span) = decls.Network (bare_number value) nowhere
bare_declaration (decls.Commit value span) = decls.Commit (bare_number value) nowhere
bare_declaration (decls.Neighbour name asn addr key) =
    decls.Neighbour (bare_name name) (bare_number asn) (bare_number addr) (bare_key key)
bare_declaration (decls.Group name members) = decls.Group (bare_name name) (map bare_name members)
bare_declaration (decls.Define name patterns) = decls.Define (bare_name name) (map bare_pattern patterns)
bare_declaration (decls.Promise name grace at form) =
    decls.Promise (bare_name name) (bare_number grace) (map bare_prefix at) (bare_form form)

-- a file without its places
abbrev pub bare : File → File
bare file = record { decls = map bare_declaration file.decls; end = 0 }

-- they say the same, wherever it stands
abbrev pub SameButSpans : File → File → Type 0
SameButSpans a b = bare a ≡ bare b

-- The one text of a file is read, as a file that says the same.
pub record IsReadBack (file : File) : Type 0 where
  pub again : File
  pub reads : file_of (file_text file) ≡ Ok again
  pub same : SameButSpans again file
