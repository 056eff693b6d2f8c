-- A file whose tokens stand elsewhere: a function takes each place to another.
use Rattle.std.specs.Prelude.{ℕ, map, Option, Some, None, Result, Ok, Err}
use Rattle.nr_spec_rules.specs.declared.span.Span.{Span}
use Rattle.nr_rule_syntax.specs.declared.tree.Name.{Name}
use Rattle.nr_rule_syntax.specs.declared.tree.Num.{Num}
use Rattle.nr_rule_syntax.specs.declared.tree.RootText.{RootText}
use Rattle.nr_rule_syntax.specs.declared.tree.PatternText.{PatternText}
use Rattle.nr_rule_syntax.specs.declared.tree.PrefixText.{PrefixText}
use Rattle.nr_rule_syntax.specs.declared.tree.File.{File}
use Rattle.nr_rule_syntax.specs.declared.tree.Decl.{Decl}
use Rattle.nr_rule_syntax.specs.declared.tree.Decl.TheVariants as decls
use Rattle.nr_rule_syntax.specs.declared.tree.Form.{Form}
use Rattle.nr_rule_syntax.specs.declared.tree.Form.TheOpen.{Form-F}
use Rattle.nr_rule_syntax.specs.declared.tree.Form.TheFolds.{fold-Form}
use Rattle.nr_rule_syntax.specs.declared.tree.Form.TheVariants as forms
use Rattle.nr_rule_syntax.specs.declared.tree.Term.{Term}
use Rattle.nr_rule_syntax.specs.declared.tree.Term.TheVariants as terms

abbrev pub Move : Type 0
Move = ℕ → ℕ

-- what was found is the same, and a fault is at the place where its token then stands
abbrev pub moved_fault : {A : Type 0} → Move → Result A ℕ → Result A ℕ
moved_fault to (Ok x) = Ok x
moved_fault to (Err place) = Err (to place)

abbrev pub moved_span : Move → Span → Span
moved_span to s = record { from = to s.from; to = to s.to }

abbrev pub moved_name : Move → Name → Name
moved_name to n = record { word = n.word; span = moved_span to n.span }

abbrev pub moved_number : Move → Num → Num
moved_number to n = record { value = n.value; span = moved_span to n.span }

abbrev pub moved_term : Move → Term → Term
moved_term to (terms.Number n) = terms.Number (moved_number to n)
moved_term to terms.Bits = terms.Bits
moved_term to (terms.Length of) = terms.Length (moved_name to of)
moved_term to (terms.Med of) = terms.Med (moved_name to of)
moved_term to (terms.Pref of) = terms.Pref (moved_name to of)
moved_term to (terms.Origin of) = terms.Origin (moved_name to of)
moved_term to (terms.First of) = terms.First (moved_name to of)
moved_term to (terms.Last of) = terms.Last (moved_name to of)
moved_term to (terms.Hop of) = terms.Hop (moved_name to of)
moved_term to (terms.Asn of) = terms.Asn (moved_name to of)

-- one formula, with those that it holds in their place
abbrev pub moved_step : Move → Form-F Form → Form
moved_step to Form-F.True = forms.True
moved_step to Form-F.False = forms.False
moved_step to (Form-F.Not held) = forms.Not held
moved_step to (Form-F.And members) = forms.And members
moved_step to (Form-F.Or members) = forms.Or members
moved_step to (Form-F.Implies left right) = forms.Implies left right
moved_step to (Form-F.All var among form) = forms.All (moved_name to var) (moved_name to among) form
moved_step to (Form-F.Some var among form) = forms.Some (moved_name to var) (moved_name to among) form
moved_step to (Form-F.If var side of yes_ no_) = forms.If (moved_name to var) side (moved_name to of) yes_ no_
moved_step to (Form-F.Stands side of) = forms.Stands side (moved_name to of)
moved_step to (Form-F.Has var community) = forms.Has (moved_name to var) community
moved_step to (Form-F.Crosses var term) = forms.Crosses (moved_name to var) (moved_term to term)
moved_step to (Form-F.Is left right) = forms.Is (moved_name to left) (moved_name to right)
moved_step to (Form-F.PrefixIn set) = forms.PrefixIn (moved_name to set)
moved_step to (Form-F.Compare left op right) = forms.Compare (moved_term to left) op (moved_term to right)

abbrev pub moved_form : Move → Form → Form
moved_form to = fold-Form Form (moved_step to)

abbrev pub moved_key : Move → Option (RootText × Num) → Option (RootText × Num)
moved_key to None = None
moved_key to (Some key) =
    Some (record { digest = key.0.digest; span = moved_span to key.0.span }, moved_number to key.1)

abbrev pub moved_most : Move → Option Num → Option Num
moved_most to None = None
moved_most to (Some n) = Some (moved_number to n)

abbrev pub moved_pattern : Move → PatternText → PatternText
moved_pattern to p = record { prefix = p.prefix; most = moved_most to p.most; span = moved_span to p.span }

abbrev pub moved_prefix : Move → PrefixText → PrefixText
moved_prefix to p = record { prefix = p.prefix; span = moved_span to p.span }

abbrev pub moved_declaration : Move → Decl → Decl
moved_declaration to (decls.Network value span) = decls.Network (moved_number to value) (moved_span to span)
moved_declaration to (decls.Commit value span) = decls.Commit (moved_number to value) (moved_span to span)
moved_declaration to (decls.Neighbour name asn addr key) =
    decls.Neighbour (moved_name to name) (moved_number to asn) (moved_number to addr) (moved_key to key)
moved_declaration to (decls.Group name members) = decls.Group (moved_name to name) (map (moved_name to) members)
moved_declaration to (decls.Define name patterns) = decls.Define (moved_name to name) (map (moved_pattern to) patterns)
moved_declaration to (decls.Promise name grace at form) =
    decls.Promise (moved_name to name) (moved_number to grace) (map (moved_prefix to) at) (moved_form to form)

abbrev pub moved : Move → File → File
moved to file = record { decls = map (moved_declaration to) file.decls; end = to file.end }
