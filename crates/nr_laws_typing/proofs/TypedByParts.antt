-- The typing of a written-out formula, by its parts.
use Rattle.std.proofs.Common.{◌≡◌, ℕ, List, map, length, Ok, ap, sym, ◌∙◌}
use Rattle.nr_rule_syntax.specs.declared.tree.Name.{Name}
use Rattle.nr_rule_syntax.specs.declared.tree.Side.{Side}
use Rattle.nr_rule_syntax.specs.declared.tree.Cmp.{Cmp}
use Rattle.nr_rule_syntax.specs.declared.tree.Term.{Term}
use Rattle.nr_rule_syntax.specs.declared.tree.Form.{Form, map-Form, roll-Form, fold-roll-Form}
use Rattle.nr_rule_syntax.specs.declared.tree.Form.TheOpen.{Form-F}
use Rattle.nr_rule_syntax.specs.declared.tree.Form.TheVariants.{rolls-True, rolls-False, rolls-Not, rolls-And, rolls-Or, rolls-Implies, rolls-All, rolls-Some, rolls-If, rolls-Stands, rolls-Has, rolls-Crosses, rolls-Is, rolls-PrefixIn, rolls-Compare}
use Rattle.nr_rule_syntax.specs.declared.tree.Form.TheVariants as forms
use Rattle.nr_spec_typing.specs.declared.tree.Typing.TheVariants as typings
use Rattle.nr_spec_typing.specs.Steps.{◌<$>◌}
use Rattle.nr_spec_typing.specs.Scopes.{Scope, who, route, set}
use Rattle.nr_spec_typing.specs.Forms.{Typer, typed_step, typed, each, implies, over_group, conditional, crosses, is_same, compared}

told : (layer : Form-F Form) (f : Form) (s : Scope) → roll-Form layer ≡ f → typed f s ≡ typed_step (map-Form Form Typer typed layer) s
told layer f s e = ap (λ f. typed f s) (sym e) ∙ ap (λ (t : Typer). t s) (fold-roll-Form Typer typed_step layer)

pub typed-True : (s : Scope) → typed forms.True s ≡ Ok typings.True
typed-True s = told Form-F.True forms.True s rolls-True

pub typed-False : (s : Scope) → typed forms.False s ≡ Ok typings.False
typed-False s = told Form-F.False forms.False s rolls-False

pub typed-Not : (f : Form) (s : Scope) → typed (forms.Not f) s ≡ typings.Not <$> typed f s
typed-Not f s = told (Form-F.Not f) (forms.Not f) s (rolls-Not f)

pub typed-And : (fs : List Form) (s : Scope) → typed (forms.And fs) s ≡ typings.And <$> each (map typed fs) s
typed-And fs s = told (Form-F.And fs) (forms.And fs) s (rolls-And fs)

pub typed-Or : (fs : List Form) (s : Scope) → typed (forms.Or fs) s ≡ typings.Or <$> each (map typed fs) s
typed-Or fs s = told (Form-F.Or fs) (forms.Or fs) s (rolls-Or fs)

pub typed-Implies : (f g : Form) (s : Scope) → typed (forms.Implies f g) s ≡ implies (typed f) (typed g) s
typed-Implies f g s = told (Form-F.Implies f g) (forms.Implies f g) s (rolls-Implies f g)

pub typed-All : (var among : Name) (f : Form) (s : Scope) → typed (forms.All var among f) s ≡ (λ x. typings.All (length s.variables) x.0 x.1) <$> over_group var among (typed f) s
typed-All var among f s = told (Form-F.All var among f) (forms.All var among f) s (rolls-All var among f)

pub typed-Some : (var among : Name) (f : Form) (s : Scope) → typed (forms.Some var among f) s ≡ (λ x. typings.Some (length s.variables) x.0 x.1) <$> over_group var among (typed f) s
typed-Some var among f s = told (Form-F.Some var among f) (forms.Some var among f) s (rolls-Some var among f)

pub typed-If : (var : Name) (side : Side) (of : Name) (f g : Form) (s : Scope) → typed (forms.If var side of f g) s ≡ conditional var side of (typed f) (typed g) s
typed-If var side of f g s = told (Form-F.If var side of f g) (forms.If var side of f g) s (rolls-If var side of f g)

pub typed-Stands : (side : Side) (of : Name) (s : Scope) → typed (forms.Stands side of) s ≡ typings.Stands side <$> who s of
typed-Stands side of s = told (Form-F.Stands side of) (forms.Stands side of) s (rolls-Stands side of)

pub typed-Has : (var : Name) (c : ℕ) (s : Scope) → typed (forms.Has var c) s ≡ (λ n. typings.Has n c) <$> route s var
typed-Has var c s = told (Form-F.Has var c) (forms.Has var c) s (rolls-Has var c)

pub typed-Crosses : (var : Name) (term : Term) (s : Scope) → typed (forms.Crosses var term) s ≡ crosses var term s
typed-Crosses var term s = told (Form-F.Crosses var term) (forms.Crosses var term) s (rolls-Crosses var term)

pub typed-Is : (left right : Name) (s : Scope) → typed (forms.Is left right) s ≡ is_same left right s
typed-Is left right s = told (Form-F.Is left right) (forms.Is left right) s (rolls-Is left right)

pub typed-PrefixIn : (name : Name) (s : Scope) → typed (forms.PrefixIn name) s ≡ typings.PrefixIn <$> set s name
typed-PrefixIn name s = told (Form-F.PrefixIn name) (forms.PrefixIn name) s (rolls-PrefixIn name)

pub typed-Compare : (left : Term) (op : Cmp) (right : Term) (s : Scope) → typed (forms.Compare left op right) s ≡ compared left op right s
typed-Compare left op right s = told (Form-F.Compare left op right) (forms.Compare left op right) s (rolls-Compare left op right)
