-- The typing of a formula, node by node and in the order of its text: the tree with its names resolved, or the
-- place of the first fault.
use Rattle.std.specs.Prelude.{ℕ, List, length, Result, Ok}
use Rattle.nr_spec_wire.specs.Reading.{◌>>=◌}
use Rattle.nr_rule_syntax.specs.declared.tree.Name.{Name}
use Rattle.nr_rule_syntax.specs.declared.tree.Side.{Side}
use Rattle.nr_rule_syntax.specs.declared.tree.Form.{Form}
use Rattle.nr_rule_syntax.specs.declared.tree.Form.TheOpen.{Form-F}
use Rattle.nr_rule_syntax.specs.declared.tree.Form.TheFolds.{fold-Form}
use Rattle.nr_rule_syntax.specs.declared.tree.Term.{Term}
use Rattle.nr_rule_syntax.specs.declared.tree.Term.TheVariants as terms
use Rattle.nr_rule_syntax.specs.declared.tree.Cmp.{Cmp}
use Rattle.nr_spec_typing.specs.declared.name.Bound.TheVariants.{Neighbour, Route}
use Rattle.nr_spec_typing.specs.declared.tree.Value.{Value}
use Rattle.nr_spec_typing.specs.declared.tree.Value.TheVariants as values
use Rattle.nr_spec_typing.specs.declared.tree.Typing.{Typing}
use Rattle.nr_spec_typing.specs.declared.tree.Typing.TheVariants as typings
use Rattle.nr_spec_typing.specs.Steps.{◌<$>◌, all_of}
use Rattle.nr_spec_typing.specs.Scopes.{Scope, who, route, group, set, new_variable, bind}

abbrev pub value : Scope → Term → Result Value ℕ
value s (terms.Number n) = Ok (values.Number n.value)
value s terms.Bits = Ok values.Bits
value s (terms.Length of) = values.Length <$> route s of
value s (terms.Med of) = values.Med <$> route s of
value s (terms.Pref of) = values.Pref <$> route s of
value s (terms.Origin of) = values.Origin <$> route s of
value s (terms.First of) = values.First <$> route s of
value s (terms.Last of) = values.Last <$> route s of
value s (terms.Hop of) = values.Hop <$> route s of
value s (terms.Asn of) = values.Asn <$> who s of

-- how a formula is typed in a scope
abbrev pub Typer : Type 0
Typer = Scope → Result Typing ℕ

-- the members of an `and` or `or`, one after another
abbrev pub each : List Typer → Scope → Result (List Typing) ℕ
each members s = all_of (λ member. member s) members

unfoldable pub implies : Typer → Typer → Scope → Result Typing ℕ
implies left right s = do
  if_ ← left s
  then_ ← right s
  Ok (typings.Implies if_ then_)

-- `all` and `some` bind a variable for a neighbour: the group's members, and what is held of each
unfoldable pub over_group : Name → Name → Typer → Scope → Result (List ℕ × Typing) ℕ
over_group var among form s = do
  called ← new_variable s var
  members ← group s among
  held ← form (bind s Neighbour called)
  Ok (members, held)

-- `if` binds a variable for a route, in the part after `then` alone
unfoldable pub conditional : Name → Side → Name → Typer → Typer → Scope → Result Typing ℕ
conditional var side of yes_ no_ s = do
  called ← new_variable s var
  from ← who s of
  then_ ← yes_ (bind s Route called)
  else_ ← no_ s
  Ok (typings.If (length s.variables) side from then_ else_)

unfoldable pub crosses : Name → Term → Scope → Result Typing ℕ
crosses var term s = do
  n ← route s var
  t ← value s term
  Ok (typings.Crosses n t)

unfoldable pub is_same : Name → Name → Scope → Result Typing ℕ
is_same left right s = do
  n ← who s left
  m ← who s right
  Ok (typings.Is n m)

unfoldable pub compared : Term → Cmp → Term → Scope → Result Typing ℕ
compared left op right s = do
  n ← value s left
  m ← value s right
  Ok (typings.Compare n op m)

-- one formula, with how those that it holds are typed in their place
abbrev pub typed_step : Form-F Typer → Typer
typed_step Form-F.True = λ s. Ok typings.True
typed_step Form-F.False = λ s. Ok typings.False
typed_step (Form-F.Not held) = λ s. typings.Not <$> held s
typed_step (Form-F.And members) = λ s. typings.And <$> each members s
typed_step (Form-F.Or members) = λ s. typings.Or <$> each members s
typed_step (Form-F.Implies left right) = implies left right
typed_step (Form-F.All var among form) =
    λ s. (λ x. typings.All (length s.variables) x.0 x.1) <$> over_group var among form s
typed_step (Form-F.Some var among form) =
    λ s. (λ x. typings.Some (length s.variables) x.0 x.1) <$> over_group var among form s
typed_step (Form-F.If var side of yes_ no_) = conditional var side of yes_ no_
typed_step (Form-F.Stands side of) = λ s. typings.Stands side <$> who s of
typed_step (Form-F.Has var community) = λ s. (λ n. typings.Has n community) <$> route s var
typed_step (Form-F.Crosses var term) = crosses var term
typed_step (Form-F.Is left right) = is_same left right
typed_step (Form-F.PrefixIn name) = λ s. typings.PrefixIn <$> set s name
typed_step (Form-F.Compare left op right) = compared left op right

abbrev pub typed : Form → Typer
typed = fold-Form Typer typed_step
