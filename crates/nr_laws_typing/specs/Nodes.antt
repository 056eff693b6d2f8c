-- The tree of a formula, node by node: for each construct of the language what stands in the tree, over the trees of
-- the formulas that the construct holds.
use Rattle.std.specs.Prelude.{◌≡◌, ℕ, List, [], ◌∷◌, ◌++◌, length, slice_get, Some, Ok}
use Rattle.nr_prefix.specs.declared.set.Pattern.{Pattern}
use Rattle.nr_rule_syntax.specs.declared.tree.Name.{Name}
use Rattle.nr_rule_syntax.specs.declared.tree.Side.{Side}
use Rattle.nr_rule_syntax.specs.declared.tree.Cmp.{Cmp}
use Rattle.nr_rule_syntax.specs.declared.tree.Term.{Term}
use Rattle.nr_rule_syntax.specs.declared.tree.Term.TheVariants as terms
use Rattle.nr_rule_syntax.specs.declared.tree.Form.{Form}
use Rattle.nr_rule_syntax.specs.declared.tree.Form.TheVariants as f
use Rattle.nr_spec_typing.specs.declared.name.Named.{Named}
use Rattle.nr_spec_typing.specs.declared.name.Named.TheVariants as named
use Rattle.nr_spec_typing.specs.declared.name.Declared.{Declared}
use Rattle.nr_spec_typing.specs.declared.name.Bound.{Bound}
use Rattle.nr_spec_typing.specs.declared.name.Bound.TheVariants.{Neighbour, Route}
use Rattle.nr_spec_typing.specs.declared.name.Variable.{Variable}
use Rattle.nr_spec_typing.specs.declared.tree.Who.{Who}
use Rattle.nr_spec_typing.specs.declared.tree.Who.TheVariants as whos
use Rattle.nr_spec_typing.specs.declared.tree.Value.{Value}
use Rattle.nr_spec_typing.specs.declared.tree.Value.TheVariants as values
use Rattle.nr_spec_typing.specs.declared.tree.Typing.{Typing}
use Rattle.nr_spec_typing.specs.declared.tree.Typing.TheVariants as t
use Rattle.nr_spec_typing.specs.Scopes.{Scope}
use Rattle.nr_spec_typing.specs.Forms.{typed}

-- ---- names

-- the variable with this number around the place has this name, and stands for this
abbrev pub Binds : Scope → Bound → Name → ℕ → Type 0
Binds s bound name v =
    (x : Variable) × (slice_get s.variables v ≡ Some x) × (x.word ≡ name.word) × (x.bound ≡ bound)

-- the name was declared, and stands for this
abbrev pub Declares : Scope → Name → Named → Type 0
Declares s name means =
    (i : ℕ) × (d : Declared) × (slice_get s.names i ≡ Some d) × (d.word ≡ name.word) × (d.means ≡ means)

-- a neighbour: a variable that stands for one, or, where no such variable has the name, the one that was declared by it
abbrev pub IsNeighbour : Scope → Name → Who → Type 0
IsNeighbour s name (whos.Var v) = Binds s Neighbour name v
IsNeighbour s name (whos.Named n) =
    ((v : ℕ) → Binds s Neighbour name v → ⊥) × Declares s name (named.Neighbour n)

-- ---- terms

-- a question on the route that a variable stands for
abbrev pub Asks : Scope → Name → (ℕ → Value) → Value → Type 0
Asks s name question v = (r : ℕ) × Binds s Route name r × (v ≡ question r)

abbrev pub IsTerm : Scope → Term → Value → Type 0
IsTerm s (terms.Number n) v = v ≡ values.Number n.value
IsTerm s terms.Bits v = v ≡ values.Bits
IsTerm s (terms.Length of) v = Asks s of (λ r. values.Length r) v
IsTerm s (terms.Med of) v = Asks s of (λ r. values.Med r) v
IsTerm s (terms.Pref of) v = Asks s of (λ r. values.Pref r) v
IsTerm s (terms.Origin of) v = Asks s of (λ r. values.Origin r) v
IsTerm s (terms.First of) v = Asks s of (λ r. values.First r) v
IsTerm s (terms.Last of) v = Asks s of (λ r. values.Last r) v
IsTerm s (terms.Hop of) v = Asks s of (λ r. values.Hop r) v
IsTerm s (terms.Asn of) v = (w : Who) × IsNeighbour s of w × (v ≡ values.Asn w)

-- ---- formulas

-- the tree of a formula with these names and variables
abbrev pub IsTree : Scope → Form → Typing → Type 0
IsTree s form tree = typed form s ≡ Ok tree

-- one tree a formula, in their order
abbrev pub AreTrees : Scope → List Form → List Typing → Type 0
AreTrees s [] [] = Unit {0}
AreTrees s (form ∷ forms) (tree ∷ trees) = IsTree s form tree × AreTrees s forms trees
AreTrees s _ _ = ⊥

-- inside of a binder, whose variable is the last
abbrev pub inside : Scope → Bound → Name → Scope
inside s bound var = record s { variables = s.variables ++ record { word = var.word; bound = bound } ∷ [] }

-- A variable's number is how many are bound outside it.
abbrev pub number : Scope → ℕ
number s = length s.variables

-- `all n in G { F }` and `some n in G { F }`: the group's neighbours, and F with the variable
abbrev pub IsOver : Scope → Name → Name → Form → (List ℕ → Typing → Typing) → Typing → Type 0
IsOver s var among form over tree =
    (group : List ℕ) × (held : Typing)
    × Declares s among (named.Group group) × IsTree (inside s Neighbour var) form held × (tree ≡ over group held)

-- `if r = sent(n) then F else G end`: the variable is bound in F alone
abbrev pub IsIf : Scope → Name → Side → Name → Form → Form → Typing → Type 0
IsIf s var side of yes_ no_ tree =
    (from : Who) × (then_ : Typing) × (else_ : Typing)
    × IsNeighbour s of from × IsTree (inside s Route var) yes_ then_ × IsTree s no_ else_
    × (tree ≡ t.If (number s) side from then_ else_)

-- what the tree of each construct is
pub record Nodes (s : Scope) (tree : Typing) : Type 0 where
  pub true_ : IsTree s f.True tree → tree ≡ t.True
  pub false_ : IsTree s f.False tree → tree ≡ t.False
  pub not_ : (form : Form) → IsTree s (f.Not form) tree
      → (held : Typing) × IsTree s form held × (tree ≡ t.Not held)
  pub and_ : (forms : List Form) → IsTree s (f.And forms) tree
      → (members : List Typing) × AreTrees s forms members × (tree ≡ t.And members)
  pub or_ : (forms : List Form) → IsTree s (f.Or forms) tree
      → (members : List Typing) × AreTrees s forms members × (tree ≡ t.Or members)
  pub implies_ : (left right : Form) → IsTree s (f.Implies left right) tree
      → (if_ : Typing) × (then_ : Typing)
      × IsTree s left if_ × IsTree s right then_ × (tree ≡ t.Implies if_ then_)
  pub all_ : (var among : Name) (form : Form) → IsTree s (f.All var among form) tree
      → IsOver s var among form (λ group held. t.All (number s) group held) tree
  pub some_ : (var among : Name) (form : Form) → IsTree s (f.Some var among form) tree
      → IsOver s var among form (λ group held. t.Some (number s) group held) tree
  pub if_ : (var : Name) (side : Side) (of : Name) (yes_ no_ : Form) → IsTree s (f.If var side of yes_ no_) tree
      → IsIf s var side of yes_ no_ tree
  pub stands : (side : Side) (of : Name) → IsTree s (f.Stands side of) tree
      → (from : Who) × IsNeighbour s of from × (tree ≡ t.Stands side from)
  pub has : (var : Name) (community : ℕ) → IsTree s (f.Has var community) tree
      → (r : ℕ) × Binds s Route var r × (tree ≡ t.Has r community)
  pub crosses : (var : Name) (term : Term) → IsTree s (f.Crosses var term) tree
      → (r : ℕ) × (v : Value) × Binds s Route var r × IsTerm s term v × (tree ≡ t.Crosses r v)
  pub is_ : (left right : Name) → IsTree s (f.Is left right) tree
      → (n : Who) × (m : Who) × IsNeighbour s left n × IsNeighbour s right m × (tree ≡ t.Is n m)
  pub prefix_in : (set : Name) → IsTree s (f.PrefixIn set) tree
      → (patterns : List Pattern) × Declares s set (named.Define patterns) × (tree ≡ t.PrefixIn patterns)
  pub compare : (left : Term) (op : Cmp) (right : Term) → IsTree s (f.Compare left op right) tree
      → (n : Value) × (m : Value) × IsTerm s left n × IsTerm s right m × (tree ≡ t.Compare n op m)
