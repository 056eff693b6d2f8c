-- How deep a formula nests: the most levels that are open at a place of its canonical text. What opens a level
-- is said with the grammar.
use Rattle.std.specs.Prelude.{ℕ, ◌+◌, ◌<◌, ◌≤◌, max, List, [], ◌∷◌, map, nat_lt, if◌then◌else◌}
use Rattle.nr_rule_syntax.specs.declared.tree.Decl.{Decl}
use Rattle.nr_rule_syntax.specs.declared.tree.Decl.TheVariants.{Network, Commit, Neighbour, Group, Define, Promise}
use Rattle.nr_rule_syntax.specs.declared.tree.Form.{Form}
use Rattle.nr_rule_syntax.specs.declared.tree.Form.TheOpen.{Form-F}
use Rattle.nr_rule_syntax.specs.declared.tree.Form.TheFolds.{fold-Form}
use Rattle.nr_rule_syntax.specs.declared.formula.Level.{Level}
use Rattle.nr_rule_syntax.specs.declared.formula.Level.TheVariants.{Whole, Member}

-- how tightly a formula binds, as for printing, and how deep it nests
pub record Measured : Type 0 where
  pub binds : ℕ
  pub levels : ℕ

-- how deep it nests where a formula must bind as tightly as this: parentheses open a level
abbrev pub levels_within : ℕ → Measured → ℕ
levels_within least m = if nat_lt m.binds least then m.levels + 1 else m.levels

abbrev pub most : List ℕ → ℕ
most [] = 0
most (n ∷ ns) = max n (most ns)

abbrev pub most_within : ℕ → List Measured → ℕ
most_within least members = most (map (levels_within least) members)

abbrev pub flat : Measured
flat = record { binds = 3; levels = 0 }

abbrev pub negated : Measured → Measured
negated held = record { binds = 3; levels = levels_within 3 held + 1 }

abbrev pub conjoined : List Measured → Measured
conjoined members = record { binds = 2; levels = most_within 3 members }

abbrev pub disjoined : List Measured → Measured
disjoined members = record { binds = 1; levels = most_within 2 members }

abbrev pub implied : Measured → Measured → Measured
implied left right = record { binds = 0; levels = max (levels_within 1 left) (right.levels + 1) }

-- what stands in braces, or between `then` and `end`
abbrev pub enclosed : ℕ → Measured
enclosed levels = record { binds = 3; levels = levels + 1 }

-- one formula, with those that it holds in their place
abbrev pub measured_step : Form-F Measured → Measured
measured_step (Form-F.Not held) = negated held
measured_step (Form-F.And members) = conjoined members
measured_step (Form-F.Or members) = disjoined members
measured_step (Form-F.Implies left right) = implied left right
measured_step (Form-F.All var group form) = enclosed form.levels
measured_step (Form-F.Some var group form) = enclosed form.levels
measured_step (Form-F.If var side of then_ else_) = enclosed (max then_.levels else_.levels)
measured_step _ = flat

abbrev pub measured : Form → Measured
measured = fold-Form Measured measured_step

abbrev pub depth : Form → ℕ
depth form = (measured form).levels

-- the same where it must bind as tightly as this
abbrev pub depth_within : ℕ → Form → ℕ
depth_within least form = levels_within least (measured form)

-- what is inside a level nests less deep than this
abbrev pub IsInside : ℕ → Level → Form → Type 0
IsInside levels Whole form = depth form < levels
IsInside levels Member form = depth_within 3 form < levels

-- a declaration whose formula, where it has one, nests at most 64 levels
abbrev pub IsNested : Decl → Type 0
IsNested (Network value span) = Unit {0}
IsNested (Commit value span) = Unit {0}
IsNested (Neighbour name asn addr key) = Unit {0}
IsNested (Group name members) = Unit {0}
IsNested (Define name patterns) = Unit {0}
IsNested (Promise name grace at form) = depth form ≤ 64
