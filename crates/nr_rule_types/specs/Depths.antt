-- How deep the deepest of some formulas nests.
use Rattle.std.specs.Prelude.{ℕ, max, List, [], ◌∷◌}
use Rattle.nr_rule_syntax.specs.declared.tree.Form.{Form}
use Rattle.nr_rule_syntax.specs.Nesting.{depth}

abbrev pub deepest : List Form → ℕ
deepest [] = 0
deepest (form ∷ forms) = max (depth form) (deepest forms)
