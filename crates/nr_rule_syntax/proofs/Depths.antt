-- How deep chains nest.
use Rattle.std.proofs.Common.{ℕ, ◌≤◌, max, List, [], ◌∷◌, ◌++◌, map, arith}
use Rattle.std.proofs.lemmas.Bool.Decides.{nat_tests}
use Rattle.nr_rule_syntax.specs.declared.tree.Form.{Form}
use Rattle.nr_rule_syntax.specs.Nesting.{Measured, measured, depth_within, levels_within, most_within}

bounded : (a b n : ℕ) → a ≤ n → b ≤ n → max a b ≤ n
bounded a b n h k = omega arith

left_bound : (a b n : ℕ) → max a b ≤ n → a ≤ n
left_bound a b n h = omega arith

right_bound : (a b n : ℕ) → max a b ≤ n → b ≤ n
right_bound a b n h = omega arith

pub most_one : (least : ℕ) (form : Form) (levels : ℕ) → depth_within least form ≤ levels → most_within least (map measured (form ∷ [])) ≤ levels
most_one least form levels h = bounded (depth_within least form) 0 levels h (omega arith)

pub most_more : (least : ℕ) (members : List Form) (form : Form) (levels : ℕ) → most_within least (map measured members) ≤ levels → depth_within least form ≤ levels
    → most_within least (map measured (members ++ form ∷ [])) ≤ levels
most_more least [] form levels all one = most_one least form levels one
most_more least (m ∷ members) form levels all one =
    bounded (depth_within least m) (most_within least (map measured (members ++ form ∷ []))) levels
    (left_bound (depth_within least m) (most_within least (map measured members)) levels all)
    (most_more least members form levels (right_bound (depth_within least m) (most_within least (map measured members)) levels all) one)

-- a place that asks less needs no more levels
pub looser_2 : (m : Measured) (n : ℕ) → levels_within 3 m ≤ n → levels_within 2 m ≤ n
looser_2 m n h = grind (arith, nat_tests)

pub looser_1 : (m : Measured) (n : ℕ) → levels_within 2 m ≤ n → levels_within 1 m ≤ n
looser_1 m n h = grind (arith, nat_tests)

pub looser_0 : (m : Measured) (n : ℕ) → levels_within 1 m ≤ n → m.levels ≤ n
looser_0 m n h = grind (arith, nat_tests)
