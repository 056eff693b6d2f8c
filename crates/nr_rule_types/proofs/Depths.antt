-- How deep the deepest of some formulas nests.
use Rattle.std.proofs.Common.{◌≡◌, ℕ, zero, suc, ◌<◌, ◌≤◌, max, List, [], ◌∷◌, map, length, get_or, sym, subst, rules, arith}
use Rattle.std.proofs.lemmas.Bool.Decides.{nat_tests}
use Rattle.nr_rule_syntax.specs.declared.tree.Form.{Form, the_lemmas}
use Rattle.nr_rule_syntax.specs.declared.tree.Form.TheVariants.{And, Or}
use Rattle.nr_rule_syntax.specs.Nesting.{Measured, measured, depth, levels_within, most_within}
use Rattle.nr_rule_types.specs.Depths.{deepest}

within_more : (least : ℕ) (m : Measured) → m.levels ≤ levels_within least m
within_more least m = grind (arith, nat_tests)

both : (a b c d : ℕ) → a ≤ c → b ≤ d → max a b ≤ max c d
both a b c d h k = omega arith

pub deepest_within : (least : ℕ) (forms : List Form) → deepest forms ≤ most_within least (map measured forms)
deepest_within least [] = omega arith
deepest_within least (form ∷ forms) =
    both (depth form) (deepest forms) (levels_within least (measured form)) (most_within least (map measured forms)) (within_more least (measured form)) (deepest_within least forms)

left_of : (a b : ℕ) → a ≤ max a b
left_of a b = omega arith

right_of : (a b n : ℕ) → n ≤ b → n ≤ max a b
right_of a b n h = omega arith

among_at : (forms : List Form) (i : ℕ) (form : Form) → i < length forms → depth (get_or forms i form) ≤ deepest forms
among_at [] i form lt = absurd (omega arith)
among_at (first ∷ forms) zero form lt = left_of (depth first) (deepest forms)
among_at (first ∷ forms) (suc i) form lt = right_of (depth first) (deepest forms) (depth (get_or forms i form)) (among_at forms i form (omega arith))

pub among : (forms : List Form) (i : ℕ) (form : Form) → i < length forms → form ≡ get_or forms i form → depth form ≤ deepest forms
among forms i form lt e = subst (λ (f : Form). depth f ≤ deepest forms) (sym e) (among_at forms i form lt)

pub deepest_and : (members : List Form) → deepest members ≤ depth (And members)
deepest_and members =
    let e : depth (And members) ≡ most_within 3 (map measured members) = search (rules, the_lemmas) in
    rw e (deepest_within 3 members)

pub deepest_or : (members : List Form) → deepest members ≤ depth (Or members)
deepest_or members =
    let e : depth (Or members) ≡ most_within 2 (map measured members) = search (rules, the_lemmas) in
    rw e (deepest_within 2 members)
