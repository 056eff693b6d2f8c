-- The words of a formula are read as that formula, at every place where one may stand: in parentheses where it
-- doesn't bind as tightly as the place wants.
use Rattle.std.proofs.Common.{◌≡◌, ℕ, zero, suc, ◌+◌, ◌≤◌, false, List, ◌∷◌, length, refl, arith}
use Rattle.nr_spec_rules.specs.declared.kind.Kind.TheVariants as k
use Rattle.nr_spec_rules.specs.Tokens.{same_kind}
use Rattle.nr_rule_syntax.specs.declared.tree.Form.{Form}
use Rattle.nr_rule_syntax.specs.declared.tree.Form.TheVariants as forms
use Rattle.nr_rule_syntax.specs.Nesting.{Measured, levels_within}
use Rattle.nr_rule_syntax.specs.Reading as spec
use Rattle.nr_rule_syntax.specs.Reading.{inside, formula, disjunction, conjunction, negation}
use Rattle.nr_laws_print.specs.Bare.{bare_form}
use Rattle.nr_laws_print.proofs.Words.{Shown, Words, Worded, open_paren, close_paren, words_within}
use Rattle.nr_laws_print.proofs.Gives.{Gives, IsApart, gives_then, gives_pure, gives_behind, gives_expect, gives_unseen}
use Rattle.nr_laws_print.proofs.Chains.{gives_alone}
use Rattle.nr_laws_print.proofs.Parts.{gives_by_kind}

-- what may stand behind a whole formula
pub record Stops (rest : List Shown) : Type 0 where
  pub no_and : IsApart k.And rest
  pub no_or : IsApart k.Or rest
  pub no_implies : IsApart k.Implies rest

pub record Returns (v : Form) (w : Worded) (m : Measured) : Type 0 where
  pub grows : (rest : List Shown) → length rest ≤ length (w.words rest)
  pub whole : (n : ℕ) (rest : List Shown) → m.levels ≤ n → Stops rest → Gives bare_form v (formula n (inside n)) (w.words rest) rest
  pub as_or : (n : ℕ) (rest : List Shown) → levels_within 1 m ≤ n → IsApart k.And rest → IsApart k.Or rest → Gives bare_form v (disjunction n (inside n)) (words_within 1 w rest) rest
  pub as_and : (n : ℕ) (rest : List Shown) → levels_within 2 m ≤ n → IsApart k.And rest → Gives bare_form v (conjunction n (inside n)) (words_within 2 w rest) rest
  pub as_not : (n : ℕ) (rest : List Shown) → levels_within 3 m ≤ n → Gives bare_form v (negation n (inside n)) (words_within 3 w rest) rest

-- ---- from one place to the next looser

pub alone_and : {v : Form} (n : ℕ) {input rest : List Shown} → IsApart k.And rest → Gives bare_form v (negation n (inside n)) input rest → Gives bare_form v (conjunction n (inside n)) input rest
unfolding conjunction
alone_and n apart g = gives_alone k.And forms.And apart g

pub alone_or : {v : Form} (n : ℕ) {input rest : List Shown} → IsApart k.Or rest → Gives bare_form v (conjunction n (inside n)) input rest → Gives bare_form v (disjunction n (inside n)) input rest
unfolding disjunction
alone_or n apart g = gives_alone k.Or forms.Or apart g

pub alone_whole : {v : Form} (n : ℕ) {input rest : List Shown} → IsApart k.Implies rest → Gives bare_form v (disjunction n (inside n)) input rest → Gives bare_form v (formula n (inside n)) input rest
unfolding formula
alone_whole n apart g = gives_then g (λ left e. gives_unseen _ _ apart (gives_pure e))

-- a first word that isn't `not`
pub in_atom : {v : Form} (n : ℕ) (w : Shown) {input rest : List Shown} → same_kind w.kind k.Not ≡ false → Gives bare_form v (spec.atom_by n (inside n) w.kind) (w ∷ input) rest
    → Gives bare_form v (negation n (inside n)) (w ∷ input) rest
unfolding negation spec.atom
in_atom n w no_not g = gives_unseen _ _ (record { apart = no_not }) (gives_by_kind (spec.atom_by n (inside n)) w g)

-- in parentheses
stops_close : (rest : List Shown) → Stops (close_paren ∷ rest)
unfolding same_kind
stops_close rest = record { no_and = record { apart = refl }; no_or = record { apart = refl }; no_implies = record { apart = refl } }

pub in_parentheses : (v : Form) (words : Words) (levels : ℕ) → ((n : ℕ) (rest : List Shown) → levels ≤ n → Stops rest → Gives bare_form v (formula n (inside n)) (words rest) rest)
    → (n : ℕ) (rest : List Shown) → levels + 1 ≤ n → Gives bare_form v (negation n (inside n)) (open_paren ∷ words (close_paren ∷ rest)) rest
unfolding same_kind spec.parenthesized inside
in_parentheses v words levels whole zero rest h = absurd (omega arith)
in_parentheses v words levels whole (suc n) rest h =
    in_atom (suc n) open_paren refl (gives_behind open_paren _ (gives_then (whole n (close_paren ∷ rest) (omega arith) (stops_close rest)) (λ held e.
    gives_then (gives_expect close_paren) (λ _ _. gives_pure e))))

-- ---- by how tightly a formula binds

pub returns_3 : (v : Form) (words : Words) (levels : ℕ) → ((rest : List Shown) → length rest ≤ length (words rest))
    → ((n : ℕ) (rest : List Shown) → levels ≤ n → Gives bare_form v (negation n (inside n)) (words rest) rest)
    → Returns v (record { binds = 3; words = words }) (record { binds = 3; levels = levels })
returns_3 v words levels grows g = record {
  grows = grows;
  whole = λ n rest h stops. alone_whole n stops.no_implies (alone_or n stops.no_or (alone_and n stops.no_and (g n rest h)));
  as_or = λ n rest h no_and no_or. alone_or n no_or (alone_and n no_and (g n rest h));
  as_and = λ n rest h no_and. alone_and n no_and (g n rest h);
  as_not = λ n rest h. g n rest h;
}

pub returns_2 : (v : Form) (words : Words) (levels : ℕ) → ((rest : List Shown) → length rest ≤ length (words rest))
    → ((n : ℕ) (rest : List Shown) → levels ≤ n → IsApart k.And rest → Gives bare_form v (conjunction n (inside n)) (words rest) rest)
    → Returns v (record { binds = 2; words = words }) (record { binds = 2; levels = levels })
returns_2 v words levels grows g =
    let whole = λ (n : ℕ) (rest : List Shown) (h : levels ≤ n) (stops : Stops rest). alone_whole {v = v} n stops.no_implies (alone_or n stops.no_or (g n rest h stops.no_and)) in
    record {
      grows = grows;
      whole = whole;
      as_or = λ n rest h no_and no_or. alone_or n no_or (g n rest h no_and);
      as_and = λ n rest h no_and. g n rest h no_and;
      as_not = λ n rest h. in_parentheses v words levels whole n rest h;
    }

pub returns_1 : (v : Form) (words : Words) (levels : ℕ) → ((rest : List Shown) → length rest ≤ length (words rest))
    → ((n : ℕ) (rest : List Shown) → levels ≤ n → IsApart k.And rest → IsApart k.Or rest → Gives bare_form v (disjunction n (inside n)) (words rest) rest)
    → Returns v (record { binds = 1; words = words }) (record { binds = 1; levels = levels })
returns_1 v words levels grows g =
    let whole = λ (n : ℕ) (rest : List Shown) (h : levels ≤ n) (stops : Stops rest). alone_whole {v = v} n stops.no_implies (g n rest h stops.no_and stops.no_or) in
    record {
      grows = grows;
      whole = whole;
      as_or = λ n rest h no_and no_or. g n rest h no_and no_or;
      as_and = λ n rest h no_and. alone_and n no_and (in_parentheses v words levels whole n rest h);
      as_not = λ n rest h. in_parentheses v words levels whole n rest h;
    }

pub returns_0 : (v : Form) (words : Words) (levels : ℕ) → ((rest : List Shown) → length rest ≤ length (words rest))
    → ((n : ℕ) (rest : List Shown) → levels ≤ n → Stops rest → Gives bare_form v (formula n (inside n)) (words rest) rest)
    → Returns v (record { binds = 0; words = words }) (record { binds = 0; levels = levels })
returns_0 v words levels grows g = record {
  grows = grows;
  whole = g;
  as_or = λ n rest h no_and no_or. alone_or n no_or (alone_and n no_and (in_parentheses v words levels g n rest h));
  as_and = λ n rest h no_and. alone_and n no_and (in_parentheses v words levels g n rest h);
  as_not = λ n rest h. in_parentheses v words levels g n rest h;
}
