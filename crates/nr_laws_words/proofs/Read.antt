-- What the words give, by their uses.
use Rattle.std.proofs.Common.{◌≡◌, ◌∙◌, Bool, cond, true, false, refl, ap, List, [], ◌∷◌, Option, Some, None, option_map}
use Rattle.clap.specs.Walk.{Rule, Text, is_empty, nothing_held}
use Rattle.clap.specs.Simple.{built, matches_of, filled_from}
use Rattle.clap.specs.Kinds.{Kinds}
use Rattle.clap.specs.Faults.{fault_of, level_fault}
use Rattle.clap.proofs.FaultLemmas.{leaf_fault}
use Rattle.nr_words.specs.Grammar.{Grammar, Values, app_for, files_id, rules_for, values_from, values_in}
use Rattle.nr_laws_words.proofs.Rules.{named, filled_is}
use Rattle.nr_laws_words.proofs.Looks.{empty_not}
use Rattle.nr_laws_words.proofs.Steps.{between, left, none, shape}
use Rattle.nr_laws_words.proofs.Lexed.{lexed}
use Rattle.nr_laws_words.proofs.Walks.{done_of, walks}

none_is : (k : Kinds) → is_empty k ≡ none k
none_is [] = refl
none_is (k ∷ ks) = empty_not k ks

mapped : {X Y : Type 0} (f : X → Y) (b : Bool) (x : X) → cond b (Some (f x)) None ≡ option_map f (cond b (Some x) None)
mapped f true x = refl
mapped f false x = refl

module _ (g : Grammar) (command : Text) (words : List Text) where
  abbrev by_rules : List Rule → Option Values
  by_rules rules = option_map (values_from g) (left (shape g.command rules) (between [] None false false) words)

  fault_is : fault_of (app_for g) (command ∷ words) ≡ level_fault (shape g.command (filled_from 1 (rules_for g))) [] nothing_held words false []
  fault_is = leaf_fault (built (app_for g)) nothing_held words refl

  by_filled : values_in g (command ∷ words) ≡ by_rules (filled_from 1 (rules_for g))
  unfolding values_in
  by_filled =
      ap (λ (k : Kinds). cond (is_empty k) (Some (values_from g (matches_of (app_for g) (command ∷ words)))) None) fault_is
      ∙ ap (λ b. cond b (Some (values_from g (matches_of (app_for g) (command ∷ words)))) None) (none_is (level_fault (shape g.command (filled_from 1 (rules_for g))) [] nothing_held words false []))
      ∙ mapped (values_from g) _ _

  pub values_are : (apart : g.files ≡ true → named g.options files_id ≡ None)
      → values_in g (command ∷ words) ≡ option_map (values_from g) (done_of g.command g.options g.files apart (lexed g.options g.files None words) [])
  values_are apart = by_filled ∙ ap by_rules (filled_is g.options g.files) ∙ ap (option_map (values_from g)) ((walks g.command g.options g.files apart words).0 [] None false tt)
