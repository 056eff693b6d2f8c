-- The command of a grammar is simple, and what its parse says of the words.
use Rattle.std.proofs.Common.{◌≡◌, ◌∙◌, ◌<◌, ◌+◌, ◌&&◌, ℕ, Bool, cond, true, false, not, refl, sym, ap, ap₂, List, [], ◌∷◌, ◌++◌, map, length, take, get_or, Some, None, is_some, suc, arith, ne_eqb}
use Rattle.std.specs.List.{count_by, list_all, list_any}
use Rattle.std.proofs.lemmas.List.{map-append, map_more}
use Rattle.clap.specs.Walk.{Row, Rule, Text, is_early_multiple, is_empty}
use Rattle.clap.specs.Simple.{App, filled_from, is_simple, matches_of}
use Rattle.clap.specs.Faults.{fault_of, is_simple_and_free}
use Rattle.clap.specs.Kinds.{IsAmong, Kinds}
use Rattle.clap.specs.declared.error.kind.ErrorKind.{ErrorKind}
use Rattle.nr_words.specs.Grammar.{Grammar, OptionRule, app_for, files_rule, option_rule, values_from, values_in}

-- one more element under two functions
pub more : {X Y Z : Type 0} (f : Y → Z) (g : X → Y) (xs : List X) (i : ℕ) (d : X) → i < length xs
    → map f (map g (take (i + 1) xs)) ≡ map f (map g (take i xs)) ++ f (g (get_or xs i d)) ∷ []
more f g xs i d lt = ap (map f) (map_more g xs i d lt) ∙ map-append f (map g (take i xs)) (g (get_or xs i d) ∷ [])

and_true : (a b : Bool) → a ≡ true → b ≡ true → (a && b) ≡ true
and_true a b p q = ap₂ (λ (x y : Bool). x && y) p q

-- ---- the command is simple: options have no place among the positionals

abbrev last_rule : Bool → List Rule
last_rule files = cond files (files_rule ∷ []) []

abbrev all_rules : List OptionRule → Bool → List Rule
all_rules options files = map option_rule options ++ last_rule files

abbrev filled_rules : List OptionRule → Bool → List Rule
filled_rules options files = filled_from 1 (all_rules options files)

simple_rules : (options : List OptionRule) (files : Bool) → list_all (λ a. a.is_simple) (all_rules options files) ≡ true
simple_rules [] true = refl
simple_rules [] false = refl
simple_rules (o ∷ os) files = simple_rules os files

simple_filled : (options : List OptionRule) (files : Bool) → list_all (λ a. a.is_simple) (filled_rules options files) ≡ true
simple_filled [] true = refl
simple_filled [] false = refl
simple_filled (o ∷ os) files = simple_filled os files

free_filled : (options : List OptionRule) (files : Bool) → list_all (λ a. a.is_free) (filled_rules options files) ≡ true
free_filled [] true = refl
free_filled [] false = refl
free_filled (o ∷ os) files = free_filled os files

positionals : (options : List OptionRule) (files : Bool) → count_by (λ a. is_some a.index) (filled_rules options files) ≡ cond files 1 0
positionals [] true = refl
positionals [] false = refl
positionals (o ∷ os) files = positionals os files

none_early : (options : List OptionRule) (files : Bool) → list_any (is_early_multiple (cond files 1 0)) (filled_rules options files) ≡ false
none_early [] true = refl
none_early [] false = refl
none_early (o ∷ os) files = none_early os files

in_order : (options : List OptionRule) (files : Bool)
    → not (list_any (is_early_multiple (count_by (λ a. is_some a.index) (filled_rules options files))) (filled_rules options files)) ≡ true
in_order options files = ap (λ n. not (list_any (is_early_multiple n) (filled_rules options files))) (positionals options files) ∙ ap not (none_early options files)

pub simple : (g : Grammar) → is_simple (app_for g) ≡ true
simple g = and_true _ _ (and_true _ _ (simple_rules g.options g.files) refl)
    (and_true _ _ (and_true _ _ (simple_filled g.options g.files) (in_order g.options g.files)) refl)

pub simple_and_free : (g : Grammar) → is_simple_and_free (app_for g) ≡ true
simple_and_free g = and_true _ _ (simple g) (and_true _ _ (free_filled g.options g.files) refl)

-- ---- what a parse says of the words

some_kind : (k : ErrorKind) (kinds : Kinds) → IsAmong k kinds → is_empty kinds ≡ false
some_kind k [] h = absurd h
some_kind k (x ∷ xs) h = ne_eqb (suc (length xs)) 0 (omega arith)

module _ (a : App) (g : Grammar) (words : List Text) (is : a ≡ app_for g) where
  pub taken : (rows : List Row) → (is_simple_and_free a ≡ true → fault_of a words ≡ []) → (is_simple a ≡ true → rows ≡ matches_of a words)
      → Some (values_from g rows) ≡ values_in g words
  unfolding values_in
  taken rows kinds matches =
      let none : is_empty (fault_of (app_for g) words) ≡ true = ap (λ b. is_empty (fault_of b words)) (sym is) ∙ ap is_empty (kinds (ap is_simple_and_free is ∙ simple_and_free g)) in
      let found : rows ≡ matches_of (app_for g) words = matches (ap is_simple is ∙ simple g) ∙ ap (λ b. matches_of b words) is in
      ap (λ rs. Some (values_from g rs)) found ∙ sym (ap (λ b. cond b (Some (values_from g (matches_of (app_for g) words))) None) none)

  pub refused : (k : ErrorKind) → (is_simple_and_free a ≡ true → IsAmong k (fault_of a words)) → None ≡ values_in g words
  unfolding values_in
  refused k kinds =
      let some : is_empty (fault_of (app_for g) words) ≡ false = ap (λ b. is_empty (fault_of b words)) (sym is) ∙ some_kind k _ (kinds (ap is_simple_and_free is ∙ simple_and_free g)) in
      sym (ap (λ b. cond b (Some (values_from g (matches_of (app_for g) words))) None) some)
