-- The rules that `clap` makes of a grammar's options, and which of them a name or a place finds.
use Rattle.std.proofs.Common.{◌≡◌, ◌∙◌, ◌||◌, ℕ, Bool, cond, true, false, refl, sym, ap, List, [], ◌∷◌, ◌++◌, map, find, Option, Some, None, option_map, bytes_eq}
use Rattle.std.proofs.lemmas.Slice.Eq.{bytes_eq-Decides}
use Rattle.std.specs.Option.{option_or}
use Rattle.clap.specs.Walk.{Rule, Text, arg_by_id, arg_by_index, arg_by_long, arg_by_short}
use Rattle.clap.specs.Simple.{filled, filled_from, with_index}
use Rattle.nr_words.specs.Grammar.{OptionRule, files_id, files_rule, option_rule}

abbrev pub full : OptionRule → Rule
full o = filled (option_rule o)

abbrev pub file_rule : Rule
file_rule = with_index 1 (filled files_rule)

abbrev pub file_rules : Bool → List Rule
file_rules files = cond files (file_rule ∷ []) []

abbrev pub all_rules : List OptionRule → Bool → List Rule
all_rules options files = map full options ++ file_rules files

pub filled_is : (options : List OptionRule) (files : Bool) → filled_from 1 (map option_rule options ++ cond files (files_rule ∷ []) []) ≡ all_rules options files
filled_is [] true = refl
filled_is [] false = refl
filled_is (o ∷ os) files = ap (λ rs. full o ∷ rs) (filled_is os files)

-- the option of a name
abbrev pub named : List OptionRule → Text → Option OptionRule
named options name = find (λ o. bytes_eq o.name name) options

pub same_text : (xs : Text) → bytes_eq xs xs ≡ true
same_text xs = (bytes_eq-Decides xs xs).1 refl

pub named_name : (options : List OptionRule) (name : Text) (o : OptionRule) → named options name ≡ Some o → o.name ≡ name
named_name [] name o is = absurd cc
named_name (p ∷ ps) name o is = go (bytes_eq p.name name) refl is (named_name ps name o)
  where
    go : (b : Bool) → bytes_eq p.name name ≡ b → cond b (Some p) (named ps name) ≡ Some o → (named ps name ≡ Some o → o.name ≡ name) → o.name ≡ name
    go true e is ih = ap (λ (o : Option OptionRule). elim o [ None ↦ name | Some q ↦ q.name ]) (sym is) ∙ (bytes_eq-Decides p.name name).0 e
    go false e is ih = ih is

pub by_long : (options : List OptionRule) (files : Bool) (name : Text) → arg_by_long (all_rules options files) name ≡ option_map full (named options name)
by_long [] true name = refl
by_long [] false name = refl
by_long (o ∷ os) files name = elim (bytes_eq o.name name) as (λ b. cond (b || false) (Some (full o)) (arg_by_long (all_rules os files) name) ≡ option_map full (cond b (Some o) (named os name))) [
  | true ↦ refl
  | false ↦ by_long os files name
]

abbrev pub last_by_id : Bool → Text → Option Rule
last_by_id files id = cond files (cond (bytes_eq files_id id) (Some file_rule) None) None

pub by_id : (options : List OptionRule) (files : Bool) (id : Text) → arg_by_id (all_rules options files) id ≡ option_or (option_map full (named options id)) (last_by_id files id)
by_id [] true id = refl
by_id [] false id = refl
by_id (o ∷ os) files id = elim (bytes_eq o.name id) as (λ b. cond b (Some (full o)) (arg_by_id (all_rules os files) id) ≡ option_or (option_map full (cond b (Some o) (named os id))) (last_by_id files id)) [
  | true ↦ refl
  | false ↦ by_id os files id
]

pub by_index : (options : List OptionRule) (files : Bool) → arg_by_index (all_rules options files) 1 ≡ cond files (Some file_rule) None
by_index [] true = refl
by_index [] false = refl
by_index (o ∷ os) files = by_index os files

pub by_short : (options : List OptionRule) (files : Bool) (c : ℕ) → arg_by_short (all_rules options files) c ≡ None
by_short [] true c = refl
by_short [] false c = refl
by_short (o ∷ os) files c = by_short os files c
