-- Which words a command takes, and what they give. That is the rule of `clap` for one simple command, whose
-- own definitions are named here.
use Rattle.std.specs.Prelude.{ℕ, Bool, true, if◌then◌else◌, List, [], ◌∷◌, ◌++◌, map, Option, None, Some, codes, unwrap_or}
use Rattle.clap.specs.Walk.{Row, Rule, all_of, first_of, is_empty}
use Rattle.clap.specs.Simple.{App, matches_of, new_app, new_rule, on_top}
use Rattle.clap.specs.Faults.{fault_of}
use Rattle.clap.specs.declared.builder.action.ArgAction.TheVariants.{Set, Append}

-- the option `--NAME VALUE`
pub record OptionRule : Type 0 where
  pub name : List ℕ
  pub required : Bool

-- The word of a command, its options, and whether files without an option may follow.
pub record Grammar : Type 0 where
  pub command : List ℕ
  pub options : List OptionRule
  pub files : Bool

-- The value of each option in the order of the grammar, None where it isn't given, and the files.
pub record Values : Type 0 where
  pub options : List (Option (List ℕ))
  pub files : List (List ℕ)

-- an option takes one value, and is given at most once
abbrev pub option_rule : OptionRule → Rule
option_rule o = record (new_rule o.name) { long = Some o.name; action = Some Set; required = o.required }

abbrev pub files_id : List ℕ
files_id = codes "files"

-- each word without an option is one more file
abbrev pub files_rule : Rule
files_rule = record (new_rule files_id) { action = Some Append }

abbrev pub rules_for : Grammar → List Rule
rules_for g = map option_rule g.options ++ (if g.files then files_rule ∷ [] else [])

-- a command of these arguments, without options for help and for a version
abbrev pub app_with : List ℕ → List Rule → App
app_with command rules =
    on_top (λ s. record s { rules = rules; disable_help_flag = true; disable_version_flag = true }) (new_app command)

abbrev pub app_for : Grammar → App
app_for g = app_with g.command (rules_for g)

-- The command word, which stands first, is the program's name to `clap`, and the others are its words.
abbrev pub is_taken : Grammar → List (List ℕ) → Bool
is_taken g words = is_empty (fault_of (app_for g) words)

-- the first value of each option
abbrev pub options_in : List OptionRule → List Row → List (Option (List ℕ))
options_in options rows = map (λ o. first_of o.name rows) options

abbrev pub files_in : Grammar → List Row → List (List ℕ)
files_in g rows = if g.files then unwrap_or (all_of files_id rows) [] else []

abbrev pub values_from : Grammar → List Row → Values
values_from g rows = record { options = options_in g.options rows; files = files_in g rows }

-- what the words give, None where they aren't taken
unfoldable pub values_in : Grammar → List (List ℕ) → Option Values
values_in g words = if is_taken g words then Some (values_from g (matches_of (app_for g) words)) else None
