-- One turn of the walk of `clap` over the words, and its end, for the rules of a grammar.
use Rattle.std.proofs.Common.{◌≡◌, ◌∙◌, ◌&&◌, Bool, cond, true, false, refl, ap, ap₂, List, [], ◌∷◌, Option, Some, None, option_map, fold}
use Rattle.std.specs.Option.{option_or}
use Rattle.clap.specs.Walk.{Held, Row, Rule, Text, Walk, Waiting, idle, option, positional, arg_by_id, arg_by_long, has_row, finished, settled, walked, with_values, without}
use Rattle.clap.specs.Simple.{Shape, new_shape}
use Rattle.clap.specs.Kinds.{Kinds, or_else}
use Rattle.clap.specs.Faults.{check_fault, defaults_fault, settle_fault, turn_fault, walk_fault}
use Rattle.clap.specs.declared.builder.value_parser.Reading.TheVariants.{AsWritten}
use Rattle.clap.specs.declared.parser.matches.ValueSource.TheVariants.{CommandLine}
use Rattle.clap.specs.declared.error.kind.ErrorKind.TheVariants.{ArgumentConflict, InvalidValue}
use Rattle.nr_words.specs.Grammar.{OptionRule, files_id}
use Rattle.nr_laws_words.proofs.Rules.{full, file_rule, all_rules, named, by_id, by_long, last_by_id}

-- ---- uses of options and files, and what they leave

pub data Use : Type 0 where
  Opt : (name value : Text) → Use
  Put : (word : Text) → Use

abbrev pub use_rows : Use → List Row → List Row
use_rows (Opt name value) rows = with_values name AsWritten CommandLine (value ∷ []) (without name rows)
use_rows (Put word) rows = with_values files_id AsWritten CommandLine (word ∷ []) rows

abbrev pub is_repeat : Use → List Row → Bool
is_repeat (Opt name value) rows = has_row name rows
is_repeat (Put word) rows = false

-- a use whose rows are still to be made
abbrev pub pending_use : Option Use → Option (Text × List Text)
pending_use None = None
pending_use (Some (Opt name value)) = Some (name, value ∷ [])
pending_use (Some (Put word)) = Some (files_id, word ∷ [])

abbrev pub rows_with : Option Use → List Row → List Row
rows_with None rows = rows
rows_with (Some u) rows = use_rows u rows

abbrev pub pending_fault : Option Use → List Row → Kinds
pending_fault None rows = []
pending_fault (Some u) rows = cond (is_repeat u rows) (ArgumentConflict ∷ []) []

abbrev pub with_pending : Option Use → List Use → List Use
with_pending None us = us
with_pending (Some u) us = u ∷ us

abbrev pub none : Kinds → Bool
none [] = true
none (k ∷ ks) = false

-- the option of a use is one of the grammar's, and only a grammar that takes files has some
abbrev pub IsKnown : List OptionRule → Bool → Use → Type 0
IsKnown options files (Opt name value) = (o : OptionRule) × (named options name ≡ Some o) × (o.name ≡ name)
IsKnown options files (Put word) = (files ≡ true) × (named options files_id ≡ None)

abbrev pub IsKnownPending : List OptionRule → Bool → Option Use → Type 0
IsKnownPending options files None = Unit {0}
IsKnownPending options files (Some u) = IsKnown options files u

-- ---- the command and where its walk stands

abbrev pub shape : Text → List Rule → Shape
shape command rules = record (new_shape command) { rules = rules; disable_help_flag = true; disable_version_flag = true; disable_help_subcommand = true; is_built = true }

abbrev pub held_with : List Row → Option (Text × List Text) → Held
held_with rows pending = record { rows = rows; pending = pending; skip = 0 }

abbrev pub stands : Held → Waiting → Bool → Walk
stands h waiting is_trailing = record { held = h; waiting = waiting; position = 1; is_trailing = is_trailing; stopped = None }

-- nothing waits for a value
abbrev pub between : List Row → Option Use → Bool → Bool → Walk
between rows pending several is_trailing = stands (held_with rows (pending_use pending)) (cond several positional idle) is_trailing

-- the option of the name waits for its value
abbrev pub waits : List Row → Text → Bool → Walk
waits rows name is_trailing = stands (held_with rows (Some (name, []))) (option name) is_trailing

-- ---- the end of the walk

abbrev pub end_fault : Shape → Held → Kinds
end_fault s h = or_else (settle_fault s.rules false h) (or_else (defaults_fault (settled s.rules h).rows s.rules) (check_fault s (finished s.rules h) false))

-- the rows that are left, where nothing fails
abbrev pub left : Shape → Walk → List Text → Option (List Row)
left s w words = cond (none (or_else (walk_fault s [] w words) (end_fault s (fold (walked s.rules []) w words).held))) (Some (finished s.rules (fold (walked s.rules []) w words).held)) None

first_fault : {X : Type 0} (k rest end : Kinds) (x : X) → cond (none (or_else (or_else k rest) end)) (Some x) None ≡ cond (none k) (cond (none (or_else rest end)) (Some x) None) None
first_fault [] rest end x = refl
first_fault (k ∷ ks) rest end x = refl

pub left_more : (s : Shape) (w : Walk) (word : Text) (words : List Text) → left s w (word ∷ words) ≡ cond (none (turn_fault s [] w word)) (left s (walked s.rules [] w word) words) None
unfolding walk_fault
left_more s w word words = first_fault (turn_fault s [] w word) _ _ _

pub left_after : (s : Shape) (w after : Walk) (word : Text) (words : List Text) (k : Kinds) → turn_fault s [] w word ≡ k → walked s.rules [] w word ≡ after
    → left s w (word ∷ words) ≡ cond (none k) (left s after words) None
left_after s w after word words k faults is = left_more s w word words ∙ ap₂ (λ (x : Kinds) (v : Walk). cond (none x) (left s v words) None) faults is

pub left_never : (s : Shape) (w : Walk) (word : Text) (words : List Text) (k : Kinds) → turn_fault s [] w word ≡ k → none k ≡ false → left s w (word ∷ words) ≡ None
left_never s w word words k faults is = left_more s w word words ∙ ap (λ (x : Kinds). cond (none x) (left s (walked s.rules [] w word) words) None) faults ∙ ap (λ b. cond b (left s (walked s.rules [] w word) words) None) is

-- a use that repeats another has one fault
pub one_conflict : (b : Bool) → or_else (cond (b && true) (ArgumentConflict ∷ []) []) [] ≡ cond b (ArgumentConflict ∷ []) []
one_conflict true = refl
one_conflict false = refl

module _ (options : List OptionRule) (files : Bool) where
  abbrev pub rules : List Rule
  rules = all_rules options files

  pub option_by_id : (name : Text) (o : OptionRule) → named options name ≡ Some o → arg_by_id rules name ≡ Some (full o)
  option_by_id name o is = by_id options files name ∙ ap (λ n. option_or (option_map full n) (last_by_id files name)) is

  pub files_by_id : files ≡ true → named options files_id ≡ None → arg_by_id rules files_id ≡ Some file_rule
  files_by_id takes is = by_id options files files_id ∙ ap₂ (λ n b. option_or (option_map full n) (last_by_id b files_id)) is takes

  pub option_by_long : (name : Text) (o : OptionRule) → named options name ≡ Some o → arg_by_long rules name ≡ Some (full o)
  option_by_long name o is = by_long options files name ∙ ap (option_map full) is

  pub no_option_by_long : (name : Text) → named options name ≡ None → arg_by_long rules name ≡ None
  no_option_by_long name is = by_long options files name ∙ ap (option_map full) is

  -- what a use that is pending comes to
  pub pending_settles : (p : Option Use) (rows : List Row) → IsKnownPending options files p → settle_fault rules false (held_with rows (pending_use p)) ≡ pending_fault p rows
  pending_settles None rows known = refl
  pending_settles (Some (Opt name value)) rows known = rw (option_by_id name known.0 known.1, known.2) (one_conflict (has_row name rows))
  pending_settles (Some (Put word)) rows known = rw (files_by_id known.0 known.1)

  pub pending_settled : (p : Option Use) (rows : List Row) → IsKnownPending options files p → settled rules (held_with rows (pending_use p)) ≡ held_with (rows_with p rows) None
  pending_settled None rows known = refl
  pending_settled (Some (Opt name value)) rows known = rw (option_by_id name known.0 known.1, known.2)
  pending_settled (Some (Put word)) rows known = rw (files_by_id known.0 known.1)

  -- an option without its value
  pub waiting_settles : (name : Text) (o : OptionRule) (rows : List Row) → named options name ≡ Some o → settle_fault rules false (held_with rows (Some (name, []))) ≡ InvalidValue ∷ []
  waiting_settles name o rows is = rw (option_by_id name o is)
