-- Which words a command takes after its command word, and what they give: options with their values in any order,
-- each given at most once, and once where it is required, and the names of files between and after them.
use Rattle.std.specs.Prelude.{◌≡◌, ◌&&◌, ◌||◌, ◌==◌, if◌then◌else◌, ◌∷◌, ◌++◌}
use Rattle.std.specs.Prelude.{ℕ, Bool, true, false, not, List, [], Option, None, Some, codes, unwrap_or}
use Rattle.std.specs.List.{AllZip, flat_map, list_all, list_any}
use Rattle.std.specs.Str.{bytes_eq, chars}
use Rattle.clap.specs.Walk.{is_empty}
use Rattle.nr_words.specs.Grammar.{Grammar, OptionRule, Values, files_id}

-- the two words `--NAME` and `VALUE`, the one word `--NAME=VALUE`, or the word of a file
pub data Item : Type 0 where
  Apart : (name value : List ℕ) → Item
  Joined : (name value : List ℕ) → Item
  File : (word : List ℕ) → Item

abbrev pub dashes : List ℕ
dashes = codes "--"

abbrev pub item_words : Item → List (List ℕ)
item_words (Apart name value) = (dashes ++ name) ∷ value ∷ []
item_words (Joined name value) = (dashes ++ name ++ codes "=" ++ value) ∷ []
item_words (File word) = word ∷ []

-- After the items `--` may stand, and each word after that is a file, whatever it begins with.
abbrev pub words_from : Option (List (List ℕ)) → List (List ℕ)
words_from None = []
words_from (Some files) = dashes ∷ files

-- A word by itself, as `VALUE` or a file, is empty, begins with another byte than `-`, or has no character after
-- it. What stands after `=` may be any text, also an empty one.
abbrev pub is_plain : List ℕ → Bool
is_plain [] = true
is_plain (first ∷ rest) = not (first == 45) || is_empty (chars rest)

abbrev pub has_option : Grammar → List ℕ → Bool
has_option g name = list_any (λ o. bytes_eq o.name name) g.options

-- the item may stand among the words of the grammar
abbrev pub is_taken : Grammar → Item → Bool
is_taken g (Apart name value) = has_option g name && is_plain value
is_taken g (Joined name value) = has_option g name
is_taken g (File word) = g.files && is_plain word

-- Where the grammar takes no files, `--` is the last word.
abbrev pub may_end : Grammar → Option (List (List ℕ)) → Bool
may_end g None = true
may_end g (Some files) = g.files || is_empty files

-- the values that an item gives to the option of a name
abbrev pub value_for : List ℕ → Item → List (List ℕ)
value_for option (Apart name value) = if bytes_eq name option then value ∷ [] else []
value_for option (Joined name value) = if bytes_eq name option then value ∷ [] else []
value_for option (File word) = []

abbrev pub file_of : Item → List (List ℕ)
file_of (Apart name value) = []
file_of (Joined name value) = []
file_of (File word) = word ∷ []

-- The option is given exactly once, with this value, or it isn't given, and isn't required.
abbrev pub IsGiven : List Item → OptionRule → Option (List ℕ) → Type 0
IsGiven items o (Some value) = flat_map (value_for o.name) items ≡ value ∷ []
IsGiven items o None = (flat_map (value_for o.name) items ≡ []) × (o.required ≡ false)

-- the words give these values
pub record Gives (g : Grammar) (words : List (List ℕ)) (values : Values) : Type 0 where
  pub items : List Item
  pub rest : Option (List (List ℕ))
  pub spelled : words ≡ flat_map item_words items ++ words_from rest
  pub taken : list_all (is_taken g) items ≡ true
  pub ended : may_end g rest ≡ true
  pub given : AllZip (IsGiven items) g.options values.options
  pub files : values.files ≡ flat_map file_of items ++ unwrap_or rest []

-- ---- grammars of which this is said

-- neither empty nor with `=` in it
abbrev pub is_name : List ℕ → Bool
is_name name = not (is_empty name) && not (list_any (λ c. c == 61) name)

-- Where the grammar takes files, no option has the name under which `clap` keeps these.
abbrev pub is_clear : Grammar → Bool
is_clear g = list_all (λ o. is_name o.name) g.options && not (g.files && has_option g files_id)
