-- The synopsis of the commands.
use Rattle.std.specs.Prelude.{ℕ, if◌then◌else◌, List, [], ◌∷◌, ◌++◌, map, codes}
use Rattle.std.specs.List.{flat_map}
use Rattle.nr_advice.specs.Plain.{spoken}
use Rattle.nr_advice.specs.declared.commands.OptionRow.{OptionRow}
use Rattle.nr_advice.specs.declared.commands.CommandRow.{CommandRow}

-- pieces of text, one behind another, as a person sees them
abbrev pub told : List (List ℕ) → List ℕ
told texts = flat_map (map spoken) texts

-- `--NAME VALUE`, in brackets where it may be left out
abbrev pub option_text : OptionRow → List ℕ
option_text o =
    if o.required
    then told (codes " --" ∷ o.name.now ∷ codes " " ∷ o.value.now ∷ [])
    else told (codes " [--" ∷ o.name.now ∷ codes " " ∷ o.value.now ∷ codes "]" ∷ [])

-- the line of a command's words, and behind it a line of what it does
unfoldable pub command_text : CommandRow → List ℕ
command_text c =
    told (codes "  netreview " ∷ c.name.now ∷ [])
    ++ (flat_map option_text c.options.now ++ told (c.files.now ∷ codes "\n      " ∷ c.does.now ∷ codes "\n" ∷ []))

-- of all commands, in their order
abbrev pub synopsis : List CommandRow → List ℕ
synopsis rows = flat_map command_text rows
