-- Where each declared name stands among the names.
use Rattle.std.specs.Prelude.{◌≡◌, ℕ, suc, List, [], ◌∷◌, Option, Some, None, option_map, if◌then◌else◌}
use Rattle.std.specs.Str.{bytes_eq}
use Rattle.std.specs.Ordering.{nat_cmp}
use Rattle.std.specs.Cmp.Lexicographic.{slice_cmp}
use Rattle.std.specs.BTreeMap.{BTreeMap, get_by}
use denote.Ref.{Bor}
use Rattle.nr_spec_typing.specs.declared.name.Declared.{Declared}

abbrev pub place : List Declared → List ℕ → Option ℕ
place [] word = None
place (d ∷ names) word = if bytes_eq d.word word then Some 0 else option_map (λ n. suc n) (place names word)

abbrev pub ArePlaces : List Declared → BTreeMap (Bor (List ℕ)) ℕ → Type 0
ArePlaces names places = (word : List ℕ) → get_by (λ k. slice_cmp nat_cmp word k.now) places ≡ place names word
