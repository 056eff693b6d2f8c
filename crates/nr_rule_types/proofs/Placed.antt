-- Where a name stands, and what it means.
use Rattle.std.proofs.Common.{◌≡◌, ℕ, suc, Bool, true, false, cond, List, [], ◌∷◌, ◌++◌, length, Option, Some, None, option_map, slice_get, refl, ap, sym, ◌∙◌}
use Rattle.std.specs.Str.{bytes_eq}
use Rattle.std.proofs.lemmas.Slice.Eq.{bytes_eq-Decides}
use Rattle.nr_spec_typing.specs.declared.name.Named.{Named}
use Rattle.nr_spec_typing.specs.declared.name.Declared.{Declared}
use Rattle.nr_spec_typing.specs.Scopes.{meaning}
use Rattle.nr_rule_types.specs.Places.{place}

abbrev pub meaning_at : List Declared → Option ℕ → Option Named
meaning_at names None = None
meaning_at names (Some n) = option_map (λ d. d.means) (slice_get names n)

meaning_step : (d : Declared) (names : List Declared) (same : Bool) (at : Option ℕ) (m : Option Named) → m ≡ meaning_at names at
    → cond same (Some d.means) m ≡ meaning_at (d ∷ names) (cond same (Some 0) (option_map (λ n. suc n) at))
meaning_step d names true at m e = refl
meaning_step d names false None m e = e
meaning_step d names false (Some n) m e = e

pub meaning_placed : (names : List Declared) (word : List ℕ) → meaning names word ≡ meaning_at names (place names word)
meaning_placed [] word = refl
meaning_placed (d ∷ names) word = meaning_step d names (bytes_eq d.word word) (place names word) (meaning names word) (meaning_placed names word)

-- a name that no other has
other : (d : Declared) (same : Bool) (m : Option Named) → cond same (Some d.means) m ≡ None → same ≡ false
other d true m e = cc
other d false m e = refl

others : (d : Declared) (same : Bool) (m : Option Named) → cond same (Some d.means) m ≡ None → m ≡ None
others d true m e = cc
others d false m e = e

more_step : (e word new : List ℕ) (n : ℕ) (same : Bool) (at more : Option ℕ) → same ≡ bytes_eq new word → bytes_eq e new ≡ false
    → more ≡ cond same (Some n) at
    → cond (bytes_eq e word) (Some 0) (option_map (λ k. suc k) more) ≡ cond same (Some (suc n)) (cond (bytes_eq e word) (Some 0) (option_map (λ k. suc k) at))
more_step e word new n true at more s apart m =
    let same : new ≡ word = (bytes_eq-Decides new word).0 (sym s) in
    let no : bytes_eq e word ≡ false = ap (λ w. bytes_eq e w) (sym same) ∙ apart in
    rw (no, m) refl
more_step e word new n false at more s apart m = rw m refl

pub placed_more : (names : List Declared) (d : Declared) (word : List ℕ) → meaning names d.word ≡ None
    → place (names ++ d ∷ []) word ≡ cond (bytes_eq d.word word) (Some (length names)) (place names word)
placed_more [] d word new = refl
placed_more (e ∷ names) d word new =
    more_step e.word word d.word (length names) (bytes_eq d.word word) (place names word) (place (names ++ d ∷ []) word) refl
    (other e (bytes_eq e.word d.word) (meaning names d.word) new)
    (placed_more names d word (others e (bytes_eq e.word d.word) (meaning names d.word) new))

-- what a look-up by place says
pub find_none : (names : List Declared) (word : List ℕ) (found : Option ℕ) → found ≡ place names word → None ≡ found → meaning names word ≡ None
find_none names word found i w = meaning_placed names word ∙ ap (meaning_at names) (sym i ∙ sym w)

pub find_missing : (names : List Declared) (word : List ℕ) (found : Option ℕ) (n : ℕ) → found ≡ place names word → Some n ≡ found → None ≡ slice_get names n
    → meaning names word ≡ None
find_missing names word found n i w s = meaning_placed names word ∙ ap (meaning_at names) (sym i ∙ sym w) ∙ ap (option_map (λ (d : Declared). d.means)) (sym s)

pub find_some : (names : List Declared) (word : List ℕ) (found : Option ℕ) (n : ℕ) (d : Declared) → found ≡ place names word → Some n ≡ found → Some d ≡ slice_get names n
    → meaning names word ≡ Some d.means
find_some names word found n d i w s = meaning_placed names word ∙ ap (meaning_at names) (sym i ∙ sym w) ∙ ap (option_map (λ (d : Declared). d.means)) (sym s)

-- one name more, in the names and in their places
pub indexed_more : (names more : List Declared) (d : Declared) (q bs : List ℕ) (at : ℕ) (old new : Option ℕ) → meaning names d.word ≡ None → bs ≡ d.word → at ≡ length names
    → old ≡ place names q → new ≡ cond (bytes_eq bs q) (Some at) old → more ≡ names ++ d ∷ [] → new ≡ place more q
indexed_more names more d q bs at old new none b a o n m = rw (n, o, b, a, m) (sym (placed_more names d q none))
