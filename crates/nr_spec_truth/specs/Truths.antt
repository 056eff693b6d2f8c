-- Whether a promise is true in a scene: whether its formula holds there. Promise files are numbered from 0 in the
-- order in which they are given, and so are the promises of each.
use Rattle.std.specs.Prelude.{ℕ, Bool, true, false, List, Option, None, Some, length, nat_lt, slice_get}
use Rattle.nr_spec_typing.specs.declared.text.Neighbour.{Neighbour}
use Rattle.nr_spec_typing.specs.declared.text.Promise.{Promise}
use Rattle.nr_spec_typing.specs.Declarations.{TypedText}
use Rattle.nr_spec_typing.specs.Meaning.{Scene, holds}

-- a truth value for each promise of each file and each scene
abbrev pub Truth : Type 0
Truth = ℕ → ℕ → Scene → Bool

-- ---- the meaning. A promise that isn't there asks for nothing

abbrev pub promised : List Neighbour → Option Promise → Scene → Bool
promised neighbours None scene = true
promised neighbours (Some promise) scene = holds neighbours scene promise.form

abbrev pub formula_holds : TypedText → ℕ → Scene → Bool
formula_holds text promise scene = promised text.neighbours (slice_get text.promises promise) scene

abbrev pub holds_in : Option TypedText → ℕ → Scene → Bool
holds_in None promise scene = true
holds_in (Some text) promise scene = formula_holds text promise scene

abbrev pub meant : List TypedText → Truth
meant texts file promise scene = holds_in (slice_get texts file) promise scene

-- ---- the promises that there are

abbrev pub has_promise : Option TypedText → ℕ → Bool
has_promise None promise = false
has_promise (Some text) promise = nat_lt promise (length text.promises)

abbrev pub is_known : List TypedText → ℕ → ℕ → Bool
is_known texts file promise = has_promise (slice_get texts file) promise
