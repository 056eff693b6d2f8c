-- What a well typed text guarantees, so that whether its formulas hold can always be told: each variable is
-- bound around its place and stands for what is asked of it, and each number is in its range. And a neighbour can be
-- found by its AS and address, by its AS and number, and by its name, and a promise by its name, for no two have the
-- same.
use Rattle.std.specs.Prelude.{◌≡◌, ℕ, ◌+◌, ◌<◌, ◌≤◌, max, Bool, true, false, ◌&&◌, ◌==◌, List, [], ◌∷◌, ◌++◌, length, slice_get, nat_lt, nat_le, Option, Some, None}
use Rattle.std.specs.List.{All, list_all}
use Rattle.nr_chain.specs.declared.digest.Digest.{Digest}
use Rattle.nr_prefix.specs.declared.set.Pattern.{Pattern}
use Rattle.nr_rule_syntax.specs.Nesting.{Measured, negated, conjoined, disjoined, implied, enclosed, flat}
use Rattle.nr_spec_typing.specs.declared.name.Bound.{Bound}
use Rattle.nr_spec_typing.specs.declared.name.Bound.TheVariants.{Neighbour, Route}
use Rattle.nr_spec_typing.specs.declared.text.Promise.{Promise}
use Rattle.nr_spec_typing.specs.declared.tree.Who.{Who}
use Rattle.nr_spec_typing.specs.declared.tree.Who.TheVariants.{Var, Named}
use Rattle.nr_spec_typing.specs.declared.tree.Value.{Value}
use Rattle.nr_spec_typing.specs.declared.tree.Value.TheVariants as values
use Rattle.nr_spec_typing.specs.declared.tree.Typing.{Typing}
use Rattle.nr_spec_typing.specs.declared.tree.Typing.TheOpen.{Typing-F}
use Rattle.nr_spec_typing.specs.declared.tree.Typing.TheFolds.{fold-Typing}
use Rattle.nr_spec_typing.specs.Scopes.{same_bound}
use Rattle.nr_spec_typing.specs.Declarations.{TypedText, most_seconds}
use Rattle.nr_spec_typing.specs.Apart.{NoTwo, SameAddress, SameNumber, SameName, SamePromise}

-- ---- what the variables at a place stand for, the outermost first

abbrev pub stands_for : Bound → Option Bound → Bool
stands_for bound None = false
stands_for bound (Some found) = same_bound found bound

abbrev pub is_variable : Bound → List Bound → ℕ → Bool
is_variable bound around n = stands_for bound (slice_get around n)

-- one of the neighbours, of which there are so many
abbrev pub is_who : ℕ → List Bound → Who → Bool
is_who count around (Var n) = is_variable Neighbour around n
is_who count around (Named n) = nat_lt n count

abbrev pub is_value : ℕ → List Bound → Value → Bool
is_value count around (values.Number n) = true
is_value count around values.Bits = true
is_value count around (values.Length n) = is_variable Route around n
is_value count around (values.Med n) = is_variable Route around n
is_value count around (values.Pref n) = is_variable Route around n
is_value count around (values.Origin n) = is_variable Route around n
is_value count around (values.First n) = is_variable Route around n
is_value count around (values.Last n) = is_variable Route around n
is_value count around (values.Hop n) = is_variable Route around n
is_value count around (values.Asn of) = is_who count around of

abbrev pub are_neighbours : ℕ → List ℕ → Bool
are_neighbours count members = list_all (λ n. nat_lt n count) members

-- a greatest length is from the prefix's own length to 32
abbrev pub is_pattern : Pattern → Bool
is_pattern p = nat_le p.prefix.len p.most && nat_le p.most 32

-- a variable's number is how many are bound outside it, and at most 64 are bound at a place
abbrev pub is_next : List Bound → ℕ → Bool
is_next around var = var == length around && nat_lt var 64

abbrev pub Fitting : Type 0
Fitting = List Bound → Bool

-- a formula fits its place, where those that it holds fit theirs
abbrev pub fits_step : ℕ → Typing-F Fitting → Fitting
fits_step count Typing-F.True = λ around. true
fits_step count Typing-F.False = λ around. true
fits_step count (Typing-F.Not held) = held
fits_step count (Typing-F.And members) = λ around. list_all (λ member. member around) members
fits_step count (Typing-F.Or members) = λ around. list_all (λ member. member around) members
fits_step count (Typing-F.Implies left right) = λ around. left around && right around
fits_step count (Typing-F.All var group form) =
    λ around. is_next around var && are_neighbours count group && form (around ++ Neighbour ∷ [])
fits_step count (Typing-F.Some var group form) =
    λ around. is_next around var && are_neighbours count group && form (around ++ Neighbour ∷ [])
fits_step count (Typing-F.If var side of yes_ no_) =
    λ around. is_next around var && is_who count around of && yes_ (around ++ Route ∷ []) && no_ around
fits_step count (Typing-F.Stands side of) = λ around. is_who count around of
fits_step count (Typing-F.Has route community) = λ around. is_variable Route around route
fits_step count (Typing-F.Crosses route term) = λ around. is_variable Route around route && is_value count around term
fits_step count (Typing-F.Is left right) = λ around. is_who count around left && is_who count around right
fits_step count (Typing-F.PrefixIn patterns) = λ around. list_all is_pattern patterns
fits_step count (Typing-F.Compare left op right) = λ around. is_value count around left && is_value count around right

abbrev pub fits : ℕ → Typing → Fitting
fits count = fold-Typing Fitting (fits_step count)

-- ---- how deep it nests, as in its canonical text

abbrev pub measured_step : Typing-F Measured → Measured
measured_step (Typing-F.Not held) = negated held
measured_step (Typing-F.And members) = conjoined members
measured_step (Typing-F.Or members) = disjoined members
measured_step (Typing-F.Implies left right) = implied left right
measured_step (Typing-F.All var group form) = enclosed form.levels
measured_step (Typing-F.Some var group form) = enclosed form.levels
measured_step (Typing-F.If var side of then_ else_) = enclosed (max then_.levels else_.levels)
measured_step _ = flat

abbrev pub measured : Typing → Measured
measured = fold-Typing Measured measured_step

-- ---- a whole text

-- a promise of a text with so many neighbours
pub record IsPromise (count : ℕ) (p : Promise) : Type 0 where
  pub grace : p.grace ≤ most_seconds
  pub places : length p.at ≤ 1024
  pub fits : fits count p.form [] ≡ true
  pub nests : (measured p.form).levels ≤ 64

-- the number under which a neighbour knows this network is below 256
abbrev pub IsKeyNumber : Option (Digest × ℕ) → Type 0
IsKeyNumber None = Unit {0}
IsKeyNumber (Some key) = key.1 < 256

pub record IsTyped (t : TypedText) : Type 0 where
  pub commit : t.commit ≤ most_seconds
  pub neighbours : length t.neighbours ≤ 256
  pub keys : All (λ n. IsKeyNumber n.key) t.neighbours
  pub promises : length t.promises ≤ 256
  pub formulas : All (IsPromise (length t.neighbours)) t.promises
  pub addresses : NoTwo SameAddress t.neighbours
  pub numbers : NoTwo SameNumber t.neighbours
  pub names : NoTwo SameName t.neighbours
  pub promise_names : NoTwo SamePromise t.promises
