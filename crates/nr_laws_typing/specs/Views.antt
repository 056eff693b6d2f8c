-- The kinds of declared names.
use Rattle.std.specs.Prelude.{ℕ, List, Option, Some, None}
use Rattle.nr_spec_typing.specs.declared.name.Named.{Named}
use Rattle.nr_spec_typing.specs.declared.name.Named.TheVariants as named
use Rattle.nr_spec_typing.specs.declared.name.Declared.{Declared}
use Rattle.nr_spec_typing.specs.Scopes.{meaning}
use Rattle.nr_laws_typing.specs.Uses.{Kind, ANeighbour, AGroup, ASet, APromise}

abbrev pub kind_named : Option Named → Option Kind
kind_named None = None
kind_named (Some (named.Neighbour n)) = Some ANeighbour
kind_named (Some (named.Group members)) = Some AGroup
kind_named (Some (named.Define patterns)) = Some ASet
kind_named (Some named.Promise) = Some APromise

abbrev pub kind_by : List Declared → List ℕ → Option Kind
kind_by names word = kind_named (meaning names word)
