-- The meaning of formulas where any answer may stand in for a variable or a neighbour that is missing.
use Rattle.std.specs.Prelude.{ℕ, ◌<◌, ◌==◌, List, [], ◌∷◌, map, slice_get, Option, Some, None, is_some}
use Rattle.nr_spec_bgp.specs.Paths.{path_len, first_as, last_as}
use Rattle.nr_spec_bgp.specs.Paths as paths
use Rattle.nr_spec_bgp.specs.Attributes.{AttributeBlock, origin_of, next_hop_of, med_of, pref_of, path_of, has_community}
use Rattle.nr_spec_typing.specs.declared.name.Bound.{Bound}
use Rattle.nr_spec_typing.specs.declared.name.Bound.TheVariants.{Neighbour, Route}
use Rattle.nr_spec_typing.specs.declared.text.Neighbour as text
use Rattle.nr_spec_typing.specs.declared.tree.Who.{Who}
use Rattle.nr_spec_typing.specs.declared.tree.Who.TheVariants.{Var, Named}
use Rattle.nr_spec_typing.specs.declared.tree.Value.{Value}
use Rattle.nr_spec_typing.specs.declared.tree.Value.TheVariants as values
use Rattle.nr_spec_typing.specs.declared.tree.Typing.{Typing}
use Rattle.nr_spec_typing.specs.declared.tree.Typing.TheOpen.{Typing-F}
use Rattle.nr_spec_typing.specs.declared.tree.Typing.TheFolds.{fold-Typing}
use Rattle.nr_spec_typing.specs.Meaning.{Scene, Thing, neighbour, route, route_in, compares, Holding, with_route, holds_step}

-- what stands in for a missing neighbour, a missing route, and the AS of a missing neighbour
pub record StandIns : Type 0 where
  pub who : ℕ
  pub route : AttributeBlock
  pub asn : ℕ

abbrev pub neighbour_or : StandIns → Option Thing → ℕ
neighbour_or m (Some (neighbour n)) = n
neighbour_or m _ = m.who

abbrev pub who_or : StandIns → List Thing → Who → ℕ
who_or m things (Var v) = neighbour_or m (slice_get things v)
who_or m things (Named n) = n

abbrev pub route_or : StandIns → Option Thing → AttributeBlock
route_or m (Some (route r)) = r
route_or m _ = m.route

abbrev pub route_at_or : StandIns → List Thing → ℕ → AttributeBlock
route_at_or m things v = route_or m (slice_get things v)

abbrev pub asn_or : StandIns → Option text.Neighbour → ℕ
asn_or m None = m.asn
asn_or m (Some x) = x.asn

abbrev pub number_or : StandIns → List text.Neighbour → Scene → List Thing → Value → ℕ
number_or m neighbours scene things (values.Number n) = n
number_or m neighbours scene things values.Bits = scene.prefix.len
number_or m neighbours scene things (values.Length v) = path_len (path_of (route_at_or m things v))
number_or m neighbours scene things (values.Med v) = med_of (route_at_or m things v)
number_or m neighbours scene things (values.Pref v) = pref_of (route_at_or m things v)
number_or m neighbours scene things (values.Origin v) = origin_of (route_at_or m things v)
number_or m neighbours scene things (values.First v) = first_as (path_of (route_at_or m things v))
number_or m neighbours scene things (values.Last v) = last_as (path_of (route_at_or m things v))
number_or m neighbours scene things (values.Hop v) = next_hop_of (route_at_or m things v)
number_or m neighbours scene things (values.Asn of) = asn_or m (slice_get neighbours (who_or m things of))

-- the steps that ask for a variable or a neighbour; the others ask for none
abbrev pub step_or : StandIns → List text.Neighbour → Scene → Typing-F Holding → Holding
step_or m neighbours scene (Typing-F.If var side of yes_ no_) =
    λ things. with_route (route_in scene side (who_or m things of)) yes_ no_ things
step_or m neighbours scene (Typing-F.Stands side of) = λ things. is_some (route_in scene side (who_or m things of))
step_or m neighbours scene (Typing-F.Has v community) = λ things. has_community community (route_at_or m things v)
step_or m neighbours scene (Typing-F.Crosses v term) =
    λ things. paths.crosses (number_or m neighbours scene things term) (path_of (route_at_or m things v))
step_or m neighbours scene (Typing-F.Is left right) = λ things. who_or m things left == who_or m things right
step_or m neighbours scene (Typing-F.Compare left op right) =
    λ things. compares (number_or m neighbours scene things left) op (number_or m neighbours scene things right)
step_or m neighbours scene layer = holds_step neighbours scene layer

-- whether a formula holds, with these stand-ins
abbrev pub holds_or : StandIns → List text.Neighbour → Scene → Typing → Holding
holds_or m neighbours scene = fold-Typing Holding (step_or m neighbours scene)

-- ---- what the variables stand for

abbrev pub kind_of : Thing → Bound
kind_of (neighbour n) = Neighbour
kind_of (route r) = Route

abbrev pub kinds : List Thing → List Bound
kinds things = map kind_of things

-- each neighbour among them is one of so many
abbrev pub AreKnown : ℕ → List Thing → Type 0
AreKnown count [] = Unit {0}
AreKnown count (neighbour n ∷ things) = (n < count) × AreKnown count things
AreKnown count (route r ∷ things) = AreKnown count things
