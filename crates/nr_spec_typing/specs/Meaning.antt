-- When the formula of a promise holds.
use Rattle.std.specs.Prelude.{◌≡◌, ℕ, Bool, true, false, ◌||◌, ◌==◌, not, List, [], ◌∷◌, ◌++◌, map, slice_get, nat_lt, nat_le, Option, Some, None, is_some, Ok}
use Rattle.std.specs.List.{list_any, list_all}
use Rattle.nr_spec_bgp.specs.Prefixes.{Cidr, IsCidr, is_in}
use Rattle.nr_spec_bgp.specs.Paths.{path_len, first_as, last_as, crosses}
use Rattle.nr_spec_bgp.specs.Attributes.{AttributeBlock, attributes_in, origin_of, next_hop_of, med_of, pref_of, path_of, has_community}
use Rattle.nr_prefix.specs.Views.{pattern_of}
use Rattle.nr_rule_syntax.specs.declared.tree.Side.{Side}
use Rattle.nr_rule_syntax.specs.declared.tree.Side.TheVariants.{Sent, Received}
use Rattle.nr_rule_syntax.specs.declared.tree.Cmp.{Cmp}
use Rattle.nr_rule_syntax.specs.declared.tree.Cmp.TheVariants as cmps
use Rattle.nr_spec_typing.specs.declared.text.Neighbour.{Neighbour}
use Rattle.nr_spec_typing.specs.declared.tree.Who.{Who}
use Rattle.nr_spec_typing.specs.declared.tree.Who.TheVariants.{Var, Named}
use Rattle.nr_spec_typing.specs.declared.tree.Value.{Value}
use Rattle.nr_spec_typing.specs.declared.tree.Value.TheVariants as values
use Rattle.nr_spec_typing.specs.declared.tree.Typing.{Typing}
use Rattle.nr_spec_typing.specs.declared.tree.Typing.TheOpen.{Typing-F}
use Rattle.nr_spec_typing.specs.declared.tree.Typing.TheFolds.{fold-Typing}

-- a prefix and, for each neighbour by its number, the route that came from it and the one that went to it, where
-- there is one
pub record Scene : Type 0 where
  pub prefix : Cidr
  pub received : ℕ → Option AttributeBlock
  pub sent : ℕ → Option AttributeBlock

-- a route is what its bytes read as, so what is asked of its attributes is asked of its bytes
abbrev pub IsRead : Option AttributeBlock → Type 0
IsRead None = Unit {0}
IsRead (Some r) = attributes_in r.as4 r.block ≡ Ok r.list

-- a scene of routes that stand in messages: its prefix is one, and each route is what its bytes read as
pub record IsScene (scene : Scene) : Type 0 where
  pub prefix : IsCidr scene.prefix
  pub received : (n : ℕ) → IsRead (scene.received n)
  pub sent : (n : ℕ) → IsRead (scene.sent n)

abbrev pub route_in : Scene → Side → ℕ → Option AttributeBlock
route_in scene Sent n = scene.sent n
route_in scene Received n = scene.received n

-- what a variable stands for
pub data Thing : Type 0 where
  neighbour : ℕ → Thing
  route : AttributeBlock → Thing

-- ---- variables by their numbers. In a formula of a well typed text (`IsTyped` in Guarantees) none is missing, so the
-- ---- answers for missing ones below are never used.

abbrev pub neighbour_in : Option Thing → ℕ
neighbour_in (Some (neighbour n)) = n
neighbour_in _ = 0

abbrev pub who_of : List Thing → Who → ℕ
who_of things (Var n) = neighbour_in (slice_get things n)
who_of things (Named n) = n

-- a route without attributes
abbrev pub bare : AttributeBlock
bare = record { block = []; as4 = true; list = [] }

abbrev pub route_of : Option Thing → AttributeBlock
route_of (Some (route r)) = r
route_of _ = bare

abbrev pub route_at : List Thing → ℕ → AttributeBlock
route_at things n = route_of (slice_get things n)

abbrev pub asn_in : Option Neighbour → ℕ
asn_in None = 0
asn_in (Some n) = n.asn

abbrev pub asn_of : List Neighbour → ℕ → ℕ
asn_of neighbours n = asn_in (slice_get neighbours n)

-- ---- whole numbers

abbrev pub number : List Neighbour → Scene → List Thing → Value → ℕ
number neighbours scene things (values.Number n) = n
number neighbours scene things values.Bits = scene.prefix.len
number neighbours scene things (values.Length r) = path_len (path_of (route_at things r))
number neighbours scene things (values.Med r) = med_of (route_at things r)
number neighbours scene things (values.Pref r) = pref_of (route_at things r)
number neighbours scene things (values.Origin r) = origin_of (route_at things r)
number neighbours scene things (values.First r) = first_as (path_of (route_at things r))
number neighbours scene things (values.Last r) = last_as (path_of (route_at things r))
number neighbours scene things (values.Hop r) = next_hop_of (route_at things r)
number neighbours scene things (values.Asn of) = asn_of neighbours (who_of things of)

abbrev pub compares : ℕ → Cmp → ℕ → Bool
compares n cmps.Eq m = n == m
compares n cmps.Ne m = not (n == m)
compares n cmps.Lt m = nat_lt n m
compares n cmps.Le m = nat_le n m
compares n cmps.Gt m = nat_lt m n
compares n cmps.Ge m = nat_le m n

-- ---- formulas

-- whether a formula holds, where the variables stand for these, the outermost first
abbrev pub Holding : Type 0
Holding = List Thing → Bool

-- the first with the route as one more thing, where there is one, else the second
abbrev pub with_route : Option AttributeBlock → Holding → Holding → Holding
with_route (Some r) then_ else_ things = then_ (things ++ route r ∷ [])
with_route None then_ else_ things = else_ things

abbrev pub of_neighbour : Holding → List Thing → ℕ → Bool
of_neighbour form things n = form (things ++ neighbour n ∷ [])

abbrev pub holds_step : List Neighbour → Scene → Typing-F Holding → Holding
holds_step neighbours scene Typing-F.True = λ things. true
holds_step neighbours scene Typing-F.False = λ things. false
holds_step neighbours scene (Typing-F.Not held) = λ things. not (held things)
holds_step neighbours scene (Typing-F.And members) = λ things. list_all (λ member. member things) members
holds_step neighbours scene (Typing-F.Or members) = λ things. list_any (λ member. member things) members
holds_step neighbours scene (Typing-F.Implies left right) = λ things. not (left things) || right things
holds_step neighbours scene (Typing-F.All var group form) = λ things. list_all (of_neighbour form things) group
holds_step neighbours scene (Typing-F.Some var group form) = λ things. list_any (of_neighbour form things) group
holds_step neighbours scene (Typing-F.If var side of yes_ no_) =
    λ things. with_route (route_in scene side (who_of things of)) yes_ no_ things
holds_step neighbours scene (Typing-F.Stands side of) = λ things. is_some (route_in scene side (who_of things of))
holds_step neighbours scene (Typing-F.Has r community) = λ things. has_community community (route_at things r)
holds_step neighbours scene (Typing-F.Crosses r term) =
    λ things. crosses (number neighbours scene things term) (path_of (route_at things r))
holds_step neighbours scene (Typing-F.Is left right) = λ things. who_of things left == who_of things right
holds_step neighbours scene (Typing-F.PrefixIn patterns) = λ things. is_in (map pattern_of patterns) scene.prefix
holds_step neighbours scene (Typing-F.Compare left op right) =
    λ things. compares (number neighbours scene things left) op (number neighbours scene things right)

abbrev pub holds_where : List Neighbour → Scene → Typing → Holding
holds_where neighbours scene = fold-Typing Holding (holds_step neighbours scene)

-- whether a formula holds in a scene, in a text with these neighbours
abbrev pub holds : List Neighbour → Scene → Typing → Bool
holds neighbours scene form = holds_where neighbours scene form []
