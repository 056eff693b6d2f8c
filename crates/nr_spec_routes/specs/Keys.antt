-- What a route is of, and the order of rows.
use Rattle.std.specs.Prelude.{[], ℕ, ◌&&◌, ◌==◌, ◌∷◌, Bool, List, Option, map}
use Rattle.std.specs.List.Sorted.{IsStrictlySortedBy}
use Rattle.std.specs.declared.cmp.Ordering.{Ordering}
use Rattle.std.specs.BTreeSet.{insert_key}
use Rattle.std.specs.BTreeMap.{is_at}
use Rattle.std.specs.Ordering.{is_eq, nat_cmp, ordering_then}
use Rattle.std.specs.Map.{keys_of, lookup}
use Rattle.std.specs.List.{list_any}
use Rattle.nr_spec_bgp.specs.Attributes.{AttributeBlock}
use Rattle.nr_spec_bgp.specs.Prefixes.{Cidr}
use Rattle.nr_spec_routes.specs.declared.direction.Direction.{Direction}
use Rattle.nr_spec_routes.specs.declared.direction.Direction.TheVariants.{Received, Sent}

-- a route is of a prefix, received from a neighbour or sent to it
pub record Key : Type 0 where
  pub prefix : Cidr
  pub direction : Direction
  pub neighbour : ℕ

abbrev pub direction_number : Direction → ℕ
direction_number Received = 0
direction_number Sent = 1

-- the order of prefixes: by address, and then by length
abbrev pub cidr_cmp : Cidr → Cidr → Ordering
cidr_cmp p q = ordering_then (nat_cmp p.addr q.addr) (nat_cmp p.len q.len)

abbrev pub direction_cmp : Direction → Direction → Ordering
direction_cmp c d = nat_cmp (direction_number c) (direction_number d)

-- the order of rows: by prefix, then by direction, received first, and then by neighbour
abbrev pub key_cmp : Key → Key → Ordering
key_cmp a b =
    ordering_then (cidr_cmp a.prefix b.prefix)
    (ordering_then (direction_cmp a.direction b.direction) (nat_cmp a.neighbour b.neighbour))

-- a row: what it is of, and the attributes of the route
abbrev pub Row : Type 0
Row = Key × AttributeBlock

-- the route of a key, where the rows have one
abbrev pub route_in : List Row → Key → Option AttributeBlock
route_in rows key = lookup (is_at (key_cmp key)) rows

-- the rows ascend, so that no two are of one key
abbrev pub AreAscending : List Row → Type 0
AreAscending rows = IsStrictlySortedBy key_cmp (keys_of rows)

-- ---- prefixes

-- whether a prefix is among others
abbrev pub is_named : List Cidr → Cidr → Bool
is_named cidrs p = list_any (λ c. is_eq (cidr_cmp c p)) cidrs

-- prefixes in order and each once
abbrev pub each_once : List Cidr → List Cidr
each_once [] = []
each_once (p ∷ cidrs) = insert_key cidr_cmp (each_once cidrs) p

-- the prefixes of rows
abbrev pub prefixes_in : List Row → List Cidr
prefixes_in rows = map (λ (key : Key). key.prefix) (keys_of rows)

-- a prefix stands where some row is of it
abbrev pub stands_in : List Row → Cidr → Bool
stands_in rows p = list_any (λ (key : Key). key.prefix.addr == p.addr && key.prefix.len == p.len) (keys_of rows)

-- the prefixes that stand, in order and each once
abbrev pub standing : List Row → List Cidr
standing rows = each_once (prefixes_in rows)
