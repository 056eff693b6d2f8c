-- The promises of docs/promises.md, each with its names resolved, and one over two routers of one AS; and scenes to
-- judge them in.
use Rattle.std.specs.Prelude.{◌≡◌, ℕ, ◌+◌, ◌*◌, Bool, true, false, ◌==◌, if◌then◌else◌, List, [], ◌∷◌, ◌++◌, length, Option, Some, None, Ok}
use Rattle.std.specs.List.{flat_map}
use Rattle.byteorder.specs.Endian.{big_bytes}
use Rattle.nr_prefix.specs.declared.set.Pattern.{Pattern}
use Rattle.nr_spec_bgp.specs.Prefixes.{Cidr, IsCidr}
use Rattle.nr_spec_bgp.specs.Attributes.{Attribute, AttributeBlock, attributes_in}
use Rattle.nr_rule_syntax.specs.declared.tree.Side.TheVariants.{Sent, Received}
use Rattle.nr_rule_syntax.specs.declared.tree.Cmp.TheVariants as cmps
use Rattle.nr_spec_typing.specs.declared.text.Neighbour.{Neighbour}
use Rattle.nr_spec_typing.specs.declared.tree.Who.TheVariants.{Var, Named}
use Rattle.nr_spec_typing.specs.declared.tree.Value.TheVariants as values
use Rattle.nr_spec_typing.specs.declared.tree.Typing.{Typing}
use Rattle.nr_spec_typing.specs.declared.tree.Typing.TheVariants as t
use Rattle.nr_spec_typing.specs.Meaning.{Scene, holds}

-- ---- routes

-- AS_PATH of one AS_SEQUENCE, and COMMUNITIES
abbrev pub sequence : List ℕ → Attribute
sequence numbers = record { kind = 2; value = 2 ∷ length numbers ∷ flat_map (big_bytes 4) numbers }

abbrev pub set_bytes : List ℕ → List ℕ
set_bytes numbers = 1 ∷ length numbers ∷ flat_map (big_bytes 4) numbers

abbrev pub communities : List ℕ → Attribute
communities numbers = record { kind = 8; value = flat_map (big_bytes 4) numbers }

abbrev pub origin : ℕ → Attribute
origin n = record { kind = 1; value = n ∷ [] }

abbrev pub hop : ℕ → Attribute
hop n = record { kind = 3; value = big_bytes 4 n }

-- an attribute with one byte of length
abbrev pub attribute_bytes : Attribute → List ℕ
attribute_bytes a = 64 ∷ a.kind ∷ length a.value ∷ a.value

-- what the attributes spell, with AS numbers of four bytes
abbrev pub route_of : List Attribute → AttributeBlock
route_of list = record { block = flat_map attribute_bytes list; as4 = true; list = list }

-- 64500:666
abbrev pub stays_inside : ℕ
stays_inside = 64500 * 65536 + 666

abbrev pub tagged : AttributeBlock
tagged = route_of (origin 0 ∷ sequence (64500 ∷ 64510 ∷ []) ∷ hop 3221225994 ∷ communities (stays_inside ∷ []) ∷ [])

abbrev pub plain : AttributeBlock
plain = route_of (origin 0 ∷ sequence (64500 ∷ 64510 ∷ []) ∷ hop 3221225994 ∷ [])

abbrev pub by_customer : AttributeBlock
by_customer = route_of (origin 0 ∷ sequence (64500 ∷ 64520 ∷ []) ∷ hop 3221225994 ∷ [])

abbrev pub long : AttributeBlock
long = route_of (origin 0 ∷ sequence (64500 ∷ 64510 ∷ 64520 ∷ 64530 ∷ []) ∷ hop 3221225994 ∷ [])

abbrev pub unprepended : AttributeBlock
unprepended = route_of (origin 0 ∷ sequence (64510 ∷ 64520 ∷ []) ∷ hop 3221225994 ∷ [])

-- AS_PATH of an AS_SEQUENCE and an AS_SET, and of an AS_SET alone
abbrev pub merged : AttributeBlock
merged = route_of
    (origin 0 ∷ record {
      kind = 2;
      value =
          (sequence (64500 ∷ 64510 ∷ [])).value ++ set_bytes (64520 ∷ 64530 ∷ 64540 ∷ []);
    } ∷ hop 3221225994 ∷ [])

abbrev pub set_first : AttributeBlock
set_first = route_of (origin 0 ∷ record { kind = 2; value = set_bytes (64500 ∷ []) } ∷ hop 3221225994 ∷ [])

-- ---- scenes

-- at this neighbour there is this route, and no other
abbrev pub only : ℕ → AttributeBlock → ℕ → Option AttributeBlock
only m r n = if n == m then Some r else None

abbrev pub nowhere : ℕ → Option AttributeBlock
nowhere n = None

-- 198.51.100.0/26
abbrev pub inside_own : Cidr
inside_own = record { addr = 3325256704; len = 26 }

-- 198.51.100.0/27
abbrev pub too_long : Cidr
too_long = record { addr = 3325256704; len = 27 }

-- 203.0.112.0/23
abbrev pub around_own : Cidr
around_own = record { addr = 3405803520; len = 23 }

-- 198.51.101.0/24, as long as the own ones, with other bits
abbrev pub beside_own : Cidr
beside_own = record { addr = 3325256960; len = 24 }

-- the prefixes of the scenes are prefixes
pub record ScenesStand : Type 0 where
  pub inside_own : IsCidr inside_own
  pub too_long : IsCidr too_long
  pub around_own : IsCidr around_own
  pub beside_own : IsCidr beside_own

abbrev pub neighbour : ℕ → ℕ → Neighbour
neighbour asn addr = record { name = []; asn = asn; addr = addr; key = None }

-- what is sent at this prefix, where nothing was received
abbrev pub sending : Cidr → (ℕ → Option AttributeBlock) → Scene
sending prefix sent = record { prefix = prefix; received = nowhere; sent = sent }

-- a formula has this truth value in a scene
abbrev pub Is : List Neighbour → Scene → Typing → Bool → Type 0
Is neighbours scene form value = holds neighbours scene form ≡ value

-- ---- no_export: all n in peers { if r = sent(n) then not r has 64500:666 else true end }

abbrev pub no_export : Typing
no_export = t.All 0 (1 ∷ 2 ∷ []) (t.If 1 Sent (Var 0) (t.Not (t.Has 1 stays_inside)) t.True)

abbrev pub transit_and_peers : List Neighbour
transit_and_peers = neighbour 64510 3221225994 ∷ neighbour 64511 3221225995 ∷ neighbour 64512 3221225996 ∷ []

pub record NoExport : Type 0 where
  pub tagged_to_a_peer : Is transit_and_peers (sending inside_own (only 2 tagged)) no_export false
  pub tagged_to_transit : Is transit_and_peers (sending inside_own (only 0 tagged)) no_export true
  pub plain_to_a_peer : Is transit_and_peers (sending inside_own (only 2 plain)) no_export true
  pub tagged_from_a_peer : Is transit_and_peers
      (record { prefix = inside_own; received = only 2 tagged; sent = nowhere }) no_export true

-- ---- prefer_customer: if s = sent(peer_a) then received(customer) implies s crosses asn(customer) else true end

abbrev pub prefer_customer : Typing
prefer_customer =
    t.If 0 Sent (Named 1) (t.Implies (t.Stands Received (Named 0)) (t.Crosses 0 (values.Asn (Named 0)))) t.True

abbrev pub customer_and_peer : List Neighbour
customer_and_peer = neighbour 64520 3221226004 ∷ neighbour 64511 3221225995 ∷ []

pub record PreferCustomer : Type 0 where
  pub other_way : Is customer_and_peer
      (record { prefix = inside_own; received = only 0 plain; sent = only 1 plain }) prefer_customer false
  pub by_the_customer : Is customer_and_peer
      (record { prefix = inside_own; received = only 0 plain; sent = only 1 by_customer }) prefer_customer true
  pub nothing_from_the_customer : Is customer_and_peer (sending inside_own (only 1 plain)) prefer_customer true
  pub nothing_sent : Is customer_and_peer
      (record { prefix = inside_own; received = only 0 plain; sent = nowhere }) prefer_customer true

-- ---- only_own: all n in peers { sent(n) implies prefix in own }, with own = 198.51.100.0/24 le 26, 203.0.113.0/24

abbrev pub own : List Pattern
own = record { prefix = record { addr = 3325256704; len = 24 }; most = 26 } ∷ record {
  prefix =
      record { addr = 3405803776; len = 24 };
  most = 24;
} ∷ []

abbrev pub only_own : Typing
only_own = t.All 0 (0 ∷ 1 ∷ []) (t.Implies (t.Stands Sent (Var 0)) (t.PrefixIn own))

abbrev pub two_peers : List Neighbour
two_peers = neighbour 64511 3221225995 ∷ neighbour 64512 3221225996 ∷ []

pub record OnlyOwn : Type 0 where
  pub own_prefix : Is two_peers (sending inside_own (only 1 plain)) only_own true
  pub longer_than_26 : Is two_peers (sending too_long (only 1 plain)) only_own false
  pub shorter_than_24 : Is two_peers (sending around_own (only 0 plain)) only_own false
  pub another_prefix : Is two_peers (sending beside_own (only 0 plain)) only_own false
  pub nothing_sent : Is two_peers (sending too_long nowhere) only_own true

-- ---- reachable: some n in upstreams { sent(n) }

abbrev pub reachable : Typing
reachable = t.Some 0 (0 ∷ 1 ∷ []) (t.Stands Sent (Var 0))

pub record Reachable : Type 0 where
  pub sent_to_one : Is two_peers (sending inside_own (only 1 plain)) reachable true
  pub sent_to_none : Is two_peers (sending inside_own nowhere) reachable false
  pub only_received : Is two_peers
      (record { prefix = inside_own; received = only 1 plain; sent = nowhere }) reachable false

-- ---- short: all n in peers { if r = sent(n) then length(r) <= 3 and first(r) = 64500 else true end }

abbrev pub short : Typing
short =
    t.All 0 (0 ∷ 1 ∷ [])
    (t.If 1 Sent (Var 0)
    (t.And (t.Compare (values.Length 1) cmps.Le (values.Number 3)
    ∷ t.Compare (values.First 1) cmps.Eq (values.Number 64500) ∷ []))
    t.True)

pub record Short : Type 0 where
  pub own_route : Is two_peers (sending inside_own (only 1 plain)) short true
  pub too_long : Is two_peers (sending inside_own (only 1 long)) short false
  pub another_first : Is two_peers (sending inside_own (only 0 unprepended)) short false
  -- a set counts as one
  pub through_a_set : Is two_peers (sending inside_own (only 0 merged)) short true
  -- and has no first number
  pub behind_a_set : Is two_peers (sending inside_own (only 0 set_first)) short false
  pub nothing_sent : Is two_peers (sending inside_own nowhere) short true

-- ---- other_router:
-- ---- all n in routers { if r = received(n) then some m in routers { sent(m) and not m is n } else true end }
-- ---- where both routers are of one AS

abbrev pub other_router : Typing
other_router =
    t.All 0 (0 ∷ 1 ∷ [])
    (t.If 1 Received (Var 0)
    (t.Some 2 (0 ∷ 1 ∷ []) (t.And (t.Stands Sent (Var 2) ∷ t.Not (t.Is (Var 2) (Var 0)) ∷ []))) t.True)

abbrev pub two_routers : List Neighbour
two_routers = neighbour 64511 3221225995 ∷ neighbour 64511 3221225996 ∷ []

pub record OtherRouter : Type 0 where
  pub by_the_other : Is two_routers
      (record { prefix = inside_own; received = only 0 plain; sent = only 1 plain }) other_router true
  pub by_itself : Is two_routers
      (record { prefix = inside_own; received = only 0 plain; sent = only 0 plain }) other_router false
  pub nothing_received : Is two_routers (sending inside_own (only 0 plain)) other_router true

-- ---- the routes are what their bytes read as

pub record RoutesRead : Type 0 where
  pub tagged : attributes_in true tagged.block ≡ Ok tagged.list
  pub plain : attributes_in true plain.block ≡ Ok plain.list
  pub by_customer : attributes_in true by_customer.block ≡ Ok by_customer.list
  pub long : attributes_in true long.block ≡ Ok long.list
  pub unprepended : attributes_in true unprepended.block ≡ Ok unprepended.list
  pub merged : attributes_in true merged.block ≡ Ok merged.list
  pub set_first : attributes_in true set_first.block ≡ Ok set_first.list
