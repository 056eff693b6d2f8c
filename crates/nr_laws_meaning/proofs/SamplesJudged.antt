-- The examples, evaluated.
use Rattle.std.proofs.Common.{refl, arith}
use Rattle.nr_spec_wire.specs.Reading as reading
use Rattle.nr_spec_bgp.specs.Paths as paths
use Rattle.nr_spec_bgp.specs.Attributes as attributes
use Rattle.nr_laws_meaning.specs.Samples.{NoExport, PreferCustomer, OnlyOwn, Reachable, Short, OtherRouter, RoutesRead, ScenesStand}
use Rattle.nr_laws_meaning.proofs.Meant.{eq-True, eq-False, eq-Not, eq-And, eq-Or, eq-Is, eq-Compare, eq-Implies, eq-All, eq-Some, eq-If, eq-Stands, eq-Has, eq-Crosses, eq-PrefixIn}

ruleset each = (eq-True, eq-False, eq-Not, eq-And, eq-Or, eq-Is, eq-Compare, eq-Implies, eq-All, eq-Some, eq-If, eq-Stands, eq-Has, eq-Crosses, eq-PrefixIn)

pub no_export : NoExport
no_export = record {
  tagged_to_a_peer = simp each refl;
  tagged_to_transit = simp each refl;
  plain_to_a_peer = simp each refl;
  tagged_from_a_peer = simp each refl;
}

pub prefer_customer : PreferCustomer
unfolding reading.rows_at paths.segment_at
prefer_customer = record {
  other_way = simp each refl;
  by_the_customer = simp each refl;
  nothing_from_the_customer = simp each refl;
  nothing_sent = simp each refl;
}

pub only_own : OnlyOwn
only_own = record {
  own_prefix = simp each refl;
  longer_than_26 = simp each refl;
  shorter_than_24 = simp each refl;
  another_prefix = simp each refl;
  nothing_sent = simp each refl;
}

pub reachable : Reachable
reachable = record { sent_to_one = simp each refl; sent_to_none = simp each refl; only_received = simp each refl }

pub short : Short
unfolding reading.rows_at paths.segment_at
short = record {
  own_route = simp each refl;
  too_long = simp each refl;
  another_first = simp each refl;
  through_a_set = simp each refl;
  behind_a_set = simp each refl;
  nothing_sent = simp each refl;
}

pub other_router : OtherRouter
other_router = record { by_the_other = simp each refl; by_itself = simp each refl; nothing_received = simp each refl }

pub routes_read : RoutesRead
unfolding attributes.attributes_from attributes.fields_at reading.rows_at paths.segment_at
routes_read = record { tagged = refl; plain = refl; by_customer = refl; long = refl; unprepended = refl; merged = refl; set_first = refl }

pub scenes_stand : ScenesStand
scenes_stand = record {
  inside_own = record { len = omega arith; addr = omega arith; clear = refl };
  too_long = record { len = omega arith; addr = omega arith; clear = refl };
  around_own = record { len = omega arith; addr = omega arith; clear = refl };
  beside_own = record { len = omega arith; addr = omega arith; clear = refl };
}
