-- The order of prefixes, as a comparison.
use Rattle.std.specs.declared.cmp.Ordering.{Ordering}
use Rattle.std.specs.Ordering.{nat_cmp, on, then_cmp}
use Rattle.nr_spec_bgp.specs.Prefixes.{Cidr}

-- by address, then by length
abbrev pub by_address : Cidr → Cidr → Ordering
by_address = then_cmp (on (λ (p : Cidr). p.addr) nat_cmp) (on (λ (p : Cidr). p.len) nat_cmp)
