-- The order of keys is total, and keys that compare alike are one.
use Rattle.std.proofs.Common.{◌≡◌, ℕ, Bool, eqb, ◌&&◌, refl, ap, arith}
use Rattle.std.specs.Ordering.{ordering_then, nat_cmp, is_eq}
use Rattle.std.specs.declared.cmp.Ordering.{Ordering}
use Rattle.std.specs.declared.cmp.Ordering.TheVariants.{Less, Equal, Greater}
use Rattle.std.specs.Cmp.{IsTotalOrder, nat_cmp_total}
use Rattle.std.proofs.lemmas.Cmp.{on_total, then_total}
use Rattle.std.proofs.lemmas.Map.Lookups.{CmpEqualImpliesEq, exact_unsigned, exact_pairs}
use Rattle.std.proofs.lemmas.Bool.Decides.{nat_tests}
use Rattle.nr_spec_bgp.specs.Prefixes.{Cidr}
use Rattle.nr_spec_routes.specs.declared.direction.Direction.{Direction}
use Rattle.nr_spec_routes.specs.Keys.{Key, cidr_cmp, direction_cmp, direction_number, key_cmp}
use Rattle.nr_spec_routes.specs.declared.direction.Direction.TheVariants.{Received, Sent}
use Rattle.nr_spec_routes.specs.Effects.{is_with}

pub exact_directions : CmpEqualImpliesEq direction_cmp
exact_directions Received Received h = refl
exact_directions Received Sent h = cc
exact_directions Sent Received h = cc
exact_directions Sent Sent h = refl

pub exact_cidrs : CmpEqualImpliesEq cidr_cmp
exact_cidrs a b h =
    ap (λ (p : ℕ × ℕ). let c : Cidr = record { addr = p.0; len = p.1 } in c) (exact_pairs nat_cmp nat_cmp exact_unsigned exact_unsigned (a.addr, a.len) (b.addr, b.len) h)

pub exact_keys : CmpEqualImpliesEq key_cmp
exact_keys a b h =
    let behind : (Direction × ℕ) → (Direction × ℕ) → Ordering = λ x y. ordering_then (direction_cmp x.0 y.0) (nat_cmp x.1 y.1) in
    ap (λ (p : Cidr × (Direction × ℕ)). let k : Key = record { prefix = p.0; direction = p.1.0; neighbour = p.1.1 } in k)
    (exact_pairs cidr_cmp behind exact_cidrs (exact_pairs direction_cmp nat_cmp exact_directions exact_unsigned) (a.prefix, (a.direction, a.neighbour)) (b.prefix, (b.direction, b.neighbour)) h)

pub cidrs_total : IsTotalOrder cidr_cmp
cidrs_total = then_total (on_total (λ (p : Cidr). p.addr) nat_cmp_total) (on_total (λ (p : Cidr). p.len) nat_cmp_total)

pub keys_total : IsTotalOrder key_cmp
keys_total = then_total (on_total (λ (k : Key). k.prefix) cidrs_total) (then_total (on_total (λ (k : Key). k.direction) (on_total direction_number nat_cmp_total)) (on_total (λ (k : Key). k.neighbour) nat_cmp_total))

is_eq_then : (x y : Ordering) → is_eq (ordering_then x y) ≡ is_eq x && is_eq y
is_eq_then Less y = refl
is_eq_then Equal y = refl
is_eq_then Greater y = refl

is_eq_nat : (m n : ℕ) → is_eq (nat_cmp m n) ≡ eqb m n
is_eq_nat m n = grind (arith, nat_tests)

and_swap : (a b c : Bool) → a && (b && c) ≡ (b && c) && a
and_swap a b c = grind arith

-- a key is that of a prefix in a direction with a neighbour where it is of that direction and neighbour, and of that prefix
pub is_key_of : (p : Cidr) (d : Direction) (n : ℕ) (q : Key) → is_eq (key_cmp (record { prefix = p; direction = d; neighbour = n }) q) ≡ is_with d n q && is_eq (cidr_cmp p q.prefix)
is_key_of p d n q =
    simp (is_eq_then, is_eq_nat) (and_swap (eqb p.addr q.prefix.addr && eqb p.len q.prefix.len) (eqb (direction_number d) (direction_number q.direction)) (eqb n q.neighbour))
