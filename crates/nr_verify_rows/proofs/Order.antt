-- The derived order of keys is that of the definitions.
use Rattle.nr_spec_routes.specs.declared.direction.Direction.{Direction}
use Rattle.nr_spec_routes.specs.declared.direction.Direction.TheVariants.{Received, Sent}
use Rattle.nr_spec_routes.specs.contracts.direction.DirectionOrd.TheImpl as directions
use Rattle.nr_verify_rows.specs.contracts.key.KeyOrd.TheImpl as keys
use Rattle.std.proofs.Common.{◌≡◌, refl, ap}
use Rattle.std.specs.Ordering.{ordering_then, nat_cmp}
use Rattle.nr_spec_routes.specs.Keys.{Key, cidr_cmp, direction_cmp, key_cmp}

same_directions : (c d : Direction) → directions.ghosts.cmp c d ≡ direction_cmp c d
same_directions Received Received = refl
same_directions Received Sent = refl
same_directions Sent Received = refl
same_directions Sent Sent = refl

same_keys : (a b : Key) → keys.ghosts.cmp a b ≡ key_cmp a b
same_keys a b = ap (λ o. ordering_then (cidr_cmp a.prefix b.prefix) (ordering_then o (nat_cmp a.neighbour b.neighbour))) (same_directions a.direction b.direction)

pub same_order : keys.ghosts.cmp ≡ key_cmp
same_order = λ i. λ a b. same_keys a b i
