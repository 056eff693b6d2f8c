-- Prefixes one after another.
use Rattle.std.proofs.Common.{◌≡◌, ℕ, Bool, true, false, ◌&&◌, cond, List, ◌∷◌, refl, ap, ◌∙◌}
use Rattle.std.specs.Prelude.{◌||◌}
use Rattle.std.specs.Ordering.{is_eq}
use Rattle.nr_spec_bgp.specs.Prefixes.{Cidr}
use Rattle.nr_spec_routes.specs.declared.direction.Direction.{Direction}
use Rattle.nr_spec_routes.specs.Keys.{Key, cidr_cmp, is_named, key_cmp}
use Rattle.nr_spec_routes.proofs.KeyOrder.{is_key_of}
use Rattle.nr_spec_routes.specs.Effects.{is_with}
use Rattle.nr_verify_rows.specs.Covered.{covered}

either : {A : Type 0} (i a b : Bool) (w x : A) → cond (i && b) w (cond (i && a) w x) ≡ cond (i && (a || b)) w x
either true true true w x = refl
either true true false w x = refl
either true false true w x = refl
either true false false w x = refl
either false a b w x = refl

-- One prefix, and then the others.
pub covered_step : {A : Type 0} (d : Direction) (n : ℕ) (p : Cidr) (cidrs : List Cidr) (q : Key) (w x : A) → cond (covered d n cidrs q) w (cond (is_eq (key_cmp (record { prefix = p; direction = d; neighbour = n }) q)) w x) ≡ cond (covered d n (p ∷ cidrs) q) w x
covered_step d n p cidrs q w x =
    ap (λ b. cond (covered d n cidrs q) w (cond b w x)) (is_key_of p d n q) ∙ either (is_with d n q) (is_eq (cidr_cmp p q.prefix)) (is_named cidrs q.prefix) w x
