-- The routes of one prefix, as the definitions show them.
use Rattle.nr_spec_bgp.specs.Prefixes.{Cidr}
use Rattle.nr_spec_log.specs.Chain.{LogEntry}
use Rattle.nr_spec_promises.specs.Moments.{scene_in}
use Rattle.nr_spec_report.specs.Wrong.{Base}
use Rattle.nr_spec_routes.proofs.RowsOnce.{rows_are}
use Rattle.nr_spec_routes.proofs.Stands.{has_row, row_stands}
use Rattle.nr_spec_routes.specs.Keys.{Row, route_in, stands_in}
use Rattle.nr_spec_routes.specs.Rows.{rows_after}
use Rattle.nr_spec_routes.specs.declared.direction.Direction.{Direction}
use Rattle.nr_spec_routes.specs.declared.direction.Direction.TheVariants.{Received, Sent}
use Rattle.nr_verify_eval.specs.Views.{scene_of}
use Rattle.nr_verify_routes.specs.Held.{AreOf, Held, held, is_side, key_at}
use Rattle.std.proofs.Common.{Bool, List, None, Some, [], ap, arith, false, length, not, refl, suc, sym, true, ℕ, ◌==◌, ◌∙◌, ◌∷◌, ◌≡◌}
use Rattle.std.proofs.lemmas.Bool.Decides.{nat_tests}

pub scene_so : (base : Base) (past : List LogEntry) (p : Cidr) (rows : List Held) → AreOf base.rows past p rows → scene_of p rows ≡ scene_in (rows_after base.rows past) p
scene_so base past p rows h = λ i. record {
  prefix = p;
  received = λ n. (h Received n ∙ sym (rows_are base.rows past (key_at p Received n))) i;
  sent = λ n. (h Sent n ∙ sym (rows_are base.rows past (key_at p Sent n))) i;
}

none_is : (rows : List Row) (p : Cidr) (b : Bool) → stands_in rows p ≡ b → ((d : Direction) (n : ℕ) → route_in rows (key_at p d n) ≡ None) → b ≡ false
none_is rows p false e h = refl
none_is rows p true e h =
    let found = has_row rows p e in
    let same : found.0 ≡ key_at p found.0.direction found.0.neighbour = λ i. record { prefix = found.2 i; direction = found.0.direction; neighbour = found.0.neighbour } in
    let at : route_in rows found.0 ≡ None = ap (route_in rows) same ∙ h found.0.direction found.0.neighbour in
    absurd (cc (at, found.3))

side_self : (d : Direction) (n : ℕ) → is_side d n d n ≡ true
side_self Received n = grind (arith, nat_tests)
side_self Sent n = grind (arith, nat_tests)

held_self : (r : Held) (rows : List Held) → held (r ∷ rows) r.direction r.neighbour ≡ Some r.block
held_self r rows = rw (side_self r.direction r.neighbour) refl

not_none : (n : ℕ) → not (suc n == 0) ≡ true
not_none n = grind (arith, nat_tests)

-- it stands where some route is held
pub stands_so : (base : Base) (past : List LogEntry) (p : Cidr) (rows : List Held) → AreOf base.rows past p rows → not (length rows == 0) ≡ stands_in (rows_after base.rows past) p
stands_so base past p [] h =
    sym (none_is (rows_after base.rows past) p (stands_in (rows_after base.rows past) p) refl (λ d n. rows_are base.rows past (key_at p d n) ∙ sym (h d n)))
stands_so base past p (r ∷ rows) h =
    let here : route_in (rows_after base.rows past) (key_at p r.direction r.neighbour) ≡ Some r.block
    = rows_are base.rows past (key_at p r.direction r.neighbour) ∙ (sym (h r.direction r.neighbour) ∙ held_self r rows) in
    not_none (length rows) ∙ sym (row_stands (rows_after base.rows past) (key_at p r.direction r.neighbour) r.block here)
