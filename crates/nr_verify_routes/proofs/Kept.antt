-- What is found where some routes are left out.
use Rattle.nr_spec_bgp.specs.Attributes.{AttributeBlock}
use Rattle.nr_spec_bgp.specs.Prefixes.{Cidr}
use Rattle.nr_spec_routes.specs.Effects.{says}
use Rattle.nr_spec_routes.specs.Keys.{cidr_cmp, direction_cmp}
use Rattle.nr_spec_routes.specs.declared.direction.Direction.{Direction}
use Rattle.nr_spec_routes.specs.declared.direction.Direction.TheVariants.{Received, Sent}
use Rattle.nr_verify_routes.specs.Held.{Held, held, is_of, is_side}
use Rattle.std.proofs.Common.{Bool, List, None, Option, Some, [], ap, arith, cond, eqb, false, filter, not, refl, true, ℕ, ◌&&◌, ◌++◌, ◌==◌, ◌∙◌, ◌∷◌, ◌≡◌}
use Rattle.std.proofs.lemmas.Bool.Decides.{nat_tests}
use Rattle.std.specs.Ordering.{is_eq}

no_none : (out : Bool) (found : Option AttributeBlock) → found ≡ None → found ≡ cond out None found
no_none true found h = h
no_none false found h = refl

-- those in question are left out or not, all alike
pub kept_out : (keeps : Held → Bool) (d : Direction) (n : ℕ) (out : Bool) → ((r : Held) → is_of d n r ≡ true → keeps r ≡ not out)
    → (rows : List Held) → held (filter keeps rows) d n ≡ cond out None (held rows d n)
kept_out keeps d n out says [] = no_none out None refl
kept_out keeps d n out says (r ∷ rows) = by (keeps r) refl (is_of d n r) refl out (says r) (kept_out keeps d n out says rows)
  where
    by : (k : Bool) → keeps r ≡ k → (t : Bool) → is_of d n r ≡ t → (out : Bool) → (is_of d n r ≡ true → keeps r ≡ not out)
        → held (filter keeps rows) d n ≡ cond out None (held rows d n)
        → held (cond k (r ∷ filter keeps rows) (filter keeps rows)) d n ≡ cond out None (cond t (Some r.block) (held rows d n))
    by true ke true te true h ih = absurd (cc (h te))
    by true ke true te false h ih = rw te refl
    by true ke false te out h ih = rw te ih
    by false ke true te true h ih = ih
    by false ke true te false h ih = absurd (cc (h te))
    by false ke false te out h ih = ih

other_neighbour : (b : Bool) (m r n : ℕ) → b && eqb m r ≡ true → not (eqb r n) ≡ not (eqb n m)
other_neighbour b m r n h = grind (arith, nat_tests)

pub emptied : (n : ℕ) (rows : List Held) (d : Direction) (m : ℕ) → held (filter (λ r. not (eqb r.neighbour n)) rows) d m ≡ cond (eqb n m) None (held rows d m)
emptied n rows d m = kept_out (λ r. not (eqb r.neighbour n)) d m (eqb n m) (λ r h. other_neighbour (is_eq (direction_cmp d r.direction)) m r.neighbour n h) rows

same_way : (d e f : Direction) (n m k : ℕ) → is_eq (direction_cmp e f) && eqb m k ≡ true → (is_eq (direction_cmp d f) && eqb n k) ≡ (is_eq (direction_cmp d e) && eqb n m)
same_way d Received Received n m k h = let e : m ≡ k = grind (arith, nat_tests) in rw e refl
same_way d Received Sent n m k h = absurd cc
same_way d Sent Received n m k h = absurd cc
same_way d Sent Sent n m k h = let e : m ≡ k = grind (arith, nat_tests) in rw e refl

pub forgotten : (d : Direction) (n : ℕ) (rows : List Held) (e : Direction) (m : ℕ) → held (filter (λ r. not (is_of d n r)) rows) e m ≡ cond (is_side d n e m) None (held rows e m)
forgotten d n rows e m = kept_out (λ r. not (is_of d n r)) e m (is_side d n e m) (λ r h. ap not (same_way d e r.direction n m r.neighbour h)) rows

held_push : (rows : List Held) (r : Held) (d : Direction) (n : ℕ) → held rows d n ≡ None → held (rows ++ r ∷ []) d n ≡ cond (is_of d n r) (Some r.block) None
held_push [] r d n h = refl
held_push (x ∷ rows) r d n h = by (is_of d n x) h (held_push rows r d n)
  where
    by : (t : Bool) → cond t (Some x.block) (held rows d n) ≡ None → (held rows d n ≡ None → held (rows ++ r ∷ []) d n ≡ cond (is_of d n r) (Some r.block) None)
        → cond t (Some x.block) (held (rows ++ r ∷ []) d n) ≡ cond (is_of d n r) (Some r.block) None
    by true h ih = absurd cc
    by false h ih = ih h

held_before : (rows : List Held) (r : Held) (d : Direction) (n : ℕ) → is_of d n r ≡ false → held (rows ++ r ∷ []) d n ≡ held rows d n
held_before [] r d n h = rw h refl
held_before (x ∷ rows) r d n h = ap (cond (is_of d n x) (Some x.block)) (held_before rows r d n h)

side_back : (d e : Direction) (n m : ℕ) → is_side d n e m ≡ is_side e m d n
side_back Received Received n m = grind (arith, nat_tests)
side_back Received Sent n m = refl
side_back Sent Received n m = refl
side_back Sent Sent n m = grind (arith, nat_tests)

-- where no such route is left, one that is pushed is found, and no other
pub put_last : (d : Direction) (n : ℕ) (b : AttributeBlock) (old rows : List Held) → ((e : Direction) (m : ℕ) → held rows e m ≡ cond (is_side d n e m) None (held old e m))
    → (e : Direction) (m : ℕ) → held (rows ++ record { direction = d; neighbour = n; block = b } ∷ []) e m ≡ cond (is_side d n e m) (Some b) (held old e m)
put_last d n b old rows h e m = by (is_side d n e m) refl
  where
    by : (t : Bool) → is_side d n e m ≡ t → held (rows ++ record { direction = d; neighbour = n; block = b } ∷ []) e m ≡ cond t (Some b) (held old e m)
    by true is =
        held_push rows _ e m (h e m ∙ ap (λ t. cond t None (held old e m)) is) ∙ ap (λ t. cond t (Some b) None) (side_back e d m n ∙ is)
    by false is =
        held_before rows _ e m (side_back e d m n ∙ is) ∙ (h e m ∙ ap (λ t. cond t None (held old e m)) is)

pub one_cidr : (c p : Cidr) → (c.addr == p.addr && c.len == p.len) ≡ is_eq (cidr_cmp c p)
one_cidr c p = grind (arith, nat_tests)
