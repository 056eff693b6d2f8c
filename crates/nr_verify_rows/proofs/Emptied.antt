-- The rows without those of a neighbour.
use Rattle.std.proofs.Common.{◌≡◌, ◌==◌, ◌∙◌, ◌∷◌, ℕ, Bool, true, false, cond, eqb, not, filter, List, [], Option, Some, None, refl, ap, sym, arith}
use Rattle.std.proofs.lemmas.Bool.Decides.{nat_tests}
use Rattle.std.specs.Ordering.{is_eq}
use Rattle.std.specs.declared.cmp.Ordering.{Ordering}
use Rattle.std.specs.declared.cmp.Ordering.TheVariants.{Less, Equal, Greater}
use Rattle.nr_spec_bgp.specs.Attributes.{AttributeBlock}
use Rattle.nr_spec_routes.proofs.KeyOrder.{exact_keys}
use Rattle.nr_spec_routes.specs.Keys.{Key, Row, key_cmp, route_in}

is_equal : (o : Ordering) → is_eq o ≡ true → o ≡ Equal
is_equal Less h = cc
is_equal Equal h = refl
is_equal Greater h = cc

no_none : (out : Bool) (found : Option AttributeBlock) → found ≡ None → found ≡ cond out None found
no_none true found h = h
no_none false found h = refl

turned : (m n : ℕ) (b : Bool) → eqb m n ≡ b → (n == m) ≡ b
turned m n true h = grind (arith, nat_tests)
turned m n false h = grind (arith, nat_tests)

-- whether the neighbour of an equal key is the one
same_neighbour : (n : ℕ) (q k : Key) (b : Bool) → is_eq (key_cmp q k) ≡ true → eqb k.neighbour n ≡ b → (n == q.neighbour) ≡ b
same_neighbour n q k b e h = ap (λ (x : Key). n == x.neighbour) (exact_keys q k (is_equal _ e)) ∙ turned k.neighbour n b h

abbrev left : ℕ → List Row → List Row
left n rows = filter (λ (r : Row). not (eqb r.0.neighbour n)) rows

left_out : (n : ℕ) (q : Key) (rows : List Row) → route_in (left n rows) q ≡ cond (n == q.neighbour) None (route_in rows q)
left_out n q [] = no_none (n == q.neighbour) None refl
left_out n q (r ∷ rows) = by (eqb r.0.neighbour n) refl (is_eq (key_cmp q r.0)) refl (left_out n q rows)
  where
    by : (k : Bool) → eqb r.0.neighbour n ≡ k → (t : Bool) → is_eq (key_cmp q r.0) ≡ t → route_in (left n rows) q ≡ cond (n == q.neighbour) None (route_in rows q)
        → route_in (cond (not k) (r ∷ left n rows) (left n rows)) q ≡ cond (n == q.neighbour) None (cond t (Some r.1) (route_in rows q))
    by true ke true te ih =
        let gone = same_neighbour n q r.0 true te ke in
        ih ∙ (ap (λ b. cond b None (route_in rows q)) gone ∙ sym (ap (λ b. cond b None (Some r.1)) gone))
    by true ke false te ih = ih
    by false ke true te ih =
        let stays = same_neighbour n q r.0 false te ke in
        ap (λ t. cond t (Some r.1) (route_in (left n rows) q)) te ∙ sym (ap (λ b. cond b None (Some r.1)) stays)
    by false ke false te ih = ap (λ t. cond t (Some r.1) (route_in (left n rows) q)) te ∙ ih

pub emptied : (n : ℕ) (rows new : List Row) → new ≡ filter (λ (r : Row). not (eqb r.0.neighbour n)) rows → (q : Key) → route_in new q ≡ cond (n == q.neighbour) None (route_in rows q)
emptied n rows new h q = ap (λ (l : List Row). route_in l q) h ∙ left_out n q rows
