-- What is asked of paths and communities.
use Rattle.std.proofs.Common.{◌≡◌, ℕ, true, false, eqb, List, [], ◌∷◌, ◌++◌, map, Any, refl, ap, ◌∙◌}
use Rattle.std.specs.List.{list_any}
use Rattle.std.proofs.lemmas.Bool.{eqb-true, eq-eqb}
use Rattle.std.proofs.lemmas.List.Folds.{Any-from_list_any, list_any-from_Any}
use Rattle.std.proofs.lemmas.List.Concat.{flat_map-cons}
use Rattle.nr_spec_bgp.specs.Paths.{Segment, Hop, hops_from, hops_of, hops, crosses}
use Rattle.nr_spec_bgp.specs.Attributes.{AttributeBlock, communities_of, has_community}
use Rattle.nr_laws_bgp.specs.Paths.{later_hop, AreInOrder, IsCrossed}

later_hops : (kind : ℕ) (numbers : List ℕ) → hops_from kind false numbers ≡ map (later_hop kind) numbers
later_hops kind [] = refl
later_hops kind (n ∷ numbers) = ap (λ (hs : List Hop). later_hop kind n ∷ hs) (later_hops kind numbers)

pub in_order : AreInOrder
in_order = record {
  none = refl;
  segment = λ kind n numbers path.
      flat_map-cons hops_of (record { kind = kind; numbers = n ∷ numbers }) path
      ∙ ap (λ (hs : List Hop). record { segment = kind; starts = true; asn = n } ∷ (hs ++ hops path)) (later_hops kind numbers);
}

pub crossed : (asn : ℕ) (path : List Segment) → crosses asn path ≡ true → IsCrossed asn path
crossed asn path e =
    let q = Any-from_list_any (λ (s : Segment). list_any (λ n. eqb n asn) s.numbers) path e in
    let r = Any-from_list_any (λ n. eqb n asn) q.1.numbers q.4 in
    (q.0, q.1, q.2, q.3, (r.0, r.1, r.2, r.3, eqb-true r.1 asn r.4))

pub crosses_it : (asn : ℕ) (path : List Segment) → IsCrossed asn path → crosses asn path ≡ true
crosses_it asn path q =
    let r = q.4 in
    let inner = list_any-from_Any (λ n. eqb n asn) q.1.numbers (r.0, r.1, r.2, r.3, eq-eqb r.1 asn r.4) in
    list_any-from_Any (λ (s : Segment). list_any (λ n. eqb n asn) s.numbers) path (q.0, q.1, q.2, q.3, inner)

pub among : (community : ℕ) (b : AttributeBlock) → has_community community b ≡ true → Any (λ c. c ≡ community) (communities_of b)
among community b e =
    let r = Any-from_list_any (λ c. eqb c community) (communities_of b) e in
    (r.0, r.1, r.2, r.3, eqb-true r.1 community r.4)

pub has : (community : ℕ) (b : AttributeBlock) → Any (λ c. c ≡ community) (communities_of b) → has_community community b ≡ true
has community b r = list_any-from_Any (λ c. eqb c community) (communities_of b) (r.0, r.1, r.2, r.3, eq-eqb r.1 community r.4)
