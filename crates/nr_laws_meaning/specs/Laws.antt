-- What each construct of the language means.
use Rattle.std.specs.Prelude.{◌≡◌, ℕ, ◌<◌, ◌≤◌, List, [], ◌∷◌, slice_get, ◌⊎◌, Option, Some, None}
use Rattle.std.specs.List.{All, Any}
use Rattle.nr_prefix.specs.declared.set.Pattern.{Pattern}
use Rattle.nr_spec_bgp.specs.Prefixes.{Cidr, front}
use Rattle.nr_spec_bgp.specs.Paths.{path_len, first_as, last_as}
use Rattle.nr_spec_bgp.specs.Attributes.{AttributeBlock, origin_of, next_hop_of, med_of, pref_of, path_of, communities_of}
use Rattle.nr_rule_syntax.specs.declared.tree.Side.{Side}
use Rattle.nr_rule_syntax.specs.declared.tree.Side.TheVariants.{Sent, Received}
use Rattle.nr_rule_syntax.specs.declared.tree.Cmp.TheVariants as cmps
use Rattle.nr_spec_typing.specs.declared.text.Neighbour.{Neighbour}
use Rattle.nr_spec_typing.specs.declared.tree.Who.{Who}
use Rattle.nr_spec_typing.specs.declared.tree.Value.{Value}
use Rattle.nr_spec_typing.specs.declared.tree.Value.TheVariants as values
use Rattle.nr_spec_typing.specs.declared.tree.Typing.{Typing}
use Rattle.nr_spec_typing.specs.declared.tree.Typing.TheVariants as t
use Rattle.nr_spec_typing.specs.Meaning.{neighbour, route}
use Rattle.nr_laws_meaning.specs.Words.{Place, truth, Holds, Means, next, inside, Counts}

-- ---- `true`, `false`, `not`, `and`, `or`, `implies`

pub record Connectives (at : Place) : Type 0 where
  pub always : Holds at t.True
  pub never : Holds at t.False → ⊥
  pub not_ : (f : Typing) → Means at (t.Not f) (Holds at f → ⊥)
  pub and_ : (fs : List Typing) → Means at (t.And fs) (All (λ f. Holds at f) fs)
  pub or_ : (fs : List Typing) → Means at (t.Or fs) (Any (λ f. Holds at f) fs)
  pub implies_ : (f g : Typing) → Means at (t.Implies f g) (Holds at f → Holds at g)
  pub implies_is_or : (f g : Typing) → truth at (t.Implies f g) ≡ truth at (t.Or (t.Not f ∷ g ∷ []))

-- ---- `all n in G { F }`, `some n in G { F }`: F where the variable stands for a member

pub record Groups (at : Place) (group : List ℕ) (f : Typing) : Type 0 where
  pub all_ : Means at (t.All (next at) group f) (All (λ n. Holds (inside at (neighbour n)) f) group)
  pub some_ : Means at (t.Some (next at) group f) (Any (λ n. Holds (inside at (neighbour n)) f) group)

-- ---- `sent(n)`, `if r = sent(n) then F else G end`, and `received`

-- F with the route, where there is one, else G
pub record Either (at : Place) (found : Option AttributeBlock) (whole f g : Typing) : Type 0 where
  pub with_one : (r : AttributeBlock) → found ≡ Some r → truth at whole ≡ truth (inside at (route r)) f
  pub with_none : found ≡ None → truth at whole ≡ truth at g

pub record Routes (at : Place) (of : Who) (n : ℕ) : Type 0 where
  pub sent : Means at (t.Stands Sent of) ((r : AttributeBlock) × (at.scene.sent n ≡ Some r))
  pub received : Means at (t.Stands Received of) ((r : AttributeBlock) × (at.scene.received n ≡ Some r))
  pub if_sent : (f g : Typing) → Either at (at.scene.sent n) (t.If (next at) Sent of f g) f g
  pub if_received : (f g : Typing) → Either at (at.scene.received n) (t.If (next at) Received of f g) f g

-- ---- questions on a route

-- `r has c`: c stands among the communities. `r crosses T`: T stands in some segment of the path.
pub record OfRoute (at : Place) (v : ℕ) (r : AttributeBlock) : Type 0 where
  pub has : (c : ℕ) → Means at (t.Has v c) (Any (λ d. d ≡ c) (communities_of r))
  pub crosses : (term : Value) (k : ℕ) → Counts at term k
      → Means at (t.Crosses v term) (Any (λ s. Any (λ n. n ≡ k) s.numbers) (path_of r))

-- `if r = sent(n) then r has c else false end` holds exactly where there is such a route and c stands among its
-- communities, whatever is bound around it; and so on for what else is asked of a route
pub record Asked (at : Place) (side : Side) (of : Who) (found : Option AttributeBlock) : Type 0 where
  pub has : (c : ℕ)
      → Means at (t.If (next at) side of (t.Has (next at) c) t.False)
      ((r : AttributeBlock) × (found ≡ Some r) × Any (λ d. d ≡ c) (communities_of r))
  pub crosses : (k : ℕ)
      → Means at (t.If (next at) side of (t.Crosses (next at) (values.Number k)) t.False)
      ((r : AttributeBlock) × (found ≡ Some r) × Any (λ s. Any (λ n. n ≡ k) s.numbers) (path_of r))
  pub length_ : (k : ℕ)
      → Means at (t.If (next at) side of (t.Compare (values.Length (next at)) cmps.Eq (values.Number k)) t.False)
      ((r : AttributeBlock) × (found ≡ Some r) × (path_len (path_of r) ≡ k))
  pub med : (k : ℕ)
      → Means at (t.If (next at) side of (t.Compare (values.Med (next at)) cmps.Eq (values.Number k)) t.False)
      ((r : AttributeBlock) × (found ≡ Some r) × (med_of r ≡ k))
  pub pref : (k : ℕ)
      → Means at (t.If (next at) side of (t.Compare (values.Pref (next at)) cmps.Eq (values.Number k)) t.False)
      ((r : AttributeBlock) × (found ≡ Some r) × (pref_of r ≡ k))
  pub origin : (k : ℕ)
      → Means at (t.If (next at) side of (t.Compare (values.Origin (next at)) cmps.Eq (values.Number k)) t.False)
      ((r : AttributeBlock) × (found ≡ Some r) × (origin_of r ≡ k))
  pub first : (k : ℕ)
      → Means at (t.If (next at) side of (t.Compare (values.First (next at)) cmps.Eq (values.Number k)) t.False)
      ((r : AttributeBlock) × (found ≡ Some r) × (first_as (path_of r) ≡ k))
  pub last : (k : ℕ)
      → Means at (t.If (next at) side of (t.Compare (values.Last (next at)) cmps.Eq (values.Number k)) t.False)
      ((r : AttributeBlock) × (found ≡ Some r) × (last_as (path_of r) ≡ k))
  pub hop : (k : ℕ)
      → Means at (t.If (next at) side of (t.Compare (values.Hop (next at)) cmps.Eq (values.Number k)) t.False)
      ((r : AttributeBlock) × (found ≡ Some r) × (next_hop_of r ≡ k))

pub record AskedOf (at : Place) (of : Who) (n : ℕ) : Type 0 where
  pub sent : Asked at Sent of (at.scene.sent n)
  pub received : Asked at Received of (at.scene.received n)

-- ---- neighbours and prefixes

-- `n is m`: one number. `asn(n) = k`: k is its AS.
pub record Neighbours (at : Place) (one other : Who) (n m : ℕ) : Type 0 where
  pub is_ : Means at (t.Is one other) (n ≡ m)
  pub asn : (x : Neighbour) (k : ℕ) → slice_get at.neighbours n ≡ Some x
      → Means at (t.Compare (values.Asn one) cmps.Eq (values.Number k)) (x.asn ≡ k)

-- the prefix is no shorter than the pattern's, no longer than its greatest length, and begins with the same bits
pub record Fits (p : Cidr) (w : Pattern) : Type 0 where
  pub least : w.prefix.len ≤ p.len
  pub most : p.len ≤ w.most
  pub bits : front p.addr w.prefix.len ≡ front w.prefix.addr w.prefix.len

pub record Prefixes (at : Place) : Type 0 where
  pub prefix_in : (patterns : List Pattern)
      → Means at (t.PrefixIn patterns) (Any (λ w. Fits at.scene.prefix w) patterns)
  pub bits : (k : ℕ) → Means at (t.Compare values.Bits cmps.Eq (values.Number k)) (at.scene.prefix.len ≡ k)

-- ---- comparisons, of two terms that are the numbers n and m

pub record Comparisons (at : Place) (a b : Value) (n m : ℕ) : Type 0 where
  pub less : Means at (t.Compare a cmps.Lt b) (n < m)
  pub equal : Means at (t.Compare a cmps.Eq b) (n ≡ m)
  pub greater : Means at (t.Compare a cmps.Gt b) (m < n)
  -- exactly one of these holds
  pub one : Holds at (t.Compare a cmps.Lt b) ⊎ (Holds at (t.Compare a cmps.Eq b) ⊎ Holds at (t.Compare a cmps.Gt b))
  pub less_or_equal : Holds at (t.Compare a cmps.Lt b) → Holds at (t.Compare a cmps.Eq b) → ⊥
  pub less_or_greater : Holds at (t.Compare a cmps.Lt b) → Holds at (t.Compare a cmps.Gt b) → ⊥
  pub equal_or_greater : Holds at (t.Compare a cmps.Eq b) → Holds at (t.Compare a cmps.Gt b) → ⊥
  -- and the others are their negations
  pub not_equal : truth at (t.Compare a cmps.Ne b) ≡ truth at (t.Not (t.Compare a cmps.Eq b))
  pub not_less : truth at (t.Compare a cmps.Ge b) ≡ truth at (t.Not (t.Compare a cmps.Lt b))
  pub not_greater : truth at (t.Compare a cmps.Le b) ≡ truth at (t.Not (t.Compare a cmps.Gt b))
