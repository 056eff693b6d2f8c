-- Reading attributes one after another, as the loop does.
use Rattle.std.proofs.Common.{◌≡◌, ℕ, ◌≤◌, ◌<◌, ◌^◌, Bool, List, [], ◌∷◌, ◌++◌, length, Option, Some, None, Result, Ok, Err, refl, sym, ap, ◌∙◌, ◌-◌, arith}
use Rattle.std.specs.Result.{result_unwrap_or}
use Rattle.std.proofs.lemmas.List.{take_all}
use Rattle.nr_spec_wire.specs.Reading.{Spot, ◌>>=◌, wants, start_of, between}
use Rattle.nr_spec_bgp.specs.Attributes.{Attribute, attribute_at, may_follow, attributes_at, attributes_in, block_at}
use Rattle.nr_spec_bgp.proofs.Walks.{attributes_behind, attributes_step, attributes_end}
use Rattle.nr_spec_bgp.proofs.Alike.{same_block}
use Rattle.nr_attrs.specs.First.{FirstValues, none_yet, seen_after, StandsFor, IsInRange}
use Rattle.nr_attrs.specs.Reading.{AreFirstOf, list_in}
use Rattle.nr_attrs.proofs.Seeing.{Step, see_one, none_stands, none_in_range}

-- so far: the values are those of some attributes, after which the rest reads as all do
pub record SoFar (as4 : Bool) (v : FirstValues) (s : Spot) (all : Result (List Attribute) ℕ) : Type 0 where
  pub before : List Attribute
  pub stands : StandsFor v before
  pub ranges : IsInRange as4 v
  pub rest : attributes_behind as4 before s ≡ all

pub starts : (as4 : Bool) (s : Spot) → SoFar as4 none_yet s (attributes_at as4 s)
starts as4 s = record { before = []; stands = none_stands; ranges = none_in_range as4; rest = refl }

pub ends : (as4 : Bool) (v : FirstValues) (s : Spot) (all : Result (List Attribute) ℕ) → SoFar as4 v s all → length s.rest ≤ 0 → AreFirstOf as4 v all
ends as4 v s all h none = record { list = h.before; reads = sym h.rest ∙ attributes_end as4 h.before s (omega arith); stands = h.stands; ranges = h.ranges }

step_from : (as4 : Bool) (a : Attribute) (at : ℕ) (s t : Spot) (all : Result (List Attribute) ℕ) (before : List Attribute) (o : Option FirstValues) → Step as4 before a o → (wants (may_follow as4 before a) at a >>= λ (w : Attribute). attributes_behind as4 (before ++ w ∷ []) t) ≡ all
    → (w : FirstValues) → o ≡ Some w → SoFar as4 w t all
step_from as4 a at s t all before None step rest w e = absurd cc
step_from as4 a at s t all before (Some x) step rest w e =
    let same : x ≡ w = cc in
    rw (← same) (record { before = before ++ a ∷ []; stands = step.1; ranges = step.2; rest = rw step.0 at rest })

fault_from : (as4 : Bool) (a : Attribute) (at : ℕ) (t : Spot) (all : Result (List Attribute) ℕ) (before : List Attribute) (o : Option FirstValues) → Step as4 before a o → (wants (may_follow as4 before a) at a >>= λ (w : Attribute). attributes_behind as4 (before ++ w ∷ []) t) ≡ all
    → o ≡ None → all ≡ Err at
fault_from as4 a at t all before None step rest e = sym (rw step at rest)
fault_from as4 a at t all before (Some x) step rest e = absurd cc

-- an attribute that may follow
pub goes_on : (as4 : Bool) (v : FirstValues) (s : Spot) (all : Result (List Attribute) ℕ) (a : Attribute) (at : ℕ) (t : Spot) (w : FirstValues) → SoFar as4 v s all → 0 < length s.rest → length a.value < 2 ^ 16
    → attribute_at s ≡ Ok (record { what = a; at = at }, t) → seen_after as4 v a ≡ Some w → SoFar as4 w t all
goes_on as4 v s all a at t w h some short e seen =
    let one = attributes_step as4 h.before s (omega arith) in
    let rest = sym (rw e at one) ∙ h.rest in
    step_from as4 a at s t all h.before (seen_after as4 v a) (see_one as4 v h.before a short h.stands h.ranges) rest w seen

-- an attribute that may not
pub stops : (as4 : Bool) (v : FirstValues) (s : Spot) (all : Result (List Attribute) ℕ) (a : Attribute) (at : ℕ) (t : Spot) → SoFar as4 v s all → 0 < length s.rest → length a.value < 2 ^ 16
    → attribute_at s ≡ Ok (record { what = a; at = at }, t) → seen_after as4 v a ≡ None → all ≡ Err at
stops as4 v s all a at t h some short e seen =
    let one = attributes_step as4 h.before s (omega arith) in
    let rest = sym (rw e at one) ∙ h.rest in
    fault_from as4 a at t all h.before (seen_after as4 v a) (see_one as4 v h.before a short h.stands h.ranges) rest seen

-- an attribute that doesn't fit
pub faults : (as4 : Bool) (v : FirstValues) (s : Spot) (all : Result (List Attribute) ℕ) (place : ℕ) → SoFar as4 v s all → 0 < length s.rest → attribute_at s ≡ Err place → all ≡ Err place
faults as4 v s all place h some e =
    let one : attributes_behind as4 h.before s ≡ Err place = attributes_step as4 h.before s (omega arith) ∙ rw e refl in
    sym h.rest ∙ one

-- ---- a block by itself

pub in_block : (as4 : Bool) (v : FirstValues) (s : Spot) → AreFirstOf as4 v (attributes_at as4 s) → AreFirstOf as4 v (attributes_in as4 s.rest)
in_block as4 v s h = record { list = h.list; reads = same_block as4 s (start_of s.rest) h.list refl h.reads; stands = h.stands; ranges = h.ranges }

pub all_bytes : (s t : Spot) → length t.rest ≡ 0 → between s t ≡ s.rest
all_bytes s t none = rw none (take_all (length s.rest - 0) s.rest (omega arith))

pub block_read : (as4 : Bool) (v : FirstValues) (s : Spot) → AreFirstOf as4 v (attributes_at as4 s) → block_at as4 s ≡ Ok (record { block = s.rest; as4 = as4; list = list_in as4 s.rest })
unfolding block_at
block_read as4 v s h =
    let alone : list_in as4 s.rest ≡ h.list = ap (λ (r : Result (List Attribute) ℕ). result_unwrap_or r []) (same_block as4 s (start_of s.rest) h.list refl h.reads) in
    rw (h.reads, alone) refl

pub block_fault : (as4 : Bool) (s : Spot) (place : ℕ) → attributes_at as4 s ≡ Err place → block_at as4 s ≡ Err place
unfolding block_at
block_fault as4 s place e = rw e refl
