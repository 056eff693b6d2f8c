use Rattle.std.proofs.Common.{◌≡◌, ℕ, ◌+◌, ◌-◌, ◌≤◌, List, ◌∷◌, drop}
use Rattle.std.specs.Prelude.{map}
use Rattle.nr_spec_frames.specs.Verdicts.{matched}
use Rattle.nr_exchange.proofs.accepting.find_from.Given as goal

abbrev pub invariant-loop-i : goal.invariant-loop-i
invariant-loop-i l = record {
  so_far : (upto j : ℕ) (others : List (List ℕ)) → matched upto j (l.raw ∷ others) (drop l.from (map (λ p. p.now) l.pending)) ≡ matched (upto + (l.i - l.from)) j (l.raw ∷ others) (drop l.i (map (λ p. p.now) l.pending));
  above : l.from ≤ l.i;
}
