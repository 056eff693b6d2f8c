-- A walk over the entries of a log.
use Rattle.std.proofs.Common.{◌≡◌, ℕ, ◌+◌, ◌*◌, ◌≤◌, List, [], ◌∷◌, Some, None, ap, arith}
use Rattle.nr_spec_log.specs.Chain.{LogEntry}
use Rattle.nr_spec_routes.specs.LookBack.{later_or}
use Rattle.nr_spec_promises.specs.Files.{first_promised, promised}

-- the first PROMISE is here
pub first_here : (e : LogEntry) (later : List LogEntry) (digest : List ℕ) → promised e ≡ Some digest → first_promised (e ∷ later) ≡ Some digest
first_here e later digest h = ap (λ o. later_or o (first_promised later)) h

-- or later
pub first_later : (e : LogEntry) (later : List LogEntry) → promised e ≡ None → first_promised (e ∷ later) ≡ first_promised later
first_later e later h = ap (λ o. later_or o (first_promised later)) h

-- or nowhere
pub first_nowhere : (entries : List LogEntry) → entries ≡ [] → first_promised entries ≡ None
first_nowhere entries h = ap first_promised h

pub nothing_yet : (s n : ℕ) → s ≤ s + n * 0
nothing_yet s n = more s (n * 0)
  where
    more : (s m : ℕ) → s ≤ s + m
    more s m = omega arith

pub enough : (s0 s1 a m : ℕ) → s1 ≤ s0 + a → a ≤ m → s1 ≤ s0 + m
enough s0 s1 a m h k = omega (arith, h, k)
