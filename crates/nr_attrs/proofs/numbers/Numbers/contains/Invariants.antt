use Rattle.std.proofs.Common.{◌≡◌, ◌==◌}
use Rattle.std.specs.List.{list_any}
use Rattle.nr_attrs.proofs.numbers.Numbers.contains.Given as goal

abbrev pub invariant-loop-n : goal.invariant-loop-n
invariant-loop-n l = list_any (λ n. n == l.wanted) l.self ≡ list_any (λ n. n == l.wanted) l.initial.self
