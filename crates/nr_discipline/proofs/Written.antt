-- Pieces appended one after another.
use Rattle.std.proofs.Common.{ℕ, ◌+◌, List, [], ◌++◌, append_assoc, sym, subst, ap, ◌∙◌}
use Rattle.std.proofs.lemmas.List.{append-nil}
use Rattle.nr_spec_keys.specs.Pieces.{joined}
use Rattle.nr_spec_keys.proofs.PieceLemmas.{joined-more, joined-none}
use Rattle.nr_discipline.specs.Hashing.{Grows}

pub both_grow : (a b c x y : List ℕ) → Grows a b x → Grows b c y → Grows a c (x ++ y)
both_grow a b c x y first second = record { all = second.all ∙ (ap (λ (l : List ℕ). l ++ y) first.all ∙ append_assoc a x y) }

pub none_grow : (a : List ℕ) (piece : ℕ → List ℕ) → Grows a a (joined piece 0)
none_grow a piece = subst (Grows a a) (sym (joined-none piece)) (record { all = sym (append-nil a) })

pub one_grow : (a b c : List ℕ) (piece : ℕ → List ℕ) (n : ℕ) → Grows a b (joined piece n) → Grows b c (piece n) → Grows a c (joined piece (n + 1))
one_grow a b c piece n first second = subst (Grows a c) (sym (joined-more piece n)) (both_grow a b c (joined piece n) (piece n) first second)

pub nothing_grows : (a : List ℕ) → Grows a a []
nothing_grows a = record { all = sym (append-nil a) }
