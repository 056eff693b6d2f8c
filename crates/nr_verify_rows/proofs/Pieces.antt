-- Pieces taken in one after another.
use Rattle.std.proofs.Common.{◌≡◌, ℕ, ◌+◌, ◌<◌, List, [], ◌++◌, append_assoc, Option, None, slice_index, slice_index_or, sym, subst, ◌∙◌}
use Rattle.std.proofs.lemmas.List.{append-nil}
use Rattle.sha2.specs.Hashers.{Holds256}
use Rattle.sha2.specs.declared.Sha256.{Sha256}
use Rattle.nr_spec_counts.specs.Tallies.{Tally}
use Rattle.nr_spec_counts.specs.Bodies.{neighbour_bytes, tally_piece}
use Rattle.nr_verify_counts.specs.Kept.{IsKeptOf, Kept}
use Rattle.nr_verify_rows.specs.Hashing.{Takes}
use Rattle.nr_spec_keys.specs.Pieces.{joined}
use Rattle.nr_spec_keys.proofs.PieceLemmas.{joined-more, joined-none}

pub both : (a b c : Sha256) (x y : List ℕ) → Takes a b x → Takes b c y → Takes a c (x ++ y)
both a b c x y first second = record { all = λ m held. subst (Holds256 c) (append_assoc m x y) (second.all (m ++ x) (first.all m held)) }

pub nothing : (a : Sha256) → Takes a a []
nothing a = record { all = λ m held. subst (Holds256 a) (sym (append-nil m)) held }

pub no_pieces : (a : Sha256) (piece : ℕ → List ℕ) → Takes a a (joined piece 0)
no_pieces a piece = subst (Takes a a) (sym (joined-none piece)) (nothing a)

pub one_piece : (a b c : Sha256) (piece : ℕ → List ℕ) (n : ℕ) → Takes a b (joined piece n) → Takes b c (piece n) → Takes a c (joined piece (n + 1))
one_piece a b c piece n first second = subst (Takes a c) (sym (joined-more piece n)) (both a b c (joined piece n) (piece n) first second)

pub kept_piece : (t : Tally) (k : Kept) (n s a : ℕ) (o : Option ℕ) → IsKeptOf t k → n < 256 → s ≡ slice_index k.sends n → a ≡ slice_index k.acked n → o ≡ slice_index_or k.oldest n None → neighbour_bytes s a o ≡ tally_piece t n
kept_piece t k n s a o kept below sends acked oldest =
    let all_sends = sends ∙ kept.sends n below in
    let all_acked = acked ∙ kept.acked n below in
    let all_oldest = oldest ∙ kept.oldest n below in
    λ i. neighbour_bytes (all_sends i) (all_acked i) (all_oldest i)
