use Rattle.std.proofs.Common.{ℕ, List, refl, ◌+◌, ◌∷◌, ◌++◌, ◌∙◌, subst, ap, sym, arith, ◌≡◌}
use Rattle.sha2.specs.Sha256.{sha256}
use Rattle.sha2.specs.Hashers.{Holds256}
use Rattle.nr_spec_keys.specs.Pieces.{joined}
use Rattle.nr_spec_keys.specs.OneTime.{publics_from, leaf_digest, beside}
use Rattle.nr_spec_keys.proofs.PieceLemmas.{joined-none, joined-more}
use Rattle.nr_lamport.proofs.recomputing.leaf_of.Goals as goal

pub loop-i-init : goal.loop-i-init
loop-i-init c = subst (λ (xs : List ℕ). Holds256 c.update.new.self (0 ∷ xs)) (sym (joined-none (publics_from c.args.pairs.now c.args.digest.now.0))) (c.update.ensures _ c.new-hasher.ensures)

pub loop-i-preserved : goal.loop-i-preserved
loop-i-preserved c =
    let publics = publics_from c.args.pairs.now c.args.digest.now.0 in
    let taken : beside c.bit_of.result (sha256 c.piece_of-secret.result.now) c.piece_of-public.result.now ≡ publics c.loop-i.i =
    rw (c.bit_of.ensures, c.piece_of-secret.ensures, c.piece_of-public.ensures) refl in
    let more : (0 ∷ joined publics c.loop-i.i) ++ beside c.bit_of.result (sha256 c.piece_of-secret.result.now) c.piece_of-public.result.now ≡ 0 ∷ joined publics (c.loop-i.i + 1) =
    ap (λ (xs : List ℕ). (0 ∷ joined publics c.loop-i.i) ++ xs) taken ∙ ap (λ (xs : List ℕ). 0 ∷ xs) (sym (joined-more publics c.loop-i.i)) in
    subst (λ (xs : List ℕ). Holds256 c.recompute_pair.new.hasher xs) more (c.recompute_pair.ensures _ c.loop-i.invariant)

pub returns : goal.returns
unfolding leaf_digest
returns c =
    let all : c.loop-i.i ≡ 256 = omega arith in
    c.finalize.ensures _ c.loop-i.invariant ∙ ap (λ (n : ℕ). sha256 (0 ∷ joined (publics_from c.args.pairs.now c.args.digest.now.0) n)) all
