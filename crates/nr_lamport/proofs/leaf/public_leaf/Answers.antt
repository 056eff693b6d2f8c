use Rattle.std.proofs.Common.{ℕ, List, ◌∷◌, ◌∙◌, subst, ap, sym, arith, ◌≡◌}
use Rattle.sha2.specs.Sha256.{sha256}
use Rattle.sha2.specs.Hashers.{Holds256}
use Rattle.nr_spec_keys.specs.Pieces.{joined}
use Rattle.nr_spec_keys.specs.OneTime.{publics_of, leaf_digest}
use Rattle.nr_spec_keys.proofs.PieceLemmas.{joined-none}
use Rattle.nr_lamport.proofs.SecretSteps.{begins, pair_fits, goes_on, is_pair, publics-more}
use Rattle.nr_lamport.proofs.leaf.public_leaf.Goals as goal

pub loop-init : goal.loop-init
loop-init c =
    let publics = publics_of c.args.seed.now.0 c.args.leaf in (
      begins c.args.seed.now.0 c.args.leaf _ c.secrets_of-secrets.ensures,
      subst (λ (xs : List ℕ). Holds256 c.update.new.self (0 ∷ xs)) (sym (joined-none publics)) (c.update.ensures _ c.new-hasher.ensures),
    )

pub next_pair-requires : goal.next_pair-requires
next_pair-requires c = pair_fits c.args.seed.now.0 c.args.leaf c.loop.counter c.loop.secrets c.loop-test.true c.loop.invariant.0

pub loop-preserved : goal.loop-preserved
loop-preserved c =
    let pair = is_pair c.args.seed.now.0 c.args.leaf c.loop.counter c.loop.secrets _ _ c.loop.invariant.0 c.next_pair.ensures.zero c.next_pair.ensures.one in (
      goes_on c.args.seed.now.0 c.args.leaf c.loop.counter c.loop.secrets _ c.loop.invariant.0 c.next_pair.ensures.onward,
      subst (λ (xs : List ℕ). Holds256 c.publish_pair.new.hasher xs) (publics-more c.args.seed.now.0 c.args.leaf c.loop.counter _ _ pair) (c.publish_pair.ensures _ c.loop.invariant.1),
    )

pub returns : goal.returns
unfolding leaf_digest
returns c =
    let all : c.loop.counter ≡ 256 = omega arith in
    c.finalize.ensures _ c.loop.invariant.1 ∙ ap (λ (n : ℕ). sha256 (0 ∷ joined (publics_of c.args.seed.now.0 c.args.leaf) n)) all
