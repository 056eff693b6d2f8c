use Rattle.std.proofs.Common.{ℕ, ◌++◌, ◌∙◌, ap, arith, ◌≡◌}
use Rattle.std.proofs.lemmas.Result.{err_from_is_err_and}
use Rattle.nr_spec_keys.specs.Pieces.{joined}
use Rattle.nr_spec_keys.specs.OneTime.{shown_of, pairs_of}
use Rattle.nr_lamport.proofs.SecretSteps.{begins, pair_fits, goes_on, is_pair, shown-pair}
use Rattle.nr_spec_keys.proofs.PieceLemmas.{appends-none, appends-more, front-stays}
use Rattle.nr_lamport.proofs.signing.put_pairs.Goals as goal

pub loop-i-init : goal.loop-i-init
loop-i-init c = (begins c.args.seed.now.0 c.args.leaf _ c.secrets_of-secrets.ensures, appends-none (shown_of c.args.seed.now.0 c.args.leaf c.args.digest.now.0) c.args.out.now.items)

pub next_pair-pair-requires : goal.next_pair-pair-requires
next_pair-pair-requires c = pair_fits c.args.seed.now.0 c.args.leaf c.loop-i.i c.loop-i.secrets c.loop-i-test.true c.loop-i.invariant.0

pub returns-in_err-put_pair-clause-memory : goal.returns-in_err-put_pair-clause-memory
returns-in_err-put_pair-clause-memory c =
    let p = err_from_is_err_and c.from_residual.result c.from_residual.ensures.1 in
    rw p.1 (front-stays c.args.out.now.items (joined (shown_of c.args.seed.now.0 c.args.leaf c.args.digest.now.0) c.loop-i.i) c.loop-i.out.items _ c.loop-i.invariant.1 c.in_err-put_pair.ensures.memory)

pub loop-i-preserved : goal.loop-i-preserved
loop-i-preserved c =
    let seed = c.args.seed.now.0 in
    let digest = c.args.digest.now.0 in
    let pair = is_pair seed c.args.leaf c.loop-i.i c.loop-i.secrets _ _ c.loop-i.invariant.0 c.next_pair-pair.ensures.zero c.next_pair-pair.ensures.one in (
      goes_on seed c.args.leaf c.loop-i.i c.loop-i.secrets _ c.loop-i.invariant.0 c.next_pair-pair.ensures.onward,
      appends-more (shown_of seed c.args.leaf digest) c.args.out.now.items c.loop-i.out.items _ _ c.loop-i.i c.loop-i.invariant.1 c.in_ok-put_pair.ensures.ok
          (shown-pair seed digest c.args.leaf c.loop-i.i c.bit_of.result _ _ pair c.bit_of.ensures),
    )

pub returns-clause-ok : goal.returns-clause-ok
unfolding pairs_of
returns-clause-ok c =
    let all : c.loop-i.i ≡ 256 = omega arith in
    c.loop-i.invariant.1 ∙ ap (λ (n : ℕ). c.args.out.now.items ++ joined (shown_of c.args.seed.now.0 c.args.leaf c.args.digest.now.0) n) all
