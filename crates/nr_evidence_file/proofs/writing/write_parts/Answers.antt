use Rattle.std.proofs.Common.{ℕ, length, map, ap, ◌∙◌, arith}
use Rattle.nr_evidence.specs.Views.{claim_of, period_of}
use Rattle.nr_evidence_file.specs.Writing.{middle_text}
use Rattle.nr_evidence_file.proofs.Files.{few_claims, size_is}
use Rattle.nr_evidence_file.proofs.writing.write_parts.Goals as goal

pub returns-then-size-gt-MOST : goal.returns-then-size-gt-MOST
returns-then-size-gt-MOST c =
    let whole = size_is c.args.answer.now c.args.promise.now (period_of c.args.period.now) (map claim_of c.args.claims.now) in
    let text = ap length c.in_ok-text.ensures in
    (omega (arith, whole, text, c.len.ensures), omega (arith, whole, text, c.len.ensures, c.if-size-gt-MOST.true))

pub count_of-requires : goal.count_of-requires
count_of-requires c =
    let text = ap length c.in_ok-text.ensures in
    few_claims c.args.claims.now (omega (arith, text, c.len.ensures, c.if-size-gt-MOST.false))

pub returns : goal.returns
returns c =
    let whole = size_is c.args.answer.now c.args.promise.now (period_of c.args.period.now) (map claim_of c.args.claims.now) in
    let text = ap length c.in_ok-text.ensures in
    record {
      front = c.in_ok-front_text.ensures;
      middle = c.in_ok-middle_text.ensures ∙ ap (λ (n : ℕ). middle_text c.args.promise.now (period_of c.args.period.now) n) c.count_of.ensures;
      claims_are = c.in_ok-text.ensures;
      fits = omega (arith, whole, text, c.len.ensures, c.if-size-gt-MOST.false);
    }
