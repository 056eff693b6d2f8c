use Rattle.std.proofs.Common.{◌++◌, List, ℕ, length, ap, ◌∙◌, arith}
use Rattle.nr_spec_log.specs.Answer.{answer_file}
use Rattle.nr_answer.proofs.Written.{text_is}
use Rattle.nr_answer.proofs.writing.write_answer.Goals as goal

pub returns-then-size-gt-MOST : goal.returns-then-size-gt-MOST
returns-then-size-gt-MOST c = λ answer made.
    let size = c.answer_size-size.ensures c.args.asn c.args.first ∙ ap length (text_is answer _ _ _ _ _ _ made) in
    (size, omega (arith, size, c.if-size-gt-MOST.true))

pub returns : goal.returns
returns c = λ answer made.
    let is = text_is answer _ _ _ _ _ _ made in
    let size = c.answer_size-size.ensures c.args.asn c.args.first ∙ ap length is in
    let whole = c.in_ok-put_answer.ensures ∙ ap (λ (t : List ℕ). c.in_ok-out.out.items ++ t) is in
    (whole ∙ ap (λ (t : List ℕ). t ++ answer_file answer) c.in_ok-out.ensures.items, omega (arith, size, c.if-size-gt-MOST.false))
