use Rattle.std.proofs.Common.{length, map, ap, arith}
use Rattle.std.specs.Option.{option_map}
use Rattle.nr_chain.specs.Views.{entry_of}
use Rattle.nr_answer.proofs.Written.{text_size}
use Rattle.nr_answer.proofs.writing.answer_size.Goals as goal

pub returns : goal.returns
returns c = λ asn first.
    let text = text_size asn first c.args.prev.now.0 (option_map (λ body. body.now) c.args.body) (map entry_of c.args.entries.now) c.args.head.now in
    omega (arith, text, c.body_size.ensures.value, c.entries_size.ensures.value, ap length c.as_slice.ensures)
