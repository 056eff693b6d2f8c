use Rattle.std.proofs.Common.{sym, ◌∙◌}
use Rattle.nr_requests.proofs.WordLemmas.{parse-decimal_word}
use Rattle.nr_requests.proofs.numbers.value_of.Goals as goal

pub unreachable-requires : goal.unreachable-requires
unreachable-requires c =
    let e = sym c.in-Err.is ∙ parse-decimal_word c.args.word.now c.parse.result c.requires c.parse.ensures.value.0 in
    cc e
