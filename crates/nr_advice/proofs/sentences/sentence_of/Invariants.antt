use Rattle.std.proofs.Common.{◌≡◌, drop}
use Rattle.nr_advice.specs.Sentences.{sentence_for}
use Rattle.nr_advice.proofs.sentences.sentence_of.Given as goal

abbrev pub invariant-loop-row : goal.invariant-loop-row
invariant-loop-row l = sentence_for (drop l.row-index l.rows) l.status l.text ≡ sentence_for l.rows l.status l.text
