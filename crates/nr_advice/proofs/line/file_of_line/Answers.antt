use Rattle.std.proofs.Common.{refl}
use Rattle.nr_advice.specs.Lines.{file_of_line}
use Rattle.nr_advice.proofs.line.file_of_line.Goals as goal

pub returns : goal.returns
unfolding file_of_line
returns c = rw (c.either-2.ensures, c.behind_text.ensures, c.either.ensures, c.word_behind.ensures, c.word_behind-2.ensures) refl
