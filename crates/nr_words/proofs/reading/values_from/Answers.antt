use Rattle.std.proofs.Common.{ap₂}
use Rattle.nr_words.proofs.reading.values_from.Goals as goal

pub returns : goal.returns
returns c = ap₂ (λ o f. record { options = o; files = f }) c.in_ok-options_in.ensures c.in_ok-files_in.ensures
