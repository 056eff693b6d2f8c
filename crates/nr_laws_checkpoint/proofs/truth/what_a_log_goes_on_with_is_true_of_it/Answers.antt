use Rattle.std.proofs.Common.{refl}
use Rattle.nr_laws_checkpoint.proofs.truth.what_a_log_goes_on_with_is_true_of_it.Goals as goal

pub returns : goal.returns
returns c = λ before answer first prev body. record {
  before = before;
  behind = record { entries = refl; first = first; prev = prev };
  body = body;
}
