use Rattle.nr_laws_promises.proofs.Rows.{bad_where}
use Rattle.nr_laws_promises.proofs.broken.a_promise_is_bad_where_it_is_judged_and_untrue.Goals as goal

pub returns : goal.returns
returns c = bad_where
