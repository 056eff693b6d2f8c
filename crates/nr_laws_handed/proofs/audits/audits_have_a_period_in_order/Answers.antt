use Rattle.nr_laws_handed.proofs.Periods.{period_of_words}
use Rattle.nr_laws_handed.proofs.audits.audits_have_a_period_in_order.Goals as goal

pub returns : goal.returns
returns c = period_of_words c.words_are_requests.ensures
