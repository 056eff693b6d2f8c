use Rattle.nr_laws_meaning.proofs.SamplesJudged.{no_export, prefer_customer, only_own, reachable, short, other_router, routes_read, scenes_stand}
use Rattle.nr_laws_meaning.proofs.samples.examples_are_judged.Goals as goal

pub returns-clause-no_export : goal.returns-clause-no_export
returns-clause-no_export c = no_export

pub returns-clause-prefer_customer : goal.returns-clause-prefer_customer
returns-clause-prefer_customer c = prefer_customer

pub returns-clause-only_own : goal.returns-clause-only_own
returns-clause-only_own c = only_own

pub returns-clause-reachable : goal.returns-clause-reachable
returns-clause-reachable c = reachable

pub returns-clause-short : goal.returns-clause-short
returns-clause-short c = short

pub returns-clause-other_router : goal.returns-clause-other_router
returns-clause-other_router c = other_router

pub returns-clause-routes : goal.returns-clause-routes
returns-clause-routes c = routes_read

pub returns-clause-prefixes : goal.returns-clause-prefixes
returns-clause-prefixes c = scenes_stand
