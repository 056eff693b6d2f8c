use Rattle.nr_laws_outcome.proofs.Steps.{broken_claimed, claims_count, conflict_claimed, lines_count, wrong_claimed}
use Rattle.nr_laws_outcome.proofs.claims.a_report_and_its_claims_are_in_step.Goals as goal

pub returns-clause-count : goal.returns-clause-count
returns-clause-count c = claims_count

pub returns-clause-conflicts : goal.returns-clause-conflicts
returns-clause-conflicts c = conflict_claimed

pub returns-clause-wrong : goal.returns-clause-wrong
returns-clause-wrong c = wrong_claimed

pub returns-clause-broken : goal.returns-clause-broken
returns-clause-broken c = broken_claimed

pub returns-clause-lines : goal.returns-clause-lines
returns-clause-lines c = lines_count
