use Rattle.nr_laws_outcome.proofs.Printed.{audited_lines, clean_where_nothing}
use Rattle.nr_laws_outcome.proofs.audits.an_audit_says_clean_where_nothing_is_found.Goals as goal

pub returns-clause-clean : goal.returns-clause-clean
returns-clause-clean c = clean_where_nothing

pub returns-clause-broken : goal.returns-clause-broken
returns-clause-broken c = audited_lines
