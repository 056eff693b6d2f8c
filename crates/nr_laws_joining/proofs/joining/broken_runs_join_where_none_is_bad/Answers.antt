use Rattle.nr_laws_joining.proofs.Rows.{broken_parts}
use Rattle.nr_laws_joining.proofs.joining.broken_runs_join_where_none_is_bad.Goals as goal

pub returns : goal.returns
returns c = broken_parts
