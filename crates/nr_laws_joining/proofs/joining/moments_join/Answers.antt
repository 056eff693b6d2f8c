use Rattle.nr_laws_joining.proofs.Rows.{moments_parts}
use Rattle.nr_laws_joining.proofs.Sights.{boundary}
use Rattle.nr_laws_joining.proofs.joining.moments_join.Goals as goal

pub returns : goal.returns
returns c = record { boundary = boundary; whole = moments_parts }
