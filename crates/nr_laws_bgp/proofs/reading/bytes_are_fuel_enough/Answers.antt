use Rattle.std.proofs.Common.{length, arith}
use Rattle.nr_spec_bgp.specs.Prefixes.{cidr_at}
use Rattle.nr_spec_bgp.specs.Paths.{segment_at}
use Rattle.nr_spec_bgp.proofs.Walks.{cidr_eats, enough_rows, enough_attributes, segment_eats}
use Rattle.nr_laws_bgp.proofs.reading.bytes_are_fuel_enough.Goals as goal

pub returns-clause-prefixes : goal.returns-clause-prefixes
returns-clause-prefixes c = λ n s h. enough_rows cidr_at cidr_eats n (length s.rest) s h (omega arith)

pub returns-clause-segments : goal.returns-clause-segments
returns-clause-segments c = λ as4 n s h. enough_rows (segment_at as4) (segment_eats as4) n (length s.rest) s h (omega arith)

pub returns-clause-attributes : goal.returns-clause-attributes
returns-clause-attributes c = λ as4 n s h. enough_attributes as4 n (length s.rest) _ s h (omega arith)
