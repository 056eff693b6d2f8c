use Rattle.nr_laws_store.proofs.BirthLaws.{birth_stops}
use Rattle.nr_laws_store.proofs.bearing.an_absent_log_may_be_born_again.Goals as goal

pub returns : goal.returns
returns c = λ name asn root old new u result awaits runs told none. (birth_stops name asn root old new u result awaits runs told).absent none
