use Rattle.nr_laws_store.proofs.LogLaws.{front_of, log_takes}
use Rattle.nr_laws_store.proofs.bytes.read_logs_are_spelled.Goals as goal

pub returns : goal.returns
returns c = λ file log fits reads. let f = front_of file log reads in (log_takes file log fits reads, (f.rest, f.parts))
