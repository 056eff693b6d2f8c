use Rattle.nr_laws_bodies.proofs.States.{state_fits, state_reads}
use Rattle.nr_laws_bodies.proofs.bodies.states_have_bodies.Goals as goal

pub returns : goal.returns
returns c = record { fits = state_fits; reads = state_reads }
