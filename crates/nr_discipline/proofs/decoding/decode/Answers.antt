use Rattle.std.proofs.Common.{arith}
use Rattle.nr_discipline.proofs.BodyRead.{decoded, encodes_again, has_room, in_order}
use Rattle.nr_spec_bodies.specs.Reading.{base_of}
use Rattle.nr_discipline.proofs.decoding.decode.Goals as goal

pub returns-clause-base : goal.returns-clause-base
returns-clause-base c = decoded c.read_base.result (base_of c.args.body.now) c.read_base.ensures

pub returns-clause-again : goal.returns-clause-again
returns-clause-again c = encodes_again c.args.body.now c.read_base.result (λ i. omega (arith, c.type_inv.body i)) c.read_base.ensures

pub returns-clause-order : goal.returns-clause-order
returns-clause-order c = in_order c.args.body.now c.read_base.result (λ i. omega (arith, c.type_inv.body i)) c.read_base.ensures

pub returns-clause-room : goal.returns-clause-room
returns-clause-room c = has_room c.args.body.now c.read_base.result (λ i. omega (arith, c.type_inv.body i)) c.read_base.ensures
