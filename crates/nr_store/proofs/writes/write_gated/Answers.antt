use Rattle.std.proofs.Common.{arith}
use Rattle.nr_laws_crash.proofs.FirmLaws.{room_after}
use Rattle.nr_spec_store.specs.StorePlans.{Refusal}
use Rattle.nr_store.proofs.writes.write_gated.Goals as goal

pub write_firm-requires-2 : goal.write_firm-requires-2
write_firm-requires-2 g c = λ t told.
    let room = room_after Refusal c.args.name.now c.args.end c.args.body.now _ _ c.requires.room c.in_ok-write_firm.ensures t told in
    omega (arith, room)
