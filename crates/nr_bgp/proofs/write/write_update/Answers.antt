use Rattle.std.proofs.Common.{arith}
use Rattle.nr_bgp.proofs.ReadBack.{reads_back}
use Rattle.nr_bgp.proofs.write.write_update.Goals as goal

pub returns-clause-reads_back : goal.returns-clause-reads_back
returns-clause-reads_back c =
    let made = c.in_ok-spell_update.field-0 in
    let sizes = c.update_len-len.ensures in
    reads_back c.args.withdrawn.now c.args.block.now c.args.announced.now made.items sizes.withdrawn sizes.announced (omega (arith, sizes.value)) c.in_ok-spell_update.ensures
