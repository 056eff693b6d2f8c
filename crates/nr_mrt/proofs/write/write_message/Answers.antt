use Rattle.std.proofs.Common.{ℕ, ◌^◌, ◌<◌, arith}
use Rattle.nr_mrt.specs.Writing.{session_ends, AreEnds}
use Rattle.nr_mrt.proofs.ReadBack.{record_reads_back}
use Rattle.nr_mrt.proofs.write.write_message.Goals as goal

are_ends : (peer_as own_as peer own : ℕ) → peer_as < 2 ^ 32 → own_as < 2 ^ 32 → peer < 2 ^ 32 → own < 2 ^ 32 → AreEnds (session_ends peer_as own_as peer own)
are_ends peer_as own_as peer own a b c d = record { peer_as = a; own_as = b; peer = c; own = d }

pub returns-in_err-record-clause-reads_back : goal.returns-in_err-record-clause-reads_back
returns-in_err-record-clause-reads_back c =
    let a = c.args in
    record_reads_back a.time a.local (session_ends a.peer_as a.own_as a.peer a.own) a.raw.now c.requires.time c.requires.raw
    (are_ends a.peer_as a.own_as a.peer a.own (omega arith) (omega arith) (omega arith) (omega arith))

pub returns-clause-reads_back : goal.returns-clause-reads_back
returns-clause-reads_back c =
    let a = c.args in
    record_reads_back a.time a.local (session_ends a.peer_as a.own_as a.peer a.own) a.raw.now c.requires.time c.requires.raw
    (are_ends a.peer_as a.own_as a.peer a.own (omega arith) (omega arith) (omega arith) (omega arith))
