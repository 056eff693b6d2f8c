use Rattle.std.proofs.Common.{◌≡◌, ◌*◌}
use Rattle.rand_chacha.specs.ChaCha.{key_of}
use Rattle.nr_spec_tape.specs.Tape.{tape, tape_seed}
use Rattle.nr_world.proofs.messages.tape.Given as goal

-- The messages so far stand there, and two words are drawn for each.
abbrev pub invariant-loop-i : goal.invariant-loop-i
invariant-loop-i l =
    (l.out.items ≡ tape l.number l.i)
    × (l.words ≡ record { key = key_of (tape_seed l.number); stream = 0; word_pos = 2 * l.i })
