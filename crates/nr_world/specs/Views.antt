-- What the code's values stand for.
use Rattle.nr_spec_tape.specs.Tape.{Drawn}
use Rattle.nr_world.specs.declared.drawn.Drawn.{Drawn as Words}

abbrev pub drawn_of : Words → Drawn
drawn_of d = record { first = d.first; second = d.second }
