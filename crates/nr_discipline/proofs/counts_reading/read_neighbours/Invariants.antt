use Rattle.std.proofs.Common.{◌≡◌, ◌-◌, length}
use Rattle.nr_spec_wire.specs.Reading.{IsOnward}
use Rattle.nr_spec_bodies.specs.Reading.{known_at, times_at}
use Rattle.nr_discipline.specs.Decoded.{known_below}
use Rattle.nr_discipline.proofs.TimesRead.{after}
use Rattle.nr_discipline.proofs.counts_reading.read_neighbours.Given as goal

-- What is known of those so far, joined with what reading the others gives, is what reading all of them gives.
abbrev pub invariant-loop-n : goal.invariant-loop-n
invariant-loop-n l = record {
  so_far : after (known_below l.n l.sends l.acked l.oldest) (times_at known_at (256 - l.n) l.cursor) ≡ times_at known_at 256 l.fn.cursor;
  sends : length l.sends ≡ 256;
  acked : length l.acked ≡ 256;
  oldest : length l.oldest ≡ 256;
  onward : IsOnward l.fn.cursor l.cursor;
}
