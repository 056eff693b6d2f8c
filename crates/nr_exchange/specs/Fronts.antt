-- What stands before the items of a frame, without where it lies in memory.
use Rattle.nr_spec_frames.specs.Frames.{FrameFront}
use Rattle.nr_exchange.specs.declared.frame.Front as declared

abbrev pub front_of : declared.Front → FrameFront
front_of f = record {
  from_as = f.from_as;
  to_as = f.to_as;
  number = f.number;
  first = f.first;
  prev = f.prev.0;
  count = f.count;
}
