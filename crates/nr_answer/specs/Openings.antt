-- What stands before the entries of an answer file, without where it lies in memory.
use Rattle.std.specs.Option.{option_map}
use Rattle.nr_spec_log.specs.Answer.{Opening}
use Rattle.nr_answer.specs.declared.opening.Front as declared

abbrev pub opening_of : declared.Front → Opening
opening_of f = record {
  asn = f.asn;
  first = f.first;
  prev = f.prev.0;
  body = option_map (λ body. body.now) f.body;
  count = f.count;
}
