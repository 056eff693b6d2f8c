use Rattle.std.proofs.Common.{◌≡◌, Err, subst}
use Rattle.nr_spec_wire.specs.Reading.{Spot, number_at}
use Rattle.nr_slices.proofs.Stated.{last_missing}
use Rattle.nr_slices.proofs.reading.last_time.Goals as goal

pub returns-in-Err : goal.returns-in-Err
returns-in-Err c = λ base is.
    last_missing c.args.body.now base c.in-Err.field-0.0 0 (subst (λ (s : Spot). number_at 8 s ≡ Err c.in-Err.field-0.0) c.new-cursor.ensures c.in-Err.ensures.value.0) is
