-- What this crate's types stand for in the definitions.
use Rattle.nr_spec_slices.specs.Late as slices
use Rattle.nr_slices.specs.declared.late.Late.{Late}
use Rattle.nr_slices.specs.declared.late.Late.TheVariants.{Time, Body}

abbrev pub late_of : Late → slices.Late
late_of (Time checkpoint from) = slices.Time checkpoint from
late_of (Body body entry) = slices.Body body.0 entry.0
