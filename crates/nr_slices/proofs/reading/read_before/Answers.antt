use Rattle.std.proofs.Common.{Err, ap, subst}
use Rattle.nr_spec_bodies.specs.Reading.{base_of}
use Rattle.nr_discipline.specs.Decoded.{AreDecoded}
use Rattle.nr_discipline.specs.declared.decoding.DecodeError.{DecodeError}
use Rattle.std.specs.Option.{option_map}
use Rattle.nr_slices.proofs.Before.{none_stand}
use Rattle.nr_slices.proofs.Places.{place_within}
use Rattle.nr_slices.proofs.reading.read_before.Goals as goal

pub returns-in_default-clause-stated : goal.returns-in_default-clause-stated
returns-in_default-clause-stated c = none_stand _ c.new.result c.new-in_default.result (ap (option_map (λ body. body.now)) c.in_default.is) c.new.ensures c.new-in_default.ensures

pub in_file-requires : goal.in_file-requires
in_file-requires c =
    place_within c.in-Some.body.now c.in-Err-At.place.0
    (subst (λ (e : DecodeError). AreDecoded (Err e) (base_of c.in-Some.body.now)) c.in-Err-At.field-0-is c.in-Err-At.ensures.base)
