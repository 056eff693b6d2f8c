-- An attribute as it was found in a block.
use Rattle.nr_spec_bgp.specs.Attributes.{Placed}
use Rattle.nr_attrs.specs.declared.fields.Found.{Found}

abbrev pub placed_of : Found → Placed
placed_of f = record { what = record { kind = f.kind; value = f.value.now }; at = f.at }
