-- What this crate's types stand for in the definitions.
use Rattle.nr_spec_bgp.specs.Attributes.{AttributeBlock}
use Rattle.nr_rule_eval.specs.declared.scene.RouteView.{RouteView}

abbrev pub seen_route : RouteView → AttributeBlock
seen_route r = r.attrs
