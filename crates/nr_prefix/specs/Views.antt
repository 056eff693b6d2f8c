-- What this crate's types stand for in the definitions.
use Rattle.std.specs.Prelude.{List, map}
use Rattle.nr_spec_bgp.specs.Prefixes.{CidrPattern}
use Rattle.nr_prefix.specs.declared.set.Pattern.{Pattern}
use Rattle.nr_prefix.specs.declared.set.PrefixSet.{PrefixSet}

abbrev pub pattern_of : Pattern → CidrPattern
pattern_of w = record { base = w.prefix; most = w.most }

abbrev pub set_of : PrefixSet → List CidrPattern
set_of set = map pattern_of set.patterns.items
