use Rattle.std.proofs.Common.{ap, sym, subst, ◌∙◌}
use Rattle.nr_spec_wire.specs.Reading.{IsBytes}
use Rattle.nr_bgp.specs.Views.{meaning}
use Rattle.nr_tables.proofs.Short.{update_is_short}
use Rattle.nr_tables.proofs.effect.message_effect.Goals as goal

pub returns-in-Update-clause-short : goal.returns-in-Update-clause-short
returns-in-Update-clause-short c =
    update_is_short c.args.as4 c.bytes_in-raw.result.now c.in-Update.update (subst IsBytes (sym c.bytes_in-raw.ensures.same) c.bytes_in-raw.ensures.bytes)
    (sym c.read.ensures ∙ ap meaning c.in-Update.is)
