use Rattle.std.proofs.Common.{arith}
use Rattle.nr_rows_exchange.proofs.Known.{two_fit}
use Rattle.nr_rows_exchange.proofs.frames.written.Goals as goal

pub write_frame-text-requires : goal.write_frame-text-requires
write_frame-text-requires c =
    two_fit _ _ _ c.heard.result c.commit.result c.new-items.ensures c.in_ok-push.ensures.ok c.in_ok-push-2.ensures.ok c.heard.ensures.fits c.commit.ensures.fits (omega (arith, c.heard.ensures.time, c.commit.ensures.time))
