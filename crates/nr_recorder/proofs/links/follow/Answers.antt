use Rattle.std.proofs.Common.{◌≡◌, length, arith}
use Rattle.nr_chain.specs.Views.{entry_of}
use Rattle.nr_recorder.proofs.links.follow.Goals as goal
use Rattle.nr_recorder.proofs.Linking.{all_links, as_all, follows_more}

pub loop-place-preserved : goal.loop-place-preserved
loop-place-preserved c =
    let more =
    follows_more c.args.asn c.args.log.now c.loop-place.values.items c.push-in-loop-place.new.self.items c.loop-place.walk c.push.new.self c.loop-place.place (entry_of c.at.result) c.push.result
    c.loop-place.invariant.so_far c.loop-place.invariant.value c.loop-place.invariant.seq c.at.ensures c.push.ensures.walk c.push.ensures.value c.in_ok-push.ensures.items in
    record { so_far = more.so_far; value = more.value; seq = more.seq }

pub returns-clause-links : goal.returns-clause-links
returns-clause-links c =
    let ended : c.loop-place.place ≡ length c.args.log.now = omega (arith, c.len-place-end.ensures, c.loop-place-test.false, c.loop-place.auto.place-end) in
    all_links c.args.asn c.args.log.now c.loop-place.values.items c.loop-place.place ended c.loop-place.invariant.so_far

pub returns-clause-whole : goal.returns-clause-whole
returns-clause-whole c =
    let ended : c.loop-place.place ≡ length c.args.log.now = omega (arith, c.len-place-end.ensures, c.loop-place-test.false, c.loop-place.auto.place-end) in
    as_all c.args.asn c.args.log.now c.loop-place.values.items c.loop-place.place ended c.loop-place.invariant.so_far
