use Rattle.std.proofs.Common.{rules, Option, None, Ok, ◌≡◌, ℕ, length, ap, arith, ◌∙◌}
use Rattle.std.proofs.lemmas.List.{length-replicate, length-set}
use Rattle.std.proofs.lemmas.Result.{err_from_is_err_and}
use Rattle.nr_bytes.specs.Views.{offset_of}
use Rattle.nr_spec_bodies.specs.Reading.{known_at, times_at}
use Rattle.nr_discipline.specs.Decoded.{known_below, known_of}
use Rattle.nr_discipline.proofs.KnownRead.{known_none, known_set}
use Rattle.nr_discipline.proofs.TimesRead.{time_done, time_fails, time_goes, time_starts}
use Rattle.nr_discipline.proofs.counts_reading.read_neighbours.Goals as goal

pub loop-n-init : goal.loop-n-init
loop-n-init c = record {
  so_far = time_starts known_at (known_below 0 c.zeros-sends.result c.zeros-acked.result c.nones-oldest.result) 256 c.args.cursor.now (known_none c.zeros-sends.result c.zeros-acked.result c.nones-oldest.result);
  sends = ap length c.zeros-sends.ensures ∙ length-replicate {A = ℕ} 256 0;
  acked = ap length c.zeros-acked.ensures ∙ length-replicate {A = ℕ} 256 0;
  oldest = ap length c.nones-oldest.ensures ∙ length-replicate {A = Option ℕ} 256 None;
  onward = search rules;
}

pub returns-in_err-known-clause-value : goal.returns-in_err-known-clause-value
returns-in_err-known-clause-value c =
    let p = err_from_is_err_and c.from_residual.result c.from_residual.ensures.1 in
    let failed = time_fails known_at 256 c.loop-n.n c.loop-n.cursor (offset_of c.in_err-known.field-0.0) (known_below c.loop-n.n c.loop-n.sends c.loop-n.acked c.loop-n.oldest)
    (times_at known_at 256 c.args.cursor.now) c.loop-n-test.true c.in_err-known.ensures.value c.loop-n.invariant.so_far in
    rw (p.1, p.2) failed

pub loop-n-preserved : goal.loop-n-preserved
loop-n-preserved c =
    let n = c.loop-n.n in
    let k = known_of c.in_ok-known.known in
    let below = c.loop-n-test.true in
    let sends = c.loop-n.invariant.sends in
    let acked = c.loop-n.invariant.acked in
    let oldest = c.loop-n.invariant.oldest in
    let more = known_set n c.loop-n.sends c.loop-n.acked c.loop-n.oldest k (omega (arith, below, sends)) (omega (arith, below, acked)) (omega (arith, below, oldest)) in
    record {
      so_far = time_goes known_at (known_below n c.loop-n.sends c.loop-n.acked c.loop-n.oldest) _ k 256 n c.loop-n.cursor c.read_known.new.cursor (times_at known_at 256 c.args.cursor.now)
          more below c.in_ok-known.ensures.value c.loop-n.invariant.so_far;
      sends = length-set c.loop-n.sends n k.sends ∙ sends;
      acked = length-set c.loop-n.acked n k.acked ∙ acked;
      oldest = length-set c.loop-n.oldest n k.oldest ∙ oldest;
      onward = search rules;
    }

pub returns-clause-value : goal.returns-clause-value
returns-clause-value c =
    let n = c.loop-n.n in
    let end = c.loop-n-test.false in
    let last = c.loop-n.auto.n-end in
    let is : n ≡ 256 = omega (arith, end, last) in
    time_done known_at 256 n c.loop-n.cursor (known_below n c.loop-n.sends c.loop-n.acked c.loop-n.oldest) (times_at known_at 256 c.args.cursor.now) end c.loop-n.invariant.so_far
    ∙ ap (λ m. Ok (known_below m c.loop-n.sends c.loop-n.acked c.loop-n.oldest, c.loop-n.cursor)) is
