use Rattle.std.proofs.Common.{◌≡◌, ℕ, ◌+◌, ◌-◌, ◌<◌, false, List, ◌∷◌, length, map, drop, sym, ap, ◌∙◌, arith}
use Rattle.std.specs.Str.{bytes_eq}
use Rattle.std.proofs.lemmas.List.{length-map}
use Rattle.std.proofs.lemmas.Option.{slice_get_within}
use Rattle.std.proofs.lemmas.Slice.Eq.{bytes_eq-Decides}
use Rattle.nr_spec_frames.specs.Verdicts.{matched}
use Rattle.nr_exchange.proofs.Matching.{comes_to, passes_over, comes_to_none, found_at, within_some, unequal}
use Rattle.nr_exchange.proofs.accepting.find_from.Goals as goal

pub returns-then-eq : goal.returns-then-eq
returns-then-eq c =
    let sends : List (List ℕ) = map (λ p. p.now) c.args.pending.now in
    let got = sym c.get.ensures ∙ c.in-Some.is in
    let lt : c.loop-i.i < length sends = omega (arith, length-map c.args.pending.now (λ p. p.now), slice_get_within c.args.pending.now c.loop-i.i c.in-Some.send got) in
    let same : c.in-Some.send.now ≡ c.args.raw.now = (bytes_eq-Decides c.in-Some.send.now c.args.raw.now).0 (sym c.eq.ensures ∙ c.if-eq.true) in (
      c.loop-i.invariant.above,
      lt,
      λ upto i others.
          c.loop-i.invariant.so_far upto i others
          ∙ comes_to sends c.loop-i.i c.in-Some.send.now c.args.raw.now lt (found_at (λ p. p.now) c.args.pending.now c.loop-i.i c.in-Some.send got) same (upto + (c.loop-i.i - c.args.from)) i others
          ∙ ap (λ (k : ℕ). matched k (i + 1) others (drop (c.loop-i.i + 1) sends)) (omega (arith, c.loop-i.invariant.above)),
    )

pub unreachable-requires : goal.unreachable-requires
unreachable-requires c =
    let got = sym c.get.ensures ∙ c.in-None.is in
    let lt : c.loop-i.i < length c.args.pending.now = omega arith in
    within_some c.args.pending.now c.loop-i.i lt got

pub loop-i-preserved : goal.loop-i-preserved
loop-i-preserved c =
    let sends : List (List ℕ) = map (λ p. p.now) c.args.pending.now in
    let got = sym c.get.ensures ∙ c.in-Some.is in
    let lt : c.loop-i.i < length sends = omega (arith, length-map c.args.pending.now (λ p. p.now), slice_get_within c.args.pending.now c.loop-i.i c.in-Some.send got) in
    let test : bytes_eq c.in-Some.send.now c.args.raw.now ≡ false = sym c.eq.ensures ∙ c.if-eq.false in
    record {
      so_far = λ upto j others.
          c.loop-i.invariant.so_far upto j others
          ∙ passes_over sends c.loop-i.i c.in-Some.send.now c.args.raw.now lt (found_at (λ p. p.now) c.args.pending.now c.loop-i.i c.in-Some.send got) (unequal c.in-Some.send.now c.args.raw.now test) (upto + (c.loop-i.i - c.args.from)) j others
          ∙ ap (λ (k : ℕ). matched k j (c.args.raw.now ∷ others) (drop (c.loop-i.i + 1) sends)) (omega (arith, c.loop-i.invariant.above));
      above = omega (arith, c.loop-i.invariant.above);
    }

pub returns : goal.returns
returns c = λ upto i others.
    let sends : List (List ℕ) = map (λ p. p.now) c.args.pending.now in
    c.loop-i.invariant.so_far upto i others
    ∙ comes_to_none sends c.loop-i.i c.args.raw.now (omega (arith, length-map c.args.pending.now (λ p. p.now))) (upto + (c.loop-i.i - c.args.from)) i others
