use Rattle.std.proofs.Common.{rules, ◌≡◌, ◌∙◌, sym, ◌<◌, length, true, false, ◌≤◌}
use Rattle.nr_spec_plans.specs.Disk.{Loose}
use Rattle.nr_ports.specs.Ports.{is_free}
use Rattle.nr_ports.proofs.Crashes.{scrambled_all}
use Rattle.nr_ports.proofs.Filling.{free_round, held_round}
use Rattle.nr_ports.proofs.file.scramble.Goals.{then-is_free, else-is_free}
use Rattle.nr_ports.proofs.file.scramble.Goals as goal

pub loop-i-preserved : goal.loop-i-preserved
loop-i-preserved c =
    let l : Loose = record { least = c.args.least; greatest = length c.args.bytes.now.items; written = c.args.written.now } in
    let less : c.loop-i.i < length c.loop-i.bytes.items = search rules in
    elim c.if-is_free.branch [
      | then-is_free w ↦
          let free : is_free l c.loop-i.i ≡ true = sym c.is_free.ensures ∙ w.if-is_free.true in
          let turn : c.if-is_free.turn ≡ _ = w.turn-is ∙ w.following-turn.ensures.next in
          rw (turn, w.bytes-is) (record {
            so_far = free_round l c.args.fill.now c.loop-i.bytes.items c.loop-i.i c.loop-i.turn less free ∙ c.loop-i.invariant.so_far;
            place = search rules;
            size = search rules;
            stays = search rules;
          })
      | else-is_free w ↦
          let held : is_free l c.loop-i.i ≡ false = sym c.is_free.ensures ∙ w.if-is_free.false in
          rw (w.turn-is, w.bytes-is) (record {
            so_far = held_round l c.args.fill.now c.loop-i.bytes.items c.loop-i.i c.loop-i.turn less held ∙ c.loop-i.invariant.so_far;
            place = c.loop-i.invariant.place;
            size = c.loop-i.invariant.size;
            stays = c.loop-i.invariant.stays;
          })
    ]

pub returns-clause-refilled : goal.returns-clause-refilled
returns-clause-refilled c =
    let past : length c.loop-i.bytes.items ≤ c.loop-i.i = search rules in
    scrambled_all _ _ _ _ _ c.loop-i.i c.args.next c.loop-i.turn c.loop-i.invariant past
