use Rattle.std.proofs.Common.{rules, ◌≡◌, ◌∙◌, ap, List, ℕ, ◌+◌, ◌-◌, ◌<◌, min, true, length, take}
use Rattle.std.specs.Prelude.{string_bytes, ◌^◌}
use Rattle.nr_spec_plans.specs.Disk.{Range}
use Rattle.nr_ports.specs.Ports.{Stored, stored_of, refilled}
use Rattle.nr_ports.proofs.Filling.{crash_made, crash_turn}
use Rattle.nr_ports.proofs.file.File.crash.Goals as goal

pub returns-clause-turn : goal.returns-clause-turn
returns-clause-turn c =
    let v = c.self.inside in
    let is = c.scramble-next.ensures.refilled ∙ ap (λ (ranges : List Range). refilled (record { least = v.least; greatest = length v.bytes.items; written = ranges }) c.args.fill.now 0 c.args.next v.bytes.items) c.deref.ensures.value in
    rw (← c.self.view_is) (crash_turn v.bytes.items c.args.fill.now v.there v.len v.least v.written.items c.self.invariant.0 c.self.invariant.1 c.self.invariant.2 c.scramble-next.result c.args.next c.scramble-next.new.bytes.items c.args.extra is)

pub returns-clause-crashed : goal.returns-clause-crashed
returns-clause-crashed c =
    let v = c.self.inside in
    let end = c.min-end.result in
    let now = c.scramble-next.new.bytes.items in
    let is = c.scramble-next.ensures.refilled ∙ ap (λ (ranges : List Range). refilled (record { least = v.least; greatest = length v.bytes.items; written = ranges }) c.args.fill.now 0 c.args.next v.bytes.items) c.deref.ensures.value in
    let size : length now ≡ length v.bytes.items = search rules in
    let small : length v.bytes.items < 2 ^ 64 = search rules in
    let ends : end ≡ min (min (v.least + c.args.extra) (2 ^ 64 - 1)) (length v.bytes.items) = search rules in
    let made = crash_made v.bytes.items c.args.fill.now v.there v.len v.least v.written.items c.self.invariant.0 c.self.invariant.1 c.self.invariant.2 now end c.args.extra c.args.next size (ap (λ (r : List ℕ × ℕ). r.0) is) ends small in
    rw (← c.self.view_is) (
    ap (λ (b : List ℕ). record { name = string_bytes v.name; stored = stored_of b true end end c.clear.new.self.items }) c.truncate.ensures.items
    ∙ ap (λ (ranges : List Range). record { name = string_bytes v.name; stored = stored_of (take end now) true end end ranges }) c.clear.ensures.items
    ∙ ap (λ (s : Stored). record { name = string_bytes v.name; stored = s }) made)
