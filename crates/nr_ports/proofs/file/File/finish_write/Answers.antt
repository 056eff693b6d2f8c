use Rattle.std.proofs.Common.{◌≡◌, ℕ, ◌+◌, ◌≤◌, max, true, length, rules, subst, sym, ap, ◌∙◌}
use Rattle.std.specs.Prelude.{string_bytes}
use Rattle.nr_spec_plans.specs.Disk.{bytes_of}
use Rattle.nr_ports.specs.Ports.{Named, Stored}
use Rattle.nr_ports.specs.Ports.{stored_of}
use Rattle.nr_ports.proofs.Writing.{finished}
use Rattle.nr_ports.proofs.file.File.finish_write.Goals as goal

pub returns : goal.returns
returns c =
    let v = c.self.inside in
    let place = subst (λ (n : Named). c.args.at ≤ length (bytes_of n.stored.file)) (sym c.self.view_is) c.requires.place in
    let room = subst (λ (n : Named). c.args.at + length c.args.from.now ≤ n.stored.loose.greatest) (sym c.self.view_is) c.requires.room in
    let longer : c.max-self-inside.result ≡ max v.len (c.args.at + length c.args.from.now) = search rules in
    rw (← c.self.view_is) (ap (λ (s : Stored). record { name = string_bytes v.name; stored = s })
    (ap (λ (k : ℕ). stored_of c.put_at.new.bytes.items true k v.least v.written.items) longer
    ∙ finished v.bytes.items c.put_at.new.bytes.items c.args.from.now v.there v.len v.least v.written.items c.args.at (c.self.invariant.0) (c.self.invariant.2) place room c.put_at.ensures))
