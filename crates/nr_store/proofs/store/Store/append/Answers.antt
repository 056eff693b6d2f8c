use Rattle.std.proofs.Common.{map, ap, ◌∙◌}
use Rattle.std.proofs.lemmas.Result.{err_from_is_err_and}
use Rattle.nr_spec_plans.specs.Disk.{bytes_of}
use Rattle.nr_spec_store.specs.LogFile.{LogFile}
use Rattle.nr_chain.specs.Views.{entry_of}
use Rattle.nr_store.proofs.Sizes.{have_sizes}
use Rattle.nr_store.proofs.Appended.{end_at, size_is, room_in, extend_stops, write_stops, left_made, left_size, append_done}
use Rattle.nr_store.proofs.store.Store.append.Goals as goal

pub extend-requires-clause-sizes : goal.extend-requires-clause-sizes
extend-requires-clause-sizes g c = have_sizes _ _ c.requires.batch

pub returns-in_err-extend : goal.returns-in_err-extend
returns-in_err-extend g c =
    let e = end_at c.store.inside.asn c.store.inside.root.0 c.store.inside.bytes.items c.deref.result.now c.bytes_in-end.result.now c.args.self c.bytes_in-end.ensures.bytes c.bytes_in-end.ensures.same c.deref.ensures.value c.store.invariant.0 c.store.view_is in
    let p = err_from_is_err_and c.from_residual.result c.from_residual.ensures.1 in
    rw (p.1, p.2) (extend_stops c.args.name.now c.args.self (map entry_of c.args.batch.now) (g.F.Files.disk c.args.files.now) _ c.in_err-extend.field-0.0 (size_is c.args.self (map entry_of c.args.batch.now) c.store.inside.bytes.items _ e) c.in_err-extend.ensures.ends)

pub write_gated-requires-clause-gate : goal.write_gated-requires-clause-gate
write_gated-requires-clause-gate g c = (end_at c.store.inside.asn c.store.inside.root.0 c.store.inside.bytes.items c.deref.result.now c.bytes_in-end.result.now c.args.self c.bytes_in-end.ensures.bytes c.bytes_in-end.ensures.same c.deref.ensures.value c.store.invariant.0 c.store.view_is).positive

pub write_gated-requires-clause-room : goal.write_gated-requires-clause-room
write_gated-requires-clause-room g c = λ t told.
    let e = end_at c.store.inside.asn c.store.inside.root.0 c.store.inside.bytes.items c.deref.result.now c.bytes_in-end.result.now c.args.self c.bytes_in-end.ensures.bytes c.bytes_in-end.ensures.same c.deref.ensures.value c.store.invariant.0 c.store.view_is in
    room_in (bytes_of (t.holds c.args.name.now)) c.args.self c.store.inside.bytes.items _ e (c.requires.file t told)

pub returns-in_err-write_gated : goal.returns-in_err-write_gated
returns-in_err-write_gated g c =
    let e = end_at c.store.inside.asn c.store.inside.root.0 c.store.inside.bytes.items c.deref.result.now c.bytes_in-end.result.now c.args.self c.bytes_in-end.ensures.bytes c.bytes_in-end.ensures.same c.deref.ensures.value c.store.invariant.0 c.store.view_is in
    let p = err_from_is_err_and c.from_residual-in_err-write_gated.result c.from_residual-in_err-write_gated.ensures.1 in
    rw (p.1, p.2) (write_stops c.args.name.now c.args.self (map entry_of c.args.batch.now) c.store.inside.bytes.items c.bytes_in-end.result.now c.deref-2.result.now (g.F.Files.disk c.args.files.now) e (c.deref-2.ensures.value ∙ c.in_ok-extend.ensures.grown) c.in_ok-extend.ensures.ends (g.F.Files.disk c.write_gated.new.files) c.in_err-write_gated.field-0.0 c.in_err-write_gated.ensures)

pub overflow_sub-end : goal.overflow_sub-end
overflow_sub-end g c = (end_at c.store.inside.asn c.store.inside.root.0 c.store.inside.bytes.items c.deref.result.now c.bytes_in-end.result.now c.args.self c.bytes_in-end.ensures.bytes c.bytes_in-end.ensures.same c.deref.ensures.value c.store.invariant.0 c.store.view_is).positive

pub invariant_of-store : goal.invariant_of-store
invariant_of-store g c =
    let e = end_at c.store.inside.asn c.store.inside.root.0 c.store.inside.bytes.items c.deref.result.now c.bytes_in-end.result.now c.args.self c.bytes_in-end.ensures.bytes c.bytes_in-end.ensures.same c.deref.ensures.value c.store.invariant.0 c.store.view_is in
    ((left_made c.args.name.now c.args.self (map entry_of c.args.batch.now) c.store.inside.bytes.items c.bytes_in-end.result.now c.extend.new.bytes.items (g.F.Files.disk c.args.files.now) e c.in_ok-extend.ensures.grown c.in_ok-extend.ensures.ends c.store.inside.asn c.store.inside.root.0 (ap (λ (l : LogFile). l.asn) c.store.view_is) (ap (λ (l : LogFile). l.root) c.store.view_is) c.requires.batch).invariant, left_size c.args.name.now c.args.self (map entry_of c.args.batch.now) c.store.inside.bytes.items c.bytes_in-end.result.now c.extend.new.bytes.items (g.F.Files.disk c.args.files.now) e c.in_ok-extend.ensures.grown c.in_ok-extend.ensures.ends)

pub returns : goal.returns
returns g c =
    let e = end_at c.store.inside.asn c.store.inside.root.0 c.store.inside.bytes.items c.deref.result.now c.bytes_in-end.result.now c.args.self c.bytes_in-end.ensures.bytes c.bytes_in-end.ensures.same c.deref.ensures.value c.store.invariant.0 c.store.view_is in
    append_done c.args.name.now c.args.self (map entry_of c.args.batch.now) c.store.inside.bytes.items c.bytes_in-end.result.now c.deref-2.result.now (g.F.Files.disk c.args.files.now) e (c.deref-2.ensures.value ∙ c.in_ok-extend.ensures.grown) c.in_ok-extend.ensures.ends (g.F.Files.disk c.write_gated.new.files) _ c.in_ok-write_gated.ensures (left_made c.args.name.now c.args.self (map entry_of c.args.batch.now) c.store.inside.bytes.items c.bytes_in-end.result.now c.extend.new.bytes.items (g.F.Files.disk c.args.files.now) e c.in_ok-extend.ensures.grown c.in_ok-extend.ensures.ends c.store.inside.asn c.store.inside.root.0 (ap (λ (l : LogFile). l.asn) c.store.view_is) (ap (λ (l : LogFile). l.root) c.store.view_is) c.requires.batch).view
