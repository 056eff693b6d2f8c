use Rattle.std.proofs.Common.{◌≡◌, length, ◌∙◌}
use Rattle.std.proofs.lemmas.Result.{err_from_is_err_and}
use Rattle.nr_store.proofs.Closing.{closed_file, piece_one, birth_stops, birth_done, born_made, born_size}
use Rattle.nr_store.proofs.store.Store.birth.Goals as goal

pub write_gated-requires-clause-room : goal.write_gated-requires-clause-room
write_gated-requires-clause-room g c = λ t told.
    closed_file c.args.name.now c.in_ok-size.field-0 c.unwrap_or-size.result _ _ _ c.unwrap_or-size.ensures c.in_ok-size.ensures c.in_ok-close_birth.ensures t told

pub returns-in_err-write_gated : goal.returns-in_err-write_gated
returns-in_err-write_gated g c =
    let p = err_from_is_err_and c.from_residual-in_err-write_gated.result c.from_residual-in_err-write_gated.ensures.1 in
    rw (p.1, p.2) (birth_stops c.args.name.now c.args.asn c.args.root.now.0 c.in_ok-size.field-0 c.unwrap_or-size.result _ (g.F.Files.disk c.args.files.now) (g.F.Files.disk c.size.new.self) (g.F.Files.disk c.close_birth.new.files) c.unwrap_or-size.ensures c.in_ok-size.ensures c.in_ok-permit.ensures c.in_ok-close_birth.ensures (piece_one c.deref.result.now _ (c.deref.ensures.value ∙ c.in_ok-bytes.ensures.bytes)) (g.F.Files.disk c.write_gated.new.files) c.in_err-write_gated.field-0.0 c.in_err-write_gated.ensures)

pub invariant_of-result : goal.invariant_of-result
invariant_of-result g c =
    let len : length c.args.root.now.0 ≡ 32 = c.in_ok-bytes.ensures.root in
    ((born_made c.args.asn c.args.root.now.0 c.in_ok-bytes.bytes.items c.ranges.asn.fits len c.in_ok-bytes.ensures.bytes).invariant, born_size c.args.asn c.args.root.now.0 c.in_ok-bytes.bytes.items len c.in_ok-bytes.ensures.bytes)

pub returns : goal.returns
returns g c =
    let len : length c.args.root.now.0 ≡ 32 = c.in_ok-bytes.ensures.root in
    birth_done c.args.name.now c.args.asn c.args.root.now.0 c.in_ok-size.field-0 c.unwrap_or-size.result _ (g.F.Files.disk c.args.files.now) (g.F.Files.disk c.size.new.self) (g.F.Files.disk c.close_birth.new.files) c.unwrap_or-size.ensures c.in_ok-size.ensures c.in_ok-permit.ensures c.in_ok-close_birth.ensures (piece_one c.deref.result.now _ (c.deref.ensures.value ∙ c.in_ok-bytes.ensures.bytes)) (g.F.Files.disk c.write_gated.new.files) _ c.in_ok-write_gated.ensures (born_made c.args.asn c.args.root.now.0 c.in_ok-bytes.bytes.items c.ranges.asn.fits len c.in_ok-bytes.ensures.bytes).view
