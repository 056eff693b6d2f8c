use Rattle.nr_verify_rows.proofs.digest.hash_rows.Goals as goal
use Rattle.std.proofs.Common.{◌≡◌, ◌++◌, ◌∷◌, List, append_assoc, ap, sym, ◌∙◌}
use Rattle.std.specs.List.{flat_map}
use Rattle.nr_spec_routes.specs.Keys.{Row}
use Rattle.nr_spec_counts.specs.Bodies.{row_bytes}
use Rattle.nr_verify_rows.proofs.Pieces.{both}

pub loop-key-preserved : goal.loop-key-preserved
loop-key-preserved c =
    let done = c.loop-key.invariant.0 in
    let row : Row = (c.in-Some.key.now, c.in-Some.attrs.now) in
    let piece = row_bytes row in
    let first : c.loop-key.key-iterator ≡ row ∷ c.next.new.self = c.in-Some.ensures.steps in (
      done ++ piece,
      both c.args.hasher.now c.loop-key.hasher c.hash_row.new.hasher done piece c.loop-key.invariant.1 c.hash_row.ensures,
      append_assoc done piece (flat_map row_bytes c.next.new.self) ∙ (ap (λ (rows : List Row). done ++ flat_map row_bytes rows) (sym first) ∙ c.loop-key.invariant.2),
    )
