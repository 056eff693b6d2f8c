use Rattle.nr_discipline.proofs.body.hash_rows.Goals as goal
use Rattle.std.proofs.Common.{◌≡◌, ◌++◌, ◌∷◌, List, append_assoc, ap, sym, ◌∙◌}
use Rattle.std.specs.List.{flat_map}
use Rattle.std.proofs.lemmas.Map.Iter.{rest_more}
use Rattle.nr_spec_routes.specs.Keys.{Row}
use Rattle.nr_spec_counts.specs.Bodies.{row_bytes}
use Rattle.nr_tables.specs.Views.{row_of}
use Rattle.nr_discipline.proofs.Pieces.{both}

pub loop-row-preserved : goal.loop-row-preserved
loop-row-preserved c =
    let done = c.loop-row.invariant.0 in
    let piece = row_bytes (row_of c.in-Some.row) in
    let first : c.loop-row.row-iterator ≡ row_of c.in-Some.row ∷ c.next.new.self = rest_more row_of c.loop-row.row-iterator c.next.new.self c.next.result c.in-Some.row c.in-Some.is c.next.ensures.steps in (
      done ++ piece,
      both c.args.hasher.now c.loop-row.hasher c.hash_row.new.hasher done piece c.loop-row.invariant.1 c.hash_row.ensures,
      append_assoc done piece (flat_map row_bytes c.next.new.self) ∙ (ap (λ (rows : List Row). done ++ flat_map row_bytes rows) (sym first) ∙ c.loop-row.invariant.2),
    )
