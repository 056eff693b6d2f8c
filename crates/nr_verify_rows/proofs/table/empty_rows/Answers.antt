use Rattle.std.proofs.Common.{◌==◌, not, rules}
use Rattle.std.proofs.lemmas.Map.Made.{filter_same_pairs}
use Rattle.nr_verify_rows.proofs.table.empty_rows.Goals as goal

pub returns : goal.returns
returns c = filter_same_pairs _ (λ r. not (r.0.neighbour == c.args.neighbour)) _ (λ k v b w f' t. (search rules, search rules, search rules)) _ _ c.retain.ensures.filtered
