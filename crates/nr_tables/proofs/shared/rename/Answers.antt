use Rattle.std.proofs.Common.{get_or, rules}
use Rattle.std.proofs.lemmas.Map.Made.{map_same_pairs}
use Rattle.nr_tables.proofs.shared.rename.Goals as goal

pub returns : goal.returns
returns c = map_same_pairs _ (λ place. get_or c.args.names.now.items place 0) _ (λ k v b w g call. search rules) _ _ c.retain.ensures.filtered
