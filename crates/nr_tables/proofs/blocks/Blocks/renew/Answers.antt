use Rattle.std.proofs.Common.{◌∙◌, rules}
use Rattle.indexmap.proofs.CallerLemmas.{filter-RetainsPairs}
use Rattle.nr_tables.proofs.Stock.{new_names, new_names_all, new_names_apart, pool_used}
use Rattle.nr_tables.proofs.blocks.Blocks.renew.Goals as goal

pub invariant_of-self : goal.invariant_of-self
invariant_of-self c = pool_used c.self.inside.places.entries _ _ (c.shrink_to_fit.ensures.entries ∙ filter-RetainsPairs _ _ _ (λ k v b w g call. search rules) _ _ c.retain.ensures.filtered) c.self.invariant

pub returns-clause-names : goal.returns-clause-names
returns-clause-names c = new_names c.self.inside.places.entries _ _ _ c.self.view_is c.in_ok-names.ensures (c.shrink_to_fit.ensures.entries ∙ filter-RetainsPairs _ _ _ (λ k v b w g call. search rules) _ _ c.retain.ensures.filtered)

pub returns-clause-apart : goal.returns-clause-apart
returns-clause-apart c = new_names_apart c.self.inside.places.entries _ _ c.self.view_is c.in_ok-names.ensures

pub returns-clause-all : goal.returns-clause-all
returns-clause-all c = new_names_all c.self.inside.places.entries _ _ _ c.self.view_is c.in_ok-names.ensures (c.shrink_to_fit.ensures.entries ∙ filter-RetainsPairs _ _ _ (λ k v b w g call. search rules) _ _ c.retain.ensures.filtered)
