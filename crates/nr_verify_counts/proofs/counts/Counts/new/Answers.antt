use Rattle.std.proofs.Common.{List, ℕ, Option, None, slice_index, slice_index_or, refl, ap, ◌∙◌}
use Rattle.std.proofs.lemmas.List.{get_or-replicate}
use Rattle.nr_verify_counts.proofs.counts.Counts.new.Goals as goal

pub returns : goal.returns
returns c = record {
  sends = λ n below. ap (λ (l : List ℕ). slice_index l n) c.zeros.ensures ∙ get_or-replicate 256 n 0 0 below;
  acked = λ n below. ap (λ (l : List ℕ). slice_index l n) c.zeros-2.ensures ∙ get_or-replicate 256 n 0 0 below;
  oldest = λ n below. ap (λ (l : List (Option ℕ)). slice_index_or l n None) c.nones.ensures ∙ get_or-replicate 256 n None None below;
  commits = refl;
  in_force = refl;
  last = refl;
}
