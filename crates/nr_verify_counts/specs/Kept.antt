-- What is kept of a tally: a place for each neighbour.
use Rattle.std.specs.Prelude.{ℕ, ◌<◌, ◌≡◌, List, None, Option, slice_index, slice_index_or}
use Rattle.nr_spec_entry.specs.Contents.{most_neighbours}
use Rattle.nr_spec_counts.specs.Tallies.{Numbers, Tally}

pub record Kept : Type 0 where
  pub sends : List ℕ
  pub acked : List ℕ
  pub oldest : List (Option ℕ)
  pub commits : ℕ
  pub in_force : Option Numbers
  pub last : ℕ

-- it is kept of this tally
pub record IsKeptOf (t : Tally) (k : Kept) : Type 0 where
  pub sends : (n : ℕ) → n < most_neighbours → slice_index k.sends n ≡ t.sends n
  pub acked : (n : ℕ) → n < most_neighbours → slice_index k.acked n ≡ t.acked n
  pub oldest : (n : ℕ) → n < most_neighbours → slice_index_or k.oldest n None ≡ t.oldest n
  pub commits : k.commits ≡ t.commits
  pub in_force : k.in_force ≡ t.in_force
  pub last : k.last ≡ t.last
