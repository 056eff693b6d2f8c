-- Routes and counts as a base.
use Rattle.std.proofs.Common.{◌≡◌, ℕ, ◌<◌, ◌^◌, List, [], refl, sym, subst}
use Rattle.std.specs.List.Sorted.{IsStrictlySortedBy}
use Rattle.nr_spec_routes.specs.Keys.{AreAscending, Row}
use Rattle.nr_spec_counts.specs.Tallies.{nothing_yet}
use Rattle.nr_spec_report.specs.Wrong.{nothing_before}
use Rattle.nr_discipline.specs.Decoded.{HasRoom, base_view}
use Rattle.nr_discipline.specs.Kept.{IsKeptOf, Kept}
use Rattle.nr_discipline.proofs.KnownRead.{kept_of}
use Rattle.nr_audit.specs.Before.{IsBefore}

-- some base has them
pub stated : (state : List Row) (counts : Kept) → IsBefore (base_view (state, counts)) state counts
stated state counts = record { rows = refl; kept = kept_of counts }

pub stated_sends : (state : List Row) (counts : Kept) → HasRoom counts → (n : ℕ) → n < 256 → (base_view (state, counts)).tally.sends n < 2 ^ 63
stated_sends state counts room n below = subst (λ m. m < 2 ^ 63) ((kept_of counts).sends n below) (room.sends n below)

pub stated_commits : (state : List Row) (counts : Kept) → HasRoom counts → (base_view (state, counts)).tally.commits < 2 ^ 63
stated_commits state counts room = room.commits

-- nothing stands before a log
pub none_ascend : (rows : List Row) → rows ≡ [] → AreAscending rows
unfolding IsStrictlySortedBy
none_ascend rows is = subst AreAscending (sym is) tt

pub nothing_is : (state : List Row) (counts : Kept) → state ≡ [] → IsKeptOf nothing_yet counts → IsBefore nothing_before state counts
nothing_is state counts rows kept = record { rows = rows; kept = kept }
