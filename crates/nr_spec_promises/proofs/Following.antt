-- The first PROMISE that follows.
use Rattle.std.proofs.Common.{◌≡◌, List, [], ◌∷◌, ◌++◌, Option, Some, None, refl, ap, ◌∙◌}
use Rattle.std.specs.Prelude.{option_map}
use Rattle.nr_spec_log.specs.Chain.{LogEntry}
use Rattle.nr_spec_entry.specs.ContentReading.{content_of}
use Rattle.nr_spec_routes.specs.LookBack.{last_of, later_or}
use Rattle.nr_spec_counts.specs.Tallies.{promise_in, tally_after}
use Rattle.nr_spec_report.specs.Wrong.{Base}
use Rattle.nr_spec_promises.specs.Files.{digest_of, first_promised}

none_later : {A : Type 0} (x y : Option A) → later_or x y ≡ None → (x ≡ None) × (y ≡ None)
none_later None y h = (refl, h)
none_later (Some a) y h = absurd cc

none_there : (past later : List LogEntry) → last_of (λ (e : LogEntry). promise_in (content_of e)) past ≡ None
    → first_promised (past ++ later) ≡ first_promised later
none_there [] later h = refl
none_there (e ∷ past) later h =
    let both = none_later (last_of (λ (x : LogEntry). promise_in (content_of x)) past) (promise_in (content_of e)) h in
    ap (λ o. later_or (option_map digest_of o) (first_promised (past ++ later))) both.1 ∙ none_there past later both.0

pub follows : (base : Base) (past later : List LogEntry) → (tally_after base.tally past).in_force ≡ None
    → first_promised (past ++ later) ≡ first_promised later
unfolding tally_after
follows base past later h =
    none_there past later (none_later (last_of (λ (e : LogEntry). promise_in (content_of e)) past) base.tally.in_force h).0
