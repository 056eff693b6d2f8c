-- What is asked of the events is needed: without it there are wrong entries.
use Rattle.std.proofs.Common.{◌≡◌, ℕ, ◌<◌, Bool, List, [], ◌∷◌, Option, Some, None, refl, sym, ap, ◌∙◌}
use Rattle.nr_spec_log.specs.Chain.{LogEntry}
use Rattle.nr_spec_entry.specs.Contents.{Content, most_neighbours, Send}
use Rattle.nr_spec_routes.specs.Keys.{Row}
use Rattle.nr_spec_routes.specs.Rows.{rows_after}
use Rattle.nr_spec_counts.specs.Tallies.{Numbers, Tally}
use Rattle.nr_spec_counts.specs.Causes.{cause_in}
use Rattle.nr_spec_steps.specs.Steps.{known, made}
use Rattle.nr_laws_accuracy.specs.Allowed.{cause_in_log, IsAllowed}
use Rattle.nr_spec_counts.specs.declared.cause.Cause.{Cause}
use Rattle.nr_spec_counts.specs.declared.cause.Cause.TheVariants as causes
use Rattle.nr_laws_entry.proofs.Spelled.{content_again}

first_cause : (files : List Numbers) (t : Tally) (rows : List Row) (time n : ℕ) (as4 : Bool) (raw : List ℕ) → cause_in files t rows 1 time 1 (Some (Send n as4 raw)) ≡ Some causes.First
unfolding cause_in
first_cause files t rows time n as4 raw = refl

some_none : (cause : Cause) → Some cause ≡ None → ⊥
some_none cause e = cc

-- a SEND as the first entry is wrong, by the cause `first`
pub send_first : (own : Numbers) (time n : ℕ) (as4 : Bool) (raw : List ℕ) (others : List LogEntry) → n < most_neighbours → IsAllowed own (made time (Send n as4 raw) ∷ others) → ⊥
send_first own time n as4 raw others lt allowed =
    let is : cause_in_log (own ∷ []) [] (made time (Send n as4 raw)) ≡ Some causes.First =
    ap (λ (x : Option Content). cause_in (own ∷ []) (known []) (rows_after [] []) 1 time 1 x) (content_again (Send n as4 raw) lt) ∙ first_cause (own ∷ []) (known []) (rows_after [] []) time n as4 raw in
    some_none causes.First (sym is ∙ allowed.0)
