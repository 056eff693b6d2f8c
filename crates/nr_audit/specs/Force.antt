-- What an audit asks of the promises so far.
use Rattle.std.specs.Prelude.{if◌then◌else◌, ℕ, Bool, true, false, List, None, Option, Some, nat_lt, option_map}
use Rattle.std.specs.List.{find, list_any}
use Rattle.nr_spec_log.specs.Chain.{LogEntry}
use Rattle.nr_spec_entry.specs.Contents.{Content}
use Rattle.nr_spec_routes.specs.LookBack.{later_or}
use Rattle.nr_spec_history.specs.Conflicts.{Period}
use Rattle.nr_spec_counts.specs.Tallies.{Numbers, promise_in}
use Rattle.nr_spec_report.specs.Wrong.{Base, is_within}
use Rattle.nr_spec_outcome.specs.Outcome.{digests_within, force_before, is_of_no_file}
use Rattle.nr_audit.specs.Seen.{Seen}

abbrev pub digest_of : Numbers → List ℕ
digest_of n = n.digest

-- the digest of a content that is a PROMISE
abbrev pub digest_in : Option Content → Option (List ℕ)
digest_in content = option_map digest_of (promise_in content)

abbrev pub seen_after : List Numbers → Base → Period → List LogEntry → Seen
seen_after files base period past = record {
  before = option_map digest_of (force_before base period past);
  any = list_any (λ (digest : List ℕ). true) (digests_within period past);
  strange = find (is_of_no_file files) (digests_within period past);
}

-- what one PROMISE more makes of it, by whether its time is before the period and whether it is in it
abbrev pub seen_by : List Numbers → Bool → Bool → Option (List ℕ) → Seen → Seen
seen_by files before within None s = s
seen_by files true within (Some digest) s = record { before = Some digest; any = s.any; strange = s.strange }
seen_by files false true (Some digest) s = record {
  before = s.before;
  any = true;
  strange = later_or s.strange (if is_of_no_file files digest then Some digest else None);
}
seen_by files false false (Some digest) s = s

abbrev pub seen_more : List Numbers → Period → ℕ → Option (List ℕ) → Seen → Seen
seen_more files period time digest s = seen_by files (nat_lt time period.from) (is_within period time) digest s

abbrev pub misfit_by : List Numbers → Option (List ℕ) → Bool → Option (List ℕ) → Option (Option (List ℕ))
misfit_by files (Some digest) any strange =
    if is_of_no_file files digest then Some (Some digest) else option_map Some strange
misfit_by files None any strange = if any then option_map Some strange else Some None

-- the misfit by what was seen
abbrev pub misfit_seen : List Numbers → Seen → Option (Option (List ℕ))
misfit_seen files s = misfit_by files s.before s.any s.strange
