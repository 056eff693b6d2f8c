-- There is room for one entry more, and what follows it.
use Rattle.std.proofs.Common.{◌≡◌, ℕ, ◌+◌, ◌<◌, ◌^◌, Bool, true, false, cond, List, [], ◌∷◌, ◌++◌, length, slice_index, Option, Some, None, refl, ap, sym, ◌∙◌, arith}
use Rattle.std.proofs.lemmas.List.Sums.{count_by-le-length}
use Rattle.nr_spec_log.specs.Chain.{LogEntry}
use Rattle.nr_spec_entry.specs.ContentReading.{content_of}
use Rattle.nr_spec_history.specs.Conflicts.{Period}
use Rattle.nr_spec_routes.specs.Keys.{Row}
use Rattle.nr_spec_routes.specs.LookBack.{later_or}
use Rattle.nr_spec_routes.specs.Rows.{rows_after}
use Rattle.nr_spec_counts.specs.declared.cause.Cause.{Cause}
use Rattle.nr_spec_counts.specs.Tallies.{Numbers, Tally, is_commit, is_send_to, nothing_yet, tally_after}
use Rattle.nr_spec_counts.specs.Causes.{cause_of}
use Rattle.nr_spec_report.specs.Wrong.{Base, WrongEntry, cause_after, is_within, wrong_by, wrong_entries}
use Rattle.nr_spec_report.proofs.OneMore.{one_wrong_more}
use Rattle.nr_discipline.specs.Decoded.{HasRoom}
use Rattle.nr_discipline.specs.Kept.{IsKeptOf, Kept}
use Rattle.nr_audit.specs.Checked.{cause_within}

pub room_sends : (base : Tally) (past : List LogEntry) (k : Kept) → IsKeptOf (tally_after base past) k → length past < 2 ^ 32 → (n : ℕ) → n < 256 → base.sends n < 2 ^ 63 → slice_index k.sends n + 1 < 2 ^ 64
unfolding tally_after
room_sends base past k kept few n below room =
    let is = kept.sends n below in
    let most = count_by-le-length (λ e. is_send_to n (content_of e)) past in
    omega arith

pub room_commits : (base : Tally) (past : List LogEntry) (k : Kept) → IsKeptOf (tally_after base past) k → length past < 2 ^ 32 → base.commits < 2 ^ 63 → k.commits + 1 < 2 ^ 64
unfolding tally_after
room_commits base past k kept few room =
    let is = kept.commits in
    let most = count_by-le-length (λ e. is_commit (content_of e)) past in
    omega arith

-- ---- before the first entry

later_none : (o : Option ℕ) → later_or o None ≡ o
later_none None = refl
later_none (Some n) = refl

no_more : (n : ℕ) → n ≡ n + 0
no_more n = omega arith

pub kept_before : (base : Tally) (k : Kept) → IsKeptOf base k → IsKeptOf (tally_after base []) k
unfolding tally_after
kept_before base k kept = record {
  sends = λ n below. kept.sends n below ∙ no_more (base.sends n);
  acked = kept.acked;
  oldest = λ n below. kept.oldest n below ∙ sym (later_none (base.oldest n));
  commits = kept.commits ∙ no_more base.commits;
  in_force = kept.in_force;
  last = kept.last;
}

-- where nothing was counted, there is room
pub no_counts : (k : Kept) → IsKeptOf nothing_yet k → HasRoom k
no_counts k kept = record {
  sends = λ n below. let is = kept.sends n below in omega (arith, is);
  commits = let is = kept.commits in omega (arith, is);
}

next_by : (seq : ℕ) (cause : Option Cause) (b : Bool) → cond b (wrong_by seq cause) [] ≡ wrong_by seq (cond b cause None)
next_by seq cause true = refl
next_by seq cause false = refl

-- the wrong entries with one entry more
pub one_told_more : (files : List Numbers) (base : Base) (period : Period) (first : ℕ) (past : List LogEntry) (e : LogEntry) (state : List Row) (seq : ℕ) (cause : Option Cause) (old new : List WrongEntry)
    → seq ≡ first + length past → state ≡ rows_after base.rows past
    → cause ≡ cause_within period files (tally_after base.tally past) state seq e
    → new ≡ old ++ wrong_by seq cause → old ≡ wrong_entries files base period first past
    → new ≡ wrong_entries files base period first (past ++ e ∷ [])
one_told_more files base period first past e state seq cause old new number routes is written before =
    let by_rows : cause ≡ cond (is_within period e.time) (cause_after files base past (first + length past) e) None =
    is ∙ (λ i. cond (is_within period e.time) (cause_of files (tally_after base.tally past) (routes i) (number i) e) None) in
    written ∙ ((λ i. before i ++ wrong_by (number i) (by_rows i))
    ∙ (ap (λ (l : List WrongEntry). wrong_entries files base period first past ++ l) (sym (next_by (first + length past) (cause_after files base past (first + length past) e) (is_within period e.time)))
    ∙ sym (one_wrong_more files base period first past e)))
