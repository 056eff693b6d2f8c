-- The wrong entries of a slice, one entry after another.
use Rattle.std.proofs.Common.{◌≡◌, ◌≢◌, ◌==◌, ℕ, ◌+◌, Bool, true, false, cond, not, ◌&&◌, List, [], ◌∷◌, ◌++◌, append_assoc, Option, Some, None, length, refl, ap, sym, ◌∙◌, subst}
use Rattle.std.proofs.lemmas.Bool.{ne_eqb}
use Rattle.std.proofs.lemmas.List.{append-nil}
use Rattle.nr_spec_log.specs.Chain.{LogEntry}
use Rattle.nr_spec_history.specs.Conflicts.{Period}
use Rattle.nr_spec_entry.specs.Contents.{Content, promise_kind}
use Rattle.nr_spec_entry.specs.ContentReading.{content_of}
use Rattle.nr_spec_routes.specs.Keys.{Row}
use Rattle.nr_spec_routes.specs.Rows.{rows_after}
use Rattle.nr_spec_counts.specs.declared.cause.Cause.{Cause}
use Rattle.nr_spec_counts.specs.declared.cause.Cause.TheVariants as causes
use Rattle.nr_spec_counts.specs.Tallies.{Numbers, Tally, tally_after}
use Rattle.nr_spec_counts.specs.Causes.{cause_in, cause_of}
use Rattle.nr_spec_report.specs.Wrong.{Base, WrongEntry, cause_after, is_within, wrong_after, wrong_by, wrong_entries, wrong_next}

pub one_after : (files : List Numbers) (base : Base) (period : Period) (first : ℕ) (past es : List LogEntry) (e : LogEntry)
    → wrong_after files base period first past (es ++ e ∷ []) ≡ wrong_after files base period first past es ++ wrong_next files base period first (past ++ es) e
one_after files base period first past [] e =
    append-nil (wrong_next files base period first past e) ∙ ap (λ (l : List LogEntry). wrong_next files base period first l e) (sym (append-nil past))
one_after files base period first past (f ∷ es) e =
    let here = wrong_next files base period first past f in
    ap (λ (l : List WrongEntry). here ++ l) (one_after files base period first (past ++ f ∷ []) es e)
    ∙ (sym (append_assoc here (wrong_after files base period first (past ++ f ∷ []) es) (wrong_next files base period first ((past ++ f ∷ []) ++ es) e))
    ∙ ap (λ (l : List LogEntry). (here ++ wrong_after files base period first (past ++ f ∷ []) es) ++ wrong_next files base period first l e) (append_assoc past (f ∷ []) es))

pub one_wrong_more : (files : List Numbers) (base : Base) (period : Period) (first : ℕ) (past : List LogEntry) (e : LogEntry)
    → wrong_entries files base period first (past ++ e ∷ []) ≡ wrong_entries files base period first past ++ wrong_next files base period first past e
one_wrong_more files base period first past e = one_after files base period first [] past e

pub outside_is_untold : (files : List Numbers) (base : Base) (period : Period) (first : ℕ) (past : List LogEntry) (e : LogEntry)
    → is_within period e.time ≡ false → wrong_next files base period first past e ≡ []
outside_is_untold files base period first past e outside =
    ap (λ b. cond b (wrong_by (first + length past) (cause_after files base past (first + length past) e)) []) outside

first_by : (files : List Numbers) (t : Tally) (rows : List Row) (time kind : ℕ) (content : Content) → (kind == promise_kind) ≡ false
    → cause_in files t rows 1 time kind (Some content) ≡ Some causes.First
unfolding cause_in
first_by files t rows time kind content other = rw other refl

pub first_is_promise : (files : List Numbers) (base : Base) (e : LogEntry) (content : Content)
    → content_of e ≡ Some content → e.kind ≢ promise_kind → cause_after files base [] 1 e ≡ Some causes.First
first_is_promise files base e content is other =
    ap (cause_in files (tally_after base.tally []) (rows_after base.rows []) 1 e.time e.kind) is
    ∙ first_by files (tally_after base.tally []) (rows_after base.rows []) e.time e.kind content (ne_eqb e.kind promise_kind other)

no_content : (files : List Numbers) (t : Tally) (rows : List Row) (seq time kind : ℕ) → cause_in files t rows seq time kind None ≡ Some causes.Content
unfolding cause_in
no_content files t rows seq time kind = refl

pub outside_the_grammar : (files : List Numbers) (base : Base) (past : List LogEntry) (seq : ℕ) (e : LogEntry)
    → content_of e ≡ None → cause_after files base past seq e ≡ Some causes.Content
outside_the_grammar files base past seq e is =
    ap (cause_in files (tally_after base.tally past) (rows_after base.rows past) seq e.time e.kind) is
    ∙ no_content files (tally_after base.tally past) (rows_after base.rows past) seq e.time e.kind
