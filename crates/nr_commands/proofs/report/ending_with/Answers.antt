use Rattle.std.proofs.Common.{ℕ, List, length, sym, ap, ◌∙◌}
use Rattle.std.proofs.lemmas.List.{nil_from_length}
use Rattle.std.proofs.lemmas.Bool.{eqb-true, eqb-false}
use Rattle.nr_spec_program.specs.Command.{Ending}
use Rattle.nr_commands.proofs.ReportLemmas.{clean_report, full_report}
use Rattle.nr_commands.proofs.report.ending_with.Goals as goal

abbrev with_text : List ℕ → Ending
with_text text = record { status = 0; text = text }

pub returns-then-is_empty : goal.returns-then-is_empty
returns-then-is_empty c = λ promises report e.
    let none = sym (ap length c.as_slice.ensures.value) ∙ eqb-true _ _ (sym c.is_empty.ensures ∙ c.if-is_empty.true) in
    ap with_text (ap (λ v. v.items) c.into_bytes.ensures.value ∙ c.in_ok-from_str.ensures.ok) ∙ clean_report promises report (sym (nil_from_length c.args.lines.items none) ∙ e)

pub returns : goal.returns
returns c = λ promises report e.
    full_report promises c.args.lines.items report
    (λ nil. eqb-false _ _ (sym c.is_empty.ensures ∙ c.if-is_empty.false) (ap length (c.as_slice.ensures.value ∙ nil))) e
