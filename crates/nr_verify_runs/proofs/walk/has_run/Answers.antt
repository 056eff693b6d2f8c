use Rattle.std.proofs.Common.{◌≡◌, List, ◌∷◌, ap, sym, subst, ◌∙◌, rules}
use Rattle.nr_chain.specs.Views.{entry_of}
use Rattle.nr_spec_log.specs.Chain.{LogEntry}
use Rattle.nr_spec_report.specs.Wrong.{nothing_before}
use Rattle.nr_spec_promises.specs.Files.{file_with, first_promised}
use Rattle.nr_verify_runs.specs.Views.{charge_of, files_in}
use Rattle.nr_verify_runs.specs.Walked.{Walks}
use Rattle.nr_verify_runs.proofs.Walking.{walks_more, walks_new}
use Rattle.nr_verify_runs.proofs.walk.has_run.Goals as goal

pub loop-entry-init : goal.loop-entry-init
loop-entry-init c =
    let charge = charge_of (first_promised c.args.entries) c.args.charge.now in
    let file = c.first_file-file.ensures ∙ ap (λ (es : List LogEntry). file_with (files_in c.args.charge.now.texts.now) (first_promised es)) c.fork.ensures in
    let same : c.into_iter-entry-iterator.result ≡ c.args.entries = search rules in
    record {
      walks = subst (λ (es : List LogEntry). Walks charge c.args.entries es c.new-walk.result) (sym same)
          (walks_new charge c.args.entries c.new-walk.result (c.new-walk.ensures.walked charge file) c.new-walk.ensures.begun c.requires.order);
      span = c.new-walk.ensures.span;
    }

pub loop-entry-preserved : goal.loop-entry-preserved
loop-entry-preserved c =
    let first = first_promised c.args.entries in
    let charge = charge_of first c.args.charge.now in
    let w : Walks charge c.args.entries (entry_of c.in-Some.entry ∷ c.next.new.self) c.loop-entry.walk = rw c.in-Some.ensures.steps at c.loop-entry.invariant.walks in
    record {
      walks = walks_more charge c.args.entries c.next.new.self (entry_of c.in-Some.entry) c.loop-entry.walk c.take.new.self w
          (λ past walked late. c.in_ok-take.ensures.walked nothing_before first past walked late) c.in_ok-take.ensures.begun;
      span = c.in_ok-take.ensures.span ∙ c.loop-entry.invariant.span;
    }
