use Rattle.std.proofs.Common.{◌≡◌, ◌∙◌, ◌++◌, ap, sym, List, ℕ, ◌&&◌, not}
use Rattle.nr_spec_steps.specs.Steps.{is_due, neighbours_with, waits}
use Rattle.nr_events.specs.Views.{event_of}
use Rattle.nr_recorder.proofs.heads.heads_for.Goals as goal
use Rattle.nr_recorder.proofs.heads.heads_for.Goals.{then-is_close+in_ok-add_waiting, else-is_close}
use Rattle.nr_recorder.proofs.Waiting.{heads_at_close, heads_before}

pub returns : goal.returns
returns c = λ t kept.
    let due : c.add_due.new.heads.items ≡ neighbours_with (is_due t c.args.now) =
    c.in_ok-add_due.ensures t kept ∙ ap (λ (l : List ℕ). l ++ neighbours_with (is_due t c.args.now)) c.new-heads.ensures.items in
    elim c.if-is_close.branch [
      | then-is_close+in_ok-add_waiting w ↦
          (λ i. (w.heads-is i).items) ∙ w.in_ok-add_waiting.ensures t kept
          ∙ ap (λ (l : List ℕ). l ++ neighbours_with (λ n. waits t n && not (is_due t c.args.now n))) due
          ∙ heads_at_close t c.args.now (event_of c.args.event.now) (sym c.is_close.ensures ∙ w.if-is_close.true)
      | else-is_close w ↦ (λ i. (w.heads-is i).items) ∙ due ∙ heads_before t c.args.now (event_of c.args.event.now) (sym c.is_close.ensures ∙ w.if-is_close.false)
    ]
