use Rattle.std.proofs.Common.{◌∙◌, ap, sym, subst, List, Some, None}
use Rattle.nr_spec_log.specs.Chain.{LogEntry}
use Rattle.nr_spec_starts.specs.Starts.{answer_at}
use Rattle.nr_recorder.specs.Answering.{Answers}
use Rattle.nr_recorder.proofs.recorder.Core.answer.Goals as goal
use Rattle.nr_recorder.proofs.Behind.{up_to}

pub returns-in_default : goal.returns-in_default
returns-in_default c = up_to c.args.self.now.key c.args.self.now.log c.args.start c.head.result None c.head.ensures.value c.in_default.is

pub returns : goal.returns
returns c =
    subst (Answers (λ out. out.items) c.answer_of.result)
    (ap (λ (l : List LogEntry). answer_at c.args.self.now.key l c.args.start) c.in_ok-entries.ensures.entries
    ∙ sym (up_to c.args.self.now.key c.args.self.now.log c.args.start c.head.result (Some c.in-Some.last) c.head.ensures.value c.in-Some.is))
    c.answer_of.ensures
