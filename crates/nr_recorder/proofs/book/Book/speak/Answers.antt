use Rattle.std.proofs.Common.{◌++◌, ◌+◌, length, ap, ◌∙◌}
use Rattle.std.specs.Prelude.{option_map}
use Rattle.std.proofs.lemmas.List.{append_assoc}
use Rattle.std.proofs.lemmas.Result.{IfOk-weaker}
use Rattle.nr_entry.specs.Views.{content_view}
use Rattle.nr_spec_steps.specs.Steps.{commits_to}
use Rattle.nr_recorder.specs.Speaking.{ending}
use Rattle.nr_recorder.proofs.book.Book.speak.Goals as goal

pub returns : goal.returns
returns c =
    let after = c.args.leaf + length c.args.heads.now in
    let content = option_map content_view c.args.content.now in
    let commits = commits_to c.args.now c.args.leaf c.args.heads.now in
    IfOk-weaker c.end.result _ _ (λ book h.
    h ∙ ap (λ l. l ++ ending l c.args.now after content) c.in_ok-book.ensures.entries
    ∙ append_assoc c.args.self commits (ending (c.args.self ++ commits) c.args.now after content)) c.end.ensures
