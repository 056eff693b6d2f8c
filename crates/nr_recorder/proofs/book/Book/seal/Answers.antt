use Rattle.std.proofs.Common.{◌++◌, ◌∷◌, [], ap, ◌∙◌}
use Rattle.std.proofs.lemmas.List.{append_assoc}
use Rattle.std.proofs.lemmas.Result.{IfOk-weaker}
use Rattle.nr_spec_entry.specs.Contents.{Checkpoint, Commit, auditor}
use Rattle.nr_spec_steps.specs.Steps.{made}
use Rattle.nr_recorder.proofs.book.Book.seal.Goals as goal

pub returns : goal.returns
returns c =
    IfOk-weaker c.add-2.result _ _ (λ book h.
    h ∙ ap (λ l. l ++ made c.args.now (Commit auditor c.args.leaf) ∷ []) c.in_ok-book.ensures.entries
    ∙ append_assoc c.args.self (made c.args.now (Checkpoint c.body_digest-body.result.0) ∷ []) (made c.args.now (Commit auditor c.args.leaf) ∷ [])
    ∙ ap (λ d. c.args.self ++ made c.args.now (Checkpoint d) ∷ made c.args.now (Commit auditor c.args.leaf) ∷ []) c.body_digest-body.ensures) c.add-2.ensures.entries
