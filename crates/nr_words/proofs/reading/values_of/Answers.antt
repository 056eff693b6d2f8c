use Rattle.std.proofs.Common.{ap, ◌∙◌, Some, inl, inr}
use Rattle.clap.specs.Words.{app_of, found_of, kind_of, rows_of}
use Rattle.nr_words.specs.Views.{grammar_of}
use Rattle.nr_words.proofs.GrammarLemmas.{taken, refused}
use Rattle.nr_words.proofs.reading.values_of.Goals as goal

pub returns-in-Ok : goal.returns-in-Ok
returns-in-Ok c =
    ap Some c.in_ok-values_from-in-Ok.ensures
    ∙ taken (app_of c.in_ok-command.command) (grammar_of c.args.grammar.now) _ c.in_ok-command.ensures (rows_of (found_of c.in-Ok.matches)) c.in-Ok.ensures.kinds (λ s. (c.in-Ok.ensures.matches s).0)

pub returns : goal.returns
returns c =
    refused (app_of c.in_ok-command.command) (grammar_of c.args.grammar.now) _ c.in_ok-command.ensures (kind_of c.in-Err.error) (λ s. elim (c.in-Err.ensures.kinds s) [
      | inl memory ↦ absurd (c.in_default.not-OutOfMemory (c.kind.ensures ∙ memory))
      | inr among ↦ among
    ])
