use Rattle.std.proofs.Common.{sym, ap, ap₂, ◌∙◌, ◌≡◌, ◌++◌, ◌∷◌, [], map, cond, append-nil, take_all}
use Rattle.clap.specs.Words.{app_of, with_rule}
use Rattle.nr_words.specs.Grammar.{app_with, files_rule, option_rule}
use Rattle.nr_words.specs.Views.{option_of}
use Rattle.nr_words.proofs.GrammarLemmas.{more}
use Rattle.nr_words.proofs.command.command_of.Goals as goal
use Rattle.nr_words.proofs.command.command_of.Goals.{then-grammar+in_ok-command-2, else-grammar}

pub loop-option-preserved : goal.loop-option-preserved
loop-option-preserved c =
    c.in_ok-command.ensures.shape c.option_argument.ensures.local ∙ ap₂ with_rule c.loop-option.invariant c.option_argument.ensures.rule
    ∙ ap (app_with c.args.grammar.now.command.now) (sym (more option_rule option_of c.args.grammar.now.options.now c.loop-option.option-index _ c.loop-option-test.true))

pub returns : goal.returns
returns c =
    let g = c.args.grammar.now in
    let options = map option_rule (map option_of g.options.now) in
    let all : app_of c.loop-option.command ≡ app_with g.command.now options
    = c.loop-option.invariant ∙ ap (λ os. app_with g.command.now (map option_rule (map option_of os))) (take_all _ g.options.now c.loop-option-test.false) in
    elim c.if-grammar.branch [
      | then-grammar+in_ok-command-2 w ↦
          ap app_of w.command-is ∙ w.in_ok-command-2.ensures.shape w.files_argument.ensures.local ∙ ap₂ with_rule all w.files_argument.ensures.rule
          ∙ sym (ap (λ b. app_with g.command.now (options ++ cond b (files_rule ∷ []) [])) w.if-grammar.true)
      | else-grammar w ↦
          ap app_of w.command-is ∙ all ∙ ap (app_with g.command.now) (sym (append-nil options))
          ∙ sym (ap (λ b. app_with g.command.now (options ++ cond b (files_rule ∷ []) [])) w.if-grammar.false)
    ]
