use Rattle.std.proofs.Common.{sym, ap, ap₂, ◌∙◌, ◌∷◌, [], ◌++◌, option_map, map}
use Rattle.std.proofs.lemmas.List.{map-append}
use Rattle.clap.specs.Words.{first_of, found_of, rows_of}
use Rattle.clap.proofs.WalkLemmas.{first_value-rows}
use Rattle.nr_words.specs.Views.{option_of}
use Rattle.nr_words.proofs.GrammarLemmas.{more}
use Rattle.nr_words.proofs.reading.options_in.Goals as goal

pub loop-option-preserved : goal.loop-option-preserved
loop-option-preserved c =
    let rows = rows_of (found_of c.args.matches.now) in
    ap (map (option_map (λ s. s.now))) c.in_ok-push.ensures.items ∙ map-append (option_map (λ s. s.now)) c.loop-option.values.items (c.get_str.result ∷ [])
    ∙ ap₂ (λ xs x. xs ++ x ∷ []) c.loop-option.invariant (c.get_str.ensures ∙ first_value-rows (found_of c.args.matches.now) _)
    ∙ sym (more (λ o. first_of o.name rows) option_of c.args.options.now c.loop-option.option-index _ c.loop-option-test.true)
