use Rattle.std.proofs.Common.{sym, ap, ◌∙◌, [], map, cond, unwrap_or}
use Rattle.clap.specs.Words.{all_of, found_of, rows_of}
use Rattle.clap.proofs.WalkLemmas.{raw_values-rows}
use Rattle.nr_words.specs.Grammar.{files_id}
use Rattle.nr_words.proofs.reading.files_in.Goals as goal

pub returns-in_ok-to_vec-in-Some : goal.returns-in_ok-to_vec-in-Some
returns-in_ok-to_vec-in-Some c =
    let f = found_of c.args.matches.now in
    ap (map (λ s. s.now)) (c.in_ok-to_vec-in-Some.ensures.items_if_clones_equal (λ x y e. e))
    ∙ ap (λ o. unwrap_or o []) (c.in-Some.ensures ∙ raw_values-rows f files_id)
    ∙ sym (ap (λ b. cond b (unwrap_or (all_of files_id (rows_of f)) []) []) c.if-not-grammar.false)

pub returns-in-None : goal.returns-in-None
returns-in-None c =
    let f = found_of c.args.matches.now in
    ap (map (λ s. s.now)) c.new-in-None.ensures.items
    ∙ ap (λ o. unwrap_or o []) (c.in-None.ensures ∙ raw_values-rows f files_id)
    ∙ sym (ap (λ b. cond b (unwrap_or (all_of files_id (rows_of f)) []) []) c.if-not-grammar.false)
