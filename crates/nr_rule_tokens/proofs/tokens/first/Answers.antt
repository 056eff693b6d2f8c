use Rattle.std.proofs.Common.{◌≡◌, ◌≤◌, sym, ◌∙◌, arith, rules, false}
use Rattle.std.proofs.lemmas.List.{take_rest}
use Rattle.nr_spec_rules.specs.Tokens.{goes_on}
use Rattle.nr_rule_tokens.proofs.Front.{front_gap, token_view}
use Rattle.nr_rule_tokens.proofs.tokens.first.Goals as goal

pub gaps-preserved : goal.gaps-preserved
gaps-preserved c =
    let text = c.gaps.text.now in
    let moves : 1 ≤ c.in-Gap.width = grind arith in
    let goes = front_gap c.gaps.from c.in-Gap.width text (sym c.in-Gap.ensures.value) moves c.in-Gap.ensures.within in
    (rw (take_rest text c.in-Gap.width) (goes ∙ c.gaps.invariant.0), search rules)

pub returns-in-Token : goal.returns-in-Token
returns-in-Token c =
    let text = c.gaps.text.now in
    let last : c.in-Token.width ≡ 0 → goes_on c.in-Token.kind ≡ false = λ e. grind arith in
    token_view c.gaps.from c.in-Token.width c.in-Token.kind text _ _ (sym c.in-Token.ensures.value) last c.in-Token.ensures.within c.split_at.ensures.front c.split_at.ensures.back ∙ c.gaps.invariant.0
