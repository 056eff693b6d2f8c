use Rattle.std.proofs.Common.{◌∙◌, [], ap, sym, unwrap_or}
use Rattle.nr_laws_words.proofs.Theorem.{given}
use Rattle.nr_laws_words.proofs.words.words_give_once.Goals as goal

pub returns : goal.returns
returns c = λ g words one other clear a b. ap (λ v. unwrap_or v one) (sym (given g clear [] words one a) ∙ given g clear [] words other b)
