use Rattle.std.proofs.Common.{None, Some, sym, ap, ◌∙◌}
use Rattle.std.specs.Prelude.{option_map}
use Rattle.nr_words.specs.Views.{given_by}
use Rattle.nr_spec_commands.specs.Words.{Verify, verify_grammar, verify_in}
use Rattle.nr_requests.specs.Views.{verify_request_of}
use Rattle.nr_requests.proofs.AskedLemmas.{asked_for, is_asked}
use Rattle.nr_requests.proofs.request.verify_words.Goals as goal

pub returns-in_default : goal.returns-in_default
returns-in_default c = is_asked Verify verify_in verify_grammar None _ (ap (option_map given_by) (sym c.in_default.is) ∙ c.in_ok-values.ensures)

pub returns-in-None : goal.returns-in-None
returns-in-None c =
    ap (asked_for Verify) (ap (option_map verify_request_of) (sym c.in-None.is) ∙ c.verify_from.ensures)
    ∙ is_asked Verify verify_in verify_grammar (Some (given_by c.in-Some.values)) _ (ap (option_map given_by) (sym c.in-Some.is) ∙ c.in_ok-values.ensures)

pub returns : goal.returns
returns c =
    ap (asked_for Verify) (ap (option_map verify_request_of) (sym c.in-Some-verify_from.is) ∙ c.verify_from.ensures)
    ∙ is_asked Verify verify_in verify_grammar (Some (given_by c.in-Some.values)) _ (ap (option_map given_by) (sym c.in-Some.is) ∙ c.in_ok-values.ensures)
