-- What the words of the command line ask for, by the items that they are.
use Rattle.std.specs.Prelude.{◌≡◌, ◌∷◌, ℕ, List, Option, Some}
use Rattle.nr_words.specs.Grammar.{Grammar, Values}
use Rattle.nr_spec_commands.specs.Words.{Request, Answer, Audit, Check, Collect, Keygen, Record, Verify, answer_grammar, answer_in, audit_grammar, audit_in, check_grammar, check_in, collect_grammar, collect_in, keygen_grammar, keygen_in, record_grammar, record_in, verify_grammar, verify_in}
use Rattle.nr_laws_words.specs.Pairs.{Gives}

-- The words are the command word and items, whose values are read as what the command is asked for.
pub record AsksBy {A : Type 0} (g : Grammar) (read : Values → Option A) (words : List (List ℕ)) (asked : A)
    : Type 0 where
  pub others : List (List ℕ)
  pub values : Values
  pub command : words ≡ g.command ∷ others
  pub gives : Gives g others values
  pub reads : read values ≡ Some asked

abbrev pub Asks : List (List ℕ) → Request → Type 0
Asks words (Audit q) = AsksBy audit_grammar audit_in words q
Asks words (Keygen q) = AsksBy keygen_grammar keygen_in words q
Asks words (Check q) = AsksBy check_grammar check_in words q
Asks words (Record q) = AsksBy record_grammar record_in words q
Asks words (Answer q) = AsksBy answer_grammar answer_in words q
Asks words (Verify q) = AsksBy verify_grammar verify_in words q
Asks words (Collect q) = AsksBy collect_grammar collect_in words q
