-- What it means that a token is the first that the grammar refuses.
use Rattle.std.specs.Prelude.{◌≡◌, ℕ, List, ◌∷◌, ◌++◌}
use Rattle.nr_spec_rules.specs.Tokens.{Token, tokens_of}
use Rattle.nr_rule_syntax.specs.declared.tree.File.{File}
use Rattle.nr_laws_rules.specs.Grammar.{IsFile}

-- What stands before it can be continued: another text begins with these tokens, and is a file. What ends with it
-- can't, by any tokens.
pub record IsRefusedAt (ts : List Token) (refused : Token) : Type 0 where
  pub before : List Token
  pub behind : List Token
  pub split : ts ≡ before ++ refused ∷ behind
  pub can_go_on : (other : List ℕ) × (more : List Token) × (tokens_of other ≡ before ++ more)
      × (file : File) × IsFile (before ++ more) file
  pub cannot_go_on : (more : List Token) (file : File) → IsFile (before ++ refused ∷ more) file → ⊥
