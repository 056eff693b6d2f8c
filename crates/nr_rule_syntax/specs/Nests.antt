-- A function value that reads what stands inside a level of nesting.
use Rattle.std.specs.Prelude.{ℕ, List, Result, IfOk}
use Rattle.std.specs.declared.alloc.Global.{Global}
use denote.Ref.{MutBor}
use Rattle.nr_spec_rules.specs.Tokens.{Token}
use Rattle.nr_rule_syntax.specs.declared.tree.Form.{Form}
use Rattle.nr_rule_syntax.specs.declared.formula.Level.{Level}
use Rattle.nr_rule_syntax.specs.declared.fault.ParseError.{ParseError}
use Rattle.nr_rule_syntax.specs.Views.{Reads, AreNoMore}
use Rattle.nr_rule_syntax.specs.Reading.{inside}
use Rattle.nr_rule_syntax.specs.Nesting.{IsInside}

-- what a call of the function value takes and answers
abbrev pub Pre : Type 1
Pre = Global → MutBor (List Token) → ℕ → Level → Type 0

abbrev pub Post : Type 1
Post = Global → MutBor (List Token) → ℕ → Level → Result Form ParseError → MutBor (List Token) → Type 0

pub record Nests (levels : ℕ) (pre : Pre) (post : Post) : Type 0 where
  pub callable : (alloc : Global) (old : MutBor (List Token)) (level : Level) → pre alloc old levels level
  pub reads : (alloc : Global) (old new : MutBor (List Token)) (level : Level) (r : Result Form ParseError)
      → post alloc old levels level r new → Reads r new.now (inside levels level old.now)
  pub onward : (alloc : Global) (old new : MutBor (List Token)) (level : Level) (r : Result Form ParseError)
      → post alloc old levels level r new → AreNoMore old.now new.now
  pub nests : (alloc : Global) (old new : MutBor (List Token)) (level : Level) (r : Result Form ParseError)
      → post alloc old levels level r new → IfOk r (IsInside levels level)
