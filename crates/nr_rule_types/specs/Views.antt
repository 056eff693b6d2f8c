-- What the typing of the code answers.
use Rattle.std.specs.Prelude.{◌≡◌, ℕ, Result, Ok, Err}
use Rattle.nr_spec_typing.specs.Steps.{◌<$>◌}
use Rattle.nr_rule_types.specs.declared.fault.TypeError.{TypeError}
use Rattle.nr_rule_types.specs.declared.fault.TypeError.TheVariants.{At, Memory}

-- a fault is at the place of the typing's; want of memory says nothing
abbrev pub Fails : {A : Type 0} → TypeError → Result A ℕ → Type 0
Fails (At place) typed = typed ≡ Err place.0
Fails Memory typed = Unit {0}

-- a result is what the typing gives, or the place of its first fault
abbrev pub Answers : {A : Type 0} → Result A TypeError → Result A ℕ → Type 0
Answers (Ok x) typed = typed ≡ Ok x
Answers (Err e) typed = Fails e typed

-- the same of what a function makes of the typing's value
abbrev pub AnswersBy : {A B : Type 0} → (A → B) → Result B TypeError → Result A ℕ → Type 0
AnswersBy f result typed = Answers result (f <$> typed)

-- the same where the value stands elsewhere
abbrev pub Gives : {A B : Type 0} → Result B TypeError → A → Result A ℕ → Type 0
Gives (Ok x) new typed = typed ≡ Ok new
Gives (Err e) new typed = Fails e typed
