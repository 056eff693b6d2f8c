-- Values that may be absent, one after another.
use Rattle.std.specs.Prelude.{Option, None, Some}

-- one step after another: what isn't there ends them
infixl 10 ◌>>=◌
abbrev pub ◌>>=◌ : {A B : Type 0} → Option A → (A → Option B) → Option B
None >>= f = None
(Some x) >>= f = f x
