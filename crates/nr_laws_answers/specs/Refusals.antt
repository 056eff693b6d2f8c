-- What an answer is refused for by itself, whatever the promise files and the period.
use Rattle.std.specs.Prelude.{Err, Ok, Result, ⊤}
use Rattle.nr_spec_outcome.specs.Report.{Report}
use Rattle.nr_spec_outcome.specs.Outcome.{Fact, Form, Head, Network, Promise, Short, Unsigned}

-- It isn't refused for its first entry, nor for its head's signature or hash.
abbrev pub IsNotOfItself : Result Report Fact → Type 0
IsNotOfItself (Ok report) = ⊤
IsNotOfItself (Err Form) = ⊥
IsNotOfItself (Err (Network found wanted)) = ⊤
IsNotOfItself (Err Unsigned) = ⊥
IsNotOfItself (Err (Head head chain)) = ⊥
IsNotOfItself (Err (Short head to)) = ⊤
IsNotOfItself (Err (Promise found file)) = ⊤
