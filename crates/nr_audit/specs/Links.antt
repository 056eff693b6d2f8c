-- How far a walk along the chain has come.
use Rattle.std.specs.Prelude.{◌≡◌, ℕ, List, ◌++◌}
use Rattle.nr_spec_log.specs.Authenticator.{Authenticator}
use Rattle.nr_spec_log.specs.Chain as chain
use Rattle.nr_audit.specs.declared.links.Links as declared
use Rattle.nr_audit.specs.Slots.{AreNoted}

-- The links of the entries so far, with those of the entries that are left, are all; and the value after the entries
-- that are left is the last.
pub record Links (auths : List Authenticator) (all : List chain.Link) (value : List ℕ) (rest : List chain.LogEntry)
    (l : declared.Links) : Type 0 where
  pub so_far : List chain.Link
  pub joined : so_far ++ chain.links_of l.walk rest ≡ all
  pub noted : AreNoted auths so_far l.slots.links.entries
  pub last : chain.value_after l.walk rest ≡ value
