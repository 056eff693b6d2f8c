-- What an audit claims of a network.
use Rattle.std.specs.Prelude.{ℕ}
use Rattle.nr_spec_bgp.specs.Prefixes.{Cidr}
use Rattle.nr_spec_log.specs.Authenticator.{Authenticator}

pub data Claim : Type 0 where
  -- no entry of the answer is the one that this authenticator states
  Conflict : (auth : Authenticator) → Claim
  -- the entry of this number is wrong, by the number of its cause
  Wrong : (seq : ℕ) (cause : ℕ) → Claim
  -- a promise of a file is broken for a prefix, from one time to another
  Broken : (file : ℕ) (promise : ℕ) (prefix : Cidr) (begin : ℕ) (end : ℕ) → Claim
