-- What this crate's types stand for in the definitions.
use Rattle.nr_spec_log.specs.Authenticator.{Signature}
use Rattle.nr_merkle.specs.declared.sig.Sig.{Sig}

-- a signature without where it lies in memory
abbrev pub signature_of : Sig → Signature
signature_of s = record { leaf = s.leaf; height = s.height; pairs = s.pairs.now; path = s.path.now }
