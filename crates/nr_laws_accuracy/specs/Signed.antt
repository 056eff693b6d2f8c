-- Authenticators that a log signs.
use Rattle.std.specs.Prelude.{◌++◌, ◌≡◌, ◌∷◌, List}
use Rattle.nr_spec_log.specs.Chain.{LogEntry}
use Rattle.nr_spec_log.specs.Authenticator.{Authenticator, signed_body}
use Rattle.nr_spec_keys.specs.Trees.{signature_by}
use Rattle.nr_spec_history.specs.KeyFiles.{Key}
use Rattle.nr_spec_steps.specs.Heads.{SignedHead, signed_heads}

-- its body is among those that the COMMITs of the log sign, and it is signed with the leaf of that COMMIT
pub record IsSignedIn (key : Key) (log : List LogEntry) (a : Authenticator) : Type 0 where
  pub earlier : List SignedHead
  pub head : SignedHead
  pub later : List SignedHead
  pub among : signed_heads key.asn log ≡ earlier ++ head ∷ later
  pub body : signed_body a ≡ head.body
  pub sig : a.sig ≡ signature_by key.seed key.height head.leaf head.body
