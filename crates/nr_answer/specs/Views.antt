-- What this crate's types stand for in the definitions.
use Rattle.std.specs.Prelude.{Option, None, Some}
use Rattle.nr_spec_log.specs.Authenticator.{Authenticator, Head}
use Rattle.nr_merkle.specs.Views.{signature_of}
use Rattle.nr_answer.specs.declared.auth.Auth as declared_auth
use Rattle.nr_answer.specs.declared.statement.Statement as declared_statement
use Rattle.nr_answer.specs.declared.statement.Wanted as declared_wanted

-- an authenticator as its fields
abbrev pub auth_of : declared_auth.Auth → Authenticator
auth_of a = record { asn = a.asn; seq = a.seq; time = a.time; hash = a.hash.0; sig = signature_of a.sig }

abbrev pub statement_of : declared_statement.Statement → Authenticator
statement_of a = record { asn = a.asn; seq = a.seq; time = a.time; hash = a.hash.0; sig = signature_of a.sig }

-- the entry that a head has to speak of
abbrev pub wanted_of : Option declared_wanted.Wanted → Option Head
wanted_of None = None
wanted_of (Some w) = Some (record { asn = w.asn; seq = w.seq; time = w.time })
