-- A file of authenticators that holds the one of a claim alone.
use Rattle.std.specs.Prelude.{ℕ, [], ◌∷◌, List}
use Rattle.nr_spec_log.specs.Authenticator.{Authenticator}
use Rattle.nr_spec_report.specs.Claims.{Broken, Claim, Conflict, Wrong}

abbrev pub alone : Claim → List Authenticator
alone (Conflict auth) = auth ∷ []
alone (Wrong seq cause) = []
alone (Broken file promise prefix begin end) = []
