-- The bytes that an authenticator is read from are its spelling.
use Rattle.std.proofs.Common.{◌≡◌, ℕ, ◌-◌, List, length, take, Option, Ok, refl, ap, ◌∙◌, arith}
use Rattle.std.proofs.lemmas.List.{take_at, length-append}
use Rattle.nr_spec_wire.specs.Reading.{Spot, IsBytes, between}
use Rattle.nr_spec_log.specs.Authenticator.{Authenticator, Head, authenticator, wanted_at}
use Rattle.nr_laws_log.proofs.AuthenticatorLaws.{wanted_takes}

pub spelled : (head : Option Head) (s : Spot) (a : Authenticator) (new : Spot) → IsBytes s.rest → wanted_at head s ≡ Ok (a, new) → between s new ≡ authenticator a
spelled head s a new fits e =
    let t = (wanted_takes head s a new fits e).1 in
    let n : length s.rest - length new.rest ≡ length (authenticator a) = omega (arith, ap length t.parts, length-append (authenticator a) new.rest) in
    ap (λ (k : ℕ). take k s.rest) n ∙ ap (λ (r : List ℕ). take (length (authenticator a)) r) t.parts ∙ take_at (authenticator a) new.rest (length (authenticator a)) refl
