-- What decoding gives.
use Rattle.std.proofs.Common.{◌≡◌, ℕ, ◌<◌, ◌^◌, List, Result, Ok, Err, refl, subst, sym, arith}
use Rattle.std.specs.Prelude.{IfOk}
use Rattle.nr_spec_wire.specs.Reading.{IsBytes}
use Rattle.nr_spec_routes.specs.Keys.{AreAscending, Row}
use Rattle.nr_spec_counts.specs.Tallies.{Tally}
use Rattle.nr_spec_counts.specs.Bodies.{checkpoint_body}
use Rattle.nr_spec_report.specs.Wrong.{Base}
use Rattle.nr_spec_bodies.specs.Reading.{base_of}
use Rattle.nr_laws_bodies.proofs.Body.{base_takes}
use Rattle.nr_discipline.specs.declared.decoding.DecodeError.{DecodeError}
use Rattle.nr_discipline.specs.declared.decoding.DecodeError.TheVariants.{At, Memory}
use Rattle.nr_discipline.specs.Decoded.{Answered, AreDecoded, HasRoom, base_view, tally_of}
use Rattle.nr_discipline.specs.Kept.{IsKeptOf, Kept}
use Rattle.nr_discipline.proofs.KnownRead.{kept_of}

pub decoded : (r : Result (List Row × Kept) DecodeError) (read : Result Base ℕ) → Answered base_view r read → AreDecoded r read
decoded (Ok found) read h = (base_view found, h, refl, kept_of found.1)
decoded (Err (At place)) read h = h
decoded (Err Memory) read h = tt

pub encodes_again : (body : List ℕ) (r : Result (List Row × Kept) DecodeError) → IsBytes body → Answered base_view r (base_of body)
    → IfOk r (λ found. (t : Tally) × IsKeptOf t found.1 × (checkpoint_body t found.0 ≡ body))
encodes_again body (Ok found) fits h = (tally_of found.1, kept_of found.1, (base_takes body (base_view found) fits h).1)
encodes_again body (Err e) fits h = tt

pub in_order : (body : List ℕ) (r : Result (List Row × Kept) DecodeError) → IsBytes body → Answered base_view r (base_of body) → IfOk r (λ found. AreAscending found.0)
in_order body (Ok found) fits h = (base_takes body (base_view found) fits h).0.rows.order
in_order body (Err e) fits h = tt

pub has_room : (body : List ℕ) (r : Result (List Row × Kept) DecodeError) → IsBytes body → Answered base_view r (base_of body) → IfOk r (λ found. HasRoom found.1)
has_room body (Ok found) fits h =
    let is = (base_takes body (base_view found) fits h).0.tally in
    let kept = kept_of found.1 in
    record {
      sends = λ n below. let most = is.sends n in let same = kept.sends n below in subst (λ m. m < 2 ^ 63) (sym same) (omega (arith, most));
      commits = let most = is.commits in omega (arith, most);
    }
has_room body (Err e) fits h = tt
