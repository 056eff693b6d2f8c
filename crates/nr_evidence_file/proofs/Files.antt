-- The pieces of a file make the file, and its size is that of its pieces.
use Rattle.std.proofs.Common.{◌≡◌, ℕ, zero, suc, ◌+◌, ◌^◌, ◌<◌, ◌≤◌, List, [], ◌∷◌, ◌++◌, length, map, refl, sym, ap, ◌∙◌, append_assoc, arith}
use Rattle.std.specs.List.{flat_map}
use Rattle.std.proofs.lemmas.List.{length-append, length-map}
use Rattle.std.proofs.lemmas.List.Concat.{flat_map-cons}
use Rattle.byteorder.specs.Endian.{big_bytes}
use Rattle.nr_spec_history.specs.Conflicts.{Period}
use Rattle.nr_spec_log.specs.Authenticator.{Authenticator}
use Rattle.nr_spec_report.specs.Claims.{Claim, Conflict, Wrong, Broken}
use Rattle.nr_spec_evidence.specs.Evidence.{claim_bytes, evidence_back, evidence_file, evidence_front, most_evidence, sized}
use Rattle.nr_evidence.specs.declared.claim.Claim as declared
use Rattle.nr_evidence.specs.Views.{claim_of}
use Rattle.nr_evidence_file.specs.declared.writing.Parts.{Parts}
use Rattle.nr_evidence_file.specs.Writing.{ArePieces, evidence_text, middle_text, parts_of}

back_is : (promise : List ℕ) (period : Period) (claims : List Claim) → middle_text promise period (length claims) ++ flat_map claim_bytes claims ≡ evidence_back promise period claims
back_is promise period claims =
    let from = big_bytes 8 period.from in
    let to = big_bytes 8 period.to in
    let count = big_bytes 4 (length claims) in
    let text = flat_map claim_bytes claims in
    append_assoc (sized promise) (from ++ (to ++ count)) text
    ∙ ap (λ (t : List ℕ). sized promise ++ t) (append_assoc from (to ++ count) text ∙ ap (λ (t : List ℕ). from ++ t) (append_assoc to count text))

pub pieces_make : (parts : Parts) (answer promise : List ℕ) (period : Period) (claims : List Claim) → ArePieces parts answer promise period claims → parts_of parts answer ≡ evidence_text answer promise period claims
unfolding evidence_file
pieces_make parts answer promise period claims is =
    let pieces : parts_of parts answer ≡ evidence_front answer ++ (answer ++ (middle_text promise period (length claims) ++ flat_map claim_bytes claims)) =
    λ i. is.front i ++ (answer ++ (is.middle i ++ is.claims_are i)) in
    pieces ∙ ap (λ (t : List ℕ). evidence_front answer ++ (answer ++ t)) (back_is promise period claims)

pub size_is : (answer promise : List ℕ) (period : Period) (claims : List Claim) → length (evidence_text answer promise period claims) ≡ 32 + length answer + length promise + length (flat_map claim_bytes claims)
unfolding evidence_file
size_is answer promise period claims =
    let rest = big_bytes 8 period.from ++ (big_bytes 8 period.to ++ (big_bytes 4 (length claims) ++ flat_map claim_bytes claims)) in
    omega (arith, length-append answer (evidence_back promise period claims), length-append promise rest)

-- each claim takes a byte or more
claim_some : (c : Claim) → 1 ≤ length (claim_bytes c)
claim_some (Conflict auth) = omega arith
claim_some (Wrong seq cause) = omega arith
claim_some (Broken file promise prefix begin end) = omega arith

claims_some : (claims : List Claim) → length claims ≤ length (flat_map claim_bytes claims)
claims_some [] = omega arith
claims_some (c ∷ claims) =
    let split = ap length (flat_map-cons claim_bytes c claims) in
    omega (arith, split, length-append (claim_bytes c) (flat_map claim_bytes claims), claim_some c, claims_some claims)

pub few_claims : (claims : List declared.Claim) → length (flat_map claim_bytes (map claim_of claims)) ≤ most_evidence → length claims < 2 ^ 32
few_claims claims fits = omega (arith, claims_some (map claim_of claims), length-map claims claim_of, fits)
