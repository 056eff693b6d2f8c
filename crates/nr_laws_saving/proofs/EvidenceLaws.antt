-- Evidence that is written in its pieces.
use Rattle.std.proofs.Common.{◌≡◌, ℕ, ◌<◌, ◌≤◌, Bool, true, false, List, ◌++◌, length, Some, Result, Ok, Err, refl, ap, subst, ◌∙◌, inl, inr, ◌⊎◌, append_assoc}
use Rattle.std.specs.Prelude.{nat_lt, if◌then◌else◌}
use Rattle.std.specs.List.{concat, flat_map}
use Rattle.std.proofs.lemmas.List.{append-nil}
use Rattle.std.proofs.lemmas.Bool.{ltb-true, ltb-false}
use Rattle.byteorder.specs.Endian.{big_bytes}
use Rattle.nr_spec_plans.specs.Disk.{Disk, Told, Memory}
use Rattle.nr_spec_plans.specs.Plans.{Halt, Refuse, Refused, Faulted, Runs}
use Rattle.nr_spec_evidence.specs.Evidence.{EvidenceFile, claim_bytes, evidence_back, evidence_file, evidence_front, most_evidence, sized}
use Rattle.nr_spec_saving.specs.Saving.{TooLong, evidence_middle, evidence_parts, save_evidence, save_parts}
use Rattle.nr_laws_saving.proofs.PartLaws.{Goes, parts_saved, save_holds}
use Rattle.nr_laws_saving.proofs.LeftLaws.{IsLeft, save_leaves, save_stops}

middle_back : (e : EvidenceFile) → evidence_middle e ++ flat_map claim_bytes e.claims ≡ evidence_back e.promise e.period e.claims
middle_back e =
    let from = big_bytes 8 e.period.from in
    let to = big_bytes 8 e.period.to in
    let count = big_bytes 4 (length e.claims) in
    let text = flat_map claim_bytes e.claims in
    append_assoc (sized e.promise) (from ++ (to ++ count)) text
    ∙ ap (λ (t : List ℕ). sized e.promise ++ t) (append_assoc from (to ++ count) text ∙ ap (λ (t : List ℕ). from ++ t) (append_assoc to count text))

pub parts_join : (e : EvidenceFile) → concat (evidence_parts e) ≡ evidence_file e
unfolding evidence_parts evidence_file
parts_join e =
    let text = flat_map claim_bytes e.claims in
    ap (λ (t : List ℕ). evidence_front e.answer ++ (e.answer ++ t)) (ap (λ (t : List ℕ). evidence_middle e ++ t) (append-nil text) ∙ middle_back e)

-- ---- by whether it is too long

-- Evidence that fits has had its pieces saved, as far as the result says.
pub record Fits (name : List ℕ) (e : EvidenceFile) (old new : Disk) (result : Result (Unit {0}) (Halt TooLong)) : Type 0 where
  pub fits : length (evidence_file e) ≤ most_evidence
  pub runs : Runs (save_parts name (evidence_parts e)) old new result

-- Evidence that is too long has been refused, and nothing was done.
pub record Declined (e : EvidenceFile) (old new : Disk) (result : Result (Unit {0}) (Halt TooLong)) : Type 0 where
  pub long : most_evidence < length (evidence_file e)
  pub same : new ≡ old
  pub is : result ≡ Err (Refused (record { found = length (evidence_file e) }))

-- No memory was found, and nothing was done.
pub record Unfound (old new : Disk) (result : Result (Unit {0}) (Halt TooLong)) : Type 0 where
  pub same : new ≡ old
  pub is : result ≡ Err (Faulted Memory)

by_size : (long : Bool) (name : List ℕ) (e : EvidenceFile) (old new : Disk) (result : Result (Unit {0}) (Halt TooLong)) → nat_lt most_evidence (length (evidence_file e)) ≡ long
    → Runs (if long then Refuse (record { found = length (evidence_file e) }) else save_parts name (evidence_parts e)) old new result → Declined e old new result ⊎ Fits name e old new result
unfolding Runs
by_size true name e old new result is (same, said) = inl (record { long = ltb-true most_evidence (length (evidence_file e)) is; same = same; is = said })
by_size false name e old new result is runs = inr (record { fits = ltb-false most_evidence (length (evidence_file e)) is; runs = runs })

pub taken_apart : (name : List ℕ) (e : EvidenceFile) (old new : Disk) (result : Result (Unit {0}) (Halt TooLong)) → Runs (save_evidence name e) old new result → Unfound old new result ⊎ (Declined e old new result ⊎ Fits name e old new result)
unfolding Runs save_evidence
taken_apart name e old new result (inl (same, is)) = inl (record { same = same; is = is })
taken_apart name e old new result (inr runs) = inr (by_size (nat_lt most_evidence (length (evidence_file e))) name e old new result refl runs)

-- ---- what it leaves

pub evidence_fits : (name : List ℕ) (e : EvidenceFile) (old new : Disk) → Runs (save_evidence name e) old new (Ok tt) → Fits name e old new (Ok tt)
evidence_fits name e old new runs = elim (taken_apart name e old new (Ok tt) runs) [
  | inl unfound ↦ absurd (let is = unfound.is in cc)
  | inr (inl declined) ↦ absurd (let is = declined.is in cc)
  | inr (inr fits) ↦ fits
]

pub evidence_saved : (name : List ℕ) (e : EvidenceFile) (old new : Disk) (t : Told) → old.told ≡ Some t → Runs (save_evidence name e) old new (Ok tt) → Goes name (evidence_file e) t new
evidence_saved name e old new t told runs =
    let parts = evidence_parts e in
    subst (λ (bytes : List ℕ). Goes name bytes t new) (parts_join e) (save_holds name parts old new t told (parts_saved TooLong name parts old new (evidence_fits name e old new runs).runs))

not_begun : (name bytes : List ℕ) (old new : Disk) (t : Told) → old.told ≡ Some t → new ≡ old → IsLeft name bytes t new
not_begun name bytes old new t told same = record { now = t; told = ap (λ (d : Disk). d.told) same ∙ told; left = inl refl }

pub evidence_left : (name : List ℕ) (e : EvidenceFile) (old new : Disk) (t : Told) (result : Result (Unit {0}) (Halt TooLong)) → old.told ≡ Some t → Runs (save_evidence name e) old new result → IsLeft name (evidence_file e) t new
evidence_left name e old new t result told runs = elim (taken_apart name e old new result runs) [
  | inl unfound ↦ not_begun name (evidence_file e) old new t told unfound.same
  | inr (inl declined) ↦ not_begun name (evidence_file e) old new t told declined.same
  | inr (inr fits) ↦ subst (λ (bytes : List ℕ). IsLeft name bytes t new) (parts_join e) (save_leaves TooLong name (evidence_parts e) old new t result told fits.runs)
]

-- Saving pieces refuses nothing.
save_refuses : (name : List ℕ) (parts : List (List ℕ)) (old new : Disk) (refusal : TooLong) → Runs (save_parts name parts) old new (Err (Refused refusal)) → ⊥
save_refuses name parts old new refusal runs = elim (save_stops TooLong name parts old new (Refused refusal) runs) [
  | inl is ↦ absurd cc
  | inr is ↦ absurd cc
]

found_is : (a b : TooLong) (result : Result (Unit {0}) (Halt TooLong)) → result ≡ Err (Refused a) → result ≡ Err (Refused b) → a.found ≡ b.found
found_is a b result is at = let same : a ≡ b = cc in ap (λ (r : TooLong). r.found) same

pub evidence_declined : (name : List ℕ) (e : EvidenceFile) (old new : Disk) (refusal : TooLong) → Runs (save_evidence name e) old new (Err (Refused refusal)) → (refusal.found ≡ length (evidence_file e)) × (most_evidence < length (evidence_file e)) × (new ≡ old)
evidence_declined name e old new refusal runs = elim (taken_apart name e old new (Err (Refused refusal)) runs) [
  | inl unfound ↦ absurd (let is = unfound.is in cc)
  | inr (inl declined) ↦ (found_is refusal (record { found = length (evidence_file e) }) (Err (Refused refusal)) refl declined.is, declined.long, declined.same)
  | inr (inr fits) ↦ absurd (save_refuses name (evidence_parts e) old new refusal fits.runs)
]
