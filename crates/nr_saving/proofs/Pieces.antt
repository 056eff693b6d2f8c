-- Evidence whose pieces are made and written, or aren't.
use Rattle.std.proofs.Common.{◌≡◌, ℕ, ◌≤◌, List, [], ◌∷◌, length, Result, Err, refl, ap, subst, inl, inr}
use Rattle.std.specs.List.{flat_map}
use Rattle.std.proofs.lemmas.Bool.{le-ltb, lt-ltb}
use Rattle.nr_spec_plans.specs.Disk.{Disk}
use Rattle.nr_spec_plans.specs.Plans.{Halt, Faulted, Refused, Runs}
use Rattle.nr_spec_evidence.specs.Evidence.{EvidenceFile, claim_bytes, evidence_file, evidence_front, most_evidence}
use Rattle.nr_spec_saving.specs.Saving as saving
use Rattle.nr_spec_saving.specs.Saving.{evidence_middle, evidence_parts, save_evidence, save_parts}
use Rattle.nr_ports.specs.Views.{write_fault_of}
use Rattle.nr_ports.specs.declared.fault.WriteFault.{WriteFault}
use Rattle.nr_ports.specs.declared.fault.WriteFault.TheVariants as write
use Rattle.nr_evidence_file.specs.Writing.{SaysWhy}
use Rattle.nr_evidence_file.specs.declared.writing.WriteError.{WriteError}
use Rattle.nr_evidence_file.specs.declared.writing.WriteError.TheVariants.{TooLong, Memory}
use Rattle.nr_saving.specs.Views.{unsaved_of, unspelled_of, why, wrote}

-- no pieces
pub unmade : (name : List ℕ) (e : EvidenceFile) (old : Disk) (fault : WriteError) → SaysWhy fault (evidence_file e) → Runs (save_evidence name e) old old (Err (why (unspelled_of fault)))
unfolding Runs save_evidence
unmade name e old (TooLong n) (is, long) = inr (rw (lt-ltb most_evidence (length (evidence_file e)) long) (refl, ap (λ (k : ℕ). Err (Refused (record { found = k }))) is))
unmade name e old Memory said = inl (refl, refl)

pub pieces_are : (front middle claims : List ℕ) (e : EvidenceFile) → front ≡ evidence_front e.answer → middle ≡ evidence_middle e → claims ≡ flat_map claim_bytes e.claims → (front ∷ e.answer ∷ middle ∷ claims ∷ []) ≡ evidence_parts e
unfolding evidence_parts
pieces_are front middle claims e f m c = λ i. f i ∷ e.answer ∷ m i ∷ c i ∷ []

-- pieces, and what came of them
pub made : (name : List ℕ) (e : EvidenceFile) (parts : List (List ℕ)) (old new : Disk) (result : Result (Unit {0}) (Halt saving.TooLong)) → parts ≡ evidence_parts e → length (evidence_file e) ≤ most_evidence
    → Runs (save_parts name parts) old new result → Runs (save_evidence name e) old new result
unfolding Runs save_evidence
made name e parts old new result are fits runs =
    inr (rw (le-ltb most_evidence (length (evidence_file e)) fits) (subst (λ (p : List (List ℕ)). Runs (save_parts name p) old new result) are runs))

why_is : (fault : WriteFault) → Faulted (write_fault_of fault) ≡ why (unsaved_of fault)
why_is write.Failed = refl
why_is write.Memory = refl

pub unwritten : (name : List ℕ) (e : EvidenceFile) (parts : List (List ℕ)) (old new : Disk) (fault : WriteFault) → parts ≡ evidence_parts e → length (evidence_file e) ≤ most_evidence
    → Runs (save_parts name parts) old new (wrote (Err fault)) → Runs (save_evidence name e) old new (Err (why (unsaved_of fault)))
unwritten name e parts old new fault are fits runs =
    made name e parts old new (Err (why (unsaved_of fault))) are fits (subst (λ (h : Halt saving.TooLong). Runs (save_parts name parts) old new (Err h)) (why_is fault) runs)
