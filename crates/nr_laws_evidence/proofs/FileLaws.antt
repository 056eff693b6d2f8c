-- Whole evidence files.
use Rattle.std.proofs.Common.{◌≡◌, ℕ, ◌+◌, ◌^◌, ◌<◌, ◌≤◌, Bool, true, false, eqb, leb, List, [], ◌++◌, length, Ok, refl, sym, ap, subst, ◌∙◌, append_assoc, arith, lit<}
use Rattle.std.specs.List.{flat_map}
use Rattle.std.specs.Str.{bytes_eq}
use Rattle.std.proofs.lemmas.Bool.{eqb-true, leb-true, le-leb}
use Rattle.std.proofs.lemmas.List.{length-append, append-nil, nil_from_length}
use Rattle.std.proofs.lemmas.Slice.Eq.{bytes_eq-Decides}
use Rattle.nr_spec_wire.specs.Reading.{Spot, start_of, wants, ends_at, IsBytes}
use Rattle.nr_spec_wire.proofs.Steps.{ok_is, wants_ok}
use Rattle.nr_spec_log.specs.Authenticator.{magic_at}
use Rattle.nr_spec_evidence.specs.Counted.{counted_at}
use Rattle.nr_spec_evidence.specs.Evidence.{EvidenceFile, IsEvidence, claim_at, claim_bytes, evidence_file, evidence_magic, evidence_of, most_answer, most_promise, sized_at}
use Rattle.nr_laws_log.specs.Laws.{Takes, ReadsSpelled, SpelledReads}
use Rattle.nr_laws_log.proofs.Fields.{Takes-then, step, text_step, text_again, number_text, bytes_step, bytes_take, bytes_again, wants_step, reads_then, wants_then}
use Rattle.nr_laws_evidence.specs.Laws.{AreClaims}
use Rattle.nr_laws_evidence.proofs.ClaimLaws.{claims_take, claims_again}

test_then : {A : Type 0} (test : Bool) (place : ℕ) (x : A) → test ≡ true → wants test place x ≡ Ok x
test_then true place x e = refl
test_then false place x e = absurd cc

magic_takes : (magic : List ℕ) → ReadsSpelled (magic_at magic) (λ v. v ≡ magic) (λ v. v)
magic_takes magic s v new fits e =
    let a = bytes_step 4 s _ (v, new) fits e in
    let is = wants_ok (bytes_eq a.value magic) s.at (a.value, a.next) (v, new) a.goes_on in
    subst (λ (p : List ℕ × Spot). (p.0 ≡ magic) × Takes s p.0 p.1) is.1 ((bytes_eq-Decides a.value magic).0 is.0, a.takes)

magic_again : (magic : List ℕ) (at : ℕ) (rest : List ℕ) → length magic ≡ 4 → magic_at magic (record { at = at; rest = magic ++ rest }) ≡ Ok (magic, record { at = at + length magic; rest = rest })
magic_again magic at rest len =
    let read = bytes_again 4 magic at rest len in
    let test : bytes_eq magic magic ≡ true = (bytes_eq-Decides magic magic).1 refl in
    reads_then _ _ _ _ read (test_then (bytes_eq magic magic) at _ test)

abbrev sized_text : List ℕ → List ℕ
sized_text bytes = number_text 4 (length bytes) ++ bytes

pub sized_takes : (most : ℕ) → ReadsSpelled (sized_at most) (λ v. length v ≤ most) sized_text
unfolding sized_at
sized_takes most s v new fits e =
    let a = text_step 4 s _ (v, new) fits e in
    let is = wants_step (leb a.value most) s.at (a.value, a.next) _ (v, new) a.goes_on in
    let b = bytes_take a.value a.next v new a.takes.rest_fits is.1 in
    let le : length v ≤ most = let l = leb-true _ _ is.0 in omega (arith, l, b.0) in
    (le, subst (λ (n : ℕ). Takes s (number_text 4 n ++ v) new) (sym b.0) (Takes-then s (number_text 4 a.value) a.next v new a.takes b.1))

pub sized_again : (most : ℕ) → most < 2 ^ 32 → SpelledReads (sized_at most) (λ v. length v ≤ most) sized_text
unfolding sized_at
sized_again most small v at rest fits =
    let lt : length v < 256 ^ 4 = omega (arith, fits, small) in
    let at1 = at + length (number_text 4 (length v)) in
    let spelled : sized_text v ++ rest ≡ number_text 4 (length v) ++ (v ++ rest) = append_assoc (number_text 4 (length v)) v rest in
    let places : at1 + length v ≡ at + length (sized_text v) = omega (arith, length-append (number_text 4 (length v)) v) in
    let end : Spot = record { at = at1 + length v; rest = rest } in
    let whole : sized_at most (record { at = at; rest = number_text 4 (length v) ++ (v ++ rest) }) ≡ Ok (v, end) =
    reads_then _ _ _ _ (text_again 4 (length v) at (v ++ rest) lt) (wants_then (leb (length v) most) at _ _ _ (le-leb _ _ fits) (bytes_again (length v) v at1 rest refl)) in
    ap (λ (t : List ℕ). sized_at most (record { at = at; rest = t })) spelled ∙ whole ∙ ap (λ (k : ℕ). Ok (v, record { at = k; rest = rest })) places

-- the file, with the numbers' bytes closed
abbrev text_of : EvidenceFile → List ℕ
text_of e = evidence_magic ++ (sized_text e.answer ++ (sized_text e.promise ++ (number_text 8 e.period.from ++ (number_text 8 e.period.to ++ (number_text 4 (length e.claims) ++ flat_map claim_bytes e.claims)))))

text_is : (e : EvidenceFile) → text_of e ≡ evidence_file e
unfolding evidence_file number_text
text_is e =
    let back = sized_text e.promise ++ (number_text 8 e.period.from ++ (number_text 8 e.period.to ++ (number_text 4 (length e.claims) ++ flat_map claim_bytes e.claims))) in
    ap (λ (t : List ℕ). evidence_magic ++ t) (append_assoc (number_text 4 (length e.answer)) e.answer back)
    ∙ sym (append_assoc evidence_magic (number_text 4 (length e.answer)) (e.answer ++ back))

ended : (s : Spot) (x y : EvidenceFile) → ends_at s x ≡ Ok y → (length s.rest ≡ 0) × (x ≡ y)
ended s x y e = let w = wants_ok (eqb (length s.rest) 0) s.at x y e in (eqb-true _ _ w.0, w.1)

ending : (at : ℕ) (x : EvidenceFile) → ends_at (record { at = at; rest = [] }) x ≡ Ok x
ending at x = refl

joined : (bytes : List ℕ) (e : EvidenceFile) (n : ℕ) (s1 s2 s3 s4 s5 s6 new : Spot) → Takes (start_of bytes) evidence_magic s1 → Takes s1 (sized_text e.answer) s2 → Takes s2 (sized_text e.promise) s3
    → Takes s3 (number_text 8 e.period.from) s4 → Takes s4 (number_text 8 e.period.to) s5 → Takes s5 (number_text 4 n) s6 → Takes s6 (flat_map claim_bytes e.claims) new → length new.rest ≡ 0 → length e.claims ≡ n
    → bytes ≡ evidence_file e
joined bytes e n s1 s2 s3 s4 s5 s6 new t1 t2 t3 t4 t5 t6 t7 end as_many =
    let claims : List ℕ = flat_map claim_bytes e.claims in
    let u6 = number_text 4 n ++ claims in
    let u5 = number_text 8 e.period.to ++ u6 in
    let u4 = number_text 8 e.period.from ++ u5 in
    let u3 = sized_text e.promise ++ u4 in
    let u2 = sized_text e.answer ++ u3 in
    let w6 = Takes-then s5 (number_text 4 n) s6 claims new t6 t7 in
    let w5 = Takes-then s4 (number_text 8 e.period.to) s5 u6 new t5 w6 in
    let w4 = Takes-then s3 (number_text 8 e.period.from) s4 u5 new t4 w5 in
    let w3 = Takes-then s2 (sized_text e.promise) s3 u4 new t3 w4 in
    let w2 = Takes-then s1 (sized_text e.answer) s2 u3 new t2 w3 in
    let w1 = Takes-then (start_of bytes) evidence_magic s1 u2 new t1 w2 in
    let nothing : new.rest ≡ [] = nil_from_length new.rest end in
    let all : List ℕ = evidence_magic ++ u2 in
    let whole : bytes ≡ all = w1.parts ∙ (ap (λ (t : List ℕ). all ++ t) nothing ∙ append-nil all) in
    let counted : all ≡ text_of e = ap (λ (k : ℕ). evidence_magic ++ (sized_text e.answer ++ (sized_text e.promise ++ (number_text 8 e.period.from ++ (number_text 8 e.period.to ++ (number_text 4 k ++ claims)))))) (sym as_many) in
    whole ∙ (counted ∙ text_is e)

pub found : (bytes : List ℕ) (e : EvidenceFile) → IsBytes bytes → evidence_of bytes ≡ Ok e → IsEvidence e × (bytes ≡ evidence_file e)
unfolding evidence_of
found bytes e fits read =
    let m = step (magic_at evidence_magic) (λ v. v ≡ evidence_magic) (λ v. v) (magic_takes evidence_magic) (start_of bytes) _ e fits read in
    let a = step (sized_at most_answer) (λ v. length v ≤ most_answer) sized_text (sized_takes most_answer) m.next _ e m.takes.rest_fits m.goes_on in
    let p = step (sized_at most_promise) (λ v. length v ≤ most_promise) sized_text (sized_takes most_promise) a.next _ e a.takes.rest_fits a.goes_on in
    let from = text_step 8 p.next _ e p.takes.rest_fits p.goes_on in
    let to = text_step 8 from.next _ e from.takes.rest_fits from.goes_on in
    let n = text_step 4 to.next _ e to.takes.rest_fits to.goes_on in
    let c = step (counted_at claim_at n.value) (AreClaims n.value) (flat_map claim_bytes) (claims_take n.value) n.next _ e n.takes.rest_fits n.goes_on in
    let made : EvidenceFile = record { answer = a.value; promise = p.value; period = record { from = from.value; to = to.value }; claims = c.value } in
    let over = ended c.next made e c.goes_on in
    let as_many : length c.value ≡ n.value = c.value_fits.as_many in
    let mag : Takes (start_of bytes) evidence_magic m.next = subst (λ (x : List ℕ). Takes (start_of bytes) x m.next) m.value_fits m.takes in
    let whole : bytes ≡ evidence_file made = joined bytes made n.value m.next a.next p.next from.next to.next n.next c.next mag a.takes p.takes from.takes to.takes n.takes c.takes over.0 as_many in
    let few : n.value < 2 ^ 32 = n.value_fits in
    let count : length c.value < 2 ^ 32 = subst (λ (k : ℕ). k < 2 ^ 32) (sym as_many) few in
    let ok : IsEvidence made = record { answer = a.value_fits; promise = p.value_fits; from = from.value_fits; to = to.value_fits; count = count; claims = c.value_fits.each } in
    subst (λ (x : EvidenceFile). IsEvidence x × (bytes ≡ evidence_file x)) over.1 (ok, whole)

pub again : (e : EvidenceFile) → IsEvidence e → evidence_of (evidence_file e) ≡ Ok e
unfolding evidence_of
again e is =
    let r6 = flat_map claim_bytes e.claims in
    let r5 = number_text 4 (length e.claims) ++ r6 in
    let r4 = number_text 8 e.period.to ++ r5 in
    let r3 = number_text 8 e.period.from ++ r4 in
    let r2 = sized_text e.promise ++ r3 in
    let r1 = sized_text e.answer ++ r2 in
    let a1 = 0 + length evidence_magic in
    let a2 = a1 + length (sized_text e.answer) in
    let a3 = a2 + length (sized_text e.promise) in
    let a4 = a3 + length (number_text 8 e.period.from) in
    let a5 = a4 + length (number_text 8 e.period.to) in
    let a6 = a5 + length (number_text 4 (length e.claims)) in
    let claims : counted_at claim_at (length e.claims) (record { at = a6; rest = r6 }) ≡ Ok (e.claims, record { at = a6 + length r6; rest = [] }) =
    ap (λ (t : List ℕ). counted_at claim_at (length e.claims) (record { at = a6; rest = t })) (sym (append-nil r6)) ∙ claims_again (length e.claims) e.claims a6 [] (record { each = is.claims; as_many = refl }) in
    let whole : evidence_of (text_of e) ≡ Ok e =
    reads_then _ _ _ _ (magic_again evidence_magic 0 r1 refl) (reads_then _ _ _ _ (sized_again most_answer (lit< tt) e.answer a1 r2 is.answer) (reads_then _ _ _ _ (sized_again most_promise (lit< tt) e.promise a2 r3 is.promise)
    (reads_then _ _ _ _ (text_again 8 e.period.from a3 r4 is.from) (reads_then _ _ _ _ (text_again 8 e.period.to a4 r5 is.to) (reads_then _ _ _ _ (text_again 4 (length e.claims) a5 r6 is.count)
    (reads_then _ _ _ _ claims (ending (a6 + length r6) e))))))) in
    ap evidence_of (sym (text_is e)) ∙ whole
