-- Answer files.
use Rattle.std.proofs.Common.{◌≡◌, ℕ, zero, suc, ◌+◌, ◌-◌, ◌^◌, ◌<◌, ◌≤◌, Bool, true, false, cond, eqb, leb, ◌&&◌, ◌||◌, List, [], ◌++◌, length, Option, Some, None, Result, Ok, Err, refl, sym, ap, subst, ◌∙◌, append_assoc, arith}
use Rattle.std.specs.List.{flat_map}
use Rattle.std.specs.Str.{bytes_eq}
use Rattle.std.proofs.lemmas.Bool.{eqb-true, leb-true, le-leb, lt-ltb}
use Rattle.std.proofs.lemmas.List.{append-nil, nil_from_length}
use Rattle.std.proofs.lemmas.Slice.Eq.{bytes_eq-Decides}
use Rattle.byteorder.specs.Endian.{big_bytes}
use Rattle.nr_spec_wire.specs.Reading.{Spot, start_of, ends_at, IsBytes}
use Rattle.nr_spec_wire.proofs.Steps.{ok_is}
use Rattle.nr_spec_log.specs.Chain.{LogEntry, genesis_value}
use Rattle.nr_spec_log.specs.Authenticator.{Authenticator, authenticator, wanted_at}
use Rattle.nr_spec_log.specs.Answer.{AnswerFile, IsAnswer, StartsAt, IsCheckpointFirst, answer_file, answer_magic, answer_of, answer_from, body_field, entry, entries_at, head_of, is_first, is_later, is_prev, most_body, most_first, Opening, opening_at}
use Rattle.nr_laws_log.specs.Laws.{IsWanted, AreNext}
use Rattle.nr_laws_log.proofs.Fields.{step, number_text, reads_then}
use Rattle.nr_laws_log.proofs.AuthenticatorLaws.{wanted_takes, wanted_again}
use Rattle.nr_laws_log.proofs.EntryLaws.{entries_take, entries_again}
use Rattle.nr_laws_log.proofs.OpeningLaws.{FitsOpening, IsBody, body_text, flag_of, opening_text, opening_takes, opening_again}

-- ---- the start

either : (a b : Bool) → (a || b) ≡ true → a ≡ false → b ≡ true
either true b e h = absurd cc
either false b e h = e

-- what the fields before the entries say of the first entry's number
record Starts (later : Bool) (a : AnswerFile) : Type 0 where
  pub prev : later ≡ false → a.prev ≡ genesis_value a.asn
  pub body : IsBody later a.body
  pub entries : later ≡ true → IsCheckpointFirst a.entries

later_is : (n : ℕ) → is_later (suc (suc n)) ≡ true
later_is n = lt-ltb _ _ (omega arith)

no_body : (body : Option (List ℕ)) → IsBody false body → body ≡ None
no_body None h = refl
no_body (Some body) h = absurd h

some_body : (body : Option (List ℕ)) → IsBody true body → (bytes : List ℕ) × (body ≡ Some bytes) × (length bytes ≤ most_body)
some_body None h = absurd h
some_body (Some body) h = (body, refl, h)

starts_at : (n : ℕ) (a : AnswerFile) → 1 ≤ n → Starts (is_later n) a → StartsAt n a
starts_at zero a least h = absurd (omega arith)
starts_at (suc zero) a least h = (h.prev refl, no_body a.body h.body)
starts_at (suc (suc n)) a least h =
    let later = subst (λ (b : Bool). Starts b a) (later_is n) h in
    let body = some_body a.body later.body in
    (body.0, body.1, body.2, later.entries refl)

at_starts : (n : ℕ) (a : AnswerFile) → StartsAt n a → (1 ≤ n) × Starts (is_later n) a
at_starts zero a h = absurd h
at_starts (suc zero) a h =
    (omega arith, record { prev = λ x. h.0; body = subst (IsBody false) (sym h.1) tt; entries = λ x. absurd cc })
at_starts (suc (suc n)) a h =
    let later : Starts true a = record { prev = λ x. absurd cc; body = subst (IsBody true) (sym h.1) h.2; entries = λ x. h.3 } in
    (omega arith, subst (λ (b : Bool). Starts b a) (sym (later_is n)) later)

-- ---- the spelling, part by part

flagged : (later : Bool) (body : Option (List ℕ)) → IsBody later body → body_field body ≡ number_text 1 (cond later 1 0) ++ body_text body
unfolding number_text body_text
flagged false None h = refl
flagged false (Some body) h = absurd h
flagged true None h = absurd h
flagged true (Some body) h = refl

-- an answer's fields, of which one is given as it is spelled
abbrev parts : ℕ → ℕ → List ℕ → List ℕ → ℕ → List LogEntry → Authenticator → List ℕ
parts asn first prev field count es head = answer_magic ++ (big_bytes 4 asn ++ (big_bytes 8 first ++ (prev ++ (field ++ (big_bytes 4 count ++ (flat_map entry es ++ authenticator head))))))

together : (o : Opening) (es : List LogEntry) (head : Authenticator)
    → parts o.asn o.first o.prev (number_text 1 (flag_of o.first) ++ body_text o.body) o.count es head ≡ opening_text o ++ (flat_map entry es ++ authenticator head)
unfolding number_text
together o es head = simp append_assoc

grouped : (o : Opening) (es : List LogEntry) (head : Authenticator) → length es ≡ o.count → IsBody (is_later o.first) o.body
    → answer_file (answer_from o es head) ≡ opening_text o ++ (flat_map entry es ++ authenticator head)
grouped o es head len body =
    let count = ap (λ (k : ℕ). parts o.asn o.first o.prev (body_field o.body) k es head) len in
    let field = ap (λ (t : List ℕ). parts o.asn o.first o.prev t o.count es head) (flagged (is_later o.first) o.body body) in
    count ∙ field ∙ together o es head

-- ---- reading

first_is : (first : ℕ) → is_first first ≡ true → (1 ≤ first) × (first ≤ most_first)
first_is first e = by_parts (leb 1 first) (leb first most_first) refl refl e
  where
    by_parts : (a b : Bool) → leb 1 first ≡ a → leb first most_first ≡ b → (a && b) ≡ true → (1 ≤ first) × (first ≤ most_first)
    by_parts true true x y h = (leb-true _ _ x, leb-true _ _ y)
    by_parts true false x y h = absurd cc
    by_parts false b x y h = absurd cc

first_fits : (first : ℕ) → 1 ≤ first → first ≤ most_first → is_first first ≡ true
first_fits first least most =
    let a : leb 1 first ≡ true = le-leb _ _ least in
    let b : leb first most_first ≡ true = le-leb _ _ most in
    rw (a, b) refl

prev_is : (o : Opening) → is_prev o.asn o.first o.prev ≡ true → is_later o.first ≡ false → o.prev ≡ genesis_value o.asn
prev_is o e h = (bytes_eq-Decides o.prev (genesis_value o.asn)).0 (either (is_later o.first) (bytes_eq o.prev (genesis_value o.asn)) e h)

prev_fits : (asn first : ℕ) (prev : List ℕ) → (is_later first ≡ false → prev ≡ genesis_value asn) → is_prev asn first prev ≡ true
prev_fits asn first prev h = by_later (is_later first) h
  where
    by_later : (later : Bool) → (later ≡ false → prev ≡ genesis_value asn) → (later || bytes_eq prev (genesis_value asn)) ≡ true
    by_later true h = refl
    by_later false h = (bytes_eq-Decides prev (genesis_value asn)).1 (h refl)

is_answer : (o : Opening) (es : List LogEntry) (head : Authenticator) → FitsOpening o → AreNext (is_later o.first) 0 o.count es → IsWanted (Some (head_of o es)) head → IsAnswer (answer_from o es head)
is_answer o es head fits are wanted =
    let first = first_is o.first fits.first in
    let len = are.as_many in
    let seq = wanted.speaks.1 in
    record {
      asn = fits.asn;
      first = first.1;
      prev = fits.prev;
      start = starts_at o.first (answer_from o es head) first.0 (record { prev = prev_is o fits.prev_is; body = fits.body; entries = are.first_is });
      least = subst (λ (k : ℕ). 1 ≤ k) (sym len) fits.least;
      most = subst (λ (k : ℕ). k < 2 ^ 32) (sym len) fits.most;
      entries = are.entries;
      head = wanted.is_one;
      head_asn = wanted.speaks.0;
      head_seq = omega (arith, seq, len, first.0, fits.least);
      head_time = wanted.speaks.2;
    }

abbrev fine : {A : Type 0} → A → Result A ℕ
fine x = Ok x

ended_if : {A : Type 0} (test : Bool) (place : ℕ) (x y : A) → cond test (fine x) (Err place) ≡ Ok y → (test ≡ true) × (x ≡ y)
ended_if true place x y e = (refl, ok_is x y e)
ended_if false place x y e = absurd cc

ended : {A : Type 0} (s : Spot) (x y : A) → ends_at s x ≡ Ok y → (length s.rest ≡ 0) × (x ≡ y)
ended s x y e =
    let test = ended_if (eqb (length s.rest) 0) s.at x y e in
    (eqb-true _ _ test.0, test.1)

pub answer_takes : (bytes : List ℕ) (a : AnswerFile) → IsBytes bytes → answer_of bytes ≡ Ok a → IsAnswer a × (bytes ≡ answer_file a)
unfolding answer_of
answer_takes bytes a fits e =
    let o = step opening_at FitsOpening opening_text opening_takes (start_of bytes) _ a fits e in
    let es = step (entries_at (is_later o.value.first) 0 o.value.count) (AreNext (is_later o.value.first) 0 o.value.count) (flat_map entry) (entries_take (is_later o.value.first) 0 o.value.count) o.next _ a o.takes.rest_fits o.goes_on in
    let head = head_of o.value es.value in
    let h = step (wanted_at (Some head)) (IsWanted (Some head)) authenticator (wanted_takes (Some head)) es.next _ a es.takes.rest_fits es.goes_on in
    let end = ended h.next (answer_from o.value es.value h.value) a h.goes_on in
    let nothing : h.next.rest ≡ [] = nil_from_length h.next.rest end.0 in
    let back : es.next.rest ≡ authenticator h.value = h.takes.parts ∙ ap (λ (t : List ℕ). authenticator h.value ++ t) nothing ∙ append-nil (authenticator h.value) in
    let middle : o.next.rest ≡ flat_map entry es.value ++ authenticator h.value = es.takes.parts ∙ ap (λ (t : List ℕ). flat_map entry es.value ++ t) back in
    let front : bytes ≡ opening_text o.value ++ (flat_map entry es.value ++ authenticator h.value) = o.takes.parts ∙ ap (λ (t : List ℕ). opening_text o.value ++ t) middle in
    let whole = front ∙ sym (grouped o.value es.value h.value es.value_fits.as_many o.value_fits.body) in
    let is = is_answer o.value es.value h.value o.value_fits es.value_fits h.value_fits in
    subst (λ (r : AnswerFile). IsAnswer r × (bytes ≡ answer_file r)) end.1 (is, whole)

-- ---- reading again

abbrev opening_of : AnswerFile → Opening
opening_of a = record { asn = a.asn; first = a.first; prev = a.prev; body = a.body; count = length a.entries }

fits_opening : (a : AnswerFile) → IsAnswer a → FitsOpening (opening_of a)
fits_opening a is =
    let start = at_starts a.first a is.start in
    record {
      asn = is.asn;
      first = first_fits a.first start.0 is.first;
      prev = is.prev;
      prev_is = prev_fits a.asn a.first a.prev start.1.prev;
      body = start.1.body;
      least = is.least;
      most = is.most;
    }

fits_entries : (a : AnswerFile) → IsAnswer a → AreNext (is_later a.first) 0 (length a.entries) a.entries
fits_entries a is = record { entries = is.entries; as_many = refl; first_is = (at_starts a.first a is.start).1.entries }

fits_head : (a : AnswerFile) → IsAnswer a → IsWanted (Some (head_of (opening_of a) a.entries)) a.head
fits_head a is =
    let seq : a.head.seq ≡ a.first + length a.entries - 1 = let e = is.head_seq in omega (arith, e) in
    record { is_one = is.head; speaks = (is.head_asn, seq, is.head_time) }

pub answer_again : (a : AnswerFile) → IsAnswer a → answer_of (answer_file a) ≡ Ok a
unfolding answer_of
answer_again a is =
    let o = opening_of a in
    let head_text = authenticator a.head in
    let entries_text = flat_map entry a.entries in
    let o_fits = fits_opening a is in
    let spelled = grouped o a.entries a.head refl o_fits.body in
    let a0 = 0 + length (opening_text o) in
    let a1 = a0 + length entries_text in
    let opening = opening_again o 0 (entries_text ++ head_text) o_fits in
    let entries = entries_again (is_later a.first) 0 (length a.entries) a.entries a0 head_text (fits_entries a is) in
    let alone : wanted_at (Some (head_of o a.entries)) (record { at = a1; rest = head_text }) ≡ Ok (a.head, record { at = a1 + length head_text; rest = [] }) =
    ap (λ (t : List ℕ). wanted_at (Some (head_of o a.entries)) (record { at = a1; rest = t })) (sym (append-nil head_text))
    ∙ wanted_again (Some (head_of o a.entries)) a.head a1 [] (fits_head a is) in
    let whole : answer_of (opening_text o ++ (entries_text ++ head_text)) ≡ Ok a =
    reads_then _ _ _ _ opening (reads_then _ _ _ _ entries (reads_then _ _ _ _ alone refl)) in
    ap answer_of spelled ∙ whole
