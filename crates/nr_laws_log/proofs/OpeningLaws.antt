-- What stands before the entries of an answer.
use Rattle.std.proofs.Common.{◌≡◌, ℕ, ◌+◌, ◌^◌, ◌<◌, ◌≤◌, Bool, true, false, cond, leb, ◌&&◌, List, [], ◌++◌, length, Option, Some, None, Ok, refl, sym, ap, subst, ◌∙◌, append_assoc, arith}
use Rattle.std.proofs.lemmas.Bool.{eqb-true, eq-eqb, leb-true, le-leb}
use Rattle.std.proofs.lemmas.List.{length-append}
use Rattle.nr_spec_wire.specs.Reading.{Spot, Read, ◌>>=◌, number_at, wants, IsBytes}
use Rattle.nr_spec_wire.proofs.Steps.{ok_is}
use Rattle.nr_spec_log.specs.Authenticator.{digest_size, magic_at}
use Rattle.nr_spec_log.specs.Answer.{Opening, opening_at, answer_magic, body_at, is_first, is_prev, is_body_flag, is_later, most_first, most_body}
use Rattle.nr_laws_log.specs.Laws.{Takes, ReadsSpelled, SpelledReads}
use Rattle.nr_laws_log.proofs.Fields.{Takes-then, step, number_text, text_step, text_again, bytes_step, bytes_again, wants_step, reads_then, wants_then}
use Rattle.nr_laws_log.proofs.RowLaws.{magic_takes, magic_again}

-- ---- bodies

unfoldable pub body_text : Option (List ℕ) → List ℕ
body_text None = []
body_text (Some body) = number_text 4 (length body) ++ body

-- a body where one is asked for
abbrev pub IsBody : Bool → Option (List ℕ) → Type 0
IsBody false None = Unit {0}
IsBody false (Some body) = ⊥
IsBody true None = ⊥
IsBody true (Some body) = length body ≤ most_body

body_takes : (later : Bool) → ReadsSpelled (body_at later) (IsBody later) body_text
unfolding body_at body_text
body_takes false s v new fits e =
    let nothing : Takes s [] s = record { parts = refl; place = omega arith; rest_fits = fits } in
    subst (λ (p : Option (List ℕ) × Spot). IsBody false p.0 × Takes s (body_text p.0) p.1) (ok_is (None, s) (v, new) e) (tt, nothing)
body_takes true s v new fits e =
    let a = text_step 4 s _ (v, new) fits e in
    let a_is = wants_step (leb a.value most_body) s.at (a.value, a.next) _ (v, new) a.goes_on in
    let b = bytes_step a.value a.next _ (v, new) a.takes.rest_fits a_is.1 in
    let len : length b.value ≡ a.value = b.value_fits in
    let le : a.value ≤ most_body = leb-true _ _ a_is.0 in
    let front : Takes s (number_text 4 (length b.value)) a.next = subst (λ (k : ℕ). Takes s (number_text 4 k) a.next) (sym len) a.takes in
    let both = Takes-then s (number_text 4 (length b.value)) a.next b.value b.next front b.takes in
    let small : length b.value ≤ most_body = subst (λ (k : ℕ). k ≤ most_body) (sym len) le in
    subst (λ (p : Option (List ℕ) × Spot). IsBody true p.0 × Takes s (body_text p.0) p.1) (ok_is (Some b.value, b.next) (v, new) b.goes_on) (small, both)

body_again : (later : Bool) → SpelledReads (body_at later) (IsBody later) body_text
unfolding body_at body_text
body_again false None at rest fits = ap (λ (k : ℕ). Ok (None, record { at = k; rest = rest })) (omega arith)
body_again false (Some body) at rest fits = absurd fits
body_again true None at rest fits = absurd fits
body_again true (Some body) at rest fits =
    let size = length body in
    let front = number_text 4 size in
    let small : size < 256 ^ 4 = omega (arith, fits) in
    let sized = text_again 4 size at (body ++ rest) small in
    let size_is : leb size most_body ≡ true = le-leb _ _ fits in
    let content = bytes_again size body (at + length front) rest refl in
    let places : at + length front + length body ≡ at + length (front ++ body) = omega (arith, length-append front body) in
    let whole : body_at true (record { at = at; rest = front ++ (body ++ rest) }) ≡ Ok (Some body, record { at = at + length front + length body; rest = rest }) =
    reads_then _ _ _ _ sized (wants_then (leb size most_body) at _ _ _ size_is (reads_then _ _ _ _ content refl)) in
    ap (λ (t : List ℕ). body_at true (record { at = at; rest = t })) (append_assoc front body rest) ∙ whole ∙ ap (λ (k : ℕ). Ok (Some body, record { at = k; rest = rest })) places

-- ---- the fields before them

abbrev pub flag_of : ℕ → ℕ
flag_of first = cond (is_later first) 1 0

pub record FitsOpening (o : Opening) : Type 0 where
  pub asn : o.asn < 2 ^ 32
  pub first : is_first o.first ≡ true
  pub prev : length o.prev ≡ digest_size
  pub prev_is : is_prev o.asn o.first o.prev ≡ true
  pub body : IsBody (is_later o.first) o.body
  pub least : 1 ≤ o.count
  pub most : o.count < 2 ^ 32

abbrev pub opening_text : Opening → List ℕ
opening_text o = answer_magic ++ (number_text 4 o.asn ++ (number_text 8 o.first ++ (o.prev ++ (number_text 1 (flag_of o.first) ++ (body_text o.body ++ number_text 4 o.count)))))

-- the body and the number of entries
record IsTail (asn first : ℕ) (prev : List ℕ) (s : Spot) (v : Opening) (new : Spot) : Type 0 where
  pub asn_is : asn ≡ v.asn
  pub first_is : first ≡ v.first
  pub prev_is : prev ≡ v.prev
  pub body : IsBody (is_later first) v.body
  pub least : 1 ≤ v.count
  pub most : v.count < 2 ^ 32
  pub takes : Takes s (body_text v.body ++ number_text 4 v.count) new

abbrev tail_at : ℕ → ℕ → List ℕ → Spot → Read Opening
tail_at asn first prev s = body_at (is_later first) s >>= λ body. number_at 4 body.1 >>= λ any. wants (leb 1 any.0) body.1.at any >>= λ count.
    let read : Opening × Spot = (record { asn = asn; first = first; prev = prev; body = body.0; count = count.0 }, count.1) in Ok read

tail_takes : (asn first : ℕ) (prev : List ℕ) (s : Spot) (v : Opening) (new : Spot) → IsBytes s.rest → tail_at asn first prev s ≡ Ok (v, new) → IsTail asn first prev s v new
tail_takes asn first prev s v new fits e =
    let a = step (body_at (is_later first)) (IsBody (is_later first)) body_text (body_takes (is_later first)) s _ (v, new) fits e in
    let b = text_step 4 a.next _ (v, new) a.takes.rest_fits a.goes_on in
    let b_is = wants_step (leb 1 b.value) a.next.at (b.value, b.next) _ (v, new) b.goes_on in
    let made : Opening = record { asn = asn; first = first; prev = prev; body = a.value; count = b.value } in
    let both = Takes-then s (body_text a.value) a.next (number_text 4 b.value) b.next a.takes b.takes in
    subst (λ (p : Opening × Spot). IsTail asn first prev s p.0 p.1) (ok_is (made, b.next) (v, new) b_is.1)
    (record { asn_is = refl; first_is = refl; prev_is = refl; body = a.value_fits; least = leb-true _ _ b_is.0; most = b.value_fits; takes = both })

-- the parts one after another
joined : (o : Opening) (s s1 s2 s3 s4 s5 new : Spot) → Takes s answer_magic s1 → Takes s1 (number_text 4 o.asn) s2 → Takes s2 (number_text 8 o.first) s3 → Takes s3 o.prev s4
    → Takes s4 (number_text 1 (flag_of o.first)) s5 → Takes s5 (body_text o.body ++ number_text 4 o.count) new → Takes s (opening_text o) new
joined o s s1 s2 s3 s4 s5 new t0 t1 t2 t3 t4 t5 =
    let r4 = Takes-then s4 (number_text 1 (flag_of o.first)) s5 _ new t4 t5 in
    let r3 = Takes-then s3 o.prev s4 _ new t3 r4 in
    let r2 = Takes-then s2 (number_text 8 o.first) s3 _ new t2 r3 in
    let r1 = Takes-then s1 (number_text 4 o.asn) s2 _ new t1 r2 in
    Takes-then s answer_magic s1 _ new t0 r1

pub opening_takes : ReadsSpelled opening_at FitsOpening opening_text
unfolding opening_at
opening_takes s v new fits e =
    let m = step (magic_at answer_magic) (λ t. t ≡ answer_magic) (λ t. t) (magic_takes answer_magic) s _ (v, new) fits e in
    let a = text_step 4 m.next _ (v, new) m.takes.rest_fits m.goes_on in
    let b = text_step 8 a.next _ (v, new) a.takes.rest_fits a.goes_on in
    let b_is = wants_step (is_first b.value) a.next.at (b.value, b.next) _ (v, new) b.goes_on in
    let c = bytes_step digest_size b.next _ (v, new) b.takes.rest_fits b_is.1 in
    let c_is = wants_step (is_prev a.value b.value c.value) b.next.at (c.value, c.next) _ (v, new) c.goes_on in
    let d = text_step 1 c.next _ (v, new) c.takes.rest_fits c_is.1 in
    let d_is = wants_step (is_body_flag b.value d.value) c.next.at (d.value, d.next) _ (v, new) d.goes_on in
    let t = tail_takes a.value b.value c.value d.next v new d.takes.rest_fits d_is.1 in
    let flag : d.value ≡ flag_of b.value = eqb-true _ _ d_is.0 in
    let d_takes : Takes c.next (number_text 1 (flag_of v.first)) d.next = subst (λ (k : ℕ). Takes c.next (number_text 1 k) d.next) (flag ∙ ap flag_of t.first_is) d.takes in
    let m_takes : Takes s answer_magic m.next = subst (λ (x : List ℕ). Takes s x m.next) m.value_fits m.takes in
    let a_takes : Takes m.next (number_text 4 v.asn) a.next = subst (λ (k : ℕ). Takes m.next (number_text 4 k) a.next) t.asn_is a.takes in
    let b_takes : Takes a.next (number_text 8 v.first) b.next = subst (λ (k : ℕ). Takes a.next (number_text 8 k) b.next) t.first_is b.takes in
    let c_takes : Takes b.next v.prev c.next = subst (λ (x : List ℕ). Takes b.next x c.next) t.prev_is c.takes in
    let asn : v.asn < 2 ^ 32 = subst (λ (k : ℕ). k < 2 ^ 32) t.asn_is a.value_fits in
    let first : is_first v.first ≡ true = subst (λ (k : ℕ). is_first k ≡ true) t.first_is b_is.0 in
    let prev : length v.prev ≡ digest_size = subst (λ (x : List ℕ). length x ≡ digest_size) t.prev_is c.value_fits in
    let body : IsBody (is_later v.first) v.body = subst (λ (k : ℕ). IsBody (is_later k) v.body) t.first_is t.body in
    let p0 : is_prev v.asn b.value c.value ≡ true = subst (λ (k : ℕ). is_prev k b.value c.value ≡ true) t.asn_is c_is.0 in
    let p1 : is_prev v.asn v.first c.value ≡ true = subst (λ (k : ℕ). is_prev v.asn k c.value ≡ true) t.first_is p0 in
    let p2 : is_prev v.asn v.first v.prev ≡ true = subst (λ (x : List ℕ). is_prev v.asn v.first x ≡ true) t.prev_is p1 in (
      record { asn = asn; first = first; prev = prev; prev_is = p2; body = body; least = t.least; most = t.most },
      joined v s m.next a.next b.next c.next d.next new m_takes a_takes b_takes c_takes d_takes t.takes,
    )

low_first : (first : ℕ) → is_first first ≡ true → first < 256 ^ 8
low_first first e = by_parts (leb 1 first) (leb first most_first) refl e
  where
    by_parts : (a b : Bool) → leb first most_first ≡ b → (a && b) ≡ true → first < 256 ^ 8
    by_parts true true is h = let le = leb-true _ _ is in omega (arith, le)
    by_parts true false is h = absurd cc
    by_parts false b is h = absurd cc

low_flag : (later : Bool) → cond later 1 0 < 256 ^ 1
low_flag true = omega arith
low_flag false = omega arith

pub opening_again : SpelledReads opening_at FitsOpening opening_text
unfolding opening_at
opening_again v at rest fits =
    let count_text = number_text 4 v.count in
    let r5 = count_text ++ rest in
    let r4 = body_text v.body ++ r5 in
    let r3 = number_text 1 (flag_of v.first) ++ r4 in
    let r2 = v.prev ++ r3 in
    let r1 = number_text 8 v.first ++ r2 in
    let r0 = number_text 4 v.asn ++ r1 in
    let spelled : opening_text v ++ rest ≡ answer_magic ++ r0 = simp append_assoc in
    let a0 = at + length answer_magic in
    let a1 = a0 + length (number_text 4 v.asn) in
    let a2 = a1 + length (number_text 8 v.first) in
    let a3 = a2 + length v.prev in
    let a4 = a3 + length (number_text 1 (flag_of v.first)) in
    let a5 = a4 + length (body_text v.body) in
    let a6 = a5 + length count_text in
    let places : a6 ≡ at + length (opening_text v) = simp length-append (omega arith) in
    let magic = magic_again answer_magic at r0 refl in
    let asn = text_again 4 v.asn a0 r1 fits.asn in
    let first = text_again 8 v.first a1 r2 (low_first v.first fits.first) in
    let prev = bytes_again digest_size v.prev a2 r3 fits.prev in
    let flag = text_again 1 (flag_of v.first) a3 r4 (low_flag (is_later v.first)) in
    let flag_is : is_body_flag v.first (flag_of v.first) ≡ true = eq-eqb _ _ refl in
    let body = body_again (is_later v.first) v.body a4 r5 fits.body in
    let count = text_again 4 v.count a5 rest fits.most in
    let count_is : leb 1 v.count ≡ true = le-leb _ _ fits.least in
    let end : Spot = record { at = a6; rest = rest } in
    let whole : opening_at (record { at = at; rest = answer_magic ++ r0 }) ≡ Ok (v, end) =
    reads_then _ _ _ _ magic (reads_then _ _ _ _ asn (reads_then _ _ _ _ first (wants_then (is_first v.first) a1 _ _ _ fits.first
    (reads_then _ _ _ _ prev (wants_then (is_prev v.asn v.first v.prev) a2 _ _ _ fits.prev_is
    (reads_then _ _ _ _ flag (wants_then (is_body_flag v.first (flag_of v.first)) a3 _ _ _ flag_is
    (reads_then _ _ _ _ body (reads_then _ _ _ _ count (wants_then (leb 1 v.count) a5 _ _ _ count_is refl)))))))))) in
    ap (λ (t : List ℕ). opening_at (record { at = at; rest = t })) spelled ∙ whole ∙ ap (λ (k : ℕ). Ok (v, record { at = k; rest = rest })) places
