-- Answers that were refused.
use Rattle.std.proofs.Common.{◌≡◌, ℕ, zero, suc, ◌+◌, ◌<◌, ◌≤◌, Bool, true, false, cond, eqb, leb, List, [], ◌∷◌, length, take, drop, Option, Some, None, Result, Ok, Err, inl, inr, refl, sym, ap, subst, ◌∙◌, arith}
use Rattle.std.specs.Str.{bytes_eq}
use Rattle.std.proofs.lemmas.Bool.{leb-true, leb-false, eqb-false}
use Rattle.std.proofs.lemmas.Slice.Eq.{bytes_eq-Decides}
use Rattle.byteorder.specs.Endian.{big_number}
use Rattle.nr_spec_wire.specs.Reading.{Spot, start_of, number_at, bytes_at, wants, ends_at}
use Rattle.nr_spec_wire.proofs.Steps.{ok_is, bind_ok, wants_ok}
use Rattle.nr_spec_log.specs.Chain.{LogEntry}
use Rattle.nr_spec_log.specs.Authenticator.{magic_at, wanted_at, digest_size}
use Rattle.nr_spec_log.specs.Answer.{answer_magic, opening_at, body_at, entry_at, entries_at, answer_of, head_of, last_time, is_first, is_prev, is_body_flag, is_later, most_body}
use Rattle.nr_laws_files.specs.Cuts.{IsCut}
use Rattle.nr_laws_files.specs.Answers.{asn_in, first_in, prev_in, size_in, HasFlag, HasBody, no_body, some_body, OpeningFault, magic_cut, magic_other, asn_cut, first_cut, first_other, prev_cut, prev_other, flag_cut, flag_other, size_cut, size_other, body_cut, count_cut, count_other, AnswerFault, opening_fault, entry_fault, head_fault, more, is_asked}
use Rattle.nr_laws_files.proofs.Cases.{Stands, stands_first, number_stands, bytes_stand, bind_case, wants_case, number_case, bytes_case, whole, err_is}
use Rattle.nr_laws_files.proofs.AuthCases.{FaultsAt, magic_refused, wanted_refused}
use Rattle.nr_laws_files.proofs.EntryCases.{entry_refused}

never : {A : Type 0} {x : A} {q : ℕ} → (let r : Result A ℕ = Ok x in r) ≡ Err q → ⊥
never e = cc

-- ---- what stands before the entries

record Begins (magic : List ℕ) (s : Spot) (x : List ℕ × Spot) : Type 0 where
  is : take 4 s.rest ≡ magic
  stands : Stands s 4 x.1

magic_stands : (magic : List ℕ) (s : Spot) (x : List ℕ × Spot) → magic_at magic s ≡ Ok x → Begins magic s x
magic_stands magic s x e =
    let a = bind_ok (bytes_at 4 s) (λ found. wants (bytes_eq found.0 magic) s.at found) x e in
    let t = bytes_stand s s 0 4 a.0 (stands_first s) a.1 in
    let w = wants_ok (bytes_eq a.0.0 magic) s.at a.0 x a.2 in
    subst (Begins magic s) w.1 (record { is = sym t.0 ∙ (bytes_eq-Decides a.0.0 magic).0 w.0; stands = t.1 })

record BodyRead (s : Spot) (t : Spot) : Type 0 where
  end : ℕ
  has : HasBody s.rest end
  stands : Stands s end t

body_refused : (later : Bool) (s t : Spot) (p : ℕ) → HasFlag s.rest → is_later (first_in s.rest) ≡ later → Stands s 49 t → body_at later t ≡ Err p → FaultsAt OpeningFault s p
unfolding body_at
body_refused false s t p flag is h e = absurd (never e)
body_refused true s t p flag is h e = elim (number_case s t 49 4 p _ h e) [
  | inl c ↦ (49, c.1, size_cut flag is c.0 refl)
  | inr a ↦ elim (wants_case (leb a.value most_body) t.at (a.value, a.next) _ p a.goes_on) [
    | inl other ↦ (49, other.1 ∙ h.at_is, size_other flag is (whole s a.next 53 53 a.stands (omega arith)) (subst (λ (n : ℕ). most_body < n) a.value_is (leb-false a.value most_body other.0)) refl)
    | inr fine ↦
        let small : size_in s.rest ≤ most_body = subst (λ (n : ℕ). n ≤ most_body) a.value_is (leb-true a.value most_body fine.0) in
        elim (bytes_case s a.next 53 a.value p _ a.stands fine.1) [
          | inl c ↦ (53, c.1, body_cut flag is small (subst (λ (n : ℕ). IsCut s.rest 53 n) a.value_is c.0) refl)
          | inr b ↦ absurd (never b.goes_on)
        ]
  ]
]

body_read : (later : Bool) (s t : Spot) (x : Option (List ℕ) × Spot) → HasFlag s.rest → is_later (first_in s.rest) ≡ later → Stands s 49 t → body_at later t ≡ Ok x → BodyRead s x.1
unfolding body_at
body_read false s t x flag is h e =
    subst (λ (y : Option (List ℕ) × Spot). BodyRead s y.1) (ok_is (None, t) x e) (record { end = 49; has = no_body flag is refl; stands = h })
body_read true s t x flag is h e =
    let a = bind_ok (number_at 4 t) _ x e in
    let n = number_stands s t 49 4 a.0 h a.1 in
    let w = bind_ok (wants (leb a.0.0 most_body) t.at a.0) _ x a.2 in
    let fine = wants_ok (leb a.0.0 most_body) t.at a.0 w.0 w.1 in
    let b = bind_ok (bytes_at w.0.0 w.0.1) _ x w.2 in
    let size : w.0.0 ≡ size_in s.rest = ap (λ (y : ℕ × Spot). y.0) (sym fine.1) ∙ n.0 in
    let there : Stands s 53 w.0.1 = subst (λ (y : ℕ × Spot). Stands s 53 y.1) fine.1 n.1 in
    let end = bytes_stand s w.0.1 53 w.0.0 b.0 there b.1 in
    let small : size_in s.rest ≤ most_body = subst (λ (k : ℕ). k ≤ most_body) n.0 (leb-true a.0.0 most_body fine.0) in
    let has : HasBody s.rest (53 + w.0.0) = some_body flag is small (ap (λ (k : ℕ). 53 + k) size) in
    subst (λ (y : Option (List ℕ) × Spot). BodyRead s y.1) (ok_is (Some b.0.0, b.0.1) x b.2) (record { end = 53 + w.0.0; has = has; stands = end.1 })

prev_same : {a a' f f' : ℕ} {v v' : List ℕ} → a ≡ a' → f ≡ f' → v ≡ v' → is_prev a' f' v' ≡ is_prev a f v
prev_same p q r = cc

flag_same : {f f' g g' : ℕ} → f ≡ f' → g ≡ g' → is_body_flag f' g' ≡ is_body_flag f g
flag_same p q = cc

pub opening_refused : (s : Spot) (p : ℕ) → opening_at s ≡ Err p → FaultsAt OpeningFault s p
unfolding opening_at
opening_refused s p e = elim (bind_case (magic_at answer_magic s) _ p e) [
  | inl bad ↦
      let m = magic_refused answer_magic s p bad in
      let place : p ≡ s.at + 0 = m.0 ∙ omega arith in
      elim m.1 [ inl c ↦ (0, place, magic_cut c refl) | inr other ↦ (0, place, magic_other other.0 other.1 refl) ]
  | inr x ↦
      let m = magic_stands answer_magic s x.0 x.1 in
      elim (number_case s x.0.1 4 4 p _ m.stands x.2) [
        | inl c ↦ (4, c.1, asn_cut m.is c.0 refl)
        | inr a ↦ elim (number_case s a.next 8 8 p _ a.stands a.goes_on) [
          | inl c ↦ (8, c.1, first_cut m.is c.0 refl)
          | inr b ↦ elim (wants_case (is_first b.value) a.next.at (b.value, b.next) _ p b.goes_on) [
            | inl other ↦ (8, other.1 ∙ a.stands.at_is, first_other m.is (whole s b.next 16 16 b.stands (omega arith)) (ap is_first (sym b.value_is) ∙ other.0) refl)
            | inr first ↦
                let first_is : is_first (first_in s.rest) ≡ true = ap is_first (sym b.value_is) ∙ first.0 in
                elim (bytes_case s b.next 16 digest_size p _ b.stands first.1) [
                  | inl c ↦ (16, c.1, prev_cut m.is first_is c.0 refl)
                  | inr d ↦ elim (wants_case (is_prev a.value b.value d.value) b.next.at (d.value, d.next) _ p d.goes_on) [
                    | inl other ↦ (16, other.1 ∙ b.stands.at_is, prev_other m.is first_is (whole s d.next 48 48 d.stands (omega arith)) (prev_same a.value_is b.value_is d.value_is ∙ other.0) refl)
                    | inr prev ↦
                        let prev_is : is_prev (asn_in s.rest) (first_in s.rest) (prev_in s.rest) ≡ true = prev_same a.value_is b.value_is d.value_is ∙ prev.0 in
                        elim (number_case s d.next 48 1 p _ d.stands prev.1) [
                          | inl c ↦ (48, c.1, flag_cut m.is first_is prev_is c.0 refl)
                          | inr g ↦ elim (wants_case (is_body_flag b.value g.value) d.next.at (g.value, g.next) _ p g.goes_on) [
                            | inl other ↦ (48, other.1 ∙ d.stands.at_is, flag_other m.is first_is prev_is (whole s g.next 49 49 g.stands (omega arith)) (flag_same b.value_is g.value_is ∙ other.0) refl)
                            | inr flag ↦
                                let has : HasFlag s.rest = record { magic = m.is; first = first_is; prev = prev_is; flag = flag_same b.value_is g.value_is ∙ flag.0 } in
                                let later : is_later (first_in s.rest) ≡ is_later b.value = ap is_later (sym b.value_is) in
                                elim (bind_case (body_at (is_later b.value) g.next) _ p flag.1) [
                                  | inl bad ↦ body_refused (is_later b.value) s g.next p has later g.stands bad
                                  | inr y ↦
                                      let body = body_read (is_later b.value) s g.next y.0 has later g.stands y.1 in
                                      elim (number_case s y.0.1 body.end 4 p _ body.stands y.2) [
                                        | inl c ↦ (body.end, c.1, count_cut body.end body.has c.0 refl)
                                        | inr n ↦ elim (wants_case (leb 1 n.value) y.0.1.at (n.value, n.next) _ p n.goes_on) [
                                          | inl none ↦
                                              let small = leb-false 1 n.value none.0 in
                                              let zero_is : big_number 4 (drop body.end s.rest) ≡ 0 = sym n.value_is ∙ omega (arith, small) in
                                              (body.end, none.1 ∙ body.stands.at_is, count_other body.end body.has n.stands.long zero_is refl)
                                          | inr some ↦ absurd (never some.1)
                                        ]
                                      ]
                                ]
                          ]
                        ]
                  ]
                ]
          ]
        ]
      ]
]

-- ---- the entries

record EntriesRefused (checkpoint : Bool) (last n : ℕ) (s : Spot) (p : ℕ) : Type 0 where
  before : List LogEntry
  next : Spot
  fewer : length before < n
  read : entries_at checkpoint last (length before) s ≡ Ok (before, next)
  fault : entry_at (is_asked checkpoint before) (last_time last before) next ≡ Err p

not_asked : (es : List LogEntry) → is_asked false es ≡ false
not_asked [] = refl
not_asked (e ∷ es) = refl

one_more : (checkpoint : Bool) (last n : ℕ) (s : Spot) (x : LogEntry × Spot) (es : List LogEntry) (t : Spot) → entry_at checkpoint last s ≡ Ok x → entries_at false x.0.time n x.1 ≡ Ok (es, t)
    → entries_at checkpoint last (suc n) s ≡ Ok (x.0 ∷ es, t)
unfolding entries_at
one_more checkpoint last n s x es t e g = rw (e, g) refl

entries_refused : (checkpoint : Bool) (last n : ℕ) (s : Spot) (p : ℕ) → entries_at checkpoint last n s ≡ Err p → EntriesRefused checkpoint last n s p
unfolding entries_at
entries_refused checkpoint last zero s p e = absurd (never e)
entries_refused checkpoint last (suc n) s p e = elim (bind_case (entry_at checkpoint last s) _ p e) [
  | inl bad ↦ record { before = []; next = s; fewer = omega arith; read = refl; fault = bad }
  | inr x ↦ elim (bind_case (entries_at false x.0.0.time n x.0.1) _ p x.2) [
    | inl worse ↦
        let r = entries_refused false x.0.0.time n x.0.1 p worse in
        record {
          before = x.0.0 ∷ r.before;
          next = r.next;
          fewer = omega (arith, r.fewer);
          read = one_more checkpoint last (length r.before) s x.0 r.before r.next x.1 r.read;
          fault = subst (λ (b : Bool). entry_at b (last_time x.0.0.time r.before) r.next ≡ Err p) (not_asked r.before) r.fault;
        }
    | inr fine ↦ absurd (never fine.2)
  ]
]

-- ---- the whole answer

ended : {A : Type 0} (s : Spot) (x : A) (p : ℕ) → ends_at s x ≡ Err p → (0 < length s.rest) × (p ≡ s.at)
ended {A} s x p e = by_test (eqb (length s.rest) 0) refl e
  where
    by_test : (b : Bool) → eqb (length s.rest) 0 ≡ b → (let r : Result A ℕ = cond b (Ok x) (Err s.at) in r) ≡ Err p → (0 < length s.rest) × (p ≡ s.at)
    by_test true t g = absurd cc
    by_test false t g = (omega (arith, eqb-false (length s.rest) 0 t), sym (err_is s.at p g))

pub answer_refused : (bytes : List ℕ) (p : ℕ) → answer_of bytes ≡ Err p → AnswerFault bytes p
unfolding answer_of
answer_refused bytes p e = elim (bind_case (opening_at (start_of bytes)) _ p e) [
  | inl bad ↦
      let f = opening_refused (start_of bytes) p bad in
      let place : p ≡ f.0 = f.1 ∙ omega arith in
      opening_fault (subst (OpeningFault bytes) (sym place) f.2)
  | inr o ↦ elim (bind_case (entries_at (is_later o.0.0.first) 0 o.0.0.count o.0.1) _ p o.2) [
    | inl bad ↦
        let r = entries_refused (is_later o.0.0.first) 0 o.0.0.count o.0.1 p bad in
        let f = entry_refused (is_asked (is_later o.0.0.first) r.before) (last_time 0 r.before) r.next p r.fault in
        entry_fault o.0.0 o.0.1 r.before r.next f.0 o.1 r.fewer r.read f.2 f.1
    | inr es ↦ elim (bind_case (wanted_at (Some (head_of o.0.0 es.0.0)) es.0.1) _ p es.2) [
      | inl bad ↦
          let f = wanted_refused (Some (head_of o.0.0 es.0.0)) es.0.1 p bad in
          head_fault o.0.0 o.0.1 es.0.0 es.0.1 f.0 o.1 es.1 f.2 f.1
      | inr h ↦
          let end = ended h.0.1 _ p h.2 in
          more o.0.0 o.0.1 es.0.0 es.0.1 h.0.0 h.0.1 o.1 es.1 h.1 end.0 end.1
    ]
  ]
]
