-- Authenticators that were refused.
use Rattle.std.proofs.Common.{◌≡◌, ◌≢◌, ℕ, zero, suc, ◌+◌, ◌*◌, ◌<◌, ◌≤◌, Bool, true, false, eqb, List, [], ◌∷◌, ◌++◌, length, take, drop, Option, None, Result, Ok, Err, ◌⊎◌, inl, inr, refl, sym, ap, subst, ◌∙◌, arith, append_assoc}
use Rattle.std.specs.List.{flat_map, AllByRecursion}
use Rattle.std.specs.Str.{bytes_eq}
use Rattle.std.proofs.lemmas.Bool.{eqb-false}
use Rattle.std.proofs.lemmas.List.{length-append}
use Rattle.std.proofs.lemmas.List.Concat.{flat_map-cons}
use Rattle.std.proofs.lemmas.Slice.Eq.{bytes_eq-Decides}
use Rattle.byteorder.specs.Endian.{big_number}
use Rattle.nr_spec_wire.specs.Reading.{Spot, start_of, bytes_at, wants, rows_at, all_rows_at, IsBytes}
use Rattle.nr_spec_wire.proofs.Steps.{bind_ok, wants_ok}
use Rattle.nr_spec_log.specs.Authenticator.{Authenticator, IsAuthenticator, Head, authenticator, authenticator_at, wanted_at, signature_at, is_leaf, is_asn_of, is_seq_of, is_time_of, pairs_size, digest_size, auths_magic, auths_of, magic_at}
use Rattle.nr_laws_log.specs.Laws.{Takes}
use Rattle.nr_laws_log.proofs.AuthenticatorLaws.{authenticator_takes}
use Rattle.nr_laws_files.specs.Cuts.{IsCut}
use Rattle.nr_laws_files.specs.Authenticators.{HasLeaf, SignatureFault, leaf_cut, height_cut, no_leaf, pairs_cut, path_cut, Speaks, AuthFault, asn_cut, asn_other, seq_cut, seq_other, time_cut, time_other, hash_cut, sig_fault, AuthsFault, magic_cut, magic_other, auth_fault}
use Rattle.nr_laws_files.proofs.Cases.{stands_first, bytes_take, bind_case, if_case, wants_case, wants_end, number_case, bytes_case, whole}

Takes-then : (a : Spot) (x : List ℕ) (b : Spot) (y : List ℕ) (c : Spot) → Takes a x b → Takes b y c → Takes a (x ++ y) c
Takes-then a x b y c p q = record {
  parts = p.parts ∙ ap (λ (t : List ℕ). x ++ t) q.parts ∙ sym (append_assoc x y c.rest);
  place = omega (arith, p.place, q.place, length-append x y);
  rest_fits = q.rest_fits;
}

-- a fault so many bytes after a spot
abbrev pub FaultsAt : (List ℕ → ℕ → Type 0) → Spot → ℕ → Type 0
FaultsAt Fault s p = (d : ℕ) × (p ≡ s.at + d) × Fault s.rest d

signature_refused : (t : Spot) (p : ℕ) → signature_at t ≡ Err p → FaultsAt SignatureFault t p
unfolding signature_at
signature_refused t p e = elim (number_case t t 0 4 p _ (stands_first t) e) [
  | inl c ↦ (0, c.1, leaf_cut c.0 refl)
  | inr a ↦ elim (number_case t a.next 4 1 p _ a.stands a.goes_on) [
    | inl c ↦ (4, c.1, height_cut c.0 refl)
    | inr b ↦ elim (wants_case (is_leaf a.value b.value) a.next.at (b.value, b.next) _ p b.goes_on) [
      | inl other ↦
          let test : is_leaf (big_number 4 t.rest) (big_number 1 (drop 4 t.rest)) ≡ false = sym (both a.value_is b.value_is) ∙ other.0 in
          (4, other.1 ∙ a.stands.at_is, no_leaf (whole t b.next 5 5 b.stands (omega arith)) test refl)
      | inr fine ↦
          let leaf : HasLeaf t.rest b.value = record {
            whole = whole t b.next 5 5 b.stands (omega arith);
            height_is = b.value_is;
            fits = ap (λ (n : ℕ). is_leaf n b.value) (sym a.value_is) ∙ fine.0;
          } in
          elim (bytes_case t b.next 5 pairs_size p _ b.stands fine.1) [
            | inl c ↦ (5, c.1, pairs_cut b.value leaf c.0 refl)
            | inr d ↦ elim (bytes_case t d.next 16389 (digest_size * b.value) p _ d.stands d.goes_on) [
              | inl c ↦ (16389, c.1, path_cut b.value leaf c.0 refl)
              | inr g ↦ absurd (never g.goes_on)
            ]
          ]
    ]
  ]
]
  where
    both : {n m k l : ℕ} → n ≡ k → m ≡ l → is_leaf n m ≡ is_leaf k l
    both p q = cc

    never : {A : Type 0} {x : A} {q : ℕ} → (let r : Result A ℕ = Ok x in r) ≡ Err q → ⊥
    never e = cc

pub wanted_refused : (head : Option Head) (s : Spot) (p : ℕ) → wanted_at head s ≡ Err p → FaultsAt (AuthFault head) s p
unfolding wanted_at
wanted_refused head s p e = elim (number_case s s 0 4 p _ (stands_first s) e) [
  | inl c ↦ (0, c.1, asn_cut c.0 refl)
  | inr a ↦ elim (wants_case (is_asn_of head a.value) s.at (a.value, a.next) _ p a.goes_on) [
    | inl other ↦ (0, other.1 ∙ omega arith, asn_other (whole s a.next 4 4 a.stands (omega arith)) (ap (is_asn_of head) (sym a.value_is) ∙ other.0) refl)
    | inr asn ↦
        let asn_is : is_asn_of head (big_number 4 s.rest) ≡ true = ap (is_asn_of head) (sym a.value_is) ∙ asn.0 in
        elim (number_case s a.next 4 8 p _ a.stands asn.1) [
          | inl c ↦ (4, c.1, seq_cut asn_is c.0 refl)
          | inr b ↦ elim (wants_case (is_seq_of head b.value) a.next.at (b.value, b.next) _ p b.goes_on) [
            | inl other ↦ (4, other.1 ∙ a.stands.at_is, seq_other asn_is (whole s b.next 12 12 b.stands (omega arith)) (ap (is_seq_of head) (sym b.value_is) ∙ other.0) refl)
            | inr seq ↦
                let seq_is : is_seq_of head (big_number 8 (drop 4 s.rest)) ≡ true = ap (is_seq_of head) (sym b.value_is) ∙ seq.0 in
                elim (number_case s b.next 12 8 p _ b.stands seq.1) [
                  | inl c ↦ (12, c.1, time_cut asn_is seq_is c.0 refl)
                  | inr g ↦ elim (wants_case (is_time_of head g.value) b.next.at (g.value, g.next) _ p g.goes_on) [
                    | inl other ↦ (12, other.1 ∙ b.stands.at_is, time_other asn_is seq_is (whole s g.next 20 20 g.stands (omega arith)) (ap (is_time_of head) (sym g.value_is) ∙ other.0) refl)
                    | inr time ↦
                        let speaks : Speaks head s.rest = record { asn = asn_is; seq = seq_is; time = ap (is_time_of head) (sym g.value_is) ∙ time.0 } in
                        elim (bytes_case s g.next 20 digest_size p _ g.stands time.1) [
                          | inl c ↦ (20, c.1, hash_cut speaks c.0 refl)
                          | inr h ↦ elim (bind_case (signature_at h.next) _ p h.goes_on) [
                            | inl bad ↦
                                let f = signature_refused h.next p bad in
                                (52 + f.0, f.1 ∙ omega (arith, h.stands.at_is), sig_fault speaks h.stands.long f.0 (subst (λ (bytes : List ℕ). SignatureFault bytes f.0) h.stands.rest_is f.2) refl)
                            | inr x ↦ absurd (never x.2)
                          ]
                        ]
                  ]
                ]
          ]
        ]
  ]
]
  where
    never : {A : Type 0} {x : A} {q : ℕ} → (let r : Result A ℕ = Ok x in r) ≡ Err q → ⊥
    never e = cc

-- ---- to the end of the bytes

record AreRefused (s : Spot) (p : ℕ) : Type 0 where
  before : List Authenticator
  rest : Spot
  fit : AllByRecursion IsAuthenticator before
  takes : Takes s (flat_map authenticator before) rest
  some : 0 < length rest.rest
  fault : authenticator_at rest ≡ Err p

rows_refused : (fuel : ℕ) (s : Spot) (p : ℕ) → IsBytes s.rest → rows_at authenticator_at fuel s ≡ Err p → AreRefused s p
unfolding rows_at
rows_refused zero s p fits e = absurd cc
rows_refused (suc fuel) s p fits e = elim (if_case (eqb (length s.rest) 0) _ _ p e) [
  | inl none ↦ absurd (never none.1)
  | inr more ↦
      let some : 0 < length s.rest = omega (arith, eqb-false (length s.rest) 0 more.0) in
      elim (bind_case (authenticator_at s) _ p more.1) [
        | inl bad ↦
            let nothing : Takes s [] s = record { parts = refl; place = omega arith; rest_fits = fits } in
            record { before = []; rest = s; fit = tt; takes = nothing; some = some; fault = bad }
        | inr x ↦ elim (bind_case (rows_at authenticator_at fuel x.0.1) _ p x.2) [
          | inl worse ↦
              let t = authenticator_takes s x.0.0 x.0.1 fits x.1 in
              let r = rows_refused fuel x.0.1 p t.1.rest_fits worse in
              let both = Takes-then s (authenticator x.0.0) x.0.1 (flat_map authenticator r.before) r.rest t.1 r.takes in
              record {
                before = x.0.0 ∷ r.before;
                rest = r.rest;
                fit = (t.0, r.fit);
                takes = subst (λ (text : List ℕ). Takes s text r.rest) (sym (flat_map-cons authenticator x.0.0 r.before)) both;
                some = r.some;
                fault = r.fault;
              }
          | inr fine ↦ absurd (never fine.2)
        ]
      ]
]
  where
    never : {A : Type 0} {x : A} {q : ℕ} → (let r : Result A ℕ = Ok x in r) ≡ Err q → ⊥
    never e = cc

pub magic_refused : (magic : List ℕ) (s : Spot) (p : ℕ) → magic_at magic s ≡ Err p → (p ≡ s.at) × (IsCut s.rest 0 4 ⊎ ((4 ≤ length s.rest) × (take 4 s.rest ≢ magic)))
magic_refused magic s p e = elim (bytes_case s s 0 4 p (λ found. wants (bytes_eq found.0 magic) s.at found) (stands_first s) e) [
  | inl c ↦ (c.1 ∙ omega arith, inl c.0)
  | inr f ↦
      let other = wants_end (bytes_eq f.value magic) s.at (f.value, f.next) p f.goes_on in
      (other.1, inr (f.stands.long, λ same. differ (bytes_eq f.value magic) other.0 ((bytes_eq-Decides f.value magic).1 (f.value_is ∙ same))))
]
  where
    differ : (b : Bool) → b ≡ false → b ≡ true → ⊥
    differ true e h = absurd cc
    differ false e h = absurd cc

-- what was taken for the first four bytes of a file
record Begins (magic : List ℕ) (s : Spot) (x : List ℕ × Spot) : Type 0 where
  is : x.0 ≡ magic
  takes : Takes s x.0 x.1

magic_taken : (magic : List ℕ) (s : Spot) (x : List ℕ × Spot) → IsBytes s.rest → magic_at magic s ≡ Ok x → Begins magic s x
magic_taken magic s x fits e =
    let a = bind_ok (bytes_at 4 s) (λ found. wants (bytes_eq found.0 magic) s.at found) x e in
    let t = bytes_take 4 s a.0 fits a.1 in
    let w = wants_ok (bytes_eq a.0.0 magic) s.at a.0 x a.2 in
    subst (Begins magic s) w.1 (record { is = (bytes_eq-Decides a.0.0 magic).0 w.0; takes = t })

pub file_refused : (bytes : List ℕ) (p : ℕ) → IsBytes bytes → auths_of bytes ≡ Err p → AuthsFault bytes p
unfolding auths_of
file_refused bytes p fits e = elim (bind_case (magic_at auths_magic (start_of bytes)) _ p e) [
  | inl bad ↦
      let m = magic_refused auths_magic (start_of bytes) p bad in
      elim m.1 [ inl c ↦ magic_cut c m.0 | inr other ↦ magic_other other.0 other.1 m.0 ]
  | inr x ↦ elim (bind_case (all_rows_at authenticator_at x.0.1) _ p x.2) [
    | inl worse ↦
        let m = magic_taken auths_magic (start_of bytes) x.0 fits x.1 in
        let r = rows_refused (length x.0.1.rest) x.0.1 p m.takes.rest_fits worse in
        let f = wanted_refused None r.rest p r.fault in
        let front : bytes ≡ auths_magic ++ x.0.1.rest = m.takes.parts ∙ ap (λ (t : List ℕ). t ++ x.0.1.rest) m.is in
        let spelled : bytes ≡ auths_magic ++ (flat_map authenticator r.before ++ r.rest.rest) = front ∙ ap (λ (t : List ℕ). auths_magic ++ t) r.takes.parts in
        let four : length x.0.0 ≡ 4 = ap length m.is in
        let place : p ≡ 4 + length (flat_map authenticator r.before) + f.0 = omega (arith, f.1, r.takes.place, m.takes.place, four) in
        auth_fault r.before r.rest.rest r.fit spelled r.some f.0 f.2 place
    | inr fine ↦ absurd (never fine.2)
  ]
]
  where
    never : {A : Type 0} {x : A} {q : ℕ} → (let r : Result A ℕ = Ok x in r) ≡ Err q → ⊥
    never e = cc
