-- Entries that were refused.
use Rattle.std.proofs.Common.{◌≡◌, ℕ, ◌<◌, ◌≤◌, Bool, true, leb, drop, Result, Ok, Err, inl, inr, refl, sym, ap, subst, ◌∙◌, arith}
use Rattle.std.proofs.lemmas.Bool.{leb-true, leb-false}
use Rattle.byteorder.specs.Endian.{big_number}
use Rattle.nr_spec_wire.specs.Reading.{Spot}
use Rattle.nr_spec_log.specs.Authenticator.{digest_size}
use Rattle.nr_spec_log.specs.Answer.{entry_at, is_wanted, checkpoint_kind}
use Rattle.nr_laws_files.specs.Cuts.{IsCut}
use Rattle.nr_laws_files.specs.Answers.{EntryFault, time_cut, time_back, kind_cut, kind_other, size_cut, size_other, content_cut}
use Rattle.nr_laws_files.proofs.Cases.{stands_first, wants_case, number_case, bytes_case, whole}
use Rattle.nr_laws_files.proofs.AuthCases.{FaultsAt}

never : {A : Type 0} {x : A} {q : ℕ} → (let r : Result A ℕ = Ok x in r) ≡ Err q → ⊥
never e = cc

pub entry_refused : (checkpoint : Bool) (last : ℕ) (s : Spot) (p : ℕ) → entry_at checkpoint last s ≡ Err p → FaultsAt (EntryFault checkpoint last) s p
unfolding entry_at
entry_refused checkpoint last s p e = elim (number_case s s 0 8 p _ (stands_first s) e) [
  | inl c ↦ (0, c.1, time_cut c.0 refl)
  | inr a ↦ elim (wants_case (leb last a.value) s.at (a.value, a.next) _ p a.goes_on) [
    | inl back ↦ (0, back.1 ∙ omega arith, time_back (whole s a.next 8 8 a.stands (omega arith)) (subst (λ (n : ℕ). n < last) a.value_is (leb-false last a.value back.0)) refl)
    | inr time ↦
        let time_is : last ≤ big_number 8 s.rest = subst (λ (n : ℕ). last ≤ n) a.value_is (leb-true last a.value time.0) in
        elim (number_case s a.next 8 1 p _ a.stands time.1) [
          | inl c ↦ (8, c.1, kind_cut time_is c.0 refl)
          | inr b ↦ elim (wants_case (is_wanted checkpoint b.value checkpoint_kind) a.next.at (b.value, b.next) _ p b.goes_on) [
            | inl other ↦ (8, other.1 ∙ a.stands.at_is, kind_other time_is (whole s b.next 9 9 b.stands (omega arith)) (ap (λ (n : ℕ). is_wanted checkpoint n checkpoint_kind) (sym b.value_is) ∙ other.0) refl)
            | inr kind ↦
                let kind_is : is_wanted checkpoint (big_number 1 (drop 8 s.rest)) checkpoint_kind ≡ true = ap (λ (n : ℕ). is_wanted checkpoint n checkpoint_kind) (sym b.value_is) ∙ kind.0 in
                elim (number_case s b.next 9 2 p _ b.stands kind.1) [
                  | inl c ↦ (9, c.1, size_cut time_is kind_is c.0 refl)
                  | inr g ↦ elim (wants_case (is_wanted checkpoint g.value digest_size) b.next.at (g.value, g.next) _ p g.goes_on) [
                    | inl other ↦ (9, other.1 ∙ b.stands.at_is, size_other time_is kind_is (whole s g.next 11 11 g.stands (omega arith)) (ap (λ (n : ℕ). is_wanted checkpoint n 32) (sym g.value_is) ∙ other.0) refl)
                    | inr size ↦
                        let size_is : is_wanted checkpoint (big_number 2 (drop 9 s.rest)) 32 ≡ true = ap (λ (n : ℕ). is_wanted checkpoint n 32) (sym g.value_is) ∙ size.0 in
                        elim (bytes_case s g.next 11 g.value p _ g.stands size.1) [
                          | inl c ↦ (11, c.1, content_cut time_is kind_is size_is (subst (λ (n : ℕ). IsCut s.rest 11 n) g.value_is c.0) refl)
                          | inr h ↦ absurd (never h.goes_on)
                        ]
                  ]
                ]
          ]
        ]
  ]
]
