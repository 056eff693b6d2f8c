-- When a neighbour is overdue.
use Rattle.std.proofs.Common.{◌≡◌, ◌<◌, ◌*◌, ◌+◌, ℕ, Bool, true, false, ◌&&◌, Option, Some, None, refl, ap, ◌∙◌, sym}
use Rattle.std.specs.Prelude.{◌↔◌, IsTrue, nat_lt}
use Rattle.std.proofs.lemmas.Bool.{ltb-true, lt-ltb}
use Rattle.nr_spec_counts.specs.Tallies.{Numbers, Tally}
use Rattle.nr_spec_counts.specs.Causes.{is_overdue, waits_too_long}

-- a promise in force that declares the neighbour, and the time of a message that waits for too long
abbrev Waits : Option Numbers → Option ℕ → ℕ → ℕ → Type 0
Waits in_force oldest time n =
    (force : Numbers) × (since : ℕ) × (in_force ≡ Some force) × (n < force.count) × (oldest ≡ Some since) × (since + force.delay * 1000000 < time)

both : (a b : ℕ) (c d : ℕ) → (nat_lt a b && nat_lt c d) ≡ true → (a < b) × (c < d)
both a b c d h = by (nat_lt a b) (nat_lt c d) refl refl h
  where
    by : (x y : Bool) → nat_lt a b ≡ x → nat_lt c d ≡ y → (x && y) ≡ true → (a < b) × (c < d)
    by true true p q h = (ltb-true _ _ p, ltb-true _ _ q)
    by true false p q h = absurd cc
    by false y p q h = absurd cc

not_both : (a : Bool) → (a && false) ≡ true → ⊥
not_both true h = absurd cc
not_both false h = absurd cc

abbrev overdue_by : Option Numbers → Option ℕ → ℕ → ℕ → Bool
overdue_by None oldest time n = false
overdue_by (Some force) oldest time n = nat_lt n force.count && waits_too_long force.delay time oldest

same : (t : Tally) (time : ℕ) (force : Option Numbers) (n : ℕ) → is_overdue t time force n ≡ overdue_by force (t.oldest n) time n
same t time None n = refl
same t time (Some force) n = refl

waits : (force : Option Numbers) (oldest : Option ℕ) (time n : ℕ) → overdue_by force oldest time n ≡ true → Waits force oldest time n
waits None oldest time n h = absurd cc
waits (Some force) None time n h = absurd (not_both (nat_lt n force.count) h)
waits (Some force) (Some since) time n h =
    let is = both n force.count (since + force.delay * 1000000) time h in
    (force, since, refl, is.0, refl, is.1)

overdue : (force : Option Numbers) (oldest : Option ℕ) (time n : ℕ) → Waits force oldest time n → overdue_by force oldest time n ≡ true
overdue in_force oldest time n (force, since, p, declared, q, late) =
    ap (λ f. overdue_by f oldest time n) p ∙ (ap (λ o. overdue_by (Some force) o time n) q
    ∙ (λ i. lt-ltb _ _ declared i && lt-ltb _ _ late i))

pub overdue_is : (t : Tally) (time n : ℕ) → IsTrue (is_overdue t time t.in_force n) ↔ ((force : Numbers) × (since : ℕ)
    × (t.in_force ≡ Some force) × (n < force.count) × (t.oldest n ≡ Some since) × (since + force.delay * 1000000 < time))
overdue_is t time n = (
  λ h. waits t.in_force (t.oldest n) time n (sym (same t time t.in_force n) ∙ h),
  λ h. same t time t.in_force n ∙ overdue t.in_force (t.oldest n) time n h,
)
