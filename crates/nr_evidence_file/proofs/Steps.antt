-- Reading so many values, as a loop or an iterator does.
use Rattle.std.proofs.Common.{◌≡◌, ℕ, zero, suc, ◌+◌, ◌-◌, ◌<◌, ◌≤◌, List, [], ◌∷◌, Result, Ok, Err, refl, sym, ap, ◌∙◌, arith}
use Rattle.std.specs.Prelude.{Option, None}
use Rattle.nr_spec_wire.specs.Reading.{Spot, Read, ◌>>=◌, rows, fault}
use Rattle.nr_spec_wire.proofs.Steps.{behind, ok_is}
use Rattle.nr_spec_evidence.specs.Counted.{counted_at}

pub counted-none : {A : Type 0} (item : Spot → Read A) (n : ℕ) (s : Spot) → n ≡ 0 → counted_at item n s ≡ Ok ([], s)
unfolding counted_at
counted-none item zero s h = refl
counted-none item (suc n) s h = absurd (omega arith)

pub counted-more : {A : Type 0} (item : Spot → Read A) (n : ℕ) (s : Spot) (x : A) (next : Spot) → (n ≡ 0 → ⊥) → item s ≡ Ok (x, next)
    → counted_at item n s ≡ behind x (counted_at item (n - 1) next)
unfolding counted_at
counted-more item zero s x next left is = absurd (left refl)
counted-more item (suc n) s x next left is =
    let one : suc n - 1 ≡ n = omega arith in
    rw (is, one) refl

pub counted-fault : {A : Type 0} (item : Spot → Read A) (n : ℕ) (s : Spot) (place : ℕ) → (n ≡ 0 → ⊥) → item s ≡ Err place → counted_at item n s ≡ Err place
unfolding counted_at
counted-fault item zero s place left is = absurd (left refl)
counted-fault item (suc n) s place left is = rw is refl

-- ---- a loop keeps only where reading stands

-- where reading stands behind them, or the fault
abbrev pub stop : {A : Type 0} → Read (List A) → Result Spot ℕ
stop read = read >>= λ values. Ok values.1

stop-behind : {A : Type 0} (x : A) (read : Read (List A)) → stop (behind x read) ≡ stop read
stop-behind x (Ok values) = refl
stop-behind x (Err place) = refl

pub record StopsAt {A : Type 0} (read : Read (List A)) (new : Spot) : Type 0 where
  pub is_read : read ≡ Ok (rows read, new)
  pub no_fault : fault read ≡ None

stop-ok : {A : Type 0} (read : Read (List A)) (new : Spot) → stop read ≡ Ok new → StopsAt read new
stop-ok (Ok values) new e = record { is_read = ap (λ (s : Spot). Ok (values.0, s)) (ok_is values.1 new e); no_fault = refl }
stop-ok (Err place) new e = absurd cc

stop-err : {A : Type 0} (read : Read (List A)) (place : ℕ) → stop read ≡ Err place → read ≡ Err place
stop-err (Ok values) place e = absurd cc
stop-err (Err other) place e = cc

pub stop-goes : {A : Type 0} (item : Spot → Read A) (count i : ℕ) (s : Spot) (x : A) (next : Spot) (total : Result Spot ℕ) → i < count → item s ≡ Ok (x, next)
    → stop (counted_at item (count - i) s) ≡ total → stop (counted_at item (count - (i + 1)) next) ≡ total
stop-goes item count i s x next total lt is so_far =
    let one : count - i - 1 ≡ count - (i + 1) = omega arith in
    let more = ap stop (counted-more item (count - i) s x next (λ z. omega arith) is) in
    ap (λ (n : ℕ). stop (counted_at item n next)) (sym one) ∙ sym (stop-behind x (counted_at item (count - i - 1) next)) ∙ sym more ∙ so_far

pub stop-fails : {A : Type 0} (item : Spot → Read A) (count i : ℕ) (s : Spot) (place : ℕ) (read : Read (List A)) → i < count → item s ≡ Err place
    → stop (counted_at item (count - i) s) ≡ stop read → read ≡ Err place
stop-fails item count i s place read lt is so_far = stop-err read place (sym so_far ∙ ap stop (counted-fault item (count - i) s place (λ z. omega arith) is))

pub stop-done : {A : Type 0} (item : Spot → Read A) (count i : ℕ) (s : Spot) (read : Read (List A)) → count ≤ i
    → stop (counted_at item (count - i) s) ≡ stop read → StopsAt read s
stop-done item count i s read le so_far = stop-ok read s (sym so_far ∙ ap stop (counted-none item (count - i) s (omega arith)))
