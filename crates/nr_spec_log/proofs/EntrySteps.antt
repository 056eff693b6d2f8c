-- Reading entries one after another, as a loop or an iterator does.
use Rattle.std.proofs.Common.{◌≡◌, ℕ, zero, suc, ◌+◌, ◌-◌, ◌<◌, ◌≤◌, Bool, false, List, [], length, None, Ok, Err, refl, sym, ap, ◌∙◌, arith}
use Rattle.nr_spec_wire.specs.Reading.{Spot, Read, ◌>>=◌, rows, fault}
use Rattle.nr_spec_wire.proofs.Steps.{behind, ok_is}
use Rattle.nr_spec_log.specs.Chain.{LogEntry}
use Rattle.nr_spec_log.specs.Answer.{entry_at, entries_at, last_time}

pub entries-none : (checkpoint : Bool) (last n : ℕ) (s : Spot) → n ≡ 0 → entries_at checkpoint last n s ≡ Ok ([], s)
unfolding entries_at
entries-none checkpoint last zero s h = refl
entries-none checkpoint last (suc n) s h = absurd (omega arith)

pub entries-more : (checkpoint : Bool) (last n : ℕ) (s : Spot) (e : LogEntry) (next : Spot) → (n ≡ 0 → ⊥) → entry_at checkpoint last s ≡ Ok (e, next)
    → entries_at checkpoint last n s ≡ behind e (entries_at false e.time (n - 1) next)
unfolding entries_at
entries-more checkpoint last zero s e next left is = absurd (left refl)
entries-more checkpoint last (suc n) s e next left is =
    let one : suc n - 1 ≡ n = omega arith in
    rw (is, one) refl

pub entries-fault : (checkpoint : Bool) (last n : ℕ) (s : Spot) (place : ℕ) → (n ≡ 0 → ⊥) → entry_at checkpoint last s ≡ Err place
    → entries_at checkpoint last n s ≡ Err place
unfolding entries_at
entries-fault checkpoint last zero s place left is = absurd (left refl)
entries-fault checkpoint last (suc n) s place left is = rw is refl

-- ---- a loop keeps the time of the last entry alone

-- the time of the last of the entries read, after an entry of this time
abbrev pub ending : ℕ → Read (List LogEntry) → Read ℕ
ending last read = read >>= λ entries. Ok (last_time last entries.0, entries.1)

pub ending-behind : (last : ℕ) (e : LogEntry) (read : Read (List LogEntry)) → ending last (behind e read) ≡ ending e.time read
ending-behind last e (Ok entries) = refl
ending-behind last e (Err place) = refl

-- entries of which the last has this time, and where reading stands after them
pub record EndsWith (read : Read (List LogEntry)) (last : ℕ) (new : Spot) : Type 0 where
  pub is_read : read ≡ Ok (rows read, new)
  pub is_last : last ≡ last_time 0 (rows read)
  pub no_fault : fault read ≡ None

pub ending-ok : (read : Read (List LogEntry)) (last : ℕ) (new : Spot) → ending 0 read ≡ Ok (last, new) → EndsWith read last new
ending-ok (Ok entries) last new e =
    let pairs = ok_is (last_time 0 entries.0, entries.1) (last, new) e in
    let last_is : last_time 0 entries.0 ≡ last = ap (λ (p : ℕ × Spot). p.0) pairs in
    let new_is : entries.1 ≡ new = ap (λ (p : ℕ × Spot). p.1) pairs in
    record { is_read = ap (λ (s : Spot). Ok (entries.0, s)) new_is; is_last = sym last_is; no_fault = refl }
ending-ok (Err place) last new e = absurd cc

pub ending-err : (read : Read (List LogEntry)) (place : ℕ) → ending 0 read ≡ Err place → read ≡ Err place
ending-err (Ok entries) place e = absurd cc
ending-err (Err other) place e = cc

-- a loop has counted i of the entries, and reads the others from s
pub ending-goes : (checkpoint : Bool) (last count i : ℕ) (s : Spot) (e : LogEntry) (next : Spot) (total : Read ℕ) → i < count → entry_at checkpoint last s ≡ Ok (e, next)
    → ending last (entries_at checkpoint last (count - i) s) ≡ total → ending e.time (entries_at false e.time (count - (i + 1)) next) ≡ total
ending-goes checkpoint last count i s e next total lt is so_far =
    let one : count - i - 1 ≡ count - (i + 1) = omega arith in
    let more = ap (ending last) (entries-more checkpoint last (count - i) s e next (λ z. omega arith) is) in
    ap (λ (n : ℕ). ending e.time (entries_at false e.time n next)) (sym one) ∙ sym (ending-behind last e (entries_at false e.time (count - i - 1) next)) ∙ sym more ∙ so_far

pub ending-fails : (checkpoint : Bool) (last count i : ℕ) (s : Spot) (place : ℕ) (read : Read (List LogEntry)) → i < count → entry_at checkpoint last s ≡ Err place
    → ending last (entries_at checkpoint last (count - i) s) ≡ ending 0 read → read ≡ Err place
ending-fails checkpoint last count i s place read lt is so_far =
    ending-err read place (sym so_far ∙ ap (ending last) (entries-fault checkpoint last (count - i) s place (λ z. omega arith) is))

pub ending-done : (checkpoint : Bool) (last count i : ℕ) (s : Spot) (read : Read (List LogEntry)) → count ≤ i
    → ending last (entries_at checkpoint last (count - i) s) ≡ ending 0 read → EndsWith read last s
ending-done checkpoint last count i s read le so_far =
    ending-ok read last s (sym so_far ∙ ap (ending last) (entries-none checkpoint last (count - i) s (omega arith)))

-- as many entries are read as are asked for
pub length-entries : (checkpoint : Bool) (last n : ℕ) (s : Spot) → fault (entries_at checkpoint last n s) ≡ None → length (rows (entries_at checkpoint last n s)) ≡ n
unfolding entries_at
length-entries checkpoint last zero s none = refl
length-entries checkpoint last (suc n) s none = first_then (λ e next h. length-entries false e.time n next h) (entry_at checkpoint last s) none
  where
    Shorter : Type 0
    Shorter = (e : LogEntry) (next : Spot) → fault (entries_at false e.time n next) ≡ None → length (rows (entries_at false e.time n next)) ≡ n

    others_then : (e : LogEntry) (read : Read (List LogEntry)) → (fault read ≡ None → length (rows read) ≡ n) → fault (behind e read) ≡ None → length (rows (behind e read)) ≡ suc n
    others_then e (Ok others) h none = omega (arith, h refl)
    others_then e (Err place) h none = absurd cc

    first_then : Shorter → (read : Read LogEntry) → fault (read >>= λ first. behind first.0 (entries_at false first.0.time n first.1)) ≡ None → length (rows (read >>= λ first. behind first.0 (entries_at false first.0.time n first.1))) ≡ suc n
    first_then shorter (Ok first) none = others_then first.0 (entries_at false first.0.time n first.1) (shorter first.0 first.1) none
    first_then shorter (Err place) none = absurd cc
