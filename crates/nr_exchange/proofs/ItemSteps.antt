-- Reading items one behind another, as a loop or an iterator does.
use Rattle.std.proofs.Common.{◌≡◌, ℕ, zero, suc, ◌+◌, ◌-◌, ◌<◌, ◌≤◌, List, [], length, None, Ok, Err, refl, sym, ap, ◌∙◌, arith}
use Rattle.nr_spec_wire.specs.Reading.{Spot, Read, ◌>>=◌, rows, fault}
use Rattle.nr_spec_wire.proofs.Steps.{behind, ok_is}
use Rattle.nr_spec_frames.specs.Frames.{FrameItem, item_time, item_at, items_at}
use Rattle.nr_spec_frames.specs.Verdicts.{last_item_time}

pub items-none : (last n : ℕ) (s : Spot) → n ≡ 0 → items_at last n s ≡ Ok ([], s)
unfolding items_at
items-none last zero s h = refl
items-none last (suc n) s h = absurd (omega arith)

pub items-more : (last n : ℕ) (s : Spot) (e : FrameItem) (next : Spot) → (n ≡ 0 → ⊥) → item_at last s ≡ Ok (e, next)
    → items_at last n s ≡ behind e (items_at (item_time e) (n - 1) next)
unfolding items_at
items-more last zero s e next left is = absurd (left refl)
items-more last (suc n) s e next left is =
    let one : suc n - 1 ≡ n = omega arith in
    rw (is, one) refl

pub items-fault : (last n : ℕ) (s : Spot) (place : ℕ) → (n ≡ 0 → ⊥) → item_at last s ≡ Err place
    → items_at last n s ≡ Err place
unfolding items_at
items-fault last zero s place left is = absurd (left refl)
items-fault last (suc n) s place left is = rw is refl

-- ---- a loop keeps the time of the last entry alone

-- the time of the last of the entries read, behind an entry of this time
abbrev pub ending : ℕ → Read (List FrameItem) → Read ℕ
ending last read = read >>= λ entries. Ok (last_item_time last entries.0, entries.1)

pub ending-behind : (last : ℕ) (e : FrameItem) (read : Read (List FrameItem)) → ending last (behind e read) ≡ ending (item_time e) read
ending-behind last e (Ok entries) = refl
ending-behind last e (Err place) = refl

-- entries of which the last has this time, and where reading stands behind them
pub record EndsWith (read : Read (List FrameItem)) (last : ℕ) (new : Spot) : Type 0 where
  pub is_read : read ≡ Ok (rows read, new)
  pub is_last : last ≡ last_item_time 0 (rows read)
  pub no_fault : fault read ≡ None

pub ending-ok : (read : Read (List FrameItem)) (last : ℕ) (new : Spot) → ending 0 read ≡ Ok (last, new) → EndsWith read last new
ending-ok (Ok entries) last new e =
    let pairs = ok_is (last_item_time 0 entries.0, entries.1) (last, new) e in
    let last_is : last_item_time 0 entries.0 ≡ last = ap (λ (p : ℕ × Spot). p.0) pairs in
    let new_is : entries.1 ≡ new = ap (λ (p : ℕ × Spot). p.1) pairs in
    record { is_read = ap (λ (s : Spot). Ok (entries.0, s)) new_is; is_last = sym last_is; no_fault = refl }
ending-ok (Err place) last new e = absurd cc

pub ending-err : (read : Read (List FrameItem)) (place : ℕ) → ending 0 read ≡ Err place → read ≡ Err place
ending-err (Ok entries) place e = absurd cc
ending-err (Err other) place e = cc

-- a loop has counted i of the entries, and reads the others from s
pub ending-goes : (last count i : ℕ) (s : Spot) (e : FrameItem) (next : Spot) (total : Read ℕ) → i < count → item_at last s ≡ Ok (e, next)
    → ending last (items_at last (count - i) s) ≡ total → ending (item_time e) (items_at (item_time e) (count - (i + 1)) next) ≡ total
ending-goes last count i s e next total lt is so_far =
    let one : count - i - 1 ≡ count - (i + 1) = omega arith in
    let more = ap (ending last) (items-more last (count - i) s e next (λ z. omega arith) is) in
    ap (λ (n : ℕ). ending (item_time e) (items_at (item_time e) n next)) (sym one) ∙ sym (ending-behind last e (items_at (item_time e) (count - i - 1) next)) ∙ sym more ∙ so_far

pub ending-fails : (last count i : ℕ) (s : Spot) (place : ℕ) (read : Read (List FrameItem)) → i < count → item_at last s ≡ Err place
    → ending last (items_at last (count - i) s) ≡ ending 0 read → read ≡ Err place
ending-fails last count i s place read lt is so_far =
    ending-err read place (sym so_far ∙ ap (ending last) (items-fault last (count - i) s place (λ z. omega arith) is))

pub ending-done : (last count i : ℕ) (s : Spot) (read : Read (List FrameItem)) → count ≤ i
    → ending last (items_at last (count - i) s) ≡ ending 0 read → EndsWith read last s
ending-done last count i s read le so_far =
    ending-ok read last s (sym so_far ∙ ap (ending last) (items-none last (count - i) s (omega arith)))

-- as many entries are read as are asked for
pub length-items : (last n : ℕ) (s : Spot) → fault (items_at last n s) ≡ None → length (rows (items_at last n s)) ≡ n
unfolding items_at
length-items last zero s none = refl
length-items last (suc n) s none = first_then (λ e next h. length-items (item_time e) n next h) (item_at last s) none
  where
    Shorter : Type 0
    Shorter = (e : FrameItem) (next : Spot) → fault (items_at (item_time e) n next) ≡ None → length (rows (items_at (item_time e) n next)) ≡ n

    others_then : (e : FrameItem) (read : Read (List FrameItem)) → (fault read ≡ None → length (rows read) ≡ n) → fault (behind e read) ≡ None → length (rows (behind e read)) ≡ suc n
    others_then e (Ok others) h none = omega (arith, h refl)
    others_then e (Err place) h none = absurd cc

    first_then : Shorter → (read : Read FrameItem) → fault (read >>= λ first. behind first.0 (items_at (item_time first.0) n first.1)) ≡ None → length (rows (read >>= λ first. behind first.0 (items_at (item_time first.0) n first.1))) ≡ suc n
    first_then shorter (Ok first) none = others_then first.0 (items_at (item_time first.0) n first.1) (shorter first.0 first.1) none
    first_then shorter (Err place) none = absurd cc
