-- Reading entries and batches one after another, as a loop does.
use Rattle.std.proofs.Common.{◌≡◌, ℕ, zero, suc, ◌+◌, ◌-◌, ◌<◌, ◌≤◌, true, false, List, [], length, Result, Ok, Err, refl, sym, ap, ◌∙◌, arith}
use Rattle.std.proofs.lemmas.Bool.{ne_eqb}
use Rattle.nr_spec_wire.specs.Reading.{Spot, Read, number_at}
use Rattle.nr_spec_wire.proofs.Steps.{behind}
use Rattle.nr_spec_log.specs.Chain.{LogEntry}
use Rattle.nr_spec_log.specs.Answer.{entry_at, last_time}
use Rattle.nr_store.specs.Walks.{last_after, ended, end_of}
use Rattle.nr_spec_store.specs.LogFile.{entries_to_end, batch_at, batches_at, is_open}

last_after-behind : (before : ℕ) (e : LogEntry) (read : Read (List LogEntry)) → last_after before (behind e read) ≡ last_after e.time read
last_after-behind before e (Ok es) = refl
last_after-behind before e (Err place) = refl

end_of-behind : (es : List LogEntry) (read : Read (List (List LogEntry))) → end_of (behind es read) ≡ end_of read
end_of-behind es (Ok bs) = refl
end_of-behind es (Err place) = refl

-- ---- entries to the end of their bytes

pub rest-none : (last n : ℕ) (s : Spot) → length s.rest ≡ 0 → entries_to_end last n s ≡ Ok ([], s)
unfolding entries_to_end
rest-none last zero s none = refl
rest-none last (suc n) s none = rw none refl

pub rest-spent : (last n : ℕ) (s : Spot) → n ≡ 0 → entries_to_end last n s ≡ Ok ([], s)
unfolding entries_to_end
rest-spent last zero s none = refl
rest-spent last (suc n) s none = absurd (omega (arith, none))

pub rest-more : (last n : ℕ) (s : Spot) (e : LogEntry) (next : Spot) → (n ≡ 0 → ⊥) → (length s.rest ≡ 0 → ⊥) → entry_at false last s ≡ Ok (e, next) → entries_to_end last n s ≡ behind e (entries_to_end e.time (n - 1) next)
unfolding entries_to_end
rest-more last zero s e next left some is = absurd (left refl)
rest-more last (suc n) s e next left some is =
    let one : suc n - 1 ≡ n = omega arith in
    rw (ne_eqb (length s.rest) 0 some, is, one) refl

pub rest-fault : (last n : ℕ) (s : Spot) (place : ℕ) → (n ≡ 0 → ⊥) → (length s.rest ≡ 0 → ⊥) → entry_at false last s ≡ Err place → entries_to_end last n s ≡ Err place
unfolding entries_to_end
rest-fault last zero s place left some is = absurd (left refl)
rest-fault last (suc n) s place left some is = rw (ne_eqb (length s.rest) 0 some, is) refl

-- a loop has counted i of the entries, and reads the others from s
pub rest_goes : (last count i : ℕ) (s : Spot) (e : LogEntry) (next : Spot) (total : Result ℕ ℕ) → i < count → (length s.rest ≡ 0 → ⊥) → entry_at false last s ≡ Ok (e, next)
    → last_after last (entries_to_end last (count - i) s) ≡ total → last_after e.time (entries_to_end e.time (count - (i + 1)) next) ≡ total
rest_goes last count i s e next total less some is so_far =
    let one : count - i - 1 ≡ count - (i + 1) = omega arith in
    let more = ap (last_after last) (rest-more last (count - i) s e next (λ z. omega (arith, z, less)) some is) in
    ap (λ (n : ℕ). last_after e.time (entries_to_end e.time n next)) (sym one) ∙ sym (last_after-behind last e (entries_to_end e.time (count - i - 1) next)) ∙ sym more ∙ so_far

pub rest_fails : (last count i : ℕ) (s : Spot) (place : ℕ) (total : Result ℕ ℕ) → i < count → (length s.rest ≡ 0 → ⊥) → entry_at false last s ≡ Err place → last_after last (entries_to_end last (count - i) s) ≡ total → total ≡ Err place
rest_fails last count i s place total less some is so_far = sym so_far ∙ ap (last_after last) (rest-fault last (count - i) s place (λ z. omega (arith, z, less)) some is)

pub rest_ends : (last count i : ℕ) (s : Spot) (total : Result ℕ ℕ) → length s.rest ≡ 0 → last_after last (entries_to_end last (count - i) s) ≡ total → total ≡ Ok last
rest_ends last count i s total none so_far = sym so_far ∙ ap (last_after last) (rest-none last (count - i) s none)

pub rest_done : (last count i : ℕ) (s : Spot) (total : Result ℕ ℕ) → count ≤ i → last_after last (entries_to_end last (count - i) s) ≡ total → total ≡ Ok last
rest_done last count i s total past so_far = sym so_far ∙ ap (last_after last) (rest-spent last (count - i) s (omega (arith, past)))

-- ---- batches

pub batches-spent : (last n : ℕ) (s : Spot) → n ≡ 0 → batches_at last n s ≡ Err s.at
unfolding batches_at
batches-spent last zero s none = refl
batches-spent last (suc n) s none = absurd (omega (arith, none))

pub batches-short : (last n : ℕ) (s : Spot) (place : ℕ) → (n ≡ 0 → ⊥) → number_at 1 s ≡ Err place → batches_at last n s ≡ Err place
unfolding batches_at
batches-short last zero s place left is = absurd (left refl)
batches-short last (suc n) s place left is = rw is refl

pub batches-closed : (last n : ℕ) (s : Spot) (gate : ℕ) (next : Spot) → (n ≡ 0 → ⊥) → number_at 1 s ≡ Ok (gate, next) → is_open gate ≡ false → batches_at last n s ≡ Ok ([], next)
unfolding batches_at
batches-closed last zero s gate next left is closed = absurd (left refl)
batches-closed last (suc n) s gate next left is closed = rw (is, closed) refl

-- the time of the last entry of a batch that was read
pub record IsBatchOf (last : ℕ) (s : Spot) (time : ℕ) (next : Spot) : Type 0 where
  pub entries : List LogEntry
  pub is : batch_at last s ≡ Ok (entries, next)
  pub time_is : last_time last entries ≡ time

pub batch_of : (last : ℕ) (s : Spot) (time : ℕ) (next : Spot) → ended last (batch_at last s) ≡ Ok (time, next) → IsBatchOf last s time next
batch_of last s time next e = by_read (batch_at last s) refl e
  where
    at_time : Read ℕ → ℕ
    at_time (Ok x) = x.0
    at_time (Err place) = 0

    at_spot : Spot → Read ℕ → Spot
    at_spot other (Ok x) = x.1
    at_spot other (Err place) = other

    by_read : (read : Read (List LogEntry)) → batch_at last s ≡ read → ended last read ≡ Ok (time, next) → IsBatchOf last s time next
    by_read (Ok es) is e =
        let t : last_time last es.0 ≡ time = ap at_time e in
        let n : es.1 ≡ next = ap (at_spot es.1) e in
        record { entries = es.0; is = is ∙ ap (λ (p : Spot). Ok (es.0, p)) n; time_is = t }
    by_read (Err place) is e = absurd cc

pub ended_fails : (last : ℕ) (s : Spot) (place : ℕ) → ended last (batch_at last s) ≡ Err place → batch_at last s ≡ Err place
ended_fails last s place e = by_read (batch_at last s) e
  where
    by_read : (read : Read (List LogEntry)) → ended last read ≡ Err place → read ≡ Err place
    by_read (Ok es) e = absurd cc
    by_read (Err other) e = let same : other ≡ place = cc in ap (λ (p : ℕ). Err p) same

pub batches-more : (last n : ℕ) (s opened : Spot) (es : List LogEntry) (next : Spot) (gate : ℕ) → (n ≡ 0 → ⊥) → number_at 1 s ≡ Ok (gate, opened) → is_open gate ≡ true → batch_at last opened ≡ Ok (es, next)
    → batches_at last n s ≡ behind es (batches_at (last_time last es) (n - 1) next)
unfolding batches_at
batches-more last zero s opened es next gate left is open_is batch = absurd (left refl)
batches-more last (suc n) s opened es next gate left is open_is batch =
    let one : suc n - 1 ≡ n = omega arith in
    rw (is, open_is, batch, one) refl

pub batches-fault : (last n : ℕ) (s opened : Spot) (place gate : ℕ) → (n ≡ 0 → ⊥) → number_at 1 s ≡ Ok (gate, opened) → is_open gate ≡ true → batch_at last opened ≡ Err place → batches_at last n s ≡ Err place
unfolding batches_at
batches-fault last zero s opened place gate left is open_is batch = absurd (left refl)
batches-fault last (suc n) s opened place gate left is open_is batch = rw (is, open_is, batch) refl

pub batches_go : (last count i : ℕ) (s opened next : Spot) (gate time : ℕ) (total : Result ℕ ℕ) → i < count → number_at 1 s ≡ Ok (gate, opened) → is_open gate ≡ true → ended last (batch_at last opened) ≡ Ok (time, next)
    → end_of (batches_at last (count - i) s) ≡ total → end_of (batches_at time (count - (i + 1)) next) ≡ total
batches_go last count i s opened next gate time total less is open_is e so_far =
    let b = batch_of last opened time next e in
    let one : count - i - 1 ≡ count - (i + 1) = omega arith in
    let more = ap end_of (batches-more last (count - i) s opened b.entries next gate (λ z. omega (arith, z, less)) is open_is b.is) in
    ap (λ (n : ℕ). end_of (batches_at time n next)) (sym one) ∙ ap (λ (t : ℕ). end_of (batches_at t (count - i - 1) next)) (sym b.time_is)
    ∙ sym (end_of-behind b.entries (batches_at (last_time last b.entries) (count - i - 1) next)) ∙ sym more ∙ so_far

pub batches_fail : (last count i : ℕ) (s opened : Spot) (gate place : ℕ) (total : Result ℕ ℕ) → i < count → number_at 1 s ≡ Ok (gate, opened) → is_open gate ≡ true → ended last (batch_at last opened) ≡ Err place
    → end_of (batches_at last (count - i) s) ≡ total → total ≡ Err place
batches_fail last count i s opened gate place total less is open_is e so_far =
    sym so_far ∙ ap end_of (batches-fault last (count - i) s opened place gate (λ z. omega (arith, z, less)) is open_is (ended_fails last opened place e))

pub batches_short : (last count i : ℕ) (s : Spot) (place : ℕ) (total : Result ℕ ℕ) → i < count → number_at 1 s ≡ Err place → end_of (batches_at last (count - i) s) ≡ total → total ≡ Err place
batches_short last count i s place total less is so_far = sym so_far ∙ ap end_of (batches-short last (count - i) s place (λ z. omega (arith, z, less)) is)

pub batches_end : (last count i : ℕ) (s : Spot) (gate : ℕ) (next : Spot) (total : Result ℕ ℕ) → i < count → number_at 1 s ≡ Ok (gate, next) → is_open gate ≡ false → end_of (batches_at last (count - i) s) ≡ total → total ≡ Ok next.at
batches_end last count i s gate next total less is closed so_far = sym so_far ∙ ap end_of (batches-closed last (count - i) s gate next (λ z. omega (arith, z, less)) is closed)

pub batches_done : (last count i : ℕ) (s : Spot) (total : Result ℕ ℕ) → count ≤ i → end_of (batches_at last (count - i) s) ≡ total → total ≡ Err s.at
batches_done last count i s total past so_far = sym so_far ∙ ap end_of (batches-spent last (count - i) s (omega (arith, past)))
