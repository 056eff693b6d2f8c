-- A log that a file holds has no more entries than the file has bytes.
use Rattle.std.proofs.Common.{◌≡◌, ℕ, zero, suc, ◌+◌, ◌^◌, ◌<◌, ◌≤◌, Bool, true, false, cond, List, [], ◌∷◌, length, take, drop, nat_lt, nat_le, Some, Result, Ok, Err, subst, inl, inr, arith}
use Rattle.std.specs.Prelude.{◌==◌, ◌&&◌}
use Rattle.std.specs.Str.{bytes_eq}
use Rattle.std.proofs.lemmas.Bool.{cases_Bool}
use Rattle.std.proofs.lemmas.List.{length-append, length-take, length-drop}
use Rattle.nr_spec_wire.specs.Reading.{Spot, between, bytes_at, number_at, part_at, start_of, wants}
use Rattle.nr_spec_wire.proofs.Steps.{bind_ok, wants_ok, ok_is}
use Rattle.nr_spec_log.specs.Chain.{LogEntry}
use Rattle.nr_spec_log.specs.Answer.{entry_at, last_time}
use Rattle.nr_spec_log.specs.Authenticator.{digest_size}
use Rattle.nr_spec_store.specs.LogFile.{Birth, LogFile, batch_at, batches_at, birth_at, born_log, entries_of, entries_to_end, is_open, log_magic, log_of, part_of_batch}
use Rattle.nr_spec_store.specs.StorePlans.{loading}
use Rattle.nr_laws_store.proofs.Loads.{read_as, small_as}
use Rattle.nr_laws_store.proofs.LogLaws.{born_of}

-- a field that wasn't short
field_ok : {A : Type 0} (b : Bool) (place : ℕ) (x y : A) → cond b (let r : Result A ℕ = Err place in r) (Ok x) ≡ Ok y → x ≡ y
field_ok true place x y e = absurd cc
field_ok false place x y e = ok_is x y e

dropped : (n : ℕ) (xs : List ℕ) → length (drop n xs) ≤ length xs
dropped n xs = omega (arith, length-drop n xs)

number_left : (n : ℕ) (s : Spot) (got : ℕ × Spot) → number_at n s ≡ Ok got → length got.1.rest ≤ length s.rest
number_left n s got e =
    let same = field_ok (nat_lt (length s.rest) n) s.at _ got e in
    subst (λ (g : ℕ × Spot). length g.1.rest ≤ length s.rest) same (dropped n s.rest)

bytes_left : (n : ℕ) (s : Spot) (got : List ℕ × Spot) → bytes_at n s ≡ Ok got → length got.1.rest ≤ length s.rest
bytes_left n s got e =
    let same = field_ok (nat_lt (length s.rest) n) s.at _ got e in
    subst (λ (g : List ℕ × Spot). length g.1.rest ≤ length s.rest) same (dropped n s.rest)

entries_short : (last fuel : ℕ) (s : Spot) (got : List LogEntry × Spot) → entries_to_end last fuel s ≡ Ok got → length got.0 ≤ fuel
unfolding entries_to_end
entries_short last zero s got e = subst (λ (g : List LogEntry × Spot). length g.0 ≤ 0) (ok_is ([], s) got e) (omega arith)
entries_short last (suc fuel) s got e =
    elim (cases_Bool (length s.rest == 0)) [
      | inl by ↦ subst (λ (g : List LogEntry × Spot). length g.0 ≤ suc fuel) (ok_is ([], s) got (rw by at e)) (omega arith)
      | inr by ↦ (
          let a = bind_ok (entry_at false last s) _ got (rw by at e) in
          let b = bind_ok (entries_to_end a.0.0.time fuel a.0.1) _ got a.2 in
          let less = entries_short a.0.0.time fuel a.0.1 b.0 b.1 in
          let made : List LogEntry × Spot = (a.0.0 ∷ b.0.0, b.0.1) in
          subst (λ (g : List LogEntry × Spot). length g.0 ≤ suc fuel) (ok_is made got b.2) (omega (arith, less)))
    ]

-- a part, and what is left behind it
part_short : (n : ℕ) (s : Spot) (parts : Spot × Spot) → part_at n s ≡ Ok parts → length parts.0.rest + length parts.1.rest ≤ length s.rest
part_short n s parts e =
    let same = field_ok (nat_lt (length s.rest) n) s.at _ parts e in
    let fits : length (take n s.rest) + length (drop n s.rest) ≤ length s.rest = omega (arith, length-take n s.rest, length-drop n s.rest) in
    subst (λ (p : Spot × Spot). length p.0.rest + length p.1.rest ≤ length s.rest) same fits

batch_part : (s : Spot) (parts : Spot × Spot) → part_of_batch s ≡ Ok parts → length parts.0.rest + length parts.1.rest ≤ length s.rest
unfolding part_of_batch
batch_part s parts e =
    let a = bind_ok (number_at 4 s) _ parts e in
    let w = bind_ok (wants (nat_le 1 a.0.0 && nat_lt a.0.0 (length a.0.1.rest)) s.at a.0) _ parts a.2 in
    let same = (wants_ok (nat_le 1 a.0.0 && nat_lt a.0.0 (length a.0.1.rest)) s.at a.0 w.0 w.1).1 in
    let p = part_short w.0.0 w.0.1 parts w.2 in
    let left : length w.0.1.rest ≤ length s.rest = subst (λ (g : ℕ × Spot). length g.1.rest ≤ length s.rest) same (number_left 4 s a.0 a.1) in
    omega (arith, p, left)

batch_short : (last : ℕ) (s : Spot) (got : List LogEntry × Spot) → batch_at last s ≡ Ok got → length got.0 + length got.1.rest ≤ length s.rest
unfolding batch_at
batch_short last s got e =
    let a = bind_ok (part_of_batch s) _ got e in
    let b = bind_ok (entries_to_end last (length a.0.0.rest) a.0.0) _ got a.2 in
    let p = batch_part s a.0 a.1 in
    let few = entries_short last (length a.0.0.rest) a.0.0 b.0 b.1 in
    let made : List LogEntry × Spot = (b.0.0, a.0.1) in
    subst (λ (g : List LogEntry × Spot). length g.0 + length g.1.rest ≤ length s.rest) (ok_is made got b.2) (omega (arith, p, few))

batches_short : (fuel last : ℕ) (s : Spot) (got : List (List LogEntry) × Spot) → batches_at last fuel s ≡ Ok got → length (entries_of got.0) ≤ length s.rest
unfolding batches_at
batches_short zero last s got e = absurd cc
batches_short (suc fuel) last s got e =
    let a = bind_ok (number_at 1 s) _ got e in
    let left = number_left 1 s a.0 a.1 in
    elim (cases_Bool (is_open a.0.0)) [
      | inl by ↦ (
          let b = bind_ok (batch_at last a.0.1) _ got (rw by at a.2) in
          let c = bind_ok (batches_at (last_time last b.0.0) fuel b.0.1) _ got b.2 in
          let first = batch_short last a.0.1 b.0 b.1 in
          let rest = batches_short fuel (last_time last b.0.0) b.0.1 c.0 c.1 in
          let made : List (List LogEntry) × Spot = (b.0.0 ∷ c.0.0, c.0.1) in
          subst (λ (g : List (List LogEntry) × Spot). length (entries_of g.0) ≤ length s.rest) (ok_is made got c.2)
          (omega (arith, left, first, rest, length-append b.0.0 (entries_of c.0.0))))
      | inr by ↦ subst (λ (g : List (List LogEntry) × Spot). length (entries_of g.0) ≤ length s.rest) (ok_is ([], a.0.1) got (rw by at a.2)) (omega arith)
    ]

birth_left : (s : Spot) (got : Birth × Spot) → birth_at s ≡ Ok got → length got.1.rest ≤ length s.rest
unfolding birth_at
birth_left s got e =
    let a = bind_ok (number_at 1 s) _ got e in
    let b = bind_ok (bytes_at 6 a.0.1) _ got a.2 in
    let w = bind_ok (wants (bytes_eq b.0.0 log_magic) a.0.1.at b.0) _ got b.2 in
    let same = (wants_ok (bytes_eq b.0.0 log_magic) a.0.1.at b.0 w.0 w.1).1 in
    let c = bind_ok (number_at 4 w.0.1) _ got w.2 in
    let d = bind_ok (bytes_at digest_size c.0.1) _ got c.2 in
    let second : length w.0.1.rest ≤ length a.0.1.rest = subst (λ (g : List ℕ × Spot). length g.1.rest ≤ length a.0.1.rest) same (bytes_left 6 a.0.1 b.0 b.1) in
    let made : Birth × Spot = (record { asn = c.0.0; root = d.0.0 }, d.0.1) in
    subst (λ (g : Birth × Spot). length g.1.rest ≤ length s.rest) (ok_is made got d.2)
    (omega (arith, number_left 1 s a.0 a.1, second, number_left 4 w.0.1 c.0 c.1, bytes_left digest_size c.0.1 d.0 d.1))

log_short : (bytes : List ℕ) (log : LogFile) → log_of bytes ≡ Ok (Some log) → length log.entries ≤ length bytes
unfolding born_log
log_short bytes log e =
    let born = born_of bytes log e in
    let a = bind_ok (birth_at (start_of bytes)) _ log born.reads in
    let b = bind_ok (batches_at 0 (length a.0.1.rest) a.0.1) _ log a.2 in
    let few = batches_short (length a.0.1.rest) 0 a.0.1 b.0 b.1 in
    let made : LogFile = record { asn = a.0.0.asn; root = a.0.0.root; entries = entries_of b.0.0; front = between (start_of bytes) b.0.1 } in
    subst (λ (l : LogFile). length l.entries ≤ length bytes) (ok_is made log b.2) (omega (arith, few, birth_left (start_of bytes) a.0 a.1))

pub loaded_short : (file : List ℕ) (log : LogFile) → loading file ≡ Ok (Some log) → length log.entries < 2 ^ 60
loaded_short file log is = omega (arith, log_short file log (read_as file (Some log) is), small_as file (Some log) is)
