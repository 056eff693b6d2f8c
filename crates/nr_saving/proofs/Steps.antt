-- Pieces that were written, and those that are left.
use Rattle.std.proofs.Common.{◌≡◌, ℕ, ◌+◌, ◌<◌, ◌≤◌, List, [], ◌∷◌, ◌++◌, length, map, zero, suc, get_or, slice_index_or, take, drop, Option, None, Some, Result, Ok, Err, refl, sym, ap, ◌∙◌, arith}
use Rattle.std.specs.List.{concat}
use Rattle.std.proofs.lemmas.List.{drop_all, drop_more, length-append, length-take}
use Rattle.nr_spec_plans.specs.Disk.{Disk, Fault, Told, bytes_of, written}
use Rattle.nr_spec_plans.specs.Plans.{Acts, Cut, Write, Sync, Halt, Faulted, Runs, followed_by}
use Rattle.nr_spec_saving.specs.Saving.{TooLong, save_parts, write_parts}
use Rattle.nr_ports.specs.Views.{by_writing}
use Rattle.nr_ports.specs.declared.fault.WriteFault.{WriteFault}
use Rattle.nr_saving.specs.Views.{wrote}

abbrev pub Answered : Type 0
Answered = Result (Unit {0}) (Halt TooLong)

-- a piece by its place
pub part_at : {A : Type 0} (f : A → List ℕ) (xs : List A) (i : ℕ) (d : A) → i < length xs → get_or (map f xs) i [] ≡ f (slice_index_or xs i d)
part_at f [] i d less = absurd (omega (arith, less))
part_at f (x ∷ xs) zero d less = refl
part_at f (x ∷ xs) (suc i) d less = part_at f xs i d (omega (arith, less))

-- The first pieces are written up to a place, and what writing the others leads to, saving all of them leads to.
pub record HasWritten (name : List ℕ) (parts : List (List ℕ)) (old now : Disk) (at i : ℕ) : Type 0 where
  pub sum : at + length (concat (drop i parts)) ≡ length (concat parts)
  pub room : (t : Told) → now.told ≡ Some t → at ≤ length (bytes_of (t.holds name))
  pub leads : (new : Disk) (result : Answered) → Runs (write_parts name at (drop i parts)) now new result → Runs (save_parts name parts) old new result

none_more : (n : ℕ) → 0 + n ≡ n
none_more n = omega arith

pub begins : (name : List ℕ) (parts : List (List ℕ)) (old now : Disk) → Acts (Cut name 0) old now (Ok tt) → HasWritten name parts old now 0 0
unfolding Runs followed_by save_parts
begins name parts old now acts = record { sum = none_more (length (concat parts)); room = λ t told. omega arith; leads = λ new result runs. (now, Ok tt, acts, runs) }

pub not_begun : (name : List ℕ) (parts : List (List ℕ)) (old now : Disk) (fault : Fault) → Acts (Cut name 0) old now (Err fault) → Runs {E = TooLong} (save_parts name parts) old now (Err (Faulted fault))
unfolding Runs followed_by save_parts
not_begun name parts old now fault acts = (now, Err fault, acts, (refl, refl))

written_long : (at : ℕ) (from file : List ℕ) → at ≤ length file → at + length from ≤ length (written at from file)
written_long at from file less = omega (arith, length-append (take at file ++ from) (drop (at + length from) file), length-append (take at file) from, length-take at file, less)

pub ends_within : (name : List ℕ) (parts : List (List ℕ)) (old now : Disk) (at i : ℕ) → i < length parts → HasWritten name parts old now at i → at + length (get_or parts i []) ≤ length (concat parts)
ends_within name parts old now at i less has =
    let more = ap (λ (rest : List (List ℕ)). length (concat rest)) (drop_more parts i [] less) in
    omega (arith, more, has.sum, length-append (get_or parts i []) (concat (drop (i + 1) parts)))

was_told : (name : List ℕ) (at : ℕ) (part : List ℕ) (now after : Disk) (u : Told) → Acts (Write name at part) now after (Ok tt) → after.told ≡ Some u → (t : Told) × (now.told ≡ Some t)
was_told name at part now after u acts told = found now.told refl
  where
    found : (was : Option Told) → now.told ≡ was → (t : Told) × (now.told ≡ Some t)
    found None none = absurd (let e : Some u ≡ None = sym told ∙ acts.untold none in cc)
    found (Some t) some = (t, some)

some_told : (a : Option Told) (t u : Told) → a ≡ Some t → a ≡ Some u → u ≡ t
some_told a t u is at = let e : Some u ≡ Some t = sym at ∙ is in cc

pub goes_on : (name : List ℕ) (parts : List (List ℕ)) (old now after : Disk) (at i : ℕ) (part : List ℕ) → i < length parts → get_or parts i [] ≡ part → HasWritten name parts old now at i → Acts (Write name at part) now after (Ok tt)
    → HasWritten name parts old after (at + length part) (i + 1)
unfolding Runs followed_by write_parts
goes_on name parts old now after at i part less is has acts =
    let left : drop i parts ≡ part ∷ drop (i + 1) parts = drop_more parts i [] less ∙ ap (λ (p : List ℕ). p ∷ drop (i + 1) parts) is in
    let more = ap (λ (rest : List (List ℕ)). length (concat rest)) left in
    record {
      sum = omega (arith, more, has.sum, length-append part (concat (drop (i + 1) parts)));
      room = λ u told.
          let t = was_told name at part now after u acts told in
          let v = acts.told t.0 t.1 in
          let same : u ≡ v.0 = some_told after.told v.0 u v.1 told in
          let bytes : bytes_of (u.holds name) ≡ written at part (bytes_of (t.0.holds name)) = ap (λ (t : Told). bytes_of (t.holds name)) same ∙ ap bytes_of v.2.named in
          omega (arith, ap length bytes, written_long at part (bytes_of (t.0.holds name)) (has.room t.0 t.1));
      leads = λ new result runs. has.leads new result (rw left (after, Ok tt, acts, runs));
    }

pub stops : (name : List ℕ) (parts : List (List ℕ)) (old now after : Disk) (at i : ℕ) (part : List ℕ) (fault : Fault) → i < length parts → get_or parts i [] ≡ part → HasWritten name parts old now at i → Acts (Write name at part) now after (Err fault)
    → Runs {E = TooLong} (save_parts name parts) old after (Err (Faulted fault))
unfolding Runs followed_by write_parts
stops name parts old now after at i part fault less is has acts =
    let left : drop i parts ≡ part ∷ drop (i + 1) parts = drop_more parts i [] less ∙ ap (λ (p : List ℕ). p ∷ drop (i + 1) parts) is in
    has.leads after (Err (Faulted fault)) (rw left (after, Err fault, acts, (refl, refl)))

synced : (name : List ℕ) (now new : Disk) (at : ℕ) (result : Result (Unit {0}) WriteFault) → Acts (Sync name) now new (by_writing result) → Runs {E = TooLong} (write_parts name at []) now new (wrote result)
unfolding Runs write_parts
synced name now new at (Ok x) acts = (new, Ok x, acts, (refl, refl))
synced name now new at (Err e) acts = (new, _, acts, (refl, refl))

pub ends : (name : List ℕ) (parts : List (List ℕ)) (old now new : Disk) (at i : ℕ) (result : Result (Unit {0}) WriteFault) → length parts ≤ i → HasWritten name parts old now at i → Acts (Sync name) now new (by_writing result)
    → Runs {E = TooLong} (save_parts name parts) old new (wrote result)
ends name parts old now new at i result over has acts =
    let none : drop i parts ≡ [] = drop_all i parts over in
    has.leads new (wrote result) (rw none (synced name now new at result acts))
