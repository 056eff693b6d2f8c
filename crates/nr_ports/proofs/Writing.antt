-- What the operations on a stored file make of it.
use Rattle.std.proofs.Common.{◌≡◌, ℕ, ◌+◌, ◌-◌, ◌≤◌, max, Bool, true, false, List, [], ◌++◌, length, take, drop, Some, refl, sym, ap, ◌∙◌, arith, append_assoc}
use Rattle.std.proofs.lemmas.List.{length-take, length-drop, length-append, drop_all, drop-take}
use Rattle.std.proofs.Common.{take-take, inl, inr}
use Rattle.std.proofs.Math.Seq.{take-append-add}
use Rattle.std.proofs.lemmas.Bool.{cases_lt}
use Rattle.nr_spec_plans.specs.Disk.{Range, bytes_of, written}
use Rattle.nr_ports.specs.Ports.{file_of, stored_of}

pub size_is : (bytes : List ℕ) (there : Bool) (len : ℕ) → len ≤ length bytes → (there ≡ false → len ≡ 0) → length (bytes_of (file_of bytes there len)) ≡ len
size_is bytes true len within none = omega (arith, within, length-take len bytes)
size_is bytes false len within none = sym (none refl)

pub held_is : (bytes : List ℕ) (there : Bool) (len : ℕ) → (there ≡ false → len ≡ 0) → take len bytes ≡ bytes_of (file_of bytes there len)
held_is bytes true len none = refl
held_is bytes false len none = ap (λ (k : ℕ). take k bytes) (none refl)

-- a write into the bytes is one into what a read gives of them
over_front : (bytes from : List ℕ) (at len : ℕ) → at ≤ len → len ≤ length bytes → at + length from ≤ length bytes
    → take (max len (at + length from)) (take at bytes ++ (from ++ drop (at + length from) bytes)) ≡ written at from (take len bytes)
over_front bytes from at len place within room =
    let front = take at bytes ++ from in
    let end = at + length from in
    let rest = drop end bytes in
    let size : length front ≡ end = omega (arith, length-append (take at bytes) from, length-take at bytes, place, within) in
    let whole : take at bytes ++ (from ++ rest) ≡ front ++ rest = sym (append_assoc (take at bytes) from rest) in
    let more : max len end ≡ length front + (len - end) = omega (arith, size) in
    let split : take (max len end) (front ++ rest) ≡ front ++ take (len - end) rest = ap (λ (k : ℕ). take k (front ++ rest)) more ∙ take-append-add front rest (len - end) in
    let past : take (len - end) rest ≡ drop end (take len bytes) = elim (cases_lt len end) [
      | inl less ↦ ap (λ (k : ℕ). take k rest) (let e : len - end ≡ 0 = omega (arith, less) in e) ∙ take_none rest ∙ sym (drop_all end (take len bytes) (omega (arith, less, length-take len bytes)))
      | inr fits ↦ sym (drop-take end (len - end) bytes) ∙ ap (λ (k : ℕ). drop end (take k bytes)) (let e : end + (len - end) ≡ len = omega (arith, fits) in e)
    ] in
    let first : take at bytes ≡ take at (take len bytes) = sym (take-take at len bytes place) in
    ap (take (max len end)) whole ∙ split ∙ ap (λ (l : List ℕ). front ++ l) past ∙ ap (λ (l : List ℕ). l ++ from ++ drop end (take len bytes)) first
  where
    take_none : (l : List ℕ) → take 0 l ≡ []
    take_none l = refl

pub finished : (bytes now from : List ℕ) (there : Bool) (len least : ℕ) (ranges : List Range) (at : ℕ) → len ≤ length bytes → (there ≡ false → len ≡ 0) → at ≤ length (bytes_of (file_of bytes there len)) → at + length from ≤ length bytes
    → now ≡ take at bytes ++ (from ++ drop (at + length from) bytes)
    → stored_of now true (max len (at + length from)) least ranges ≡ record { file = Some (written at from (bytes_of (file_of bytes there len))); loose = record { least = least; greatest = length bytes; written = ranges } }
finished bytes now from there len least ranges at within none place room is =
    let at_len : at ≤ len = omega (arith, place, size_is bytes there len within none) in
    let size : length now ≡ length bytes =
    ap length is ∙ length-append (take at bytes) (from ++ drop (at + length from) bytes) ∙ (omega (arith, length-append from (drop (at + length from) bytes), length-drop (at + length from) bytes, length-take at bytes, room)) in
    let file : take (max len (at + length from)) now ≡ written at from (bytes_of (file_of bytes there len)) =
    ap (take (max len (at + length from))) is ∙ over_front bytes from at len at_len within room ∙ ap (written at from) (held_is bytes there len none) in
    ap (λ (f : List ℕ). record { file = Some f; loose = record { least = least; greatest = length now; written = ranges } }) file
    ∙ ap (λ (k : ℕ). record { file = Some (written at from (bytes_of (file_of bytes there len))); loose = record { least = least; greatest = k; written = ranges } }) size
