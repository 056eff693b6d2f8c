-- Files of frames.
use Rattle.std.proofs.Common.{◌≡◌, ℕ, ◌+◌, ◌^◌, ◌<◌, List, [], ◌++◌, length, Ok, refl, sym, ap, subst, ◌∙◌, append_assoc, arith}
use Rattle.std.specs.List.{flat_map}
use Rattle.std.proofs.lemmas.List.{length-append, append-nil, nil_from_length}
use Rattle.byteorder.specs.Endian.{big_bytes}
use Rattle.nr_spec_wire.specs.Reading.{Spot, start_of, rows_at, IsBytes}
use Rattle.nr_spec_wire.proofs.Steps.{ok_is, bind_ok}
use Rattle.nr_spec_log.specs.Authenticator.{magic_at}
use Rattle.nr_spec_frames.specs.Frames.{AreFramed, IsFramed, framed, framed_at, frames_file, frames_magic, frames_of}
use Rattle.nr_laws_log.specs.Laws.{Takes, ReadsSpelled, SpelledReads}
use Rattle.nr_laws_log.proofs.Fields.{Takes-then, step, number_step, number_again, bytes_take, bytes_again, reads_then}
use Rattle.nr_laws_frames.proofs.RowLaws.{TakesSome, magic_takes, magic_again, rows_take, rows_again}

framed_takes : ReadsSpelled framed_at IsFramed framed
unfolding framed_at
framed_takes s v new fits e =
    let a = number_step 4 s _ (v, new) fits e in
    let b = bytes_take a.value a.next v new a.takes.rest_fits a.goes_on in
    let small : length v < 2 ^ 32 = omega (arith, b.0, a.value_fits) in
    (small, subst (λ (n : ℕ). Takes s (big_bytes 4 n ++ v) new) (sym b.0) (Takes-then s (big_bytes 4 a.value) a.next v new a.takes b.1))

framed_again : SpelledReads framed_at IsFramed framed
unfolding framed_at
framed_again v at rest fits =
    let at1 = at + length (big_bytes 4 (length v)) in
    let spelled : framed v ++ rest ≡ big_bytes 4 (length v) ++ (v ++ rest) = append_assoc (big_bytes 4 (length v)) v rest in
    let places : at1 + length v ≡ at + length (framed v) = omega (arith, length-append (big_bytes 4 (length v)) v) in
    let end : Spot = record { at = at1 + length v; rest = rest } in
    let whole : framed_at (record { at = at; rest = big_bytes 4 (length v) ++ (v ++ rest) }) ≡ Ok (v, end) =
    reads_then _ _ _ _ (number_again 4 (length v) at (v ++ rest) fits) (bytes_again (length v) v at1 rest refl) in
    ap (λ (t : List ℕ). framed_at (record { at = at; rest = t })) spelled ∙ whole ∙ ap (λ (k : ℕ). Ok (v, record { at = k; rest = rest })) places

takes_some : TakesSome framed
takes_some v = omega arith

pub file_takes : (bytes : List ℕ) (vs : List (List ℕ)) → IsBytes bytes → frames_of bytes ≡ Ok vs → AreFramed vs × (bytes ≡ frames_file vs)
unfolding frames_of
file_takes bytes vs fits e =
    let a = step (magic_at frames_magic) (λ v. v ≡ frames_magic) (λ v. v) (magic_takes frames_magic) (start_of bytes) _ vs fits e in
    let b = bind_ok (rows_at framed_at (length a.next.rest) a.next) _ vs a.goes_on in
    let rows = rows_take framed_at IsFramed framed framed_takes takes_some (length a.next.rest) a.next b.0.0 b.0.1 (omega arith) a.takes.rest_fits b.1 in
    let nothing : b.0.1.rest ≡ [] = nil_from_length b.0.1.rest rows.ended in
    let front : bytes ≡ frames_magic ++ a.next.rest = a.takes.parts ∙ ap (λ (t : List ℕ). t ++ a.next.rest) a.value_fits in
    let back : a.next.rest ≡ flat_map framed b.0.0 = rows.takes.parts ∙ ap (λ (t : List ℕ). flat_map framed b.0.0 ++ t) nothing ∙ append-nil (flat_map framed b.0.0) in
    let whole : bytes ≡ frames_file b.0.0 = front ∙ ap (λ (t : List ℕ). frames_magic ++ t) back in
    subst (λ (r : List (List ℕ)). AreFramed r × (bytes ≡ frames_file r)) (ok_is b.0.0 vs b.2) (rows.fit, whole)

pub file_again : (vs : List (List ℕ)) → AreFramed vs → frames_of (frames_file vs) ≡ Ok vs
unfolding frames_of
file_again vs fits =
    let others = flat_map framed vs in
    let first = magic_again frames_magic 0 others refl in
    let second = rows_again framed_at IsFramed framed framed_again takes_some (length others) vs (0 + length frames_magic) (omega arith) fits in
    reads_then _ _ _ _ first (reads_then _ _ _ _ second refl)
