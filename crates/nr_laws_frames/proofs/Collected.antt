-- Heads that are taken out of frames have spellings.
use Rattle.std.proofs.Common.{◌≡◌, ℕ, zero, suc, ◌+◌, List, [], ◌∷◌, ◌++◌, inl, inr, length, Option, None, Some, Result, Ok, Err, refl, sym, subst, ◌∙◌, arith}
use Rattle.std.specs.List.{AllByRecursion, filter_map, flat_map}
use Rattle.std.specs.Prelude.{◌==◌}
use Rattle.std.proofs.lemmas.Bool.{cases_Bool}
use Rattle.std.proofs.lemmas.List.Concat.{flat_map-cons}
use Rattle.byteorder.specs.Endian.{big_bytes}
use Rattle.nr_spec_wire.specs.Reading.{IsBytes}
use Rattle.nr_spec_log.specs.Authenticator.{Authenticator, AreAuthenticators, IsAuthenticator, authenticator, authenticator_at, auths_file, auths_magic, auths_of}
use Rattle.nr_spec_frames.specs.Frames.{Frame, frame_of, framed, frames_magic, frames_of}
use Rattle.nr_spec_collecting.specs.Collecting.{head_from, heads_from}
use Rattle.nr_laws_frames.proofs.FileLaws.{file_takes}
use Rattle.nr_laws_frames.proofs.FrameLaws.{frame_takes}
use Rattle.nr_laws_frames.proofs.RowLaws.{TakesSome, magic_again, rows_again}
use Rattle.nr_laws_log.proofs.AuthenticatorLaws.{authenticator_again}
use Rattle.nr_laws_log.proofs.Fields.{reads_then}

-- ---- bytes of the parts

left : (a b : List ℕ) → IsBytes (a ++ b) → IsBytes a
left [] b h i = omega arith
left (x ∷ a) b h zero = h 0
left (x ∷ a) b h (suc i) = left a b (λ j. h (suc j)) i

right : (a b : List ℕ) → IsBytes (a ++ b) → IsBytes b
right [] b h = h
right (x ∷ a) b h = right a b (λ j. h (suc j))

each : (frames : List (List ℕ)) → IsBytes (flat_map framed frames) → AllByRecursion IsBytes frames
each [] h = tt
each (v ∷ vs) h =
    let parts : IsBytes (framed v ++ flat_map framed vs) = subst IsBytes (flat_map-cons framed v vs) h in
    (right (big_bytes 4 (length v)) v (left (framed v) (flat_map framed vs) parts), each vs (right (framed v) (flat_map framed vs) parts))

-- ---- heads

head_is : (asn : ℕ) (found : Result Frame ℕ) (a : Authenticator) → ((f : Frame) → found ≡ Ok f → IsAuthenticator f.auth) → head_from asn found ≡ Some a → IsAuthenticator a
head_is asn (Err place) a fits is = absurd cc
head_is asn (Ok f) a fits is =
    elim (cases_Bool (f.from_as == asn)) [
      | inl own ↦ let same : f.auth ≡ a = (let e : Some f.auth ≡ Some a = sym (rw own refl) ∙ is in cc) in subst IsAuthenticator same (fits f refl)
      | inr other ↦ absurd (let e : None ≡ Some a = sym (rw other refl) ∙ is in cc)
    ]

with_head : (found : Option Authenticator) (others : List Authenticator) (v : List ℕ) (vs : List (List ℕ)) (h : List ℕ → Option Authenticator) → h v ≡ found
    → ((a : Authenticator) → found ≡ Some a → IsAuthenticator a) → AreAuthenticators (filter_map h vs) → AreAuthenticators (filter_map h (v ∷ vs))
with_head None others v vs h is fits rest = rw is rest
with_head (Some a) others v vs h is fits rest = rw is (fits a refl, rest)

heads_are : (asn : ℕ) (frames : List (List ℕ)) → AllByRecursion IsBytes frames → AreAuthenticators (heads_from asn frames)
heads_are asn [] bytes = tt
heads_are asn (v ∷ vs) bytes =
    with_head (head_from asn (frame_of v)) [] v vs (λ b. head_from asn (frame_of b)) refl
    (λ a is. head_is asn (frame_of v) a (λ f reads. (frame_takes v f bytes.0 reads).0.auth) is) (heads_are asn vs bytes.1)

takes_some : TakesSome authenticator
takes_some a = omega arith

-- a file of authenticators reads back
file_again : (vs : List Authenticator) → AreAuthenticators vs → auths_of (auths_file vs) ≡ Ok vs
unfolding auths_of
file_again vs fits =
    let others = flat_map authenticator vs in
    let first = magic_again auths_magic 0 others refl in
    let second = rows_again authenticator_at IsAuthenticator authenticator authenticator_again takes_some (length others) vs (0 + length auths_magic) (omega arith) fits in
    reads_then _ _ _ _ first (reads_then _ _ _ _ second refl)

pub heads_again : (bytes : List ℕ) (frames : List (List ℕ)) (asn : ℕ) → IsBytes bytes → frames_of bytes ≡ Ok frames
    → AreAuthenticators (heads_from asn frames) × (auths_of (auths_file (heads_from asn frames)) ≡ Ok (heads_from asn frames))
heads_again bytes frames asn fits reads =
    let file = file_takes bytes frames fits reads in
    let parts : IsBytes (frames_magic ++ flat_map framed frames) = subst IsBytes file.1 fits in
    let are = heads_are asn frames (each frames (right frames_magic (flat_map framed frames) parts)) in
    (are, file_again (heads_from asn frames) are)
