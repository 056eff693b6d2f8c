-- The number of a neighbour, by where it stands.
use Rattle.std.proofs.Common.{◌≡◌, ℕ, ◌+◌, Bool, List, [], ◌∷◌, length, map, cond, Option, Some, None, nat_lt, refl, ap, ◌∙◌}
use Rattle.std.specs.Prelude.{not}
use Rattle.std.specs.List.{position, prefix_len}
use Rattle.std.proofs.lemmas.List.{length-map}
use Rattle.nr_spec_recording.specs.Records.{is_speaker, number_of}
use Rattle.nr_recording.specs.declared.speaker.Speaker.{Speaker}
use Rattle.nr_recording.specs.Views.{speaker_of, speakers_of}

prefix_len-map : {A B : Type 0} (f : A → B) (p : B → Bool) (xs : List A) → prefix_len p (map f xs) ≡ prefix_len (λ x. p (f x)) xs
prefix_len-map f p [] = refl
prefix_len-map f p (x ∷ xs) = ap (λ (n : ℕ). cond (p (f x)) (1 + n) 0) (prefix_len-map f p xs)

abbrev where_of : ℕ → ℕ → Option ℕ
where_of place count = cond (nat_lt place count) (Some place) None

pub position-map : {A B : Type 0} (f : A → B) (p : B → Bool) (xs : List A) → position p (map f xs) ≡ position (λ x. p (f x)) xs
position-map f p xs =
    ap (λ (n : ℕ). where_of n (length (map f xs))) (prefix_len-map f (λ y. not (p y)) xs)
    ∙ ap (λ (n : ℕ). where_of (prefix_len (λ x. not (p (f x))) xs) n) (length-map xs f)

pub number_over : (neighbours : List Speaker) (asn addr : ℕ) → number_of (speakers_of neighbours) asn addr ≡ position (λ s. is_speaker asn addr (speaker_of s)) neighbours
number_over neighbours asn addr = position-map speaker_of (is_speaker asn addr) neighbours
