-- Segments one after another.
use Rattle.std.proofs.Common.{◌≡◌, ◌≢◌, ℕ, ◌≤◌, ◌<◌, Bool, true, false, List, [], ◌∷◌, length, Result, Ok, Err, refl, ap, ◌∙◌, arith}
use Rattle.std.specs.Prelude.{is_ok}
use Rattle.std.specs.Result.{result_unwrap_or}
use Rattle.nr_spec_wire.specs.Reading.{Spot, ◌>>=◌}
use Rattle.nr_spec_bgp.specs.Paths.{Segment, segment_at, segments_at, last_of, last_as}
use Rattle.nr_spec_bgp.proofs.Walks.{all_step, all_end, segment_eats}
use Rattle.nr_attrs.specs.Left.{segments_from}

-- the others are fine where all are
abbrev goes_on : Segment → Result (List Segment) ℕ → Result (List Segment) ℕ
goes_on first others = others >>= λ o. Ok (first ∷ o)

others_fine : (first : Segment) (others : Result (List Segment) ℕ) → is_ok (goes_on first others) ≡ true → (result_unwrap_or (goes_on first others) [] ≡ first ∷ result_unwrap_or others []) × (is_ok others ≡ true)
others_fine first (Ok o) e = (refl, refl)
others_fine first (Err d) e = absurd cc

pub segments_end : (as4 : Bool) (s : Spot) → length s.rest ≡ 0 → segments_from as4 s ≡ []
segments_end as4 s none = ap (λ (r : Result (List Segment) ℕ). result_unwrap_or r []) (all_end (segment_at as4) s none)

pub segments_step : (as4 : Bool) (s : Spot) (x : Segment) (t : Spot) → length s.rest ≢ 0 → segment_at as4 s ≡ Ok (x, t) → is_ok (segments_at as4 s) ≡ true → (segments_from as4 s ≡ x ∷ segments_from as4 t) × (is_ok (segments_at as4 t) ≡ true)
segments_step as4 s x t some e fine =
    let all : segments_at as4 s ≡ goes_on x (segments_at as4 t) = all_step (segment_at as4) (segment_eats as4) s some ∙ rw e refl in
    let o = others_fine x (segments_at as4 t) (rw all at fine) in
    (ap (λ (r : Result (List Segment) ℕ). result_unwrap_or r []) all ∙ o.0, o.1)

pub segments_fault : (as4 : Bool) (s : Spot) (place : ℕ) → length s.rest ≢ 0 → segment_at as4 s ≡ Err place → is_ok (segments_at as4 s) ≡ true → ⊥
segments_fault as4 s place some e fine =
    let all : segments_at as4 s ≡ Err place = all_step (segment_at as4) (segment_eats as4) s some ∙ rw e refl in
    let no : is_ok (segments_at as4 s) ≡ false = ap is_ok all in
    cc

-- the last number, or what stands before where no segment is left
abbrev pub last_from : ℕ → List Segment → ℕ
last_from before [] = before
last_from before (s ∷ path) = last_from (last_of s) path

last_from_some : (before : ℕ) (s : Segment) (path : List Segment) → last_from before (s ∷ path) ≡ last_as (s ∷ path)
last_from_some before s [] = refl
last_from_some before s (t ∷ path) = last_from_some (last_of s) t path

pub last_from_zero : (path : List Segment) → last_from 0 path ≡ last_as path
last_from_zero [] = refl
last_from_zero (s ∷ path) = last_from_some 0 s path

-- ---- whether a value is a path

fine_of : (first : Segment) (others : Result (List Segment) ℕ) → is_ok (goes_on first others) ≡ is_ok others
fine_of first (Ok o) = refl
fine_of first (Err d) = refl

pub fine_step : (as4 : Bool) (s : Spot) (x : Segment) (t : Spot) → 0 < length s.rest → segment_at as4 s ≡ Ok (x, t) → is_ok (segments_at as4 s) ≡ is_ok (segments_at as4 t)
fine_step as4 s x t some e =
    let all : segments_at as4 s ≡ goes_on x (segments_at as4 t) = all_step (segment_at as4) (segment_eats as4) s (omega arith) ∙ rw e refl in
    ap is_ok all ∙ fine_of x (segments_at as4 t)

pub fine_fault : (as4 : Bool) (s : Spot) (place : ℕ) → 0 < length s.rest → segment_at as4 s ≡ Err place → is_ok (segments_at as4 s) ≡ false
fine_fault as4 s place some e =
    let all : segments_at as4 s ≡ Err place = all_step (segment_at as4) (segment_eats as4) s (omega arith) ∙ rw e refl in
    ap is_ok all

pub fine_end : (as4 : Bool) (s : Spot) → length s.rest ≤ 0 → is_ok (segments_at as4 s) ≡ true
fine_end as4 s none = ap is_ok (all_end (segment_at as4) s (omega arith))

pub segment_shorter : (as4 : Bool) (s : Spot) (x : Segment) (t : Spot) → segment_at as4 s ≡ Ok (x, t) → length t.rest < length s.rest
segment_shorter as4 s x t e = segment_eats as4 s (x, t) e
