-- What is kept of a recording's files, one file after another.
use Rattle.std.proofs.Common.{◌≡◌, ℕ, ◌+◌, ◌≤◌, Bool, true, false, List, [], ◌∷◌, ◌++◌, map, refl, sym, ap, ◌∙◌, zero-add, arith}
use Rattle.std.specs.Prelude.{◌||◌}
use Rattle.std.specs.List.{sum}
use Rattle.std.proofs.lemmas.List.{map-append}
use Rattle.std.proofs.lemmas.List.Sums.{sum_by-append}
use Rattle.nr_spec_bgp.specs.Records.{Item}
use Rattle.nr_spec_recording.specs.Records.{Speaker, skipped_of}
use Rattle.nr_spec_recording.specs.Events.{skipped}
use Rattle.nr_recording.specs.declared.file.FileFacts.{FileFacts}
use Rattle.nr_recording.specs.Files.{facts_of, long_in}
use Rattle.nr_recording.specs.Recordings.{Recorded, recorded, with_file, any_long, IsSummed}

-- no file
pub summed-none : (count : ℕ) (neighbours : List Speaker) → count ≤ 65536 → IsSummed count 0 false (recorded neighbours [])
unfolding skipped
summed-none count neighbours few = record { few = few; skipped = refl; too_long = refl }

skipped-append : (neighbours : List Speaker) (files : List (List Item)) (items : List Item) → skipped neighbours (files ++ items ∷ []) ≡ skipped neighbours files + skipped_of neighbours items
unfolding skipped
skipped-append neighbours files items =
    ap sum (map-append (skipped_of neighbours) files (items ∷ []))
    ∙ sum_by-append (λ (n : ℕ). n) (map (skipped_of neighbours) files) (skipped_of neighbours items ∷ [])
    ∙ ap (λ (n : ℕ). sum (map (skipped_of neighbours) files) + n) (zero-add (skipped_of neighbours items))

any-append : (neighbours : List Speaker) (files : List (List Item)) (items : List Item) → any_long neighbours (files ++ items ∷ []) ≡ (any_long neighbours files || long_in neighbours items)
any-append neighbours [] items = last (long_in neighbours items)
  where
    last : (b : Bool) → (b || false) ≡ b
    last true = refl
    last false = refl
any-append neighbours (first ∷ files) items =
    ap (λ (b : Bool). long_in neighbours first || b) (any-append neighbours files items) ∙ joins (long_in neighbours first) (any_long neighbours files) (long_in neighbours items)
  where
    joins : (a b c : Bool) → (a || (b || c)) ≡ ((a || b) || c)
    joins true b c = refl
    joins false b c = refl

-- a file more
pub summed-more : (count skips : ℕ) (long : Bool) (r : Recorded) (f : FileFacts) (items : List Item) (sum : ℕ) → IsSummed count skips long r → f ≡ facts_of r.neighbours items → sum ≡ skips + f.skipped
    → IsSummed count sum (long || f.too_long) (with_file items r)
summed-more count skips long r f items sum old f_is sum_is =
    let n : f.skipped ≡ skipped_of r.neighbours items = ap (λ (g : FileFacts). g.skipped) f_is in
    let b : f.too_long ≡ long_in r.neighbours items = ap (λ (g : FileFacts). g.too_long) f_is in
    record {
      few = old.few;
      skipped = omega (arith, old.skipped, n, sum_is, skipped-append r.neighbours r.files items);
      too_long = ap (λ (c : Bool). c || f.too_long) old.too_long ∙ ap (λ (c : Bool). any_long r.neighbours r.files || c) b ∙ sym (any-append r.neighbours r.files items);
    }
