-- What is told of the records of a file, one after another and in the end.
use Rattle.std.proofs.Common.{◌≡◌, ℕ, ◌+◌, ◌-◌, ◌<◌, ◌≤◌, Bool, true, false, cond, List, [], ◌∷◌, length, Option, Some, None, Result, Ok, Err, refl, sym, ap, ◌∙◌, zero-add, arith}
use Rattle.std.specs.Prelude.{◌||◌, is_some, not}
use Rattle.std.specs.List.{cons_option}
use Rattle.std.proofs.lemmas.List.Sums.{sum_by-cons}
use Rattle.nr_spec_wire.specs.Reading.{Spot, Read, values, rows_at, all_rows_at, start_of}
use Rattle.nr_spec_wire.proofs.Steps.{behind, values-spent, values-end, values-more, values-fault}
use Rattle.nr_spec_bgp.specs.Records.{Item, record_at}
use Rattle.nr_spec_steps.specs.Events.{Event}
use Rattle.nr_spec_recording.specs.Records.{Speaker, kept, kept_of, skipped_of, records_of}
use Rattle.nr_spec_recording.specs.Events.{too_long}
use Rattle.nr_recording.specs.declared.file.FileFacts.{FileFacts}
use Rattle.nr_recording.specs.Files.{told, is_long, counted, counted_all, counted_to_end}

-- ---- a loop that has counted i of the records, and reads the others from s

behind-counted : (neighbours : List Speaker) (t : FileFacts) (x : Item) (read : Read (List Item))
    → counted_to_end neighbours t (behind x read) ≡ counted_to_end neighbours (counted t (kept neighbours x)) read
behind-counted neighbours t x (Ok others) = refl
behind-counted neighbours t x (Err place) = refl

pub counts-more : (neighbours : List Speaker) (t : FileFacts) (count i : ℕ) (s : Spot) (x : Item) (next : Spot) (total : Result FileFacts ℕ) → i < count → (length s.rest ≡ 0 → ⊥) → record_at s ≡ Ok (x, next)
    → counted_to_end neighbours t (rows_at record_at (count - i) s) ≡ total
    → counted_to_end neighbours (counted t (kept neighbours x)) (rows_at record_at (count - (i + 1)) next) ≡ total
counts-more neighbours t count i s x next total lt rest e so_far =
    let one : count - i - 1 ≡ count - (i + 1) = omega arith in
    let more = ap (λ (r : Read (List Item)). counted_to_end neighbours t r) (values-more record_at (count - i) s x next (λ z. omega arith) rest e) in
    ap (λ (n : ℕ). counted_to_end neighbours (counted t (kept neighbours x)) (rows_at record_at n next)) (sym one)
    ∙ sym (behind-counted neighbours t x (rows_at record_at (count - i - 1) next)) ∙ sym more ∙ so_far

pub counts-fault : (neighbours : List Speaker) (t : FileFacts) (count i : ℕ) (s : Spot) (place : ℕ) (total : Result FileFacts ℕ) → i < count → (length s.rest ≡ 0 → ⊥) → record_at s ≡ Err place
    → counted_to_end neighbours t (rows_at record_at (count - i) s) ≡ total → total ≡ Err place
counts-fault neighbours t count i s place total lt rest e so_far =
    sym so_far ∙ ap (λ (r : Read (List Item)). counted_to_end neighbours t r) (values-fault record_at (count - i) s place (λ z. omega arith) rest e)

pub counts-spent : (neighbours : List Speaker) (t : FileFacts) (count i : ℕ) (s : Spot) (total : Result FileFacts ℕ) → count ≤ i
    → counted_to_end neighbours t (rows_at record_at (count - i) s) ≡ total → total ≡ Ok t
counts-spent neighbours t count i s total le so_far =
    sym so_far ∙ ap (λ (r : Read (List Item)). counted_to_end neighbours t r) (values-spent record_at (count - i) s (omega arith))

pub counts-end : (neighbours : List Speaker) (t : FileFacts) (count i : ℕ) (s : Spot) (total : Result FileFacts ℕ) → length s.rest ≡ 0
    → counted_to_end neighbours t (rows_at record_at (count - i) s) ≡ total → total ≡ Ok t
counts-end neighbours t count i s total rest so_far =
    sym so_far ∙ ap (λ (r : Read (List Item)). counted_to_end neighbours t r) (values-end record_at (count - i) s rest)

few-more : (t : FileFacts) (o : Option Event) → (counted t o).skipped ≤ t.skipped + 1
few-more t None = omega arith
few-more t (Some e) = omega arith

-- one record more, as the loop keeps it
pub record IsCounted (neighbours : List Speaker) (u : FileFacts) (i : ℕ) (read : Read (List Item)) (total : Result FileFacts ℕ) : Type 0 where
  pub few : u.skipped ≤ i
  pub whole : counted_to_end neighbours u read ≡ total

pub counted-more : (neighbours : List Speaker) (t u : FileFacts) (o : Option Event) (count i : ℕ) (s : Spot) (x : Item) (next : Spot) (total : Result FileFacts ℕ)
    → u ≡ counted t o → o ≡ kept neighbours x → t.skipped ≤ i → i < count → (length s.rest ≡ 0 → ⊥) → record_at s ≡ Ok (x, next)
    → counted_to_end neighbours t (rows_at record_at (count - i) s) ≡ total
    → IsCounted neighbours u (i + 1) (rows_at record_at (count - (i + 1)) next) total
counted-more neighbours t u o count i s x next total u_is o_is few lt rest e so_far =
    let skipped : u.skipped ≡ (counted t o).skipped = ap (λ (v : FileFacts). v.skipped) u_is in
    record {
      few = omega (arith, skipped, few-more t o, few);
      whole = ap (λ (v : FileFacts). counted_to_end neighbours v (rows_at record_at (count - (i + 1)) next)) (u_is ∙ ap (λ (p : Option Event). counted t p) o_is)
          ∙ counts-more neighbours t count i s x next total lt rest e so_far;
    }

-- ---- in the end

abbrev fine : FileFacts → Result FileFacts ℕ
fine f = Ok f

abbrev facts : ℕ → Bool → FileFacts
facts skipped long = record { skipped = skipped; too_long = long }

or-false : (b : Bool) → (b || false) ≡ b
or-false true = refl
or-false false = refl

long-first : (long : Bool) (e : Event) (es : List Event) (b : Bool) → b ≡ is_long e
    → ((long || b) || is_some (too_long es)) ≡ (long || (b || is_some (too_long es)))
long-first true e es b is = refl
long-first false e es b is = refl

first-long : (e : Event) (es : List Event) (b : Bool) → is_long e ≡ b → is_some (too_long (e ∷ es)) ≡ (b || is_some (too_long es))
first-long e es true is = rw is refl
first-long e es false is = rw is refl

one-more : (t : FileFacts) (o : Option Event) (n : ℕ) (es : List Event)
    → facts ((counted t o).skipped + n) ((counted t o).too_long || is_some (too_long es))
    ≡ facts (t.skipped + (cond (not (is_some o)) 1 0 + n)) (t.too_long || is_some (too_long (cons_option o es)))
one-more t None n es =
    let sums : (t.skipped + 1) + n ≡ t.skipped + (1 + n) = omega arith in
    ap (λ (k : ℕ). facts k (t.too_long || is_some (too_long es))) sums
one-more t (Some e) n es =
    let sums : t.skipped + n ≡ t.skipped + (0 + n) = omega arith in
    ap (λ (k : ℕ). facts k ((t.too_long || is_long e) || is_some (too_long es))) sums
    ∙ ap (λ (b : Bool). facts (t.skipped + (0 + n)) b) (long-first t.too_long e es (is_long e) refl ∙ ap (λ (b : Bool). t.too_long || b) (sym (first-long e es (is_long e) refl)))

skipped-more : (neighbours : List Speaker) (item : Item) (items : List Item) → skipped_of neighbours (item ∷ items) ≡ cond (not (is_some (kept neighbours item))) 1 0 + skipped_of neighbours items
skipped-more neighbours item items = sum_by-cons (λ (x : Item). cond (not (is_some (kept neighbours x))) 1 0) item items

pub counted-all : (neighbours : List Speaker) (t : FileFacts) (items : List Item)
    → counted_all neighbours t items ≡ facts (t.skipped + skipped_of neighbours items) (t.too_long || is_some (too_long (kept_of neighbours items)))
counted-all neighbours t [] =
    let none : t.skipped ≡ t.skipped + 0 = omega arith in
    ap (λ (k : ℕ). facts k t.too_long) none ∙ ap (λ (b : Bool). facts (t.skipped + 0) b) (sym (or-false t.too_long))
counted-all neighbours t (item ∷ items) =
    counted-all neighbours (counted t (kept neighbours item)) items ∙ one-more t (kept neighbours item) (skipped_of neighbours items) (kept_of neighbours items)
    ∙ ap (λ (n : ℕ). facts (t.skipped + n) (t.too_long || is_some (too_long (kept_of neighbours (item ∷ items))))) (sym (skipped-more neighbours item items))

abbrev none_yet : FileFacts
none_yet = facts 0 false

-- a whole file
whole : (neighbours : List Speaker) (read : Read (List Item)) → counted_to_end neighbours none_yet read ≡ told neighbours (values read)
whole neighbours (Ok items) = ap fine (counted-all neighbours none_yet items.0 ∙ ap (λ (n : ℕ). facts n (is_some (too_long (kept_of neighbours items.0)))) (zero-add (skipped_of neighbours items.0)))
whole neighbours (Err place) = refl

pub counts-none : (neighbours : List Speaker) (bytes : List ℕ) (n : ℕ) → n ≡ length bytes → counted_to_end neighbours none_yet (rows_at record_at n (start_of bytes)) ≡ told neighbours (records_of bytes)
unfolding records_of
counts-none neighbours bytes n all = rw all (whole neighbours (all_rows_at record_at (start_of bytes)))
