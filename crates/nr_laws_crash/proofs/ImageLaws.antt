-- The images of files after a write and a sync.
use Rattle.std.proofs.Common.{◌≡◌, ℕ, ◌+◌, ◌-◌, ◌<◌, ◌≤◌, min, max, List, [], ◌∷◌, ◌++◌, length, get_or, take, drop, refl, sym, ap, ◌∙◌, inl, inr, ◌⊎◌, ⊎_elim, append_assoc, arith}
use Rattle.std.proofs.lemmas.List.{ext_get_or, get_or-take, get_or-drop, length-take, length-drop, length-append, take_at}
use Rattle.std.proofs.Common.{Bool, ltb, leb, false, true, replicate, ◌&&◌}
use Rattle.std.proofs.lemmas.List.{get_or_append_left, length-replicate}
use Rattle.std.proofs.lemmas.Bool.{cases_Bool, le-ltb, lt-leb, leb-false, ltb-false}
use Rattle.nr_spec_plans.specs.Disk.{Moment, Loose, Range, settled, loose_by_write, bytes_of, written, TornWrite}
use Rattle.nr_spec_crash.specs.Images.{IsImage, IsImageOf, IsPending, is_in}

-- ---- lists by place

pub place_of_take : (n : ℕ) (a b : List ℕ) (i : ℕ) → take n a ≡ take n b → i < n → get_or a i 0 ≡ get_or b i 0
place_of_take n a b i same less = sym (get_or-take n a i 0 less) ∙ ap (λ (l : List ℕ). get_or l i 0) same ∙ get_or-take n b i 0 less

pub place_of_drop : (n : ℕ) (a b : List ℕ) (i : ℕ) → drop n a ≡ drop n b → get_or a (n + i) 0 ≡ get_or b (n + i) 0
place_of_drop n a b i same = sym (get_or-drop n a i 0) ∙ ap (λ (l : List ℕ). get_or l i 0) same ∙ get_or-drop n b i 0

pub take_by_place : (n : ℕ) (a b : List ℕ) → min n (length a) ≡ min n (length b) → ((i : ℕ) → i < n → i < length a → get_or a i 0 ≡ get_or b i 0) → take n a ≡ take n b
take_by_place n a b size same =
    ext_get_or 0 (take n a) (take n b) (length-take n a ∙ size ∙ sym (length-take n b))
    (λ i less. let in_n : i < n = omega (arith, less, length-take n a) in let in_a : i < length a = omega (arith, less, length-take n a) in
    get_or-take n a i 0 in_n ∙ same i in_n in_a ∙ sym (get_or-take n b i 0 in_n))

pub drop_by_place : (n : ℕ) (a b : List ℕ) → length a - n ≡ length b - n → ((i : ℕ) → n + i < length a → get_or a (n + i) 0 ≡ get_or b (n + i) 0) → drop n a ≡ drop n b
drop_by_place n a b size same =
    ext_get_or 0 (drop n a) (drop n b) (length-drop n a ∙ size ∙ sym (length-drop n b))
    (λ i less. get_or-drop n a i 0 ∙ same i (omega (arith, less, length-drop n a)) ∙ sym (get_or-drop n b i 0))

-- ---- settled files

-- Where all is on the disk, a crash leaves what a read gives.
pub settled_image : (m : Moment) (name image : List ℕ) → m.loose name ≡ settled (bytes_of (m.holds name)) → IsImage m name image → image ≡ bytes_of (m.holds name)
settled_image m name image all is =
    let least : (m.loose name).least ≡ length (bytes_of (m.holds name)) = ap (λ (l : Loose). l.least) all in
    let greatest : (m.loose name).greatest ≡ length (bytes_of (m.holds name)) = ap (λ (l : Loose). l.greatest) all in
    let none : (m.loose name).written ≡ [] = ap (λ (l : Loose). l.written) all in
    let size : length image ≡ length (bytes_of (m.holds name)) = omega (arith, is.no_shorter, is.no_longer, least, greatest) in
    ext_get_or 0 image (bytes_of (m.holds name)) size (λ i less. is.stays i (omega (arith, less, size, least)) (ap (is_in i) none))

-- It is itself an image where its length is between the least and the greatest.
pub held_image : (m : Moment) (name : List ℕ) → (m.loose name).least ≤ length (bytes_of (m.holds name)) → length (bytes_of (m.holds name)) ≤ (m.loose name).greatest → IsImage m name (bytes_of (m.holds name))
held_image m name least greatest = record { no_shorter = least; no_longer = greatest; stays = λ place less unwritten. refl }

pub settled_held : (m : Moment) (name : List ℕ) → m.loose name ≡ settled (bytes_of (m.holds name)) → IsImage m name (bytes_of (m.holds name))
settled_held m name all = held_image m name (rw all (omega arith)) (rw all (omega arith))

-- Nothing is pending then.
pub none_pending : (m : Moment) (name : List ℕ) → m.loose name ≡ settled (bytes_of (m.holds name)) → IsPending m name → ⊥
none_pending m name all (image, is, other) = other (settled_image m name image all is)

-- ---- after a write

-- A write that went well is one of the ways in which it may have been torn.
pub written_torn : (at : ℕ) (from file : List ℕ) → at ≤ length file → TornWrite at (length from) file (written at from file)
written_torn at from file within =
    let front : length (take at file) ≡ at = omega (arith, length-take at file, within) in
    let whole : written at from file ≡ take at file ++ (from ++ drop (at + length from) file) = append_assoc (take at file) from (drop (at + length from) file) in
    let size : length (written at from file) ≡ at + (length from + (length file - (at + length from))) =
    ap length whole ∙ length-append (take at file) (from ++ drop (at + length from) file) ∙ (omega (arith, front, length-append from (drop (at + length from) file), length-drop (at + length from) file)) in
    let fore : length (take at file ++ from) ≡ at + length from = omega (arith, front, length-append (take at file) from) in
    record {
      before = ap (take at) whole ∙ take_at (take at file) (from ++ drop (at + length from) file) at front;
      rest = ap (λ (k : ℕ). drop k (written at from file)) (sym fore) ∙ drop_front (take at file ++ from) (drop (at + length from) file);
      no_shorter = omega (arith, size);
      no_longer = omega (arith, size);
    }
  where
    drop_front : (xs ys : List ℕ) → drop (length xs) (xs ++ ys) ≡ ys
    drop_front [] ys = refl
    drop_front (x ∷ xs) ys = drop_front xs ys

not_in : (i at n : ℕ) → i < at ⊎ at + n ≤ i → is_in i (record { from = at; to = at + n } ∷ []) ≡ false
not_in i at n (inl less) = let h : leb at i ≡ false = lt-leb at i less in rw h refl
not_in i at n (inr past) = let h : ltb i (at + n) ≡ false = le-ltb i (at + n) past in elim (cases_Bool (leb at i)) [
  | inl is ↦ rw (is, h) refl
  | inr is ↦ rw is refl
]

-- what a crash may leave after a write, into a file that was all on the disk
pub torn_image : (m : Moment) (name : List ℕ) (at n : ℕ) (file image : List ℕ) → at ≤ length file → m.loose name ≡ loose_by_write at n (length file) (settled file) → TornWrite at n file (bytes_of (m.holds name)) → IsImage m name image → TornWrite at n file image
torn_image m name at n file image within loose torn is =
    let held = bytes_of (m.holds name) in
    let least : (m.loose name).least ≡ length file = ap (λ (l : Loose). l.least) loose ∙ (omega arith) in
    let greatest : (m.loose name).greatest ≡ max (length file) (at + n) = ap (λ (l : Loose). l.greatest) loose ∙ (omega arith) in
    let ranges : (m.loose name).written ≡ record { from = at; to = at + n } ∷ [] = ap (λ (l : Loose). l.written) loose in
    let outside : (i : ℕ) → i < at ⊎ at + n ≤ i → is_in i (m.loose name).written ≡ false = λ i apart. ap (is_in i) ranges ∙ not_in i at n apart in
    let long : length file ≤ length image = omega (arith, is.no_shorter, least) in
    let short : length image ≤ max (length file) (at + n) = omega (arith, is.no_longer, greatest) in
    record {
      before = take_by_place at image file (omega (arith, long, within)) (λ i less in_image. is.stays i (omega (arith, less, within, least)) (outside i (inl less)) ∙ place_of_take at held file i torn.before less);
      rest = drop_by_place (at + n) image file (omega (arith, long, short))
          (λ i in_image. is.stays (at + n + i) (omega (arith, in_image, short, least)) (outside (at + n + i) (inr (omega arith))) ∙ place_of_drop (at + n) held file i torn.rest);
      no_shorter = long;
      no_longer = short;
    }

-- ---- the longest image, and moments within a write

-- A crash may leave as many bytes as the greatest length.
pub greatest_image : (m : Moment) (name : List ℕ) → (m.loose name).least ≤ length (bytes_of (m.holds name)) → length (bytes_of (m.holds name)) ≤ (m.loose name).greatest
    → (image : List ℕ) × (length image ≡ (m.loose name).greatest) × IsImage m name image
greatest_image m name least greatest =
    let held = bytes_of (m.holds name) in
    let more : List ℕ = replicate ((m.loose name).greatest - length held) 0 in
    let size : length (held ++ more) ≡ (m.loose name).greatest = omega (arith, length-append held more, length-replicate {A = ℕ} ((m.loose name).greatest - length held) 0, greatest) in (
      held ++ more,
      size,
      record {
        no_shorter = omega (arith, size, least, greatest);
        no_longer = omega (arith, size);
        stays = λ place less unwritten. get_or_append_left held more 0 place (omega (arith, less, least));
      },
    )

-- A place that is in none of some ranges and one more isn't in that one, nor in the others.
apart : (i : ℕ) (ranges : List Range) (at n : ℕ) → is_in i (ranges ++ record { from = at; to = at + n } ∷ []) ≡ false → (is_in i ranges ≡ false) × (i < at ⊎ at + n ≤ i)
apart i [] at n none = (refl, outside i at n (leb at i) refl none)
  where
    outside : (i at n : ℕ) (b : Bool) → leb at i ≡ b → is_in i (record { from = at; to = at + n } ∷ []) ≡ false → i < at ⊎ at + n ≤ i
    outside i at n false is none = inl (leb-false at i is)
    outside i at n true is none = elim (cases_Bool (ltb i (at + n))) [
      | inl less ↦ absurd (let h = rw (is, less) at none in cc)
      | inr past ↦ inr (ltb-false i (at + n) past)
    ]
apart i (r ∷ ranges) at n none = elim (cases_Bool (leb r.from i && ltb i r.to)) [
  | inl is ↦ absurd (let h = rw is at none in cc)
  | inr is ↦ let h = rw is at none in let rest = apart i ranges at n h in (rw is rest.0, rest.1)
]

-- What a crash within a write leaves, one after the same write leaves where it went well.
pub within_write : (at : ℕ) (from file torn image : List ℕ) (l : Loose) → at ≤ length file → TornWrite at (length from) file torn → IsImageOf (loose_by_write at (length from) (length file) l) torn image → IsImageOf (loose_by_write at (length from) (length file) l) (written at from file) image
within_write at from file torn image l within t is = record {
  no_shorter = is.no_shorter;
  no_longer = is.no_longer;
  stays = λ place less unwritten.
      let w = written_torn at from file within in
      let out = apart place l.written at (length from) unwritten in
      is.stays place less unwritten ∙ ⊎_elim (λ (before : place < at). place_of_take at torn file place t.before before ∙ sym (place_of_take at (written at from file) file place w.before before))
      (λ (past : at + length from ≤ place). past_it place (at + length from) torn file t.rest past ∙ sym (past_it place (at + length from) (written at from file) file w.rest past)) out.1;
}
  where
    past_it : (place n : ℕ) (a b : List ℕ) → drop n a ≡ drop n b → n ≤ place → get_or a place 0 ≡ get_or b place 0
    past_it place n a b same past = let e : n + (place - n) ≡ place = omega (arith, past) in ap (λ (k : ℕ). get_or a k 0) (sym e) ∙ place_of_drop n a b (place - n) same ∙ ap (λ (k : ℕ). get_or b k 0) e
