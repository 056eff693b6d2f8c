-- What a crash makes of the bytes of a file, and of files one after another.
use Rattle.std.proofs.Common.{◌≡◌, ℕ, zero, suc, ◌+◌, ◌-◌, ◌<◌, ◌≤◌, min, leb, Bool, true, false, List, [], ◌∷◌, ◌++◌, length, get_or, set, take, drop, replicate, Some, refl, sym, ap, ◌∙◌, inl, inr, arith, append_assoc}
use Rattle.std.specs.Prelude.{◌^◌}
use Rattle.std.proofs.lemmas.Bool.{cases_Bool, cases_lt, leb-false}
use Rattle.std.proofs.lemmas.List.{length-append, length-take, length-replicate, get_or-take, get_or_append_left, take_at, take_all, drop_all, append-nil}
use Rattle.nr_spec_plans.specs.Disk.{Loose, Range, bytes_of}
use Rattle.nr_ports.specs.Ports.{Named, Stored, at_rest, file_of, stored_of, following, is_free, refilled, reached_bytes, crashed, crashed_files}
use Rattle.nr_ports.proofs.Writing.{size_is, held_is}

-- ---- bytes

-- some bytes in front of those that were refilled
abbrev pub joined : List ℕ → List ℕ × ℕ → List ℕ × ℕ
joined front rest = (front ++ rest.0, rest.1)

-- Only the bytes that are determined decide.
pub refilled_same : (l : Loose) (fill : List ℕ) (place turn : ℕ) (a b : List ℕ) → length a ≡ length b → ((k : ℕ) → k < length a → is_free l (place + k) ≡ false → get_or a k 0 ≡ get_or b k 0)
    → refilled l fill place turn a ≡ refilled l fill place turn b
unfolding refilled
refilled_same l fill place turn [] [] size same = refl
refilled_same l fill place turn [] (y ∷ b) size same = absurd (omega (arith, size))
refilled_same l fill place turn (x ∷ a) [] size same = absurd (omega (arith, size))
refilled_same l fill place turn (x ∷ a) (y ∷ b) size same =
    let rest : (k : ℕ) → k < length a → is_free l (place + 1 + k) ≡ false → get_or a k 0 ≡ get_or b k 0 =
    λ k less held. same (suc k) (omega (arith, less)) (ap (is_free l) (let e : place + suc k ≡ place + 1 + k = omega arith in e) ∙ held) in
    let shorter : length a ≡ length b = omega (arith, size) in
    elim (cases_Bool (is_free l place)) [
      | inl is ↦ rw is (ap (λ (r : List ℕ × ℕ). (get_or fill turn 0 ∷ r.0, r.1)) (refilled_same l fill (place + 1) (following turn (length fill)) a b shorter rest))
      | inr is ↦
          let first : x ≡ y = same 0 (omega arith) (ap (is_free l) (let e : place + 0 ≡ place = omega arith in e) ∙ is) in
          rw (is, first) (ap (λ (r : List ℕ × ℕ). (y ∷ r.0, r.1)) (refilled_same l fill (place + 1) turn a b shorter rest))
    ]

-- a list in three parts
split_at : (bytes : List ℕ) (i : ℕ) → i < length bytes → (front : List ℕ) × (byte : ℕ) × (rest : List ℕ) × (bytes ≡ front ++ byte ∷ rest) × (length front ≡ i)
split_at [] i less = absurd (omega (arith, less))
split_at (x ∷ bytes) zero less = ([], x, bytes, refl, refl)
split_at (x ∷ bytes) (suc i) less = let s = split_at bytes i (omega (arith, less)) in (x ∷ s.0, s.1, s.2, ap (λ (l : List ℕ). x ∷ l) s.3, ap suc s.4)

drop_seam : (front rest : List ℕ) → drop (length front) (front ++ rest) ≡ rest
drop_seam [] rest = refl
drop_seam (x ∷ front) rest = drop_seam front rest

take_seam : (front rest : List ℕ) → take (length front) (front ++ rest) ≡ front
take_seam front rest = take_at front rest (length front) refl

set_seam : (front rest : List ℕ) (x y : ℕ) → set (front ++ x ∷ rest) (length front) y ≡ front ++ y ∷ rest
set_seam [] rest x y = refl
set_seam (z ∷ front) rest x y = ap (λ (l : List ℕ). z ∷ l) (set_seam front rest x y)

one_on : (front rest : List ℕ) (x : ℕ) → (take (length front + 1) (front ++ x ∷ rest) ≡ front ++ x ∷ []) × (drop (length front + 1) (front ++ x ∷ rest) ≡ rest)
one_on front rest x =
    let size : length (front ++ x ∷ []) ≡ length front + 1 = length-append front (x ∷ []) in
    let whole : (front ++ x ∷ []) ++ rest ≡ front ++ x ∷ rest = append_assoc front (x ∷ []) rest in (
      ap (λ (k : ℕ). take k (front ++ x ∷ rest)) (sym size) ∙ ap (take (length (front ++ x ∷ []))) (sym whole) ∙ take_seam (front ++ x ∷ []) rest,
      ap (λ (k : ℕ). drop k (front ++ x ∷ rest)) (sym size) ∙ ap (drop (length (front ++ x ∷ []))) (sym whole) ∙ drop_seam (front ++ x ∷ []) rest,
    )

join_on : (front : List ℕ) (x : ℕ) (rest : List ℕ × ℕ) → joined (front ++ x ∷ []) rest ≡ joined front (x ∷ rest.0, rest.1)
join_on front x rest = ap (λ (l : List ℕ). (l, rest.1)) (append_assoc front (x ∷ []) rest.0)

free_parts : (l : Loose) (fill front rest : List ℕ) (x turn : ℕ) → is_free l (length front) ≡ true
    → joined (take (length front + 1) (set (front ++ x ∷ rest) (length front) (get_or fill turn 0))) (refilled l fill (length front + 1) (following turn (length fill)) (drop (length front + 1) (set (front ++ x ∷ rest) (length front) (get_or fill turn 0))))
    ≡ joined (take (length front) (front ++ x ∷ rest)) (refilled l fill (length front) turn (drop (length front) (front ++ x ∷ rest)))
unfolding refilled
free_parts l fill front rest x turn is =
    let byte = get_or fill turn 0 in
    let now = one_on front rest byte in
    rw (set_seam front rest x byte, now.0, now.1, take_seam front (x ∷ rest), drop_seam front (x ∷ rest), is) (join_on front byte (refilled l fill (length front + 1) (following turn (length fill)) rest))

held_parts : (l : Loose) (fill front rest : List ℕ) (x turn : ℕ) → is_free l (length front) ≡ false
    → joined (take (length front + 1) (front ++ x ∷ rest)) (refilled l fill (length front + 1) turn (drop (length front + 1) (front ++ x ∷ rest))) ≡ joined (take (length front) (front ++ x ∷ rest)) (refilled l fill (length front) turn (drop (length front) (front ++ x ∷ rest)))
unfolding refilled
held_parts l fill front rest x turn is =
    let now = one_on front rest x in
    rw (now.0, now.1, take_seam front (x ∷ rest), drop_seam front (x ∷ rest), is) (join_on front x (refilled l fill (length front + 1) turn rest))

free_split : (l : Loose) (fill bytes front rest : List ℕ) (i x turn : ℕ) → bytes ≡ front ++ x ∷ rest → i ≡ length front → is_free l i ≡ true
    → joined (take (i + 1) (set bytes i (get_or fill turn 0))) (refilled l fill (i + 1) (following turn (length fill)) (drop (i + 1) (set bytes i (get_or fill turn 0)))) ≡ joined (take i bytes) (refilled l fill i turn (drop i bytes))
free_split l fill bytes front rest i x turn list place is = rw (list, place) (free_parts l fill front rest x turn (ap (is_free l) (sym place) ∙ is))

held_split : (l : Loose) (fill bytes front rest : List ℕ) (i x turn : ℕ) → bytes ≡ front ++ x ∷ rest → i ≡ length front → is_free l i ≡ false
    → joined (take (i + 1) bytes) (refilled l fill (i + 1) turn (drop (i + 1) bytes)) ≡ joined (take i bytes) (refilled l fill i turn (drop i bytes))
held_split l fill bytes front rest i x turn list place is = rw (list, place) (held_parts l fill front rest x turn (ap (is_free l) (sym place) ∙ is))

-- one round: a byte that isn't determined, and one that is
pub free_round : (l : Loose) (fill bytes : List ℕ) (i turn : ℕ) → i < length bytes → is_free l i ≡ true
    → joined (take (i + 1) (set bytes i (get_or fill turn 0))) (refilled l fill (i + 1) (following turn (length fill)) (drop (i + 1) (set bytes i (get_or fill turn 0)))) ≡ joined (take i bytes) (refilled l fill i turn (drop i bytes))
free_round l fill bytes i turn less is = let s = split_at bytes i less in free_split l fill bytes s.0 s.2 i s.1 turn s.3 (sym s.4) is

pub held_round : (l : Loose) (fill bytes : List ℕ) (i turn : ℕ) → i < length bytes → is_free l i ≡ false → joined (take (i + 1) bytes) (refilled l fill (i + 1) turn (drop (i + 1) bytes)) ≡ joined (take i bytes) (refilled l fill i turn (drop i bytes))
held_round l fill bytes i turn less is = let s = split_at bytes i less in held_split l fill bytes s.0 s.2 i s.1 turn s.3 (sym s.4) is

-- ---- a stored file

module _ (bytes fill : List ℕ) (there : Bool) (len least : ℕ) (ranges : List Range) (within : len ≤ length bytes) (shorter : least ≤ len) (none : there ≡ false → len ≡ 0) where
  abbrev pub l : Loose
  l = record { least = least; greatest = length bytes; written = ranges }

  abbrev pub s : Stored
  s = stored_of bytes there len least ranges

  abbrev held : List ℕ
  held = bytes_of (file_of bytes there len)

  held_before : (k : ℕ) → is_free l k ≡ false → k < least
  held_before k is = elim (cases_Bool (leb least k)) [
    | inl past ↦ absurd (let h = rw past at is in cc)
    | inr before ↦ leb-false least k before
  ]

  reached_size : length (reached_bytes s) ≡ length bytes
  reached_size = omega (arith, length-append held (replicate (length bytes - length held) 0), length-replicate {A = ℕ} (length bytes - length held) 0, size_is bytes there len within none, within)

  pub reached_same : (turn : ℕ) → refilled l fill 0 turn bytes ≡ refilled l fill 0 turn (reached_bytes s)
  reached_same turn = refilled_same l fill 0 turn bytes (reached_bytes s) (sym reached_size)
      (λ k less determined.
      let in_held : k < len = omega (arith, held_before k (ap (is_free l) (let e : k ≡ 0 + k = omega arith in e) ∙ determined), shorter) in
      let size = size_is bytes there len within none in
      sym (get_or-take len bytes k 0 in_held) ∙ ap (λ (f : List ℕ). get_or f k 0) (held_is bytes there len none) ∙ sym (get_or_append_left held (replicate (length bytes - length held) 0) 0 k (omega (arith, in_held, size))))

  cut_short : (now : List ℕ) (end extra : ℕ) → length now ≡ length bytes → end ≡ min (min (least + extra) (2 ^ 64 - 1)) (length bytes) → length bytes < 2 ^ 64 → take end now ≡ take (least + extra) now
  cut_short now end extra size ends small = elim (cases_lt (least + extra) (length bytes)) [
    | inl less ↦ ap (λ (k : ℕ). take k now) (let e : end ≡ least + extra = omega (arith, less, ends, small) in e)
    | inr past ↦ take_all end now (omega (arith, ends, past, size, small)) ∙ sym (take_all (least + extra) now (omega (arith, past, size)))
  ]

  -- the fields of a file after a crash
  pub crash_made : (now : List ℕ) (end extra next : ℕ) → length now ≡ length bytes → now ≡ (refilled l fill 0 next bytes).0 → end ≡ min (min (least + extra) (2 ^ 64 - 1)) (length bytes) → length bytes < 2 ^ 64
      → stored_of (take end now) true end end [] ≡ at_rest (crashed fill extra next s).0
  crash_made now end extra next size is ends small =
      let all = (refilled l fill 0 next (reached_bytes s)).0 in
      let same : now ≡ all = is ∙ ap (λ (r : List ℕ × ℕ). r.0) (reached_same next) in
      let cut : take end now ≡ take (least + extra) all = cut_short now end extra size ends small ∙ ap (take (least + extra)) same in
      let long : length (take end now) ≡ end = omega (arith, length-take end now, size, ends) in
      let file : take end (take end now) ≡ take (least + extra) all = take_all end (take end now) (omega (arith, long)) ∙ cut in
      let left : end ≡ length (take (least + extra) all) = sym long ∙ ap length cut in
      ap (λ (f : List ℕ). record { file = Some f; loose = record { least = end; greatest = length (take end now); written = [] } }) file
      ∙ ap (λ (k : ℕ). record { file = Some (take (least + extra) all); loose = record { least = end; greatest = k; written = [] } }) (ap length cut)
      ∙ ap (λ (k : ℕ). record { file = Some (take (least + extra) all); loose = record { least = k; greatest = length (take (least + extra) all); written = [] } }) left

  pub crash_turn : (turn next : ℕ) (now : List ℕ) (extra : ℕ) → (now, turn) ≡ refilled l fill 0 next bytes → turn ≡ (crashed fill extra next s).1
  crash_turn turn next now extra is = ap (λ (r : List ℕ × ℕ). r.1) (is ∙ reached_same next)

-- ---- files one after another

split_files : (files : List Named) (i : ℕ) → i < length files → (front : List Named) × (file : Named) × (rest : List Named) × (files ≡ front ++ file ∷ rest) × (length front ≡ i)
split_files [] i less = absurd (omega (arith, less))
split_files (x ∷ files) zero less = ([], x, files, refl, refl)
split_files (x ∷ files) (suc i) less = let s = split_files files i (omega (arith, less)) in (x ∷ s.0, s.1, s.2, ap (λ (l : List Named). x ∷ l) s.3, ap suc s.4)

files_drop : (front rest : List Named) → drop (length front) (front ++ rest) ≡ rest
files_drop [] rest = refl
files_drop (x ∷ front) rest = files_drop front rest

files_take : (front rest : List Named) → take (length front) (front ++ rest) ≡ front
files_take [] rest = refl
files_take (x ∷ front) rest = ap (λ (l : List Named). x ∷ l) (files_take front rest)

files_set : (front rest : List Named) (x y : Named) → set (front ++ x ∷ rest) (length front) y ≡ front ++ y ∷ rest
files_set [] rest x y = refl
files_set (z ∷ front) rest x y = ap (λ (l : List Named). z ∷ l) (files_set front rest x y)

files_on : (front rest : List Named) (x : Named) → (take (length front + 1) (front ++ x ∷ rest) ≡ front ++ x ∷ []) × (drop (length front + 1) (front ++ x ∷ rest) ≡ rest)
files_on front rest x =
    let size : length (front ++ x ∷ []) ≡ length front + 1 = length-append front (x ∷ []) in
    let whole : (front ++ x ∷ []) ++ rest ≡ front ++ x ∷ rest = append_assoc front (x ∷ []) rest in (
      ap (λ (k : ℕ). take k (front ++ x ∷ rest)) (sym size) ∙ ap (take (length (front ++ x ∷ []))) (sym whole) ∙ files_take (front ++ x ∷ []) rest,
      ap (λ (k : ℕ). drop k (front ++ x ∷ rest)) (sym size) ∙ ap (drop (length (front ++ x ∷ []))) (sym whole) ∙ files_drop (front ++ x ∷ []) rest,
    )

files_at : (front rest : List Named) (x d : Named) → get_or (front ++ x ∷ rest) (length front) d ≡ x
files_at [] rest x d = refl
files_at (z ∷ front) rest x d = files_at front rest x d

file_parts : (fill : List ℕ) (extra turn next : ℕ) (front rest : List Named) (x g : Named) → g ≡ record { name = x.name; stored = at_rest (crashed fill extra turn x.stored).0 } → next ≡ (crashed fill extra turn x.stored).1
    → take (length front + 1) (set (front ++ x ∷ rest) (length front) g) ++ crashed_files fill extra next (drop (length front + 1) (set (front ++ x ∷ rest) (length front) g))
    ≡ take (length front) (front ++ x ∷ rest) ++ crashed_files fill extra turn (drop (length front) (front ++ x ∷ rest))
unfolding crashed_files
file_parts fill extra turn next front rest x g is goes =
    let now = files_on front rest g in
    rw (files_set front rest x g, now.0, now.1, files_take front (x ∷ rest), files_drop front (x ∷ rest), goes)
    (append_assoc front (g ∷ []) (crashed_files fill extra (crashed fill extra turn x.stored).1 rest) ∙ ap (λ (n : Named). front ++ n ∷ crashed_files fill extra (crashed fill extra turn x.stored).1 rest) is)

file_split : (fill : List ℕ) (extra turn next : ℕ) (files front rest : List Named) (i : ℕ) (y g : Named) → files ≡ front ++ y ∷ rest → i ≡ length front
    → g ≡ record { name = y.name; stored = at_rest (crashed fill extra turn y.stored).0 } → next ≡ (crashed fill extra turn y.stored).1
    → take (i + 1) (set files i g) ++ crashed_files fill extra next (drop (i + 1) (set files i g)) ≡ take i files ++ crashed_files fill extra turn (drop i files)
file_split fill extra turn next files front rest i y g list place is goes = rw (list, place) (file_parts fill extra turn next front rest y g is goes)

-- one file more
pub file_round : (fill : List ℕ) (extra turn next : ℕ) (files : List Named) (i : ℕ) (x g : Named) → i < length files → x ≡ get_or files i x
    → g ≡ record { name = x.name; stored = at_rest (crashed fill extra turn x.stored).0 } → next ≡ (crashed fill extra turn x.stored).1
    → take (i + 1) (set files i g) ++ crashed_files fill extra next (drop (i + 1) (set files i g)) ≡ take i files ++ crashed_files fill extra turn (drop i files)
file_round fill extra turn next files i x g less at is goes =
    let s = split_files files i less in
    let same : x ≡ s.1 = at ∙ ap (λ (l : List Named). get_or l i x) s.3 ∙ ap (λ (k : ℕ). get_or (s.0 ++ s.1 ∷ s.2) k x) (sym s.4) ∙ files_at s.0 s.2 s.1 x in
    file_split fill extra turn next files s.0 s.2 i s.1 g s.3 (sym s.4) (is ∙ ap (λ (f : Named). record { name = f.name; stored = at_rest (crashed fill extra turn f.stored).0 }) same) (goes ∙ ap (λ (f : Named). (crashed fill extra turn f.stored).1) same)

pub none_yet : (fill : List ℕ) (extra : ℕ) (files : List Named) → take 0 files ++ crashed_files fill extra 0 (drop 0 files) ≡ crashed_files fill extra 0 files
none_yet fill extra files = refl

pub all_done : (fill : List ℕ) (extra turn n : ℕ) (files : List Named) → length files ≤ n → take n files ++ crashed_files fill extra turn (drop n files) ≡ files
unfolding crashed_files
all_done fill extra turn n files past = rw (take_all n files past, drop_all n files past) (append-nil files)
