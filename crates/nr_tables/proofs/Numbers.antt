-- The numbers of places, and the rows that name them.
use Rattle.std.proofs.Common.{◌≡◌, ◌==◌, ℕ, zero, suc, ◌+◌, ◌<◌, ◌≤◌, Bool, true, false, cond, List, [], ◌∷◌, ◌++◌, Option, Some, None, length, refl, ap, sym, ◌∙◌, arith}
use Rattle.std.specs.Prelude.{filter, get_or, map, nat_lt}
use Rattle.std.specs.List.{AllByRecursion}
use Rattle.std.specs.Map.{keys_of, lookup, remove_entry, values_of}
use Rattle.std.specs.BTreeMap.{insert_entry, is_at}
use Rattle.std.specs.Ordering.{is_eq, match_ordering}
use Rattle.std.specs.declared.cmp.Ordering.{Ordering}
use Rattle.std.specs.declared.cmp.Ordering.TheVariants.{Less, Equal, Greater}
use Rattle.std.proofs.lemmas.Bool.Decides.{nat_tests}
use Rattle.indexmap.specs.IndexMap.{set_value_at}
use Rattle.nr_tables.specs.Shared.{number_at, renamed, times, unnamed}

some_is : (x y : ℕ) → Some x ≡ Some y → x ≡ y
some_is x y e = ap of e
  where
    of : Option ℕ → ℕ
    of (Some z) = z
    of None = x

-- ---- a number changes

module _ {K : Type 0} where
  pub number_set : (es : List (K × ℕ)) (i w j : ℕ) → i < length es → number_at (values_of (set_value_at es i w)) j ≡ cond (j == i) w (number_at (values_of es) j)
  number_set [] i w j h = absurd (omega (arith, h))
  number_set (e ∷ es) zero w zero h = refl
  number_set (e ∷ es) zero w (suc j) h = grind (arith, nat_tests)
  number_set (e ∷ es) (suc i) w zero h = grind (arith, nat_tests)
  number_set (e ∷ es) (suc i) w (suc j) h = number_set es i w j (omega (arith, h)) ∙ ap (λ b. cond b w (number_at (values_of es) j)) (sym (same i j))
    where
      same : (i j : ℕ) → (suc j == suc i) ≡ (j == i)
      same i j = grind (arith, nat_tests)

  pub unnamed_set : (es : List (K × ℕ)) (i w : ℕ) → i < length es
      → cond (number_at (values_of es) i == 0) 1 0 + unnamed (values_of (set_value_at es i w)) ≡ cond (w == 0) 1 0 + unnamed (values_of es)
  unnamed_set [] i w h = absurd (omega (arith, h))
  unnamed_set (e ∷ es) zero w h = turned (cond (e.1 == 0) 1 0) (cond (w == 0) 1 0) (unnamed (values_of es))
    where
      turned : (a b c : ℕ) → a + (b + c) ≡ b + (a + c)
      turned a b c = omega arith
  unnamed_set (e ∷ es) (suc i) w h =
      let ih = unnamed_set es i w (omega (arith, h)) in
      moved (cond (number_at (values_of es) i == 0) 1 0) (cond (e.1 == 0) 1 0) (unnamed (values_of (set_value_at es i w))) (cond (w == 0) 1 0) (unnamed (values_of es)) ih
    where
      moved : (a b c d e : ℕ) → a + c ≡ d + e → a + (b + c) ≡ d + (b + e)
      moved a b c d e h = omega (arith, h)

  pub within : (es : List (K × ℕ)) (i : ℕ) → 0 < number_at (values_of es) i → i < length es
  within [] i h = absurd (omega (arith, h))
  within (e ∷ es) zero h = omega arith
  within (e ∷ es) (suc i) h = let ih = within es i h in omega (arith, ih)

pub unnamed_most : (ns : List ℕ) → unnamed ns ≤ length ns
unnamed_most [] = omega arith
unnamed_most (n ∷ ns) = let ih = unnamed_most ns in by (n == 0) ih
  where
    by : (b : Bool) → unnamed ns ≤ length ns → cond b 1 0 + unnamed ns ≤ suc (length ns)
    by true h = omega (arith, h)
    by false h = omega (arith, h)

pub unnamed_more : (ns : List ℕ) → unnamed (ns ++ 0 ∷ []) ≡ unnamed ns + 1
unnamed_more [] = refl
unnamed_more (n ∷ ns) = let ih = unnamed_more ns in omega (arith, ih)

pub number_more : (ns : List ℕ) (i : ℕ) → number_at (ns ++ 0 ∷ []) i ≡ number_at ns i
number_more [] zero = refl
number_more [] (suc i) = refl
number_more (n ∷ ns) zero = refl
number_more (n ∷ ns) (suc i) = number_more ns i

-- ---- how many rows name a place

module _ {K : Type 0} where
  pub times_most : (i : ℕ) (rows : List (K × ℕ)) → times i rows ≤ length rows
  times_most i [] = omega arith
  times_most i (e ∷ rows) = by (i == e.1) (times_most i rows)
    where
      by : (b : Bool) → times i rows ≤ length rows → cond b 1 0 + times i rows ≤ suc (length rows)
      by true h = omega (arith, h)
      by false h = omega (arith, h)

  pub count_removed : (test : K → Bool) (rows : List (K × ℕ)) (o i : ℕ) → lookup test rows ≡ Some o → cond (i == o) 1 0 + times i (remove_entry test rows) ≡ times i rows
  count_removed test [] o i h = absurd cc
  count_removed test (e ∷ rows) o i h = by (test e.0) h (count_removed test rows o i)
    where
      by : (b : Bool) → cond b (Some e.1) (lookup test rows) ≡ Some o → (lookup test rows ≡ Some o → cond (i == o) 1 0 + times i (remove_entry test rows) ≡ times i rows)
          → cond (i == o) 1 0 + times i (cond b rows (e ∷ remove_entry test rows)) ≡ cond (i == e.1) 1 0 + times i rows
      by true h ih = ap (λ n. cond (i == n) 1 0 + times i rows) (sym (some_is e.1 o h))
      by false h ih = let is = ih h in moved (cond (i == o) 1 0) (cond (i == e.1) 1 0) (times i (remove_entry test rows)) (times i rows) is
        where
          moved : (a b c d : ℕ) → a + c ≡ d → a + (b + c) ≡ b + d
          moved a b c d h = omega (arith, h)

  -- a row in the place of another
  pub count_swapped : (cmp : K → K → Ordering) (k : K) (v : ℕ) (rows : List (K × ℕ)) (o i : ℕ) → length (insert_entry cmp rows k v) ≡ length rows → lookup (is_at (cmp k)) rows ≡ Some o
      → cond (i == o) 1 0 + times i (insert_entry cmp rows k v) ≡ cond (i == v) 1 0 + times i rows
  count_swapped cmp k v [] o i same h = absurd cc
  count_swapped cmp k v (e ∷ rows) o i same h = by (cmp k e.0) same h (count_swapped cmp k v rows o i)
    where
      by : (c : Ordering) → length (match_ordering c ((k, v) ∷ e ∷ rows) ((e.0, v) ∷ rows) (e ∷ insert_entry cmp rows k v)) ≡ suc (length rows) → cond (is_eq c) (Some e.1) (lookup (is_at (cmp k)) rows) ≡ Some o
          → (length (insert_entry cmp rows k v) ≡ length rows → lookup (is_at (cmp k)) rows ≡ Some o → cond (i == o) 1 0 + times i (insert_entry cmp rows k v) ≡ cond (i == v) 1 0 + times i rows)
          → cond (i == o) 1 0 + times i (match_ordering c ((k, v) ∷ e ∷ rows) ((e.0, v) ∷ rows) (e ∷ insert_entry cmp rows k v)) ≡ cond (i == v) 1 0 + (cond (i == e.1) 1 0 + times i rows)
      by Less same h ih = absurd (omega (arith, same))
      by Equal same h ih =
          ap (λ n. cond (i == n) 1 0 + (cond (i == v) 1 0 + times i rows)) (sym (some_is e.1 o h)) ∙ turned (cond (i == e.1) 1 0) (cond (i == v) 1 0) (times i rows)
        where
          turned : (a b c : ℕ) → a + (b + c) ≡ b + (a + c)
          turned a b c = omega arith
      by Greater same h ih = let is = ih (omega (arith, same)) h in
          moved (cond (i == o) 1 0) (cond (i == e.1) 1 0) (times i (insert_entry cmp rows k v)) (cond (i == v) 1 0) (times i rows) is
        where
          moved : (a b c d e : ℕ) → a + c ≡ d + e → a + (b + c) ≡ d + (b + e)
          moved a b c d e h = omega (arith, h)

  -- a new row
  pub count_added : (cmp : K → K → Ordering) (k : K) (v : ℕ) (rows : List (K × ℕ)) (i : ℕ) → length (insert_entry cmp rows k v) ≡ length rows + 1 → times i (insert_entry cmp rows k v) ≡ cond (i == v) 1 0 + times i rows
  count_added cmp k v [] i more = refl
  count_added cmp k v (e ∷ rows) i more = by (cmp k e.0) more (count_added cmp k v rows i)
    where
      by : (c : Ordering) → length (match_ordering c ((k, v) ∷ e ∷ rows) ((e.0, v) ∷ rows) (e ∷ insert_entry cmp rows k v)) ≡ suc (length rows) + 1
          → (length (insert_entry cmp rows k v) ≡ length rows + 1 → times i (insert_entry cmp rows k v) ≡ cond (i == v) 1 0 + times i rows)
          → times i (match_ordering c ((k, v) ∷ e ∷ rows) ((e.0, v) ∷ rows) (e ∷ insert_entry cmp rows k v)) ≡ cond (i == v) 1 0 + (cond (i == e.1) 1 0 + times i rows)
      by Less more ih = refl
      by Equal more ih = absurd (omega (arith, more))
      by Greater more ih = let is = ih (omega (arith, more)) in
          moved (cond (i == e.1) 1 0) (times i (insert_entry cmp rows k v)) (cond (i == v) 1 0) (times i rows) is
        where
          moved : (b c d e : ℕ) → c ≡ d + e → b + c ≡ d + (b + e)
          moved b c d e h = omega (arith, h)

  pub times_found : (test : K → Bool) (rows : List (K × ℕ)) (o : ℕ) → lookup test rows ≡ Some o → 0 < times o rows
  times_found test rows o h = positive o (times o (remove_entry test rows)) (times o rows) (count_removed test rows o o h)
    where
      positive : (o a b : ℕ) → cond (o == o) 1 0 + a ≡ b → 0 < b
      positive o a b h = grind (arith, nat_tests)

  -- what holds of each place that some row names holds of the place of each row
  pub at_each : (P : ℕ → Type 0) (rows : List (K × ℕ)) → ((i : ℕ) → 0 < times i rows → P i) → AllByRecursion (λ e. P e.1) rows
  at_each P [] h = tt
  at_each P (e ∷ rows) h = (h e.1 (own e.1 (times e.1 rows)), at_each P rows (λ i named. h i (more (cond (i == e.1) 1 0) (times i rows) named)))
    where
      own : (n m : ℕ) → 0 < cond (n == n) 1 0 + m
      own n m = grind (arith, nat_tests)

      more : (a b : ℕ) → 0 < b → 0 < a + b
      more a b h = omega (arith, h)

  pub count_renamed : (f : ℕ → ℕ) (k i : ℕ) (rows : List (K × ℕ)) → AllByRecursion (λ e. (k == f e.1) ≡ (i == e.1)) rows → times k (map (λ e. (e.0, f e.1)) rows) ≡ times i rows
  count_renamed f k i [] all = refl
  count_renamed f k i (e ∷ rows) all = (λ j. cond (all.0 j) 1 0 + count_renamed f k i rows all.1 j)

  pub count_none : (f : ℕ → ℕ) (k : ℕ) (rows : List (K × ℕ)) → AllByRecursion (λ e. (k == f e.1) ≡ false) rows → times k (map (λ e. (e.0, f e.1)) rows) ≡ 0
  count_none f k [] all = refl
  count_none f k (e ∷ rows) all = (λ j. cond (all.0 j) 1 0 + count_none f k rows all.1 j)

-- ---- without the places that no row names

pub name_count : (next : ℕ) (ns : List ℕ) → length (renamed next ns) ≡ length ns
name_count next [] = refl
name_count next (n ∷ ns) = ap suc (name_count (cond (nat_lt 0 n) (suc next) next) ns)

module _ {K B : Type 0} (f : K → B) (d : B) where
  abbrev pub used : List (K × ℕ) → List (K × ℕ)
  used es = filter (λ e. nat_lt 0 e.1) es

  -- the new place of a place
  pub record IsName (next : ℕ) (es : List (K × ℕ)) (i : ℕ) : Type 0 where
    pub place : ℕ
    pub is : get_or (renamed next (values_of es)) i 0 ≡ next + place
    pub same : get_or (map f (keys_of (used es))) place d ≡ get_or (map f (keys_of es)) i d
    pub number : number_at (values_of (used es)) place ≡ number_at (values_of es) i

  pub name_at : (next : ℕ) (es : List (K × ℕ)) (i : ℕ) → 0 < number_at (values_of es) i → IsName next es i
  name_at next [] i h = absurd (omega (arith, h))
  name_at next (e ∷ es) zero h = by (nat_lt 0 e.1) refl
    where
      by : (b : Bool) → nat_lt 0 e.1 ≡ b → IsName next (e ∷ es) zero
      by true is = record {
        place = 0;
        is = omega arith;
        same = ap (λ c. get_or (map f (keys_of (cond c (e ∷ used es) (used es)))) 0 d) is;
        number = ap (λ c. number_at (values_of (cond c (e ∷ used es) (used es))) 0) is;
      }
      by false is = absurd (grind (arith, nat_tests))
  name_at next (e ∷ es) (suc i) h = by (nat_lt 0 e.1) refl (λ next. name_at next es i h)
    where
      by : (b : Bool) → nat_lt 0 e.1 ≡ b → ((next : ℕ) → IsName next es i) → IsName next (e ∷ es) (suc i)
      by true is names =
          let ih = names (suc next) in
          let eq = ih.is in
          record {
            place = suc ih.place;
            is = ap (λ c. get_or (renamed (cond c (suc next) next) (values_of es)) i 0) is ∙ eq ∙ sucs next ih.place;
            same = ap (λ c. get_or (map f (keys_of (cond c (e ∷ used es) (used es)))) (suc ih.place) d) is ∙ ih.same;
            number = ap (λ c. number_at (values_of (cond c (e ∷ used es) (used es))) (suc ih.place)) is ∙ ih.number;
          }
        where
          sucs : (a b : ℕ) → suc a + b ≡ a + suc b
          sucs a b = omega arith
      by false is names =
          let ih = names next in
          record {
            place = ih.place;
            is = ap (λ c. get_or (renamed (cond c (suc next) next) (values_of es)) i 0) is ∙ ih.is;
            same = ap (λ c. get_or (map f (keys_of (cond c (e ∷ used es) (used es)))) ih.place d) is ∙ ih.same;
            number = ap (λ c. number_at (values_of (cond c (e ∷ used es) (used es))) ih.place) is ∙ ih.number;
          }

  -- no two get one name
  pub names_apart : (next : ℕ) (es : List (K × ℕ)) (i j : ℕ) → 0 < number_at (values_of es) i → 0 < number_at (values_of es) j
      → get_or (renamed next (values_of es)) i 0 ≡ get_or (renamed next (values_of es)) j 0 → i ≡ j
  names_apart next [] i j h k e = absurd (omega (arith, h))
  names_apart next (e ∷ es) zero zero h k same = refl
  names_apart next (e ∷ es) zero (suc j) h k same = absurd (later (nat_lt 0 e.1) refl)
    where
      later : (b : Bool) → nat_lt 0 e.1 ≡ b → ⊥
      later true is =
          let name = name_at (suc next) es j k in
          let eq = name.is in
          let one : next ≡ suc next + name.place = same ∙ ap (λ c. get_or (renamed (cond c (suc next) next) (values_of es)) j 0) is ∙ eq in
          omega (arith, one)
      later false is = grind (arith, nat_tests)
  names_apart next (e ∷ es) (suc i) zero h k same = absurd (later (nat_lt 0 e.1) refl)
    where
      later : (b : Bool) → nat_lt 0 e.1 ≡ b → ⊥
      later true is =
          let name = name_at (suc next) es i h in
          let eq = name.is in
          let one : next ≡ suc next + name.place = sym same ∙ ap (λ c. get_or (renamed (cond c (suc next) next) (values_of es)) i 0) is ∙ eq in
          omega (arith, one)
      later false is = grind (arith, nat_tests)
  names_apart next (e ∷ es) (suc i) (suc j) h k same = ap suc (names_apart (cond (nat_lt 0 e.1) (suc next) next) es i j h k same)

  -- each new place is that of an old one
  pub name_from : (next : ℕ) (es : List (K × ℕ)) (k : ℕ) → 0 < number_at (values_of (used es)) k
      → (i : ℕ) × (0 < number_at (values_of es) i) × (get_or (renamed next (values_of es)) i 0 ≡ next + k)
  name_from next [] k h = absurd (omega (arith, h))
  name_from next (e ∷ es) k h = by (nat_lt 0 e.1) refl (λ next k. name_from next es k) k h
    where
      by : (b : Bool) → nat_lt 0 e.1 ≡ b
          → ((next k : ℕ) → 0 < number_at (values_of (used es)) k → (i : ℕ) × (0 < number_at (values_of es) i) × (get_or (renamed next (values_of es)) i 0 ≡ next + k))
          → (k : ℕ) → 0 < number_at (values_of (cond b (e ∷ used es) (used es))) k
          → (i : ℕ) × (0 < number_at (values_of (e ∷ es)) i) × (get_or (renamed next (values_of (e ∷ es))) i 0 ≡ next + k)
      by true is from zero h = (0, h, omega arith)
      by true is from (suc k) h =
          let ih = from (suc next) k h in
          (suc ih.0, ih.1, ap (λ c. get_or (renamed (cond c (suc next) next) (values_of es)) ih.0 0) is ∙ ih.2 ∙ sucs next k)
        where
          sucs : (a b : ℕ) → suc a + b ≡ a + suc b
          sucs a b = omega arith
      by false is from k h =
          let ih = from next k h in
          (suc ih.0, ih.1, ap (λ c. get_or (renamed (cond c (suc next) next) (values_of es)) ih.0 0) is ∙ ih.2)

  -- no place is left that no row names
  pub none_unnamed : (es : List (K × ℕ)) → unnamed (values_of (used es)) ≡ 0
  none_unnamed [] = refl
  none_unnamed (e ∷ es) = by (nat_lt 0 e.1) refl (none_unnamed es)
    where
      test : (n : ℕ) → nat_lt 0 n ≡ true → (n == 0) ≡ false
      test n h = grind (arith, nat_tests)

      by : (b : Bool) → nat_lt 0 e.1 ≡ b → unnamed (values_of (used es)) ≡ 0 → unnamed (values_of (cond b (e ∷ used es) (used es))) ≡ 0
      by true is ih = (λ j. cond (test e.1 is j) 1 0 + ih j)
      by false is ih = ih
