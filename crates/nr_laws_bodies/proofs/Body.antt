-- A checkpoint body and reading it are inverse.
use Rattle.std.proofs.Common.{◌≡◌, ℕ, zero, suc, ◌+◌, ◌^◌, ◌<◌, ◌≤◌, Bool, true, false, cond, eqb, ltb, List, [], ◌∷◌, ◌++◌, length, map, get_or, Option, None, Result, Ok, Err, refl, sym, ap, subst, ◌∙◌, append_assoc, append-nil, arith}
use Rattle.std.specs.List.{flat_map, range_with_len, AllByRecursion}
use Rattle.std.proofs.lemmas.Bool.{ltb-true, eqb-true, lt-ltb, eq-eqb}
use Rattle.std.proofs.lemmas.List.{length-append, nil_from_length}
use Rattle.std.proofs.lemmas.List.{flat_map_more}
use Rattle.std.proofs.lemmas.List.FromFn.{map-range_with_len_more}
use Rattle.byteorder.specs.Endian.{big_bytes}
use Rattle.nr_spec_wire.specs.Reading.{Spot, Read, ◌>>=◌, start_of, number_at, wants, ends_at, IsBytes}
use Rattle.nr_spec_wire.proofs.Steps.{ok_is}
use Rattle.nr_laws_log.specs.Laws.{Takes, ReadsSpelled, SpelledReads}
use Rattle.nr_laws_log.proofs.Fields.{Takes-then, step, number_text, text_step, text_again, wants_step, reads_then, wants_then}
use Rattle.nr_spec_entry.specs.Contents.{most_neighbours}
use Rattle.nr_spec_routes.specs.Keys.{Row}
use Rattle.nr_spec_counts.specs.Tallies.{Numbers, Tally}
use Rattle.nr_spec_counts.specs.Bodies.{checkpoint_body, force_bytes, row_bytes, tally_piece}
use Rattle.nr_spec_keys.specs.Pieces.{joined}
use Rattle.nr_spec_bounds.specs.Bounds.{IsForce, IsOldest, IsTally, most_counted}
use Rattle.nr_spec_report.specs.Wrong.{Base}
use Rattle.nr_spec_bodies.specs.Reading.{Known, base_of, force_at, known_at, table_at, tally_at, tally_from, times_at}
use Rattle.nr_spec_bodies.specs.Bases.{IsBase}
use Rattle.nr_laws_bodies.proofs.Fields.{AreTimes, IsKnown, force_again, force_takes, known_again, known_bytes, known_takes, spot, times_again, times_take}
use Rattle.nr_laws_bodies.proofs.Rows.{AreNextRows, ascending_is, next_from, next_rows, rows_of_again, rows_take}

-- ---- what is known of each neighbour, as a list

abbrev pub known_of : Tally → ℕ → Known
known_of t n = record { sends = t.sends n; acked = t.acked n; oldest = t.oldest n }

joined_is : (t : Tally) (n : ℕ) → joined (tally_piece t) n ≡ flat_map known_bytes (map (known_of t) (range_with_len 0 n))
unfolding joined
joined_is t zero = refl
joined_is t (suc n) =
    let one : n + 1 ≡ suc n = omega arith in
    let last : 0 + n ≡ n = omega arith in
    let xs = map (known_of t) (range_with_len 0 n) in
    let more : map (known_of t) (range_with_len 0 (suc n)) ≡ xs ++ known_of t n ∷ [] =
    ap (λ (k : ℕ). map (known_of t) (range_with_len 0 k)) (sym one) ∙ map-range_with_len_more (known_of t) 0 n n last in
    ap (λ (l : List ℕ). l ++ tally_piece t n) (joined_is t n) ∙ flat_map_more known_bytes [] xs (known_of t n) ∙ ap (flat_map known_bytes) (sym more)

module _ {A : Type 0} (f : ℕ → Known) (g : Known → A) (d : A) where
  get_known : (n from k : ℕ) → ((m : ℕ) → from + n ≤ m → g (f m) ≡ d) → get_or (map g (map f (range_with_len from n))) k d ≡ g (f (from + k))
  get_known zero from k above = sym (above (from + k) (omega arith))
  get_known (suc n) from zero above = let e : from ≡ from + 0 = omega arith in ap (λ (m : ℕ). g (f m)) e
  get_known (suc n) from (suc k) above =
      let e : from + 1 + k ≡ from + suc k = omega arith in
      get_known n (from + 1) k (λ m le. above m (omega (arith, le))) ∙ ap (λ (m : ℕ). g (f m)) e

tally_back : (n : ℕ) (t : Tally) → ((k : ℕ) → n ≤ k → t.sends k ≡ 0) → ((k : ℕ) → n ≤ k → t.acked k ≡ 0) → ((k : ℕ) → n ≤ k → t.oldest k ≡ None)
    → tally_from t.last t.in_force t.commits (map (known_of t) (range_with_len 0 n)) ≡ t
tally_back n t s a o = λ i. record {
  sends = λ k. (get_known (known_of t) (λ (x : Known). x.sends) 0 n 0 k (λ m le. s m (omega (arith, le))) ∙ ap t.sends (from_0 k)) i;
  acked = λ k. (get_known (known_of t) (λ (x : Known). x.acked) 0 n 0 k (λ m le. a m (omega (arith, le))) ∙ ap t.acked (from_0 k)) i;
  oldest = λ k. (get_known (known_of t) (λ (x : Known). x.oldest) None n 0 k (λ m le. o m (omega (arith, le))) ∙ ap t.oldest (from_0 k)) i;
  commits = t.commits;
  in_force = t.in_force;
  last = t.last;
}
  where
    from_0 : (k : ℕ) → 0 + k ≡ k
    from_0 k = omega arith

shift : {A : Type 0} (f : ℕ → A) (n from : ℕ) → map f (range_with_len (from + 1) n) ≡ map (λ k. f (suc k)) (range_with_len from n)
shift f zero from = refl
shift f (suc n) from =
    let e : from + 1 ≡ suc from = omega arith in
    let later = shift f n (from + 1) in
    λ i. f (e i) ∷ later i

abbrev in_list : List Known → ℕ → Known
in_list xs k = record { sends = get_or (map (λ (x : Known). x.sends) xs) k 0; acked = get_or (map (λ (x : Known). x.acked) xs) k 0; oldest = get_or (map (λ (x : Known). x.oldest) xs) k None }

list_back : (xs : List Known) → map (in_list xs) (range_with_len 0 (length xs)) ≡ xs
list_back [] = refl
list_back (x ∷ xs) = ap (λ (l : List Known). x ∷ l) (shift (in_list (x ∷ xs)) (length xs) 0 ∙ list_back xs)

known_fit : (t : Tally) (n from : ℕ) → IsTally t → AllByRecursion IsKnown (map (known_of t) (range_with_len from n))
known_fit t zero from h = tt
known_fit t (suc n) from h = (record { sends = h.sends from; acked = h.acked from; oldest = h.oldest from }, known_fit t n (from + 1) h)

known_long : (t : Tally) (n from : ℕ) → length (map (known_of t) (range_with_len from n)) ≡ n
known_long t zero from = refl
known_long t (suc n) from = ap suc (known_long t n (from + 1))

got : {A : Type 0} (P : A → Type 0) (g : Known → A) (d : A) (xs : List Known) (k : ℕ) → P d → AllByRecursion (λ x. P (g x)) xs → P (get_or (map g xs) k d)
got P g d [] k pd all = pd
got P g d (x ∷ xs) zero pd all = all.0
got P g d (x ∷ xs) (suc k) pd all = got P g d xs k pd all.1

beyond : {A : Type 0} (g : Known → A) (d : A) (xs : List Known) (k : ℕ) → length xs ≤ k → get_or (map g xs) k d ≡ d
beyond g d [] k le = refl
beyond g d (x ∷ xs) zero le = absurd (omega (arith, le))
beyond g d (x ∷ xs) (suc k) le = beyond g d xs k (omega (arith, le))

all_sends : (xs : List Known) → AllByRecursion IsKnown xs → AllByRecursion (λ (x : Known). x.sends < most_counted) xs
all_sends [] h = tt
all_sends (x ∷ xs) h = (h.0.sends, all_sends xs h.1)

all_acked : (xs : List Known) → AllByRecursion IsKnown xs → AllByRecursion (λ (x : Known). x.acked < 2 ^ 64) xs
all_acked [] h = tt
all_acked (x ∷ xs) h = (h.0.acked, all_acked xs h.1)

all_oldest : (xs : List Known) → AllByRecursion IsKnown xs → AllByRecursion (λ (x : Known). IsOldest x.oldest) xs
all_oldest [] h = tt
all_oldest (x ∷ xs) h = (h.0.oldest, all_oldest xs h.1)

abbrev typed : {A : Type 0} → A × Spot → Read A
typed x = Ok x

-- ---- the tally, for any number of neighbours

unfoldable pub tally_with : ℕ → Spot → Read Tally
tally_with n s = do
  last ← number_at 8 s
  force ← force_at last.1
  any_commits ← number_at 8 force.1
  commits ← wants (ltb any_commits.0 most_counted) force.1.at any_commits
  seen ← times_at known_at n commits.1
  Ok (tally_from last.0 force.0 commits.0 seen.0, seen.1)

tally_is : (s : Spot) → tally_at s ≡ tally_with most_neighbours s
unfolding tally_at tally_with
tally_is s = refl

text_is : (n v : ℕ) → number_text n v ≡ big_bytes n v
unfolding number_text
text_is n v = refl

unfoldable tally_text : ℕ → Tally → List ℕ
tally_text n t = number_text 8 t.last ++ (force_bytes t.in_force ++ (number_text 8 t.commits ++ joined (tally_piece t) n))

unfoldable table_text : List Row → List ℕ
table_text rows = number_text 8 (length rows) ++ flat_map row_bytes rows

-- what is known, of fewer than n
record IsTallyOf (n : ℕ) (t : Tally) : Type 0 where
  pub last : t.last < 2 ^ 64
  pub force : IsForce t.in_force
  pub commits : t.commits < most_counted
  pub sends : (k : ℕ) → t.sends k < most_counted
  pub acked : (k : ℕ) → t.acked k < 2 ^ 64
  pub oldest : (k : ℕ) → IsOldest (t.oldest k)
  pub no_sends : (k : ℕ) → n ≤ k → t.sends k ≡ 0
  pub no_acked : (k : ℕ) → n ≤ k → t.acked k ≡ 0
  pub no_oldest : (k : ℕ) → n ≤ k → t.oldest k ≡ None

pieces_are : (n last : ℕ) (force : Option Numbers) (commits : ℕ) (seen : List Known) → length seen ≡ n
    → tally_text n (tally_from last force commits seen) ≡ number_text 8 last ++ (force_bytes force ++ (number_text 8 commits ++ flat_map known_bytes seen))
unfolding tally_text
pieces_are n last force commits seen len =
    let t = tally_from last force commits seen in
    let back : map (known_of t) (range_with_len 0 n) ≡ seen = ap (λ (m : ℕ). map (known_of t) (range_with_len 0 m)) (sym len) ∙ list_back seen in
    let joins = joined_is t n ∙ ap (flat_map known_bytes) back in
    λ i. number_text 8 last ++ (force_bytes force ++ (number_text 8 commits ++ joins i))

tally_from_fits : (n last : ℕ) (force : Option Numbers) (commits : ℕ) (seen : List Known) → last < 256 ^ 8 → IsForce force → commits < most_counted → AreTimes IsKnown n seen → IsTallyOf n (tally_from last force commits seen)
tally_from_fits n last force commits seen l f c s = record {
  last = omega (arith, l);
  force = f;
  commits = c;
  sends = λ m. got (λ (x : ℕ). x < most_counted) (λ (x : Known). x.sends) 0 seen m (omega arith) (all_sends seen s.0);
  acked = λ m. got (λ (x : ℕ). x < 2 ^ 64) (λ (x : Known). x.acked) 0 seen m (omega arith) (all_acked seen s.0);
  oldest = λ m. got IsOldest (λ (x : Known). x.oldest) None seen m tt (all_oldest seen s.0);
  no_sends = λ m le. beyond (λ (x : Known). x.sends) 0 seen m (omega (arith, s.1, le));
  no_acked = λ m le. beyond (λ (x : Known). x.acked) 0 seen m (omega (arith, s.1, le));
  no_oldest = λ m le. beyond (λ (x : Known). x.oldest) None seen m (omega (arith, s.1, le));
}

tally_takes : (n : ℕ) → ReadsSpelled (tally_with n) (IsTallyOf n) (tally_text n)
unfolding tally_with
tally_takes n s0 v new fits e =
    let a = text_step 8 s0 _ (v, new) fits e in
    let f = step force_at IsForce force_bytes force_takes a.next _ (v, new) a.takes.rest_fits a.goes_on in
    let c = text_step 8 f.next _ (v, new) f.takes.rest_fits f.goes_on in
    let c_is = wants_step (ltb c.value most_counted) f.next.at (c.value, c.next) _ (v, new) c.goes_on in
    let s = step (times_at known_at n) (AreTimes IsKnown n) (flat_map known_bytes) (times_take known_at IsKnown known_bytes known_takes n) c.next _ (v, new) c.takes.rest_fits c_is.1 in
    let cr = Takes-then f.next (number_text 8 c.value) c.next (flat_map known_bytes s.value) s.next c.takes s.takes in
    let fr = Takes-then a.next (force_bytes f.value) f.next (number_text 8 c.value ++ flat_map known_bytes s.value) s.next f.takes cr in
    let ar = Takes-then s0 (number_text 8 a.value) a.next (force_bytes f.value ++ (number_text 8 c.value ++ flat_map known_bytes s.value)) s.next a.takes fr in
    finish n s0 a.value f.value c.value s.value s.next v new a.value_fits f.value_fits (ltb-true _ _ c_is.0) s.value_fits ar s.goes_on
  where
    finish : (n : ℕ) (s0 : Spot) (last : ℕ) (force : Option Numbers) (commits : ℕ) (seen : List Known) (next : Spot) (v : Tally) (new : Spot) → last < 256 ^ 8 → IsForce force → commits < most_counted → AreTimes IsKnown n seen
        → Takes s0 (number_text 8 last ++ (force_bytes force ++ (number_text 8 commits ++ flat_map known_bytes seen))) next → typed (tally_from last force commits seen, next) ≡ Ok (v, new) → IsTallyOf n v × Takes s0 (tally_text n v) new
    finish n s0 last force commits seen next v new l f c s t e =
        let whole = subst (λ (x : List ℕ). Takes s0 x next) (sym (pieces_are n last force commits seen s.1)) t in
        subst (λ (p : Tally × Spot). IsTallyOf n p.0 × Takes s0 (tally_text n p.0) p.1) (ok_is (tally_from last force commits seen, next) (v, new) e) (tally_from_fits n last force commits seen l f c s, whole)

four : (x y z u w : List ℕ) → (x ++ (y ++ (z ++ u))) ++ w ≡ x ++ (y ++ (z ++ (u ++ w)))
four x y z u w = simp append_assoc

four_long : (x y z u : List ℕ) (at : ℕ) → at + length x + length y + length z + length u ≡ at + length (x ++ (y ++ (z ++ u)))
four_long x y z u at = omega (arith, length-append x (y ++ (z ++ u)), length-append y (z ++ u), length-append z u)

tally_fields : (n last : ℕ) (force : Option Numbers) (commits : ℕ) (seen : List Known) (at : ℕ) (rest : List ℕ) → last < 2 ^ 64 → IsForce force → commits < most_counted → AreTimes IsKnown n seen
    → tally_with n (spot at (number_text 8 last ++ (force_bytes force ++ (number_text 8 commits ++ (flat_map known_bytes seen ++ rest)))))
    ≡ Ok (tally_from last force commits seen, spot (at + length (number_text 8 last) + length (force_bytes force) + length (number_text 8 commits) + length (flat_map known_bytes seen)) rest)
unfolding tally_with
tally_fields n last force commits seen at rest l f c s =
    let r3 = flat_map known_bytes seen ++ rest in
    let r2 = number_text 8 commits ++ r3 in
    let r1 = force_bytes force ++ r2 in
    let a1 = at + length (number_text 8 last) in
    let a2 = a1 + length (force_bytes force) in
    let a3 = a2 + length (number_text 8 commits) in
    let low1 : last < 256 ^ 8 = omega (arith, l) in
    let low2 : commits < 256 ^ 8 = omega (arith, c) in
    let is : ltb commits most_counted ≡ true = lt-ltb _ _ c in
    let f1 = text_again 8 last at r1 low1 in
    let f2 = force_again force a1 r2 f in
    let f3 = text_again 8 commits a2 r3 low2 in
    let f4 = times_again known_at IsKnown known_bytes known_again n seen a3 rest s in
    reads_then _ _ _ _ f1 (reads_then _ _ _ _ f2 (reads_then _ _ _ _ f3 (wants_then (ltb commits most_counted) a2 _ _ _ is (reads_then _ _ _ _ f4 refl))))

tally_again : (n : ℕ) (t : Tally) (at : ℕ) (rest : List ℕ) → IsTally t → IsTallyOf n t → tally_with n (spot at (tally_text n t ++ rest)) ≡ Ok (t, spot (at + length (tally_text n t)) rest)
unfolding tally_text
tally_again n t at rest g h =
    let seen = map (known_of t) (range_with_len 0 n) in
    let x = number_text 8 t.last in
    let y = force_bytes t.in_force in
    let z = number_text 8 t.commits in
    let u = flat_map known_bytes seen in
    let text : tally_text n t ≡ x ++ (y ++ (z ++ u)) = ap (λ (l : List ℕ). x ++ (y ++ (z ++ l))) (joined_is t n) in
    let tally = tally_back n t h.no_sends h.no_acked h.no_oldest in
    ap (λ (l : List ℕ). tally_with n (spot at (l ++ rest))) text ∙ ap (λ (l : List ℕ). tally_with n (spot at l)) (four x y z u rest)
    ∙ tally_fields n t.last t.in_force t.commits seen at rest h.last h.force h.commits (known_fit t n 0 g, known_long t n 0)
    ∙ (λ i. Ok (tally i, spot (four_long x y z u at i) rest)) ∙ ap (λ (l : List ℕ). Ok (t, spot (at + length l) rest)) (sym text)

-- ---- the table

abbrev IsTable : List Row → Type 0
IsTable rows = AreNextRows None rows × (length rows < 2 ^ 64)

table_takes : ReadsSpelled table_at IsTable table_text
unfolding table_at table_text
table_takes s v new fits e =
    let a = text_step 8 s _ (v, new) fits e in
    let b = rows_take a.value None a.next v new a.takes.rest_fits a.goes_on in
    let len = b.0.1 in
    let count : Takes s (number_text 8 (length v)) a.next = subst (λ (k : ℕ). Takes s (number_text 8 k) a.next) (sym len) a.takes in
    ((b.0.0, omega (arith, a.value_fits, len)), Takes-then s (number_text 8 (length v)) a.next (flat_map row_bytes v) new count b.1)

table_again : SpelledReads table_at IsTable table_text
unfolding table_at table_text
table_again v at rest h =
    let x = number_text 8 (length v) in
    let y = flat_map row_bytes v in
    let few = h.1 in
    let low : length v < 256 ^ 8 = omega (arith, few) in
    let places : at + length x + length y ≡ at + length (x ++ y) = omega (arith, length-append x y) in
    let f1 = text_again 8 (length v) at (y ++ rest) low in
    let f2 = rows_of_again v None (at + length x) rest h.0 in
    ap (λ (l : List ℕ). table_at (spot at l)) (append_assoc x y rest) ∙ reads_then _ _ _ _ f1 f2 ∙ ap (λ (k : ℕ). Ok (v, spot k rest)) places

-- ---- the body

body_is : (t : Tally) (rows : List Row) → checkpoint_body t rows ≡ tally_text most_neighbours t ++ table_text rows
unfolding checkpoint_body tally_text table_text
body_is t rows =
    let a = sym (text_is 8 t.last) in
    let b = sym (text_is 8 t.commits) in
    let d = sym (text_is 8 (length rows)) in
    (λ i. a i ++ (force_bytes t.in_force ++ (b i ++ (joined (tally_piece t) most_neighbours ++ (d i ++ flat_map row_bytes rows)))))
    ∙ sym (four (number_text 8 t.last) (force_bytes t.in_force) (number_text 8 t.commits) (joined (tally_piece t) most_neighbours) (number_text 8 (length rows) ++ flat_map row_bytes rows))

tally_is_of : (t : Tally) → IsTally t → IsTallyOf most_neighbours t
tally_is_of t h = record { last = h.last; force = h.force; commits = h.commits; sends = h.sends; acked = h.acked; oldest = h.oldest; no_sends = h.no_sends; no_acked = h.no_acked; no_oldest = h.no_oldest }

tally_of : (t : Tally) → IsTallyOf most_neighbours t → IsTally t
tally_of t h = record { last = h.last; force = h.force; commits = h.commits; sends = h.sends; acked = h.acked; oldest = h.oldest; no_sends = h.no_sends; no_acked = h.no_acked; no_oldest = h.no_oldest }

ends_again : {A : Type 0} (at : ℕ) (rest : List ℕ) (x : A) → length rest ≡ 0 → ends_at (spot at rest) x ≡ Ok x
ends_again at rest x e = rw (eq-eqb (length rest) 0 e) refl

base_parts : (t : Tally) (rows : List Row) (x y end : List ℕ) (at : ℕ) → tally_at (start_of (x ++ (y ++ end))) ≡ Ok (t, spot (0 + length x) (y ++ end)) → table_at (spot (0 + length x) (y ++ end)) ≡ Ok (rows, spot at end) → length end ≡ 0
    → base_of (x ++ (y ++ end)) ≡ Ok (record { rows = rows; tally = t })
unfolding base_of
base_parts t rows x y end at f g none =
    let made : Base = record { rows = rows; tally = t } in
    reads_then _ _ _ _ f (reads_then _ _ _ _ g (ends_again at end made none))

pub base_again : (b : Base) → IsBase b → base_of (checkpoint_body b.tally b.rows) ≡ Ok b
base_again b h =
    let x = tally_text most_neighbours b.tally in
    let y = table_text b.rows in
    let end : x ++ y ≡ x ++ (y ++ []) = ap (λ (l : List ℕ). x ++ l) (sym (append-nil y)) in
    let f = tally_is (start_of (x ++ (y ++ []))) ∙ tally_again most_neighbours b.tally 0 (y ++ []) h.tally (tally_is_of b.tally h.tally) in
    let g = table_again b.rows (0 + length x) [] (next_from b.rows h.rows.order h.rows.each, h.few) in
    ap base_of (body_is b.tally b.rows ∙ end) ∙ base_parts b.tally b.rows x y [] (0 + length x + length y) f g refl

abbrev ended : {A : Type 0} → Bool → A → ℕ → Result A ℕ
ended t x place = cond t (Ok x) (Err place)

ended_ok : {A : Type 0} (rest : List ℕ) (t : Bool) (x y : A) (place : ℕ) → eqb (length rest) 0 ≡ t → ended t x place ≡ Ok y → (length rest ≡ 0) × (x ≡ y)
ended_ok rest true x y place is e = (eqb-true _ _ is, ok_is x y e)
ended_ok rest false x y place is e = absurd cc

pub ends_ok : {A : Type 0} (s : Spot) (x y : A) → ends_at s x ≡ Ok y → (length s.rest ≡ 0) × (x ≡ y)
ends_ok s x y e = ended_ok s.rest (eqb (length s.rest) 0) x y s.at refl e

joined_up : (t : Tally) (rows : List Row) (bytes a b : List ℕ) → bytes ≡ tally_text most_neighbours t ++ a → a ≡ table_text rows ++ b → length b ≡ 0 → checkpoint_body t rows ≡ bytes
joined_up t rows bytes a b f g none =
    let x = tally_text most_neighbours t in
    let y = table_text rows in
    let nothing : b ≡ [] = nil_from_length b none in
    sym (f ∙ ap (λ (l : List ℕ). x ++ l) (g ∙ ap (λ (l : List ℕ). y ++ l) nothing ∙ append-nil y) ∙ sym (body_is t rows))

whole_base : (t : Tally) (rows : List Row) → IsTallyOf most_neighbours t → IsTable rows → IsBase (record { rows = rows; tally = t })
whole_base t rows k h = record { tally = tally_of t k; rows = record { each = next_rows None rows h.0; order = ascending_is None rows h.0 }; few = h.1 }

tally_at_takes : ReadsSpelled tally_at (IsTallyOf most_neighbours) (tally_text most_neighbours)
tally_at_takes s v new fits e = tally_takes most_neighbours s v new fits (sym (tally_is s) ∙ e)

pub base_takes : (bytes : List ℕ) (b : Base) → IsBytes bytes → base_of bytes ≡ Ok b → IsBase b × (checkpoint_body b.tally b.rows ≡ bytes)
unfolding base_of
base_takes bytes b fits e =
    let a = step tally_at (IsTallyOf most_neighbours) (tally_text most_neighbours) tally_at_takes (start_of bytes) _ b fits e in
    let r = step table_at IsTable table_text table_takes a.next _ b a.takes.rest_fits a.goes_on in
    let end = ends_ok r.next (record { rows = r.value; tally = a.value }) b r.goes_on in
    subst (λ (c : Base). IsBase c × (checkpoint_body c.tally c.rows ≡ bytes)) end.1
    (whole_base a.value r.value a.value_fits r.value_fits, joined_up a.value r.value bytes a.next.rest r.next.rest a.takes.parts r.takes.parts end.0)
