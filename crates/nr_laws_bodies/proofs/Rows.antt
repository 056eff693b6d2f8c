-- The rows of a checkpoint body.
use Rattle.std.proofs.Common.{◌≡◌, ℕ, zero, suc, ◌+◌, ◌^◌, ◌<◌, ◌≤◌, Bool, true, false, eqb, ltb, leb, List, [], ◌∷◌, ◌++◌, length, Option, Some, None, Result, Ok, Err, refl, sym, ap, subst, ◌∙◌, append_assoc, arith}
use Rattle.std.specs.List.{flat_map, AllByRecursion}
use Rattle.std.specs.List.Sorted.{IsStrictlySortedBy}
use Rattle.std.specs.Map.{keys_of}
use Rattle.std.specs.Ordering.{is_lt}
use Rattle.std.specs.declared.cmp.Ordering.{Ordering}
use Rattle.std.specs.declared.cmp.Ordering.TheVariants.{Less, Equal, Greater}
use Rattle.std.proofs.lemmas.Bool.{ltb-true, leb-true, eqb-true, lt-ltb, le-leb, eq-eqb}
use Rattle.std.proofs.lemmas.List.{length-append}
use Rattle.std.proofs.lemmas.List.Concat.{flat_map-cons}
use Rattle.byteorder.specs.Endian.{big_bytes}
use Rattle.nr_spec_wire.specs.Reading.{Spot}
use Rattle.nr_spec_wire.proofs.Steps.{ok_is, bind_ok}
use Rattle.nr_spec_bgp.specs.Prefixes.{Cidr, faults_at}
use Rattle.nr_spec_bgp.specs.Attributes.{Attribute, AttributeBlock, attributes_in, is_complete}
use Rattle.nr_laws_log.specs.Laws.{Takes, ReadsSpelled, SpelledReads}
use Rattle.nr_laws_log.proofs.Fields.{Takes-then, step, number_step, number_again, bytes_step, bytes_again, wants_step, reads_then, wants_then}
use Rattle.nr_spec_routes.specs.declared.direction.Direction.{Direction}
use Rattle.nr_spec_routes.specs.declared.direction.Direction.TheVariants.{Received, Sent}
use Rattle.nr_spec_entry.specs.Contents.{flag, most_neighbours}
use Rattle.nr_spec_routes.specs.Keys.{AreAscending, Key, Row, direction_number, key_cmp}
use Rattle.nr_spec_routes.proofs.KeyOrder.{keys_total}
use Rattle.nr_spec_counts.specs.Bodies.{row_bytes}
use Rattle.nr_spec_bounds.specs.Bounds.{IsKey, IsRoute, IsRow}
use Rattle.nr_spec_bodies.specs.Reading.{direction_of, is_behind, is_masked, key_at, route_at, row_at, rows_behind}
use Rattle.nr_laws_bodies.proofs.Fields.{spot}

-- ---- what a row is of

abbrev pub key_bytes : Key → List ℕ
key_bytes key = big_bytes 1 key.prefix.len ++ (big_bytes 4 key.prefix.addr ++ (big_bytes 1 (direction_number key.direction) ++ big_bytes 2 key.neighbour))

direction_back : (n : ℕ) → n ≤ 1 → direction_number (direction_of n) ≡ n
direction_back zero le = refl
direction_back (suc zero) le = refl
direction_back (suc (suc n)) le = absurd (omega arith)

direction_low : (d : Direction) → direction_number d ≤ 1
direction_low Received = omega arith
direction_low Sent = omega arith

direction_same : (d : Direction) → direction_of (direction_number d) ≡ d
direction_same Received = refl
direction_same Sent = refl

pub key_takes : ReadsSpelled key_at IsKey key_bytes
unfolding key_at
key_takes s v new fits e =
    let a = number_step 1 s _ (v, new) fits e in
    let a_is = wants_step (leb a.value 32) s.at (a.value, a.next) _ (v, new) a.goes_on in
    let b = number_step 4 a.next _ (v, new) a.takes.rest_fits a_is.1 in
    let b_is = wants_step (is_masked b.value a.value) a.next.at (b.value, b.next) _ (v, new) b.goes_on in
    let c = number_step 1 b.next _ (v, new) b.takes.rest_fits b_is.1 in
    let c_is = wants_step (leb c.value 1) b.next.at (c.value, c.next) _ (v, new) c.goes_on in
    let d = number_step 2 c.next _ (v, new) c.takes.rest_fits c_is.1 in
    let d_is = wants_step (ltb d.value most_neighbours) c.next.at (d.value, d.next) _ (v, new) d.goes_on in
    let prefix : Cidr = record { addr = b.value; len = a.value } in
    let made : Key = record { prefix = prefix; direction = direction_of c.value; neighbour = d.value } in
    let low : b.value < 2 ^ 32 = omega (arith, b.value_fits) in
    let made_fits : IsKey made = record { prefix = record { len = leb-true _ _ a_is.0; addr = low; clear = eqb-true _ _ b_is.0 }; neighbour = ltb-true _ _ d_is.0 } in
    let side : Takes b.next (big_bytes 1 (direction_number (direction_of c.value))) c.next = subst (λ (k : ℕ). Takes b.next (big_bytes 1 k) c.next) (sym (direction_back c.value (leb-true _ _ c_is.0))) c.takes in
    let cd = Takes-then b.next (big_bytes 1 (direction_number (direction_of c.value))) c.next (big_bytes 2 d.value) d.next side d.takes in
    let bd = Takes-then a.next (big_bytes 4 b.value) b.next _ d.next b.takes cd in
    let ad = Takes-then s (big_bytes 1 a.value) a.next _ d.next a.takes bd in
    subst (λ (p : Key × Spot). IsKey p.0 × Takes s (key_bytes p.0) p.1) (ok_is (made, d.next) (v, new) d_is.1) (made_fits, ad)

key_fields : (len addr side n at : ℕ) (rest : List ℕ) → len ≤ 32 → addr < 2 ^ 32 → is_masked addr len ≡ true → side ≤ 1 → n < most_neighbours
    → key_at (spot at (big_bytes 1 len ++ (big_bytes 4 addr ++ (big_bytes 1 side ++ (big_bytes 2 n ++ rest)))))
    ≡ Ok (record { prefix = record { addr = addr; len = len }; direction = direction_of side; neighbour = n }, spot (at + length (big_bytes 1 len) + length (big_bytes 4 addr) + length (big_bytes 1 side) + length (big_bytes 2 n)) rest)
unfolding key_at
key_fields len addr side n at rest l a m s lt =
    let r3 = big_bytes 2 n ++ rest in
    let r2 = big_bytes 1 side ++ r3 in
    let r1 = big_bytes 4 addr ++ r2 in
    let a1 = at + length (big_bytes 1 len) in
    let a2 = a1 + length (big_bytes 4 addr) in
    let a3 = a2 + length (big_bytes 1 side) in
    let low1 : len < 256 ^ 1 = omega (arith, l) in
    let low2 : addr < 256 ^ 4 = omega (arith, a) in
    let low3 : side < 256 ^ 1 = omega (arith, s) in
    let low4 : n < 256 ^ 2 = omega (arith, lt) in
    let is1 : leb len 32 ≡ true = le-leb _ _ l in
    let is3 : leb side 1 ≡ true = le-leb _ _ s in
    let is4 : ltb n most_neighbours ≡ true = lt-ltb _ _ lt in
    let f1 = number_again 1 len at r1 low1 in
    let f2 = number_again 4 addr a1 r2 low2 in
    let f3 = number_again 1 side a2 r3 low3 in
    let f4 = number_again 2 n a3 rest low4 in
    reads_then _ _ _ _ f1 (wants_then (leb len 32) at _ _ _ is1 (reads_then _ _ _ _ f2 (wants_then (is_masked addr len) a1 _ _ _ m (reads_then _ _ _ _ f3 (wants_then (leb side 1) a2 _ _ _ is3 (reads_then _ _ _ _ f4 (wants_then (ltb n most_neighbours) a3 _ _ _ is4 refl)))))))

four : (x y z u w : List ℕ) → (x ++ (y ++ (z ++ u))) ++ w ≡ x ++ (y ++ (z ++ (u ++ w)))
four x y z u w = simp append_assoc

four_long : (x y z u : List ℕ) (at : ℕ) → at + length x + length y + length z + length u ≡ at + length (x ++ (y ++ (z ++ u)))
four_long x y z u at = omega (arith, length-append x (y ++ (z ++ u)), length-append y (z ++ u), length-append z u)

pub key_again : SpelledReads key_at IsKey key_bytes
key_again v at rest h =
    let x = big_bytes 1 v.prefix.len in
    let y = big_bytes 4 v.prefix.addr in
    let z = big_bytes 1 (direction_number v.direction) in
    let u = big_bytes 2 v.neighbour in
    let read = key_fields v.prefix.len v.prefix.addr (direction_number v.direction) v.neighbour at rest h.prefix.len h.prefix.addr (eq-eqb _ _ h.prefix.clear) (direction_low v.direction) h.neighbour in
    let side = direction_same v.direction in
    ap (λ (t : List ℕ). key_at (spot at t)) (four x y z u rest) ∙ read
    ∙ (λ i. Ok (record { prefix = v.prefix; direction = side i; neighbour = v.neighbour }, spot (four_long x y z u at i) rest))

-- ---- its attributes

abbrev pub route_bytes : AttributeBlock → List ℕ
route_bytes b = big_bytes 1 (flag b.as4) ++ (big_bytes 2 (length b.block) ++ b.block)

flag_back : (n : ℕ) → n ≤ 1 → flag (eqb n 1) ≡ n
flag_back zero le = refl
flag_back (suc zero) le = refl
flag_back (suc (suc n)) le = absurd (omega arith)

flag_low : (b : Bool) → flag b ≤ 1
flag_low true = omega arith
flag_low false = omega arith

flag_same : (b : Bool) → eqb (flag b) 1 ≡ b
flag_same true = refl
flag_same false = refl

faults_ok : {A : Type 0} (place : ℕ) (r : Result A ℕ) (x : A) → faults_at place r ≡ Ok x → r ≡ Ok x
faults_ok place (Ok y) x e = e
faults_ok place (Err p) x e = absurd cc

pub route_takes : ReadsSpelled route_at IsRoute route_bytes
unfolding route_at
route_takes s v new fits e =
    let a = number_step 1 s _ (v, new) fits e in
    let a_is = wants_step (leb a.value 1) s.at (a.value, a.next) _ (v, new) a.goes_on in
    let b = number_step 2 a.next _ (v, new) a.takes.rest_fits a_is.1 in
    let c = bytes_step b.value b.next _ (v, new) b.takes.rest_fits b.goes_on in
    let d = bind_ok (faults_at b.next.at (attributes_in (eqb a.value 1) c.value)) _ (v, new) c.goes_on in
    let d_is = wants_step (is_complete d.0) b.next.at d.0 _ (v, new) d.2 in
    let made : AttributeBlock = record { block = c.value; as4 = eqb a.value 1; list = d.0 } in
    let len : length c.value ≡ b.value = c.value_fits in
    let made_fits : IsRoute made = record { size = omega (arith, b.value_fits, len); reads = faults_ok _ _ _ d.1; complete = d_is.0 } in
    let one : Takes s (big_bytes 1 (flag (eqb a.value 1))) a.next = subst (λ (k : ℕ). Takes s (big_bytes 1 k) a.next) (sym (flag_back a.value (leb-true _ _ a_is.0))) a.takes in
    let two : Takes a.next (big_bytes 2 (length c.value)) b.next = subst (λ (k : ℕ). Takes a.next (big_bytes 2 k) b.next) (sym len) b.takes in
    let bc = Takes-then a.next (big_bytes 2 (length c.value)) b.next c.value c.next two c.takes in
    let ac = Takes-then s (big_bytes 1 (flag (eqb a.value 1))) a.next _ c.next one bc in
    subst (λ (p : AttributeBlock × Spot). IsRoute p.0 × Takes s (route_bytes p.0) p.1) (ok_is (made, c.next) (v, new) d_is.1) (made_fits, ac)

route_fields : (k : ℕ) (block : List ℕ) (list : List Attribute) (at : ℕ) (rest : List ℕ) → k ≤ 1 → length block < 2 ^ 16 → attributes_in (eqb k 1) block ≡ Ok list → is_complete list ≡ true
    → route_at (spot at (big_bytes 1 k ++ (big_bytes 2 (length block) ++ (block ++ rest)))) ≡ Ok (record { block = block; as4 = eqb k 1; list = list }, spot (at + length (big_bytes 1 k) + length (big_bytes 2 (length block)) + length block) rest)
unfolding route_at
route_fields k block list at rest le lt reads complete =
    let r2 = block ++ rest in
    let r1 = big_bytes 2 (length block) ++ r2 in
    let a1 = at + length (big_bytes 1 k) in
    let a2 = a1 + length (big_bytes 2 (length block)) in
    let low1 : k < 256 ^ 1 = omega (arith, le) in
    let low2 : length block < 256 ^ 2 = omega (arith, lt) in
    let is1 : leb k 1 ≡ true = le-leb _ _ le in
    let f1 = number_again 1 k at r1 low1 in
    let f2 = number_again 2 (length block) a1 r2 low2 in
    let f3 = bytes_again (length block) block a2 rest refl in
    let f4 : faults_at a2 (attributes_in (eqb k 1) block) ≡ Ok list = ap (faults_at a2) reads in
    reads_then _ _ _ _ f1 (wants_then (leb k 1) at _ _ _ is1 (reads_then _ _ _ _ f2 (reads_then _ _ _ _ f3 (reads_then _ _ _ _ f4 (wants_then (is_complete list) a2 _ _ _ complete refl)))))

three : (x y z w : List ℕ) → (x ++ (y ++ z)) ++ w ≡ x ++ (y ++ (z ++ w))
three x y z w = simp append_assoc

three_long : (x y z : List ℕ) (at : ℕ) → at + length x + length y + length z ≡ at + length (x ++ (y ++ z))
three_long x y z at = omega (arith, length-append x (y ++ z), length-append y z)

pub route_again : SpelledReads route_at IsRoute route_bytes
route_again v at rest h =
    let x = big_bytes 1 (flag v.as4) in
    let y = big_bytes 2 (length v.block) in
    let same = flag_same v.as4 in
    let reads : attributes_in (eqb (flag v.as4) 1) v.block ≡ Ok v.list = ap (λ (b : Bool). attributes_in b v.block) same ∙ h.reads in
    let read = route_fields (flag v.as4) v.block v.list at rest (flag_low v.as4) h.size reads h.complete in
    ap (λ (t : List ℕ). route_at (spot at t)) (three x y v.block rest) ∙ read
    ∙ (λ i. Ok (record { block = v.block; as4 = same i; list = v.list }, spot (three_long x y v.block at i) rest))

-- ---- rows

pub row_split : (r : Row) → key_bytes r.0 ++ route_bytes r.1 ≡ row_bytes r
row_split (key, b) = simp append_assoc

abbrev pub IsNextRow : Option Key → Row → Type 0
IsNextRow before r = (is_behind before r.0 ≡ true) × IsRow r

pub row_takes : (before : Option Key) → ReadsSpelled (row_at before) (IsNextRow before) row_bytes
unfolding row_at
row_takes before s v new fits e =
    let a = step key_at IsKey key_bytes key_takes s _ (v, new) fits e in
    let a_is = wants_step (is_behind before a.value) s.at (a.value, a.next) _ (v, new) a.goes_on in
    let b = step route_at IsRoute route_bytes route_takes a.next _ (v, new) a.takes.rest_fits a_is.1 in
    let made : Row = (a.value, b.value) in
    let ab = Takes-then s (key_bytes a.value) a.next (route_bytes b.value) b.next a.takes b.takes in
    let whole : Takes s (row_bytes made) b.next = subst (λ (t : List ℕ). Takes s t b.next) (row_split made) ab in
    subst (λ (p : Row × Spot). IsNextRow before p.0 × Takes s (row_bytes p.0) p.1) (ok_is (made, b.next) (v, new) b.goes_on) ((a_is.0, (a.value_fits, b.value_fits)), whole)

pub row_again : (before : Option Key) → SpelledReads (row_at before) (IsNextRow before) row_bytes
unfolding row_at
row_again before v at rest h =
    let k = key_bytes v.0 in
    let r = route_bytes v.1 in
    let split = row_split v in
    let text : row_bytes v ++ rest ≡ k ++ (r ++ rest) = ap (λ (t : List ℕ). t ++ rest) (sym split) ∙ append_assoc k r rest in
    let places : at + length k + length r ≡ at + length (row_bytes v) = let n = ap length split in omega (arith, n, length-append k r) in
    let first = key_again v.0 at (r ++ rest) h.1.0 in
    let second = route_again v.1 (at + length k) rest h.1.1 in
    let whole : row_at before (spot at (k ++ (r ++ rest))) ≡ Ok (v, spot (at + length k + length r) rest) =
    reads_then _ _ _ _ first (wants_then (is_behind before v.0) at _ _ _ h.0 (reads_then _ _ _ _ second refl)) in
    ap (λ (t : List ℕ). row_at before (spot at t)) text ∙ whole ∙ ap (λ (n : ℕ). Ok (v, spot n rest)) places

-- each behind the one before
abbrev pub AreNextRows : Option Key → List Row → Type 0
AreNextRows before [] = Unit {0}
AreNextRows before (r ∷ rows) = IsNextRow before r × AreNextRows (Some r.0) rows

abbrev pub AreSoMany : Option Key → ℕ → List Row → Type 0
AreSoMany before n rows = AreNextRows before rows × (length rows ≡ n)

pub rows_take : (n : ℕ) (before : Option Key) → ReadsSpelled (rows_behind before n) (AreSoMany before n) (flat_map row_bytes)
unfolding rows_behind
rows_take zero before s v new fits e =
    let nothing : Takes s [] s = record { parts = refl; place = omega arith; rest_fits = fits } in
    subst (λ (p : List Row × Spot). AreSoMany before 0 p.0 × Takes s (flat_map row_bytes p.0) p.1) (ok_is ([], s) (v, new) e) ((tt, refl), nothing)
rows_take (suc n) before s v new fits e =
    let a = step (row_at before) (IsNextRow before) row_bytes (row_takes before) s _ (v, new) fits e in
    let b = step (rows_behind (Some a.value.0) n) (AreSoMany (Some a.value.0) n) (flat_map row_bytes) (rows_take n (Some a.value.0)) a.next _ (v, new) a.takes.rest_fits a.goes_on in
    let both = Takes-then s (row_bytes a.value) a.next (flat_map row_bytes b.value) b.next a.takes b.takes in
    let made : List Row = a.value ∷ b.value in
    let whole : Takes s (flat_map row_bytes made) b.next = subst (λ (t : List ℕ). Takes s t b.next) (sym (flat_map-cons row_bytes a.value b.value)) both in
    subst (λ (p : List Row × Spot). AreSoMany before (suc n) p.0 × Takes s (flat_map row_bytes p.0) p.1) (ok_is (made, b.next) (v, new) b.goes_on) (((a.value_fits, b.value_fits.0), ap suc b.value_fits.1), whole)

pub rows_of_again : (rows : List Row) (before : Option Key) (at : ℕ) (rest : List ℕ) → AreNextRows before rows
    → rows_behind before (length rows) (spot at (flat_map row_bytes rows ++ rest)) ≡ Ok (rows, spot (at + length (flat_map row_bytes rows)) rest)
unfolding rows_behind
rows_of_again [] before at rest h = ap (λ (k : ℕ). Ok ([], spot k rest)) (omega arith)
rows_of_again (r ∷ rows) before at rest h =
    let others = flat_map row_bytes rows in
    let split = flat_map-cons row_bytes r rows in
    let text : flat_map row_bytes (r ∷ rows) ++ rest ≡ row_bytes r ++ (others ++ rest) = ap (λ (t : List ℕ). t ++ rest) split ∙ append_assoc (row_bytes r) others rest in
    let places : at + length (row_bytes r) + length others ≡ at + length (flat_map row_bytes (r ∷ rows)) = let n = ap length split in omega (arith, n, length-append (row_bytes r) others) in
    let first = row_again before r at (others ++ rest) h.0 in
    let second = rows_of_again rows (Some r.0) (at + length (row_bytes r)) rest h.1 in
    let whole : rows_behind before (suc (length rows)) (spot at (row_bytes r ++ (others ++ rest))) ≡ Ok (r ∷ rows, spot (at + length (row_bytes r) + length others) rest) =
    reads_then _ _ _ _ first (reads_then _ _ _ _ second refl) in
    ap (λ (t : List ℕ). rows_behind before (suc (length rows)) (spot at t)) text ∙ whole ∙ ap (λ (k : ℕ). Ok (r ∷ rows, spot k rest)) places

-- ---- each behind the one before, and each behind all before it

less_is : (o : Ordering) → is_lt o ≡ true → o ≡ Less
less_is Less h = refl
less_is Equal h = absurd cc
less_is Greater h = absurd cc

pub next_rows : (before : Option Key) (rows : List Row) → AreNextRows before rows → AllByRecursion IsRow rows
next_rows before [] h = tt
next_rows before (r ∷ rows) h = (h.0.1, next_rows (Some r.0) rows h.1)

above_all : (k : Key) (rows : List Row) → AreNextRows (Some k) rows → AllByRecursion (λ y. key_cmp k y ≡ Less) (keys_of rows)
above_all k [] h = tt
above_all k (r ∷ rows) h =
    let first = less_is _ h.0.0 in
    (first, higher (keys_of rows) (above_all r.0 rows h.1))
  where
    higher : (ks : List Key) → AllByRecursion (λ y. key_cmp r.0 y ≡ Less) ks → AllByRecursion (λ y. key_cmp k y ≡ Less) ks
    higher [] a = tt
    higher (y ∷ ks) a = (keys_total.trans k r.0 y (less_is _ h.0.0) a.0, higher ks a.1)

pub ascending_is : (before : Option Key) (rows : List Row) → AreNextRows before rows → AreAscending rows
unfolding IsStrictlySortedBy
ascending_is before [] h = tt
ascending_is before (r ∷ rows) h = (above_all r.0 rows h.1, ascending_is (Some r.0) rows h.1)

next_behind : (r : Row) (rows : List Row) → AllByRecursion (λ y. key_cmp r.0 y ≡ Less) (keys_of rows) → AreAscending rows → AllByRecursion IsRow rows → AreNextRows (Some r.0) rows
unfolding IsStrictlySortedBy
next_behind r [] above up fit = tt
next_behind r (q ∷ rows) above up fit = ((ap is_lt above.0, fit.0), next_behind q rows up.0 up.1 fit.1)

pub next_from : (rows : List Row) → AreAscending rows → AllByRecursion IsRow rows → AreNextRows None rows
unfolding IsStrictlySortedBy
next_from [] up fit = tt
next_from (r ∷ rows) up fit = ((refl, fit.0), next_behind r rows up.0 up.1 fit.1)
