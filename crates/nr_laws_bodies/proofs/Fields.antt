-- The fields of a checkpoint body: what is read is spelled so, and what is spelled so is read.
use Rattle.std.proofs.Common.{◌≡◌, ℕ, zero, suc, ◌+◌, ◌^◌, ◌<◌, ◌≤◌, true, cond, eqb, ltb, leb, List, [], ◌∷◌, ◌++◌, length, replicate, Option, Some, None, Ok, refl, sym, ap, subst, ◌∙◌, append_assoc, arith}
use Rattle.std.specs.List.{flat_map, AllByRecursion}
use Rattle.std.specs.Str.{bytes_eq}
use Rattle.std.proofs.lemmas.Bool.{ltb-true, leb-true, eqb-true, lt-ltb, le-leb, eq-eqb}
use Rattle.std.proofs.lemmas.List.{length-append}
use Rattle.std.proofs.lemmas.List.Concat.{flat_map-cons}
use Rattle.std.proofs.lemmas.Slice.Eq.{bytes_eq-Decides}
use Rattle.byteorder.specs.Endian.{big_bytes}
use Rattle.nr_spec_wire.specs.Reading.{Spot, Read, IsBytes}
use Rattle.nr_spec_wire.proofs.Steps.{ok_is}
use Rattle.nr_spec_log.specs.Authenticator.{digest_size}
use Rattle.nr_laws_log.specs.Laws.{Takes, ReadsSpelled, SpelledReads}
use Rattle.nr_laws_log.proofs.Fields.{Takes-then, step, number_step, number_again, bytes_step, bytes_again, wants_step, reads_then, wants_then}
use Rattle.nr_spec_entry.specs.Contents.{flag, most_delay, most_neighbours}
use Rattle.nr_spec_counts.specs.Tallies.{Numbers}
use Rattle.nr_spec_counts.specs.Bodies.{force_bytes, neighbour_bytes, oldest_bytes}
use Rattle.nr_spec_bounds.specs.Bounds.{IsForce, IsOldest, most_counted}
use Rattle.nr_spec_bodies.specs.Reading.{Known, flagged, force_at, is_flagged, known_at, set_force_at, times_at, unset_force_at}

abbrev pub spot : ℕ → List ℕ → Spot
spot at rest = record { at = at; rest = rest }

-- ---- the promise in force

abbrev pub flag_of : Option Numbers → ℕ
flag_of None = 0
flag_of (Some f) = 1

abbrev pub part_text : Option Numbers → List ℕ
part_text None = replicate 32 0 ++ (big_bytes 2 0 ++ big_bytes 4 0)
part_text (Some f) = f.digest ++ (big_bytes 2 f.count ++ big_bytes 4 f.delay)

force_split : (f : Option Numbers) → big_bytes 1 (flag_of f) ++ part_text f ≡ force_bytes f
force_split None = refl
force_split (Some f) = refl

abbrev IsPart : ℕ → Option Numbers → Type 0
IsPart flag f = IsForce f × (flag_of f ≡ flag)

set_takes : ReadsSpelled set_force_at (IsPart 1) part_text
unfolding set_force_at
set_takes s v new fits e =
    let a = bytes_step digest_size s _ (v, new) fits e in
    let b = number_step 2 a.next _ (v, new) a.takes.rest_fits a.goes_on in
    let b_is = wants_step (leb b.value most_neighbours) a.next.at (b.value, b.next) _ (v, new) b.goes_on in
    let c = number_step 4 b.next _ (v, new) b.takes.rest_fits b_is.1 in
    let c_is = wants_step (leb c.value most_delay) b.next.at (c.value, c.next) _ (v, new) c.goes_on in
    let made : Numbers = record { digest = a.value; count = b.value; delay = c.value } in
    let bc = Takes-then a.next (big_bytes 2 b.value) b.next (big_bytes 4 c.value) c.next b.takes c.takes in
    let ac = Takes-then s a.value a.next (big_bytes 2 b.value ++ big_bytes 4 c.value) c.next a.takes bc in
    let fine : IsForce (Some made) = (a.value_fits, leb-true _ _ b_is.0, leb-true _ _ c_is.0) in
    subst (λ (p : Option Numbers × Spot). IsPart 1 p.0 × Takes s (part_text p.0) p.1) (ok_is (Some made, c.next) (v, new) c_is.1) ((fine, refl), ac)

unset_takes : ReadsSpelled unset_force_at (IsPart 0) part_text
unfolding unset_force_at
unset_takes s v new fits e =
    let a = bytes_step digest_size s _ (v, new) fits e in
    let a_is = wants_step (bytes_eq a.value (replicate digest_size 0)) s.at (a.value, a.next) _ (v, new) a.goes_on in
    let b = number_step 2 a.next _ (v, new) a.takes.rest_fits a_is.1 in
    let b_is = wants_step (eqb b.value 0) a.next.at (b.value, b.next) _ (v, new) b.goes_on in
    let c = number_step 4 b.next _ (v, new) b.takes.rest_fits b_is.1 in
    let c_is = wants_step (eqb c.value 0) b.next.at (c.value, c.next) _ (v, new) c.goes_on in
    let none : Option Numbers = None in
    let bc = Takes-then a.next (big_bytes 2 b.value) b.next (big_bytes 4 c.value) c.next b.takes c.takes in
    let ac = Takes-then s a.value a.next (big_bytes 2 b.value ++ big_bytes 4 c.value) c.next a.takes bc in
    let da : a.value ≡ replicate 32 0 = (bytes_eq-Decides a.value (replicate digest_size 0)).0 a_is.0 in
    let db = eqb-true _ _ b_is.0 in
    let dc = eqb-true _ _ c_is.0 in
    let whole : Takes s (part_text none) c.next = subst (λ (t : List ℕ). Takes s t c.next) (λ i. da i ++ (big_bytes 2 (db i) ++ big_bytes 4 (dc i))) ac in
    subst (λ (p : Option Numbers × Spot). IsPart 0 p.0 × Takes s (part_text p.0) p.1) (ok_is (none, c.next) (v, new) c_is.1) ((tt, refl), whole)

-- behind a flag
part_takes : (flag : ℕ) (s : Spot) (v : Option Numbers) (new : Spot) → flag ≤ 1 → IsBytes s.rest → cond (eqb flag 1) (set_force_at s) (unset_force_at s) ≡ Ok (v, new) → IsPart flag v × Takes s (part_text v) new
part_takes zero s v new le fits e = unset_takes s v new fits e
part_takes (suc zero) s v new le fits e = set_takes s v new fits e
part_takes (suc (suc n)) s v new le fits e = absurd (omega arith)

pub force_takes : ReadsSpelled force_at IsForce force_bytes
unfolding force_at
force_takes s v new fits e =
    let a = number_step 1 s _ (v, new) fits e in
    let a_is = wants_step (leb a.value 1) s.at (a.value, a.next) _ (v, new) a.goes_on in
    let b = part_takes a.value a.next v new (leb-true _ _ a_is.0) a.takes.rest_fits a_is.1 in
    let both = Takes-then s (big_bytes 1 a.value) a.next (part_text v) new a.takes b.1 in
    let same : big_bytes 1 a.value ++ part_text v ≡ force_bytes v = ap (λ (k : ℕ). big_bytes 1 k ++ part_text v) (sym b.0.1) ∙ force_split v in
    (b.0.0, subst (λ (t : List ℕ). Takes s t new) same both)

set_again : (f : Numbers) (at : ℕ) (rest : List ℕ) → IsForce (Some f) → set_force_at (spot at (f.digest ++ (big_bytes 2 f.count ++ (big_bytes 4 f.delay ++ rest)))) ≡ Ok (Some f, spot (at + length f.digest + length (big_bytes 2 f.count) + length (big_bytes 4 f.delay)) rest)
unfolding set_force_at
set_again f at rest h =
    let r1 = big_bytes 2 f.count ++ (big_bytes 4 f.delay ++ rest) in
    let a1 = at + length f.digest in
    let a2 = a1 + length (big_bytes 2 f.count) in
    let low1 : f.count < 256 ^ 2 = omega (arith, h.1) in
    let low2 : f.delay < 256 ^ 4 = omega (arith, h.2) in
    let is1 : leb f.count most_neighbours ≡ true = le-leb _ _ h.1 in
    let is2 : leb f.delay most_delay ≡ true = le-leb _ _ h.2 in
    let f1 = bytes_again digest_size f.digest at r1 h.0 in
    let f2 = number_again 2 f.count a1 (big_bytes 4 f.delay ++ rest) low1 in
    let f3 = number_again 4 f.delay a2 rest low2 in
    reads_then _ _ _ _ f1 (reads_then _ _ _ _ f2 (wants_then (leb f.count most_neighbours) a1 _ _ _ is1 (reads_then _ _ _ _ f3 (wants_then (leb f.delay most_delay) a2 _ _ _ is2 refl))))

unset_again : (zeros : List ℕ) (count delay at : ℕ) (rest : List ℕ) → zeros ≡ replicate 32 0 → count ≡ 0 → delay ≡ 0
    → unset_force_at (spot at (zeros ++ (big_bytes 2 count ++ (big_bytes 4 delay ++ rest)))) ≡ Ok (None, spot (at + length zeros + length (big_bytes 2 count) + length (big_bytes 4 delay)) rest)
unfolding unset_force_at
unset_again zeros count delay at rest z c d =
    let r1 = big_bytes 2 count ++ (big_bytes 4 delay ++ rest) in
    let a1 = at + length zeros in
    let a2 = a1 + length (big_bytes 2 count) in
    let low1 : count < 256 ^ 2 = omega (arith, c) in
    let low2 : delay < 256 ^ 4 = omega (arith, d) in
    let is0 : bytes_eq zeros (replicate digest_size 0) ≡ true = (bytes_eq-Decides zeros (replicate digest_size 0)).1 z in
    let is1 : eqb count 0 ≡ true = eq-eqb _ _ c in
    let is2 : eqb delay 0 ≡ true = eq-eqb _ _ d in
    let f1 = bytes_again digest_size zeros at r1 (ap length z) in
    let f2 = number_again 2 count a1 (big_bytes 4 delay ++ rest) low1 in
    let f3 = number_again 4 delay a2 rest low2 in
    reads_then _ _ _ _ f1 (wants_then (bytes_eq zeros (replicate digest_size 0)) at _ _ _ is0 (reads_then _ _ _ _ f2 (wants_then (eqb count 0) a1 _ _ _ is1 (reads_then _ _ _ _ f3 (wants_then (eqb delay 0) a2 _ _ _ is2 refl)))))

flag_then : (k at : ℕ) (rest : List ℕ) (y : Read (Option Numbers)) → k ≤ 1 → cond (eqb k 1) (set_force_at (spot (at + length (big_bytes 1 k)) rest)) (unset_force_at (spot (at + length (big_bytes 1 k)) rest)) ≡ y → force_at (spot at (big_bytes 1 k ++ rest)) ≡ y
unfolding force_at
flag_then k at rest y le e =
    let low : k < 256 ^ 1 = omega arith in
    let is : leb k 1 ≡ true = le-leb _ _ le in
    reads_then _ _ _ _ (number_again 1 k at rest low) (wants_then (leb k 1) at _ _ _ is e)

three : (x y z w : List ℕ) → (x ++ (y ++ z)) ++ w ≡ x ++ (y ++ (z ++ w))
three x y z w = simp append_assoc

three_long : (k : List ℕ) (x y z : List ℕ) (at : ℕ) → at + length k + length x + length y + length z ≡ at + length (k ++ (x ++ (y ++ z)))
three_long k x y z at = omega (arith, length-append k (x ++ (y ++ z)), length-append x (y ++ z), length-append y z)

pub force_again : SpelledReads force_at IsForce force_bytes
force_again (Some f) at rest h =
    let one = big_bytes 1 1 in
    let text : force_bytes (Some f) ++ rest ≡ one ++ (f.digest ++ (big_bytes 2 f.count ++ (big_bytes 4 f.delay ++ rest))) = ap (λ (t : List ℕ). one ++ t) (three f.digest (big_bytes 2 f.count) (big_bytes 4 f.delay) rest) in
    ap (λ (t : List ℕ). force_at (spot at t)) text ∙ flag_then 1 at _ _ (omega arith) (set_again f (at + length one) rest h)
    ∙ ap (λ (k : ℕ). Ok (Some f, spot k rest)) (three_long one f.digest (big_bytes 2 f.count) (big_bytes 4 f.delay) at)
force_again None at rest h =
    let one = big_bytes 1 0 in
    let text : force_bytes None ++ rest ≡ one ++ (replicate 32 0 ++ (big_bytes 2 0 ++ (big_bytes 4 0 ++ rest))) = refl in
    ap (λ (t : List ℕ). force_at (spot at t)) text ∙ flag_then 0 at _ _ (omega arith) (unset_again (replicate 32 0) 0 0 (at + length one) rest refl refl refl)
    ∙ ap (λ (k : ℕ). Ok (None, spot k rest)) (three_long one (replicate 32 0) (big_bytes 2 0) (big_bytes 4 0) at)

-- ---- what is known of a neighbour

abbrev pub known_bytes : Known → List ℕ
known_bytes x = neighbour_bytes x.sends x.acked x.oldest

pub record IsKnown (x : Known) : Type 0 where
  pub sends : x.sends < most_counted
  pub acked : x.acked < 2 ^ 64
  pub oldest : IsOldest x.oldest

oldest_text : (k time : ℕ) → k ≤ 1 → is_flagged k time ≡ true → big_bytes 1 k ++ big_bytes 8 time ≡ oldest_bytes (flagged k time)
oldest_text zero time le e = ap (λ (t : ℕ). big_bytes 1 0 ++ big_bytes 8 t) (eqb-true time 0 e)
oldest_text (suc zero) time le e = refl
oldest_text (suc (suc n)) time le e = absurd (omega arith)

oldest_fits : (k time : ℕ) → k ≤ 1 → time < 2 ^ 64 → IsOldest (flagged k time)
oldest_fits zero time le lt = tt
oldest_fits (suc zero) time le lt = lt
oldest_fits (suc (suc n)) time le lt = absurd (omega arith)

pub known_takes : ReadsSpelled known_at IsKnown known_bytes
unfolding known_at
known_takes s v new fits e =
    let a = number_step 8 s _ (v, new) fits e in
    let a_is = wants_step (ltb a.value most_counted) s.at (a.value, a.next) _ (v, new) a.goes_on in
    let b = number_step 8 a.next _ (v, new) a.takes.rest_fits a_is.1 in
    let c = number_step 1 b.next _ (v, new) b.takes.rest_fits b.goes_on in
    let c_is = wants_step (leb c.value 1) b.next.at (c.value, c.next) _ (v, new) c.goes_on in
    let d = number_step 8 c.next _ (v, new) c.takes.rest_fits c_is.1 in
    let d_is = wants_step (is_flagged c.value d.value) c.next.at (d.value, d.next) _ (v, new) d.goes_on in
    let le = leb-true _ _ c_is.0 in
    let made : Known = record { sends = a.value; acked = b.value; oldest = flagged c.value d.value } in
    let made_fits : IsKnown made = record { sends = ltb-true _ _ a_is.0; acked = b.value_fits; oldest = oldest_fits c.value d.value le d.value_fits } in
    let cd = Takes-then b.next (big_bytes 1 c.value) c.next (big_bytes 8 d.value) d.next c.takes d.takes in
    let last : Takes b.next (oldest_bytes (flagged c.value d.value)) d.next = subst (λ (t : List ℕ). Takes b.next t d.next) (oldest_text c.value d.value le d_is.0) cd in
    let bd = Takes-then a.next (big_bytes 8 b.value) b.next (oldest_bytes (flagged c.value d.value)) d.next b.takes last in
    let ad = Takes-then s (big_bytes 8 a.value) a.next (big_bytes 8 b.value ++ oldest_bytes (flagged c.value d.value)) d.next a.takes bd in
    subst (λ (p : Known × Spot). IsKnown p.0 × Takes s (known_bytes p.0) p.1) (ok_is (made, d.next) (v, new) d_is.1) (made_fits, ad)

known_fields : (sends acked k time at : ℕ) (rest : List ℕ) → sends < most_counted → acked < 2 ^ 64 → k ≤ 1 → time < 2 ^ 64 → is_flagged k time ≡ true
    → known_at (spot at (big_bytes 8 sends ++ (big_bytes 8 acked ++ (big_bytes 1 k ++ (big_bytes 8 time ++ rest)))))
    ≡ Ok (record { sends = sends; acked = acked; oldest = flagged k time }, spot (at + length (big_bytes 8 sends) + length (big_bytes 8 acked) + length (big_bytes 1 k) + length (big_bytes 8 time)) rest)
unfolding known_at
known_fields sends acked k time at rest s a le t is =
    let r3 = big_bytes 8 time ++ rest in
    let r2 = big_bytes 1 k ++ r3 in
    let r1 = big_bytes 8 acked ++ r2 in
    let a1 = at + length (big_bytes 8 sends) in
    let a2 = a1 + length (big_bytes 8 acked) in
    let a3 = a2 + length (big_bytes 1 k) in
    let low1 : sends < 256 ^ 8 = omega (arith, s) in
    let low2 : acked < 256 ^ 8 = omega (arith, a) in
    let low3 : k < 256 ^ 1 = omega (arith, le) in
    let low4 : time < 256 ^ 8 = omega (arith, t) in
    let is1 : ltb sends most_counted ≡ true = lt-ltb _ _ s in
    let is3 : leb k 1 ≡ true = le-leb _ _ le in
    let f1 = number_again 8 sends at r1 low1 in
    let f2 = number_again 8 acked a1 r2 low2 in
    let f3 = number_again 1 k a2 r3 low3 in
    let f4 = number_again 8 time a3 rest low4 in
    reads_then _ _ _ _ f1 (wants_then (ltb sends most_counted) at _ _ _ is1 (reads_then _ _ _ _ f2 (reads_then _ _ _ _ f3 (wants_then (leb k 1) a2 _ _ _ is3 (reads_then _ _ _ _ f4 (wants_then (is_flagged k time) a3 _ _ _ is refl))))))

abbrev pub flag_in : Option ℕ → ℕ
flag_in None = 0
flag_in (Some t) = 1

abbrev pub time_in : Option ℕ → ℕ
time_in None = 0
time_in (Some t) = t

record IsOld (o : Option ℕ) : Type 0 where
  pub low : flag_in o ≤ 1
  pub fits : time_in o < 2 ^ 64
  pub is : is_flagged (flag_in o) (time_in o) ≡ true
  pub same : flagged (flag_in o) (time_in o) ≡ o
  pub text : oldest_bytes o ≡ big_bytes 1 (flag_in o) ++ big_bytes 8 (time_in o)

is_old : (o : Option ℕ) → IsOldest o → IsOld o
is_old None h = record { low = omega arith; fits = omega arith; is = refl; same = refl; text = refl }
is_old (Some t) h = record { low = omega arith; fits = h; is = refl; same = refl; text = refl }

four : (x y z u w : List ℕ) → (x ++ (y ++ (z ++ u))) ++ w ≡ x ++ (y ++ (z ++ (u ++ w)))
four x y z u w = simp append_assoc

four_long : (x y z u : List ℕ) (at : ℕ) → at + length x + length y + length z + length u ≡ at + length (x ++ (y ++ (z ++ u)))
four_long x y z u at = omega (arith, length-append x (y ++ (z ++ u)), length-append y (z ++ u), length-append z u)

pub known_again : SpelledReads known_at IsKnown known_bytes
known_again v at rest h =
    let o = is_old v.oldest h.oldest in
    let x = big_bytes 8 v.sends in
    let y = big_bytes 8 v.acked in
    let z = big_bytes 1 (flag_in v.oldest) in
    let u = big_bytes 8 (time_in v.oldest) in
    let text : known_bytes v ≡ x ++ (y ++ (z ++ u)) = ap (λ (t : List ℕ). x ++ (y ++ t)) o.text in
    let read = known_fields v.sends v.acked (flag_in v.oldest) (time_in v.oldest) at rest h.sends h.acked o.low o.fits o.is in
    let old = o.same in
    ap (λ (t : List ℕ). known_at (spot at (t ++ rest))) text ∙ ap (λ (t : List ℕ). known_at (spot at t)) (four x y z u rest) ∙ read
    ∙ (λ i. Ok (record { sends = v.sends; acked = v.acked; oldest = old i }, spot (four_long x y z u at i) rest))
    ∙ ap (λ (t : List ℕ). Ok (v, spot (at + length t) rest)) (sym text)

-- ---- so many values

abbrev pub AreTimes : {A : Type 0} → (A → Type 0) → ℕ → List A → Type 0
AreTimes Fits n vs = AllByRecursion Fits vs × (length vs ≡ n)

pub times_take : {A : Type 0} (item : Spot → Read A) (Fits : A → Type 0) (spell : A → List ℕ) → ReadsSpelled item Fits spell → (n : ℕ) → ReadsSpelled (times_at item n) (AreTimes Fits n) (flat_map spell)
unfolding times_at
times_take {A = A} item Fits spell law zero s v new fits e =
    let nothing : Takes s [] s = record { parts = refl; place = omega arith; rest_fits = fits } in
    subst (λ (p : List A × Spot). AreTimes Fits 0 p.0 × Takes s (flat_map spell p.0) p.1) (ok_is ([], s) (v, new) e) ((tt, refl), nothing)
times_take {A = A} item Fits spell law (suc n) s v new fits e =
    let a = step item Fits spell law s _ (v, new) fits e in
    let b = step (times_at item n) (AreTimes Fits n) (flat_map spell) (times_take item Fits spell law n) a.next _ (v, new) a.takes.rest_fits a.goes_on in
    let both = Takes-then s (spell a.value) a.next (flat_map spell b.value) b.next a.takes b.takes in
    let made : List A = a.value ∷ b.value in
    let whole : Takes s (flat_map spell made) b.next = subst (λ (t : List ℕ). Takes s t b.next) (sym (flat_map-cons spell a.value b.value)) both in
    subst (λ (p : List A × Spot). AreTimes Fits (suc n) p.0 × Takes s (flat_map spell p.0) p.1) (ok_is (made, b.next) (v, new) b.goes_on) (((a.value_fits, b.value_fits.0), ap suc b.value_fits.1), whole)

times_of : {A : Type 0} (item : Spot → Read A) (Fits : A → Type 0) (spell : A → List ℕ) → SpelledReads item Fits spell → (vs : List A) (at : ℕ) (rest : List ℕ) → AllByRecursion Fits vs
    → times_at item (length vs) (spot at (flat_map spell vs ++ rest)) ≡ Ok (vs, spot (at + length (flat_map spell vs)) rest)
unfolding times_at
times_of item Fits spell law [] at rest fits = ap (λ (k : ℕ). Ok ([], spot k rest)) (omega arith)
times_of item Fits spell law (v ∷ vs) at rest fits =
    let others = flat_map spell vs in
    let spelled : flat_map spell (v ∷ vs) ++ rest ≡ spell v ++ (others ++ rest) = ap (λ (t : List ℕ). t ++ rest) (flat_map-cons spell v vs) ∙ append_assoc (spell v) others rest in
    let places : at + length (spell v) + length others ≡ at + length (flat_map spell (v ∷ vs)) = let split = ap length (flat_map-cons spell v vs) in omega (arith, split, length-append (spell v) others) in
    let first = law v at (others ++ rest) fits.0 in
    let second = times_of item Fits spell law vs (at + length (spell v)) rest fits.1 in
    let whole : times_at item (suc (length vs)) (spot at (spell v ++ (others ++ rest))) ≡ Ok (v ∷ vs, spot (at + length (spell v) + length others) rest) =
    reads_then _ _ _ _ first (reads_then _ _ _ _ second refl) in
    ap (λ (t : List ℕ). times_at item (suc (length vs)) (spot at t)) spelled ∙ whole ∙ ap (λ (k : ℕ). Ok (v ∷ vs, spot k rest)) places

pub times_again : {A : Type 0} (item : Spot → Read A) (Fits : A → Type 0) (spell : A → List ℕ) → SpelledReads item Fits spell → (n : ℕ) → SpelledReads (times_at item n) (AreTimes Fits n) (flat_map spell)
times_again item Fits spell law n vs at rest fits =
    subst (λ (k : ℕ). times_at item k (spot at (flat_map spell vs ++ rest)) ≡ Ok (vs, spot (at + length (flat_map spell vs)) rest)) fits.1 (times_of item Fits spell law vs at rest fits.0)
