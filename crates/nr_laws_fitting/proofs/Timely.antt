-- That the times of records that are read have eight bytes.
use Rattle.std.proofs.Common.{◌≡◌, ℕ, zero, suc, ◌+◌, ◌*◌, ◌^◌, ◌<◌, Bool, true, false, cond, List, [], ◌∷◌, length, take, drop, nat_lt, Result, Ok, Err, refl, subst, inl, inr, arith, get_or-drop}
use Rattle.std.specs.Prelude.{◌==◌, ◌&&◌, ◌||◌}
use Rattle.std.specs.List.{AllByRecursion}
use Rattle.std.proofs.lemmas.Bool.{cases_Bool}
use Rattle.nr_spec_wire.specs.Reading.{IsBytes, Read, Spot, number_at, part_at, past, rows_at, start_of, values}
use Rattle.nr_spec_wire.proofs.Steps.{bind_ok}
use Rattle.nr_laws_log.proofs.Fields.{number_step, number_takes}
use Rattle.nr_spec_bgp.specs.Records.{Carries, Item, Skips, Turns, addresses_at, event_at, heard_at, is_as4, is_message, is_own, is_session, is_state, item_at, microseconds_at, peer_at, record_at, session_at, state_at}
use Rattle.nr_spec_recording.specs.Records.{records_of}
use Rattle.nr_laws_fitting.specs.Frames.{IsTimely}

ok_same : {A : Type 0} (x y : A) → (let r : Result A ℕ = Ok x in r) ≡ Ok y → x ≡ y
ok_same x y h = cc

-- ---- one record

state_timely : (time asn : ℕ) (s : Spot) (item : Item) → time < 2 ^ 64 → state_at time asn s ≡ Ok item → IsTimely item
unfolding state_at
state_timely time asn s item lt is =
    let a = bind_ok (addresses_at s) _ item is in
    let b = bind_ok (number_at 2 a.0.1) _ item a.2 in
    let c = bind_ok (number_at 2 b.0.1) _ item b.2 in
    subst IsTimely (ok_same (Turns (record { time = time; peer_as = asn; peer = a.0.0; old = b.0.0; new = c.0.0 })) item c.2) lt

heard_timely : (subtype time asn : ℕ) (s : Spot) (item : Item) → time < 2 ^ 64 → heard_at subtype time asn s ≡ Ok item → IsTimely item
unfolding heard_at
heard_timely subtype time asn s item lt is =
    let a = bind_ok (addresses_at s) _ item is in
    subst IsTimely (ok_same (Carries (record { time = time; peer_as = asn; peer = a.0.0; own = is_own subtype; as4 = is_as4 subtype; raw = a.0.1.rest })) item a.2) lt

event_timely : (subtype time asn : ℕ) (s : Spot) (item : Item) → time < 2 ^ 64 → event_at subtype time asn s ≡ Ok item → IsTimely item
event_timely subtype time asn s item lt is =
    elim (cases_Bool (is_state subtype)) [ inl by ↦ state_timely time asn s item lt (rw by at is) | inr by ↦ heard_timely subtype time asn s item lt (rw by at is) ]

micros_small : (kind : ℕ) (s : Spot) (found : ℕ × Spot) → IsBytes s.rest → microseconds_at kind s ≡ Ok found → found.0 < 256 ^ 4
micros_small kind s found fits is =
    elim (cases_Bool (kind == 17)) [
      | inl by ↦ (number_takes 4 s found.0 found.1 fits (rw by at is)).0
      | inr by ↦ (let e : (0, s) ≡ found = ok_same (0, s) found (rw by at is) in subst (λ (p : ℕ × Spot). p.0 < 256 ^ 4) e (omega arith))
    ]

-- of the body of a record over IPv4, or not
body_timely : (b : Bool) (subtype time asn : ℕ) (s : Spot) (item : Item) → time < 2 ^ 64 → cond b (event_at subtype time asn s) (Ok Skips) ≡ Ok item → IsTimely item
body_timely true subtype time asn s item lt is = event_timely subtype time asn s item lt is
body_timely false subtype time asn s item lt is = subst IsTimely (ok_same Skips item is) tt

session_timely : (seconds kind subtype : ℕ) (s : Spot) (item : Item) → IsBytes s.rest → seconds < 256 ^ 4 → session_at seconds kind subtype s ≡ Ok item → IsTimely item
unfolding session_at
session_timely seconds kind subtype s item fits lt is =
    let a = bind_ok (microseconds_at kind s) _ item is in
    let small = micros_small kind s a.0 fits a.1 in
    let b = bind_ok (peer_at (is_as4 subtype) a.0.1) _ item a.2 in
    let time : seconds * 1000000 + a.0.0 < 2 ^ 64 = omega arith in
    body_timely (b.0.0.family == 1) subtype (seconds * 1000000 + a.0.0) b.0.0.asn b.0.1 item time b.2

item_by : (b : Bool) (seconds kind subtype : ℕ) (s : Spot) (item : Item) → IsBytes s.rest → seconds < 256 ^ 4 → cond b (session_at seconds kind subtype s) (Ok Skips) ≡ Ok item → IsTimely item
item_by true seconds kind subtype s item fits lt is = session_timely seconds kind subtype s item fits lt is
item_by false seconds kind subtype s item fits lt is = subst IsTimely (ok_same Skips item is) tt

bytes_taken : (n : ℕ) (xs : List ℕ) → IsBytes xs → IsBytes (take n xs)
bytes_taken zero xs fits i = omega arith
bytes_taken (suc n) [] fits i = omega arith
bytes_taken (suc n) (x ∷ xs) fits zero = fits 0
bytes_taken (suc n) (x ∷ xs) fits (suc i) = bytes_taken n xs (λ j. fits (suc j)) i

bytes_dropped : (n : ℕ) (xs : List ℕ) → IsBytes xs → IsBytes (drop n xs)
bytes_dropped n xs fits i = rw get_or-drop (fits (n + i))

record Parts (parts : Spot × Spot) : Type 0 where
  pub body : IsBytes parts.0.rest
  pub rest : IsBytes parts.1.rest

parts_fit : (n : ℕ) (s : Spot) (parts : Spot × Spot) → IsBytes s.rest → part_at n s ≡ Ok parts → Parts parts
parts_fit n s parts fits is =
    elim (cases_Bool (nat_lt (length s.rest) n)) [
      | inl by ↦ absurd (let e = rw by at is in cc)
      | inr by ↦ (let e : (record { at = s.at; rest = take n s.rest }, past n s) ≡ parts = ok_same (record { at = s.at; rest = take n s.rest }, past n s) parts (rw by at is) in
          subst Parts e (record { body = bytes_taken n s.rest fits; rest = bytes_dropped n s.rest fits }))
    ]

record IsRow (row : Item × Spot) : Type 0 where
  pub timely : IsTimely row.0
  pub rest : IsBytes row.1.rest

record_timely : (s : Spot) (row : Item × Spot) → IsBytes s.rest → record_at s ≡ Ok row → IsRow row
unfolding record_at
record_timely s row fits is =
    let a = number_step 4 s _ row fits is in
    let b = number_step 2 a.next _ row a.takes.rest_fits a.goes_on in
    let c = number_step 2 b.next _ row b.takes.rest_fits b.goes_on in
    let d = number_step 4 c.next _ row c.takes.rest_fits c.goes_on in
    let e = bind_ok (part_at d.value d.next) _ row d.goes_on in
    let p = parts_fit d.value d.next e.0 d.takes.rest_fits e.1 in
    let f = bind_ok (item_at a.value b.value c.value e.0.0) _ row e.2 in
    let same : (f.0, e.0.1) ≡ row = ok_same (f.0, e.0.1) row f.2 in
    subst IsRow same (record { timely = item_by (is_session b.value && (is_state c.value || is_message c.value)) a.value b.value c.value e.0.0 f.0 p.body a.value_fits f.1; rest = p.rest })

-- ---- a file

rows_timely : (fuel : ℕ) (s : Spot) (found : List Item × Spot) → IsBytes s.rest → rows_at record_at fuel s ≡ Ok found → AllByRecursion IsTimely found.0
unfolding rows_at
rows_timely zero s found fits is = subst (λ (p : List Item × Spot). AllByRecursion IsTimely p.0) (ok_same ([], s) found is) tt
rows_timely (suc fuel) s found fits is =
    elim (cases_Bool (length s.rest == 0)) [
      | inl by ↦ subst (λ (p : List Item × Spot). AllByRecursion IsTimely p.0) (ok_same ([], s) found (rw by at is)) tt
      | inr by ↦ (
          let a = bind_ok (record_at s) _ found (rw by at is) in
          let row = record_timely s a.0 fits a.1 in
          let b = bind_ok (rows_at record_at fuel a.0.1) _ found a.2 in
          let rest = rows_timely fuel a.0.1 b.0 row.rest b.1 in
          subst (λ (p : List Item × Spot). AllByRecursion IsTimely p.0) (ok_same (a.0.0 ∷ b.0.0, b.0.1) found b.2) (row.timely, rest))
    ]

valued : (r : Read (List Item)) (items : List Item) → values r ≡ Ok items → (found : List Item × Spot) × (r ≡ Ok found) × (found.0 ≡ items)
valued (Ok found) items is = (found, refl, ok_same found.0 items is)
valued (Err place) items is = absurd cc

pub file_timely : (bytes : List ℕ) (items : List Item) → IsBytes bytes → records_of bytes ≡ Ok items → AllByRecursion IsTimely items
unfolding records_of
file_timely bytes items fits is =
    let v = valued (rows_at record_at (length bytes) (start_of bytes)) items is in
    subst (AllByRecursion IsTimely) v.2 (rows_timely (length bytes) (start_of bytes) v.0 fits v.1)
