-- That the states of records that are read have two bytes.
use Rattle.std.proofs.Common.{◌≡◌, ℕ, zero, suc, ◌+◌, ◌*◌, ◌^◌, ◌<◌, Bool, true, false, cond, List, [], ◌∷◌, length, take, drop, nat_lt, Ok, Err, refl, subst, inl, inr, arith, get_or-drop}
use Rattle.std.specs.Prelude.{◌==◌, ◌&&◌, ◌||◌}
use Rattle.std.specs.List.{AllByRecursion}
use Rattle.std.proofs.lemmas.Bool.{cases_Bool}
use Rattle.nr_spec_wire.specs.Reading.{IsBytes, Read, Spot, part_at, past, rows_at, start_of, values}
use Rattle.nr_spec_wire.proofs.Steps.{bind_ok, ok_is}
use Rattle.nr_laws_log.proofs.Fields.{number_step, number_takes}
use Rattle.nr_spec_bgp.specs.Paths.{as_size}
use Rattle.nr_spec_bgp.specs.Records.{Carries, Item, Peer, Skips, Turns, addresses_at, event_at, heard_at, is_as4, is_message, is_own, is_session, is_state, item_at, microseconds_at, peer_at, record_at, session_at, state_at}
use Rattle.nr_spec_recording.specs.Records.{records_of}

-- the states of a record have two bytes
abbrev pub HasStates : Item → Type 0
HasStates (Carries m) = Unit {0}
HasStates (Turns t) = (t.old < 2 ^ 16) × (t.new < 2 ^ 16)
HasStates Skips = Unit {0}

-- ---- one record

addresses_left : (s : Spot) (got : ℕ × Spot) → IsBytes s.rest → addresses_at s ≡ Ok got → IsBytes got.1.rest
addresses_left s got fits is =
    let a = number_step 4 s _ got fits is in
    let b = number_step 4 a.next _ got a.takes.rest_fits a.goes_on in
    let made : ℕ × Spot = (a.value, b.next) in
    subst (λ (g : ℕ × Spot). IsBytes g.1.rest) (ok_is made got b.goes_on) b.takes.rest_fits

state_has : (time asn : ℕ) (s : Spot) (item : Item) → IsBytes s.rest → state_at time asn s ≡ Ok item → HasStates item
unfolding state_at
state_has time asn s item fits is =
    let a = bind_ok (addresses_at s) _ item is in
    let b = number_step 2 a.0.1 _ item (addresses_left s a.0 fits a.1) a.2 in
    let c = number_step 2 b.next _ item b.takes.rest_fits b.goes_on in
    let old : b.value < 2 ^ 16 = omega (arith, b.value_fits) in
    let new : c.value < 2 ^ 16 = omega (arith, c.value_fits) in
    subst HasStates (ok_is (Turns (record { time = time; peer_as = asn; peer = a.0.0; old = b.value; new = c.value })) item c.goes_on) (old, new)

heard_has : (subtype time asn : ℕ) (s : Spot) (item : Item) → heard_at subtype time asn s ≡ Ok item → HasStates item
unfolding heard_at
heard_has subtype time asn s item is =
    let a = bind_ok (addresses_at s) _ item is in
    subst HasStates (ok_is (Carries (record { time = time; peer_as = asn; peer = a.0.0; own = is_own subtype; as4 = is_as4 subtype; raw = a.0.1.rest })) item a.2) tt

event_has : (subtype time asn : ℕ) (s : Spot) (item : Item) → IsBytes s.rest → event_at subtype time asn s ≡ Ok item → HasStates item
event_has subtype time asn s item fits is =
    elim (cases_Bool (is_state subtype)) [ inl by ↦ state_has time asn s item fits (rw by at is) | inr by ↦ heard_has subtype time asn s item (rw by at is) ]

micros_left : (kind : ℕ) (s : Spot) (found : ℕ × Spot) → IsBytes s.rest → microseconds_at kind s ≡ Ok found → IsBytes found.1.rest
micros_left kind s found fits is =
    elim (cases_Bool (kind == 17)) [
      | inl by ↦ (number_takes 4 s found.0 found.1 fits (rw by at is)).1.rest_fits
      | inr by ↦ subst (λ (p : ℕ × Spot). IsBytes p.1.rest) (ok_is (0, s) found (rw by at is)) fits
    ]

peer_left : (as4 : Bool) (s : Spot) (found : Peer × Spot) → IsBytes s.rest → peer_at as4 s ≡ Ok found → IsBytes found.1.rest
unfolding peer_at
peer_left as4 s found fits is =
    let a = number_step (as_size as4) s _ found fits is in
    let b = number_step (as_size as4) a.next _ found a.takes.rest_fits a.goes_on in
    let c = number_step 2 b.next _ found b.takes.rest_fits b.goes_on in
    let d = number_step 2 c.next _ found c.takes.rest_fits c.goes_on in
    let made : Peer × Spot = (record { asn = a.value; family = d.value }, d.next) in
    subst (λ (p : Peer × Spot). IsBytes p.1.rest) (ok_is made found d.goes_on) d.takes.rest_fits

-- of the body of a record over IPv4, or not
body_has : (b : Bool) (subtype time asn : ℕ) (s : Spot) (item : Item) → IsBytes s.rest → cond b (event_at subtype time asn s) (Ok Skips) ≡ Ok item → HasStates item
body_has true subtype time asn s item fits is = event_has subtype time asn s item fits is
body_has false subtype time asn s item fits is = subst HasStates (ok_is Skips item is) tt

session_has : (seconds kind subtype : ℕ) (s : Spot) (item : Item) → IsBytes s.rest → session_at seconds kind subtype s ≡ Ok item → HasStates item
unfolding session_at
session_has seconds kind subtype s item fits is =
    let a = bind_ok (microseconds_at kind s) _ item is in
    let b = bind_ok (peer_at (is_as4 subtype) a.0.1) _ item a.2 in
    body_has (b.0.0.family == 1) subtype (seconds * 1000000 + a.0.0) b.0.0.asn b.0.1 item (peer_left (is_as4 subtype) a.0.1 b.0 (micros_left kind s a.0 fits a.1) b.1) b.2

item_by : (b : Bool) (seconds kind subtype : ℕ) (s : Spot) (item : Item) → IsBytes s.rest → cond b (session_at seconds kind subtype s) (Ok Skips) ≡ Ok item → HasStates item
item_by true seconds kind subtype s item fits is = session_has seconds kind subtype s item fits is
item_by false seconds kind subtype s item fits is = subst HasStates (ok_is Skips item is) tt

bytes_taken : (n : ℕ) (xs : List ℕ) → IsBytes xs → IsBytes (take n xs)
bytes_taken zero xs fits i = omega arith
bytes_taken (suc n) [] fits i = omega arith
bytes_taken (suc n) (x ∷ xs) fits zero = fits 0
bytes_taken (suc n) (x ∷ xs) fits (suc i) = bytes_taken n xs (λ j. fits (suc j)) i

bytes_dropped : (n : ℕ) (xs : List ℕ) → IsBytes xs → IsBytes (drop n xs)
bytes_dropped n xs fits i = rw get_or-drop (fits (n + i))

record Parts (parts : Spot × Spot) : Type 0 where
  pub body : IsBytes parts.0.rest
  pub rest : IsBytes parts.1.rest

parts_fit : (n : ℕ) (s : Spot) (parts : Spot × Spot) → IsBytes s.rest → part_at n s ≡ Ok parts → Parts parts
parts_fit n s parts fits is =
    elim (cases_Bool (nat_lt (length s.rest) n)) [
      | inl by ↦ absurd (let e = rw by at is in cc)
      | inr by ↦ (
          let made : Spot × Spot = (record { at = s.at; rest = take n s.rest }, past n s) in
          subst Parts (ok_is made parts (rw by at is)) (record { body = bytes_taken n s.rest fits; rest = bytes_dropped n s.rest fits }))
    ]

record IsRow (row : Item × Spot) : Type 0 where
  pub has : HasStates row.0
  pub rest : IsBytes row.1.rest

record_has : (s : Spot) (row : Item × Spot) → IsBytes s.rest → record_at s ≡ Ok row → IsRow row
unfolding record_at
record_has s row fits is =
    let a = number_step 4 s _ row fits is in
    let b = number_step 2 a.next _ row a.takes.rest_fits a.goes_on in
    let c = number_step 2 b.next _ row b.takes.rest_fits b.goes_on in
    let d = number_step 4 c.next _ row c.takes.rest_fits c.goes_on in
    let e = bind_ok (part_at d.value d.next) _ row d.goes_on in
    let p = parts_fit d.value d.next e.0 d.takes.rest_fits e.1 in
    let f = bind_ok (item_at a.value b.value c.value e.0.0) _ row e.2 in
    let same : (f.0, e.0.1) ≡ row = ok_is (f.0, e.0.1) row f.2 in
    subst IsRow same (record { has = item_by (is_session b.value && (is_state c.value || is_message c.value)) a.value b.value c.value e.0.0 f.0 p.body f.1; rest = p.rest })

-- ---- a file

rows_have : (fuel : ℕ) (s : Spot) (found : List Item × Spot) → IsBytes s.rest → rows_at record_at fuel s ≡ Ok found → AllByRecursion HasStates found.0
unfolding rows_at
rows_have zero s found fits is = subst (λ (p : List Item × Spot). AllByRecursion HasStates p.0) (ok_is ([], s) found is) tt
rows_have (suc fuel) s found fits is =
    elim (cases_Bool (length s.rest == 0)) [
      | inl by ↦ subst (λ (p : List Item × Spot). AllByRecursion HasStates p.0) (ok_is ([], s) found (rw by at is)) tt
      | inr by ↦ (
          let a = bind_ok (record_at s) _ found (rw by at is) in
          let row = record_has s a.0 fits a.1 in
          let b = bind_ok (rows_at record_at fuel a.0.1) _ found a.2 in
          let rest = rows_have fuel a.0.1 b.0 row.rest b.1 in
          subst (λ (p : List Item × Spot). AllByRecursion HasStates p.0) (ok_is (a.0.0 ∷ b.0.0, b.0.1) found b.2) (row.has, rest))
    ]

valued : (r : Read (List Item)) (items : List Item) → values r ≡ Ok items → (found : List Item × Spot) × (r ≡ Ok found) × (found.0 ≡ items)
valued (Ok found) items is = (found, refl, ok_is found.0 items is)
valued (Err place) items is = absurd cc

pub file_has : (bytes : List ℕ) (items : List Item) → IsBytes bytes → records_of bytes ≡ Ok items → AllByRecursion HasStates items
unfolding records_of
file_has bytes items fits is =
    let v = valued (rows_at record_at (length bytes) (start_of bytes)) items is in
    subst (AllByRecursion HasStates) v.2 (rows_have (length bytes) (start_of bytes) v.0 fits v.1)
