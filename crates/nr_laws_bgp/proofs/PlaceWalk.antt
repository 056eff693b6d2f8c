-- Faults are within the bytes that were to be read.
use Rattle.std.proofs.Common.{◌≡◌, ℕ, zero, suc, ◌+◌, ◌*◌, ◌≤◌, Bool, true, false, cond, eqb, leb, ltb, ◌&&◌, ◌||◌, List, [], ◌∷◌, ◌++◌, length, take, Result, Ok, Err, refl, subst, arith, length-take, length-drop}
use Rattle.std.proofs.lemmas.Bool.{ltb-false}
use Rattle.nr_spec_wire.specs.Reading.{Spot, Read, ◌>>=◌, start_of, past, number_at, bytes_at, part_at, wants, rows_at, values}
use Rattle.nr_spec_bgp.specs.Paths.{as_size}
use Rattle.nr_spec_bgp.specs.Prefixes.{faults_at, bytes_for, cidr_at}
use Rattle.nr_spec_bgp.specs.Attributes.{Attribute, Placed, size_bytes, fields_at, attribute_at, may_follow, attributes_from, attributes_at, block_at, is_complete}
use Rattle.nr_spec_bgp.specs.Messages.{Meaning, cidrs_at, sized_part_at, update_at, open_at, body_at, is_marker, message_at, message_of}
use Rattle.nr_spec_bgp.specs.Records.{Item, is_session, is_state, is_message, is_as4, microseconds_at, peer_at, addresses_at, state_at, heard_at, session_at, item_at, record_at}
use Rattle.nr_spec_bgp.proofs.Steps.{bind_ok, ok_is, faults_ok}
use Rattle.nr_laws_bgp.specs.Places.{IsWithin}

-- t stands inside of s: not before, and the end of t isn't past that of s
record IsInside (s t : Spot) : Type 0 where
  starts : s.at ≤ t.at
  ends : t.at + length t.rest ≤ s.at + length s.rest

itself : (s : Spot) → IsInside s s
itself s = record { starts = omega arith; ends = omega arith }

here : (s t : Spot) → IsInside s t → IsWithin s t.at
here s t h = record { least = h.starts; most = omega (arith, h.ends) }

-- a fault of this reading is within the bytes from s on
Faults : {A : Type 0} → Spot → Result A ℕ → Type 0
Faults s r = (place : ℕ) → r ≡ Err place → IsWithin s place

-- and where the reading goes well, what is left is inside of them
record Goes {A : Type 0} (s : Spot) (r : Read A) : Type 0 where
  goes : (x : A × Spot) → r ≡ Ok x → IsInside s x.1
  faults : Faults s r

abbrev failed : {A : Type 0} → ℕ → Result A ℕ
failed place = Err place

err_is : {A : Type 0} (p q : ℕ) → failed {A = A} p ≡ Err q → p ≡ q
err_is p q e = cc

-- ---- steps

bind_faults : {A B : Type 0} (s : Spot) (r : Result A ℕ) (f : A → Result B ℕ) → Faults s r → ((x : A) → r ≡ Ok x → Faults s (f x)) → Faults s (r >>= f)
unfolding Faults
bind_faults s (Ok x) f h g = g x refl
bind_faults s (Err p) f h g = λ place e. let same : p ≡ place = err_is p place e in subst (IsWithin s) same (h p refl)

bind_goes : {A B : Type 0} (s : Spot) (r : Read A) (f : A × Spot → Read B) → Goes s r → ((x : A × Spot) → IsInside s x.1 → Goes s (f x)) → Goes s (r >>= f)
unfolding Faults
bind_goes s (Ok x) f h g = g x (h.goes x refl)
bind_goes s (Err p) f h g = record {
  goes = λ x e. absurd cc;
  faults = λ place e. let same : p ≡ place = err_is p place e in subst (IsWithin s) same (h.faults p refl);
}

-- a step whose value is a spot or holds one, followed by what may fault
step_faults : {A B : Type 0} (s : Spot) (r : Read A) (f : A × Spot → Result B ℕ) → Goes s r → ((x : A × Spot) → IsInside s x.1 → Faults s (f x)) → Faults s (r >>= f)
step_faults s r f h g = bind_faults s r f h.faults (λ x e. g x (h.goes x e))

done : {A : Type 0} (s : Spot) (x : A) → Faults s (let r : Result A ℕ = Ok x in r)
unfolding Faults
done s x place e = absurd cc

done_goes : {A : Type 0} (s : Spot) (x : A) (t : Spot) → IsInside s t → Goes s (let r : Read A = Ok (x, t) in r)
unfolding Faults
done_goes {A} s x t h = record {
  goes = λ y e. subst (λ (z : A × Spot). IsInside s z.1) (ok_is (x, t) y e) h;
  faults = λ place e. absurd cc;
}

wants_then : {A B : Type 0} (s : Spot) (b : Bool) (place : ℕ) (x : A) (f : A → Result B ℕ) → IsWithin s place → Faults s (f x) → Faults s (wants b place x >>= f)
unfolding Faults
wants_then s true place x f w h = h
wants_then s false place x f w h = λ q e. let same : place ≡ q = err_is place q e in subst (IsWithin s) same w

wants_faults : {A : Type 0} (s : Spot) (b : Bool) (place : ℕ) (x : A) → IsWithin s place → Faults s (wants b place x)
unfolding Faults
wants_faults s true place x w = λ q e. absurd cc
wants_faults s false place x w = λ q e. let same : place ≡ q = err_is place q e in subst (IsWithin s) same w

wants_goes : {A B : Type 0} (s : Spot) (b : Bool) (place : ℕ) (x : A) (f : A → Read B) → IsWithin s place → Goes s (f x) → Goes s (wants b place x >>= f)
unfolding Faults
wants_goes s true place x f w h = h
wants_goes s false place x f w h = record {
  goes = λ y e. absurd cc;
  faults = λ q e. let same : place ≡ q = err_is place q e in subst (IsWithin s) same w;
}

if_faults : {A : Type 0} (s : Spot) (b : Bool) (r q : Result A ℕ) → Faults s r → Faults s q → Faults s (cond b r q)
if_faults s true r q h k = h
if_faults s false r q h k = k

if_goes : {A : Type 0} (s : Spot) (b : Bool) (r q : Read A) → Goes s r → Goes s q → Goes s (cond b r q)
if_goes s true r q h k = h
if_goes s false r q h k = k

faults_at_goes : {A : Type 0} (s : Spot) (place : ℕ) (r : Read A) → IsWithin s place → Goes s r → Goes s (faults_at place r)
unfolding Faults
faults_at_goes s place (Ok x) w h = h
faults_at_goes s place (Err p) w h = record {
  goes = λ x e. absurd cc;
  faults = λ q e. let same : place ≡ q = err_is place q e in subst (IsWithin s) same w;
}

-- ---- fields

failed_faults : (A : Type 0) (s : Spot) (p : ℕ) → IsWithin s p → Faults s (failed {A = A} p)
unfolding Faults
failed_faults A s p w = λ q e. let same : p ≡ q = err_is p q e in subst (IsWithin s) same w

failed_goes : (A : Type 0) (s : Spot) (p : ℕ) → IsWithin s p → Goes s (failed {A = A × Spot} p)
failed_goes A s p w = record { goes = λ y e. absurd cc; faults = failed_faults (A × Spot) s p w }

field_goes : {A : Type 0} (s t : Spot) (n : ℕ) (x : A) → IsInside s t → Goes s (let r : Read A = cond (ltb (length t.rest) n) (Err t.at) (Ok (x, past n t)) in r)
field_goes {A} s t n x h = by_test (ltb (length t.rest) n) refl
  where
    by_test : (b : Bool) → ltb (length t.rest) n ≡ b → Goes s (let r : Read A = cond b (Err t.at) (Ok (x, past n t)) in r)
    by_test true e = failed_goes A s t.at (here s t h)
    by_test false e =
        let long = ltb-false (length t.rest) n e in
        done_goes s x (past n t) (record { starts = omega (arith, h.starts); ends = omega (arith, h.ends, length-drop n t.rest, long) })

number_goes : (n : ℕ) (s t : Spot) → IsInside s t → Goes s (number_at n t)
number_goes n s t h = field_goes s t n _ h

bytes_goes : (n : ℕ) (s t : Spot) → IsInside s t → Goes s (bytes_at n t)
bytes_goes n s t h = field_goes s t n _ h

part_goes : (n : ℕ) (s t : Spot) → IsInside s t → Goes s (part_at n t)
part_goes n s t h = field_goes s t n _ h

-- a part is inside too
part_inside : (n : ℕ) (s t : Spot) (x : Spot × Spot) → IsInside s t → part_at n t ≡ Ok x → IsInside s x.0
part_inside n s t x h e = by_test (ltb (length t.rest) n) refl e
  where
    by_test : (b : Bool) → ltb (length t.rest) n ≡ b → (let r : Read Spot = cond b (Err t.at) (Ok (record { at = t.at; rest = take n t.rest }, past n t)) in r) ≡ Ok x → IsInside s x.0
    by_test true is e = absurd cc
    by_test false is e =
        let front : Spot = record { at = t.at; rest = take n t.rest } in
        let inside : IsInside s front = record { starts = h.starts; ends = omega (arith, h.ends, length-take n t.rest) } in
        subst (λ (y : Spot × Spot). IsInside s y.0) (ok_is (front, past n t) x e) inside

-- ---- values to the end of the bytes

rows_goes : {A : Type 0} (s : Spot) (item : Spot → Read A) → ((t : Spot) → IsInside s t → Goes s (item t)) → (n : ℕ) (t : Spot) → IsInside s t → Goes s (rows_at item n t)
unfolding rows_at
rows_goes s item each zero t h = done_goes s [] t h
rows_goes s item each (suc n) t h =
    if_goes s (eqb (length t.rest) 0) _ _ (done_goes s [] t h)
    (bind_goes s (item t) _ (each t h) (λ x i. bind_goes s (rows_at item n x.1) _ (rows_goes s item each n x.1 i) (λ o j. done_goes s (x.0 ∷ o.0) o.1 j)))

values_faults : {A : Type 0} (s : Spot) (r : Read (List A)) → Goes s r → Faults s (values r)
unfolding Faults
values_faults s (Ok x) h = λ place e. absurd cc
values_faults s (Err p) h = λ place e. let same : p ≡ place = err_is p place e in subst (IsWithin s) same (h.faults p refl)

cidr_goes : (s t : Spot) → IsInside s t → Goes s (cidr_at t)
unfolding cidr_at
cidr_goes s t h =
    bind_goes s (number_at 1 t) _ (number_goes 1 s t h) (λ len i.
    wants_goes s (leb len.0 32) t.at len.0 _ (here s t h)
    (bind_goes s (faults_at t.at (bytes_at (bytes_for len.0) len.1)) _ (faults_at_goes s t.at _ (here s t h) (bytes_goes (bytes_for len.0) s len.1 i)) (λ bytes j. done_goes s _ bytes.1 j)))

cidrs_faults : (s t : Spot) → IsInside s t → Faults s (cidrs_at t)
cidrs_faults s t h = values_faults s (rows_at cidr_at (length t.rest) t) (rows_goes s cidr_at (cidr_goes s) (length t.rest) t h)

-- ---- attributes

fields_go : (s t : Spot) → IsInside s t → Goes s (fields_at t)
unfolding fields_at
fields_go s t h =
    bind_goes s (number_at 1 t) _ (number_goes 1 s t h) (λ flags i.
    bind_goes s (number_at 1 flags.1) _ (number_goes 1 s flags.1 i) (λ kind j.
    bind_goes s (number_at (size_bytes flags.0) kind.1) _ (number_goes (size_bytes flags.0) s kind.1 j) (λ size k.
    bind_goes s (bytes_at size.0 size.1) _ (bytes_goes size.0 s size.1 k) (λ value l. done_goes s _ value.1 l))))

attribute_goes : (s t : Spot) → IsInside s t → Goes s (attribute_at t)
attribute_goes s t h = faults_at_goes s t.at (fields_at t) (here s t h) (fields_go s t h)

-- the place of a value is within too
attribute_place : (s t : Spot) (x : Placed × Spot) → IsInside s t → attribute_at t ≡ Ok x → IsWithin s x.0.at
unfolding fields_at
attribute_place s t x h e =
    let e' = faults_ok t.at (fields_at t) x e in
    let a = bind_ok (number_at 1 t) _ x e' in
    let b = bind_ok (number_at 1 a.0.1) _ x a.2 in
    let c = bind_ok (number_at (size_bytes a.0.0) b.0.1) _ x b.2 in
    let d = bind_ok (bytes_at c.0.0 c.0.1) _ x c.2 in
    let ia = (number_goes 1 s t h).goes a.0 a.1 in
    let ib = (number_goes 1 s a.0.1 ia).goes b.0 b.1 in
    let ic = (number_goes (size_bytes a.0.0) s b.0.1 ib).goes c.0 c.1 in
    let made : Placed = record { what = record { kind = b.0.0; value = d.0.0 }; at = c.0.1.at } in
    subst (λ (y : Placed × Spot). IsWithin s y.0.at) (ok_is (made, d.0.1) x d.2) (here s c.0.1 ic)

attributes_fault : (s : Spot) (n : ℕ) (as4 : Bool) (before : List Attribute) (t : Spot) → IsInside s t → Faults s (attributes_from n as4 before t)
unfolding attributes_from
attributes_fault s zero as4 before t h = done s before
attributes_fault s (suc n) as4 before t h =
    if_faults s (eqb (length t.rest) 0) _ _ (done s before)
    (bind_faults s (attribute_at t) _ (attribute_goes s t h).faults (λ a e.
    wants_then s (may_follow as4 before a.0.what) a.0.at a.0.what _ (attribute_place s t a h e)
    (attributes_fault s n as4 (before ++ a.0.what ∷ []) a.1 ((attribute_goes s t h).goes a e))))

block_faults : (s : Spot) (as4 : Bool) (t : Spot) → IsInside s t → Faults s (block_at as4 t)
unfolding block_at
block_faults s as4 t h = bind_faults s (attributes_at as4 t) _ (attributes_fault s (length t.rest) as4 [] t h) (λ list e. done s _)

-- ---- messages

sized_goes : (s t : Spot) → IsInside s t → Goes s (sized_part_at t)
sized_goes s t h =
    bind_goes s (number_at 2 t) _ (number_goes 2 s t h) (λ size i. faults_at_goes s t.at (part_at size.0 size.1) (here s t h) (part_goes size.0 s size.1 i))

sized_inside : (s t : Spot) (x : Spot × Spot) → IsInside s t → sized_part_at t ≡ Ok x → IsInside s x.0
sized_inside s t x h e =
    let a = bind_ok (number_at 2 t) (λ size. faults_at t.at (part_at size.0 size.1)) x e in
    part_inside a.0.0 s a.0.1 x ((number_goes 2 s t h).goes a.0 a.1) (faults_ok t.at (part_at a.0.0 a.0.1) x a.2)

update_faults : (s : Spot) (as4 : Bool) (t : Spot) → IsInside s t → Faults s (update_at as4 t)
unfolding update_at
update_faults s as4 t h =
    bind_faults s (sized_part_at t) _ (sized_goes s t h).faults (λ wp e.
    let after_withdrawn = (sized_goes s t h).goes wp e in
    bind_faults s (cidrs_at wp.0) _ (cidrs_faults s wp.0 (sized_inside s t wp h e)) (λ w f.
    bind_faults s (sized_part_at wp.1) _ (sized_goes s wp.1 after_withdrawn).faults (λ bp g.
    let after_block = (sized_goes s wp.1 after_withdrawn).goes bp g in
    bind_faults s (block_at as4 bp.0) _ (block_faults s as4 bp.0 (sized_inside s wp.1 bp after_withdrawn g)) (λ b i.
    wants_then s (eqb (length bp.1.rest) 0 || is_complete b.list) bp.1.at b _ (here s bp.1 after_block)
    (bind_faults s (cidrs_at bp.1) _ (cidrs_faults s bp.1 after_block) (λ a j. done s _))))))

open_faults : (s : Spot) (size : ℕ) (t : Spot) → IsInside s t → Faults s (open_at size t)
unfolding open_at
open_faults s size t h =
    step_faults s (bytes_at 9 t) _ (bytes_goes 9 s t h) (λ fixed i.
    step_faults s (number_at 1 fixed.1) _ (number_goes 1 s fixed.1 i) (λ p j. wants_faults s _ fixed.1.at _ (here s fixed.1 i)))

body_faults : (s : Spot) (as4 : Bool) (size p kind q : ℕ) (t : Spot) → IsInside s t → IsWithin s p → IsWithin s q → Faults s (body_at as4 size p kind q t)
unfolding body_at
body_faults s as4 size p kind q t h wp wq =
    if_faults s (eqb kind 1) _ _ (wants_then s (leb 29 size) p t _ wp (open_faults s size t h))
    (if_faults s (eqb kind 2) _ _ (wants_then s (leb 23 size) p t _ wp (update_faults s as4 t h))
    (if_faults s (eqb kind 3) _ _ (wants_faults s (leb 21 size) p _ wp)
    (if_faults s (eqb kind 4) _ _ (wants_faults s (eqb size 19) p _ wp)
    (if_faults s (eqb kind 5) _ _ (wants_faults s (leb 23 size) p _ wp) (failed_faults Meaning s q wq)))))

message_faults : (as4 : Bool) (s : Spot) → Faults s (message_at as4 s)
unfolding message_at
message_faults as4 s =
    let h = itself s in
    step_faults s (bytes_at 16 s) _ (bytes_goes 16 s s h) (λ marker i.
    wants_then s (is_marker marker.0) s.at marker.1 _ (here s s h)
    (step_faults s (number_at 2 marker.1) _ (number_goes 2 s marker.1 i) (λ size j.
    wants_then s (leb 19 size.0 && eqb size.0 (length s.rest)) marker.1.at size.0 _ (here s marker.1 i)
    (step_faults s (number_at 1 size.1) _ (number_goes 1 s size.1 j) (λ kind k.
    body_faults s as4 size.0 marker.1.at kind.0 size.1.at kind.1 k (here s marker.1 i) (here s size.1 j))))))

pub message_within : (as4 : Bool) (raw : List ℕ) (place : ℕ) → message_of as4 raw ≡ Err place → place ≤ length raw
unfolding Faults
message_within as4 raw place e = let w = message_faults as4 (start_of raw) place e in omega (arith, w.most)

-- ---- records

micros_goes : (s : Spot) (kind : ℕ) (t : Spot) → IsInside s t → Goes s (microseconds_at kind t)
micros_goes s kind t h = if_goes s (eqb kind 17) _ _ (number_goes 4 s t h) (done_goes s 0 t h)

peer_goes : (s : Spot) (as4 : Bool) (t : Spot) → IsInside s t → Goes s (peer_at as4 t)
unfolding peer_at
peer_goes s as4 t h =
    bind_goes s (number_at (as_size as4) t) _ (number_goes (as_size as4) s t h) (λ peer i.
    bind_goes s (number_at (as_size as4) peer.1) _ (number_goes (as_size as4) s peer.1 i) (λ local j.
    bind_goes s (number_at 2 local.1) _ (number_goes 2 s local.1 j) (λ interface k.
    bind_goes s (number_at 2 interface.1) _ (number_goes 2 s interface.1 k) (λ family l. done_goes s _ family.1 l))))

addresses_go : (s t : Spot) → IsInside s t → Goes s (addresses_at t)
addresses_go s t h =
    bind_goes s (number_at 4 t) _ (number_goes 4 s t h) (λ peer i.
    bind_goes s (number_at 4 peer.1) _ (number_goes 4 s peer.1 i) (λ local j. done_goes s peer.0 local.1 j))

state_faults : (s : Spot) (time asn : ℕ) (t : Spot) → IsInside s t → Faults s (state_at time asn t)
unfolding state_at
state_faults s time asn t h =
    step_faults s (addresses_at t) _ (addresses_go s t h) (λ peer i.
    step_faults s (number_at 2 peer.1) _ (number_goes 2 s peer.1 i) (λ old j.
    step_faults s (number_at 2 old.1) _ (number_goes 2 s old.1 j) (λ new k. done s _)))

heard_faults : (s : Spot) (subtype time asn : ℕ) (t : Spot) → IsInside s t → Faults s (heard_at subtype time asn t)
unfolding heard_at
heard_faults s subtype time asn t h = step_faults s (addresses_at t) _ (addresses_go s t h) (λ peer i. done s _)

session_faults : (s : Spot) (seconds kind subtype : ℕ) (t : Spot) → IsInside s t → Faults s (session_at seconds kind subtype t)
unfolding session_at
session_faults s seconds kind subtype t h =
    step_faults s (microseconds_at kind t) _ (micros_goes s kind t h) (λ micros i.
    step_faults s (peer_at (is_as4 subtype) micros.1) _ (peer_goes s (is_as4 subtype) micros.1 i) (λ peer j.
    if_faults s (eqb peer.0.family 1) _ _
    (if_faults s (is_state subtype) _ _ (state_faults s (seconds * 1000000 + micros.0) peer.0.asn peer.1 j) (heard_faults s subtype (seconds * 1000000 + micros.0) peer.0.asn peer.1 j))
    (done s _)))

item_faults : (s : Spot) (seconds kind subtype : ℕ) (t : Spot) → IsInside s t → Faults s (item_at seconds kind subtype t)
item_faults s seconds kind subtype t h =
    if_faults s (is_session kind && (is_state subtype || is_message subtype)) _ _ (session_faults s seconds kind subtype t h) (done s _)

-- what a record tells, and where the record ends
ends_goes : (s end : Spot) (r : Result Item ℕ) → IsInside s end → Faults s r → Goes s (r >>= λ item. let q : Read Item = Ok (item, end) in q)
unfolding Faults
ends_goes s end (Ok item) h f = done_goes s item end h
ends_goes s end (Err p) h f = failed_goes Item s p (f p refl)

part_then : (s : Spot) (r : Read Spot) (f : Spot × Spot → Read Item) → Goes s r → ((x : Spot × Spot) → r ≡ Ok x → IsInside s x.0)
    → ((x : Spot × Spot) → IsInside s x.0 → IsInside s x.1 → Goes s (f x)) → Goes s (r >>= f)
unfolding Faults
part_then s (Ok x) f g inside h = h x (inside x refl) (g.goes x refl)
part_then s (Err p) f g inside h = failed_goes Item s p (g.faults p refl)

record_goes : (s : Spot) → Goes s (record_at s)
unfolding record_at
record_goes s =
    bind_goes s (number_at 4 s) _ (number_goes 4 s s (itself s)) (λ seconds i.
    bind_goes s (number_at 2 seconds.1) _ (number_goes 2 s seconds.1 i) (λ kind j.
    bind_goes s (number_at 2 kind.1) _ (number_goes 2 s kind.1 j) (λ subtype k.
    bind_goes s (number_at 4 subtype.1) _ (number_goes 4 s subtype.1 k) (λ size l.
    part_then s (part_at size.0 size.1) _ (part_goes size.0 s size.1 l) (λ x e. part_inside size.0 s size.1 x l e) (λ body m n.
    ends_goes s body.1 _ n (item_faults s seconds.0 kind.0 subtype.0 body.0 m))))))

pub record_within : (s : Spot) (place : ℕ) → record_at s ≡ Err place → IsWithin s place
unfolding Faults
record_within s place e = (record_goes s).faults place e
