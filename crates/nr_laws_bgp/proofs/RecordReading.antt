-- Reading a record is its grammar.
use Rattle.std.proofs.Common.{◌≡◌, ◌≢◌, ℕ, ◌+◌, ◌*◌, Bool, true, false, ◌&&◌, ◌||◌, ◌==◌, if◌then◌else◌, List, [], ◌++◌, length, Result, Ok, ◌⊎◌, inl, inr, refl, sym, ap, subst, ◌∙◌}
use Rattle.std.proofs.lemmas.Bool.Decides.{Decides-eqb}
use Rattle.nr_spec_wire.specs.Reading.{Spot, Read, ◌>>=◌, number_at, part_at}
use Rattle.byteorder.specs.Endian.{big_number}
use Rattle.nr_spec_bgp.specs.Paths.{as_size}
use Rattle.nr_spec_bgp.specs.Records.{Item, Carries, Turns, Skips, is_session, is_state, is_message, is_as4, is_own, microseconds_at, Peer, peer_at, addresses_at, state_at, heard_at, session_at, item_at, record_at}
use Rattle.nr_spec_bgp.proofs.Steps.{bind_ok, ok_is}
use Rattle.nr_spec_bgp.proofs.Back.{spot, then_back, part_back}
use Rattle.nr_laws_bgp.specs.Values.{Holds}
use Rattle.nr_laws_bgp.proofs.Pieces.{number_found, number_again, part_found}
use Rattle.nr_laws_bgp.specs.Records.{Sort, Change, Message, IsSort, is_wide, AreMicros, IsChange, IsMessage, IsOverIpv4, IsSession, IsBody, session, of_other_type, of_other_subtype, IsRecordIn}

-- ---- from what is read

addresses_found : (s : Spot) (x : ℕ × Spot) → addresses_at s ≡ Ok x → (field : List ℕ) × (local : List ℕ) × Holds 4 x.0 field × (length local ≡ 4) × (s.rest ≡ field ++ (local ++ x.1.rest))
addresses_found s x e =
    let a = bind_ok (number_at 4 s) (λ peer. number_at 4 peer.1 >>= (λ local. Ok (peer.0, local.1))) x e in
    let b = bind_ok (number_at 4 a.0.1) (λ local. Ok (a.0.0, local.1)) x a.2 in
    let p = number_found 4 s a.0 a.1 in
    let q = number_found 4 a.0.1 b.0 b.1 in
    subst (λ (x : ℕ × Spot). (field : List ℕ) × (local : List ℕ) × Holds 4 x.0 field × (length local ≡ 4) × (s.rest ≡ field ++ (local ++ x.1.rest)))
    (ok_is (a.0.0, b.0.1) x b.2) (p.field, q.field, p.holds, q.holds.len, p.spelled ∙ ap (λ l. p.field ++ l) q.spelled)

state_found : (time asn : ℕ) (s : Spot) (item : Item) → state_at time asn s ≡ Ok item → IsChange time asn s.rest item
unfolding state_at
state_found time asn s item e =
    let made : ℕ → ℕ → ℕ → Item = λ peer old new. Turns (record { time = time; peer_as = asn; peer = peer; old = old; new = new }) in
    let a = bind_ok (addresses_at s) (λ peer. number_at 2 peer.1 >>= (λ old. number_at 2 old.1 >>= (λ new. Ok (made peer.0 old.0 new.0)))) item e in
    let b = bind_ok (number_at 2 a.0.1) (λ old. number_at 2 old.1 >>= (λ new. Ok (made a.0.0 old.0 new.0))) item a.2 in
    let c = bind_ok (number_at 2 b.0.1) (λ new. Ok (made a.0.0 b.0.0 new.0)) item b.2 in
    let p = addresses_found s a.0 a.1 in
    let q = number_found 2 a.0.1 b.0 b.1 in
    let r = number_found 2 b.0.1 c.0 c.1 in
    record {
      peer = a.0.0;
      old = b.0.0;
      new = c.0.0;
      peer_field = p.0;
      local = p.1;
      old_field = q.field;
      new_field = r.field;
      ignored = c.0.1.rest;
      spelled = p.4 ∙ ap (λ l. p.0 ++ (p.1 ++ l)) (q.spelled ∙ ap (λ l. q.field ++ l) r.spelled);
      peer_is = p.2;
      local_is = p.3;
      old_is = q.holds;
      new_is = r.holds;
      tells = sym (ok_is (made a.0.0 b.0.0 c.0.0) item c.2);
    }

heard_found : (subtype time asn : ℕ) (s : Spot) (item : Item) → heard_at subtype time asn s ≡ Ok item → IsMessage time asn (is_as4 subtype) (is_own subtype) s.rest item
unfolding heard_at
heard_found subtype time asn s item e =
    let made : ℕ × Spot → Item = λ peer. Carries (record { time = time; peer_as = asn; peer = peer.0; own = is_own subtype; as4 = is_as4 subtype; raw = peer.1.rest }) in
    let a = bind_ok (addresses_at s) (λ peer. Ok (made peer)) item e in
    let p = addresses_found s a.0 a.1 in
    record {
      peer = a.0.0;
      peer_field = p.0;
      local = p.1;
      raw = a.0.1.rest;
      spelled = p.4;
      peer_is = p.2;
      local_is = p.3;
      tells = sym (ok_is (made a.0) item a.2);
    }

-- the sort of a subtype that is read
abbrev SortOf : ℕ → Type 0
SortOf subtype = (sort : Sort) × IsSort subtype sort

abbrev Sorted : ℕ → Type 0
Sorted subtype = SortOf subtype ⊎ ((is_state subtype || is_message subtype ≡ false) × ((sort : Sort) → IsSort subtype sort → ⊥))

eq_of : (n m : ℕ) → (n == m) ≡ true → n ≡ m
eq_of n m = (Decides-eqb n m).0

not_eq : (n m : ℕ) → (n == m) ≡ false → n ≡ m → ⊥
not_eq n m e h = let t = (Decides-eqb n m).1 h in cc

no_sort : (n : ℕ) → (n == 0) ≡ false → (n == 5) ≡ false → (n == 1) ≡ false → (n == 4) ≡ false → (n == 6) ≡ false → (n == 7) ≡ false → (sort : Sort) → IsSort n sort → ⊥
no_sort n a b c d e f (Change false) h = not_eq n 0 a h
no_sort n a b c d e f (Change true) h = not_eq n 5 b h
no_sort n a b c d e f (Message false false) h = not_eq n 1 c h
no_sort n a b c d e f (Message true false) h = not_eq n 4 d h
no_sort n a b c d e f (Message false true) h = not_eq n 6 e h
no_sort n a b c d e f (Message true true) h = not_eq n 7 f h

all_false : (a b c d e f : Bool) → a ≡ false → b ≡ false → c ≡ false → d ≡ false → e ≡ false → f ≡ false → (a || b) || (c || d || e || f) ≡ false
all_false true b c d e f g h i j k l = cc
all_false false true c d e f g h i j k l = cc
all_false false false true d e f g h i j k l = cc
all_false false false false true e f g h i j k l = cc
all_false false false false false true f g h i j k l = cc
all_false false false false false false f g h i j k l = l

sorted_by : (n : ℕ) (a b c d e f : Bool) → (n == 0) ≡ a → (n == 5) ≡ b → (n == 1) ≡ c → (n == 4) ≡ d → (n == 6) ≡ e → (n == 7) ≡ f → Sorted n
sorted_by n true b c d e f g h i j k l = inl (Change false, eq_of n 0 g)
sorted_by n false true c d e f g h i j k l = inl (Change true, eq_of n 5 h)
sorted_by n false false true d e f g h i j k l = inl (Message false false, eq_of n 1 i)
sorted_by n false false false true e f g h i j k l = inl (Message true false, eq_of n 4 j)
sorted_by n false false false false true f g h i j k l = inl (Message false true, eq_of n 6 k)
sorted_by n false false false false false true g h i j k l = inl (Message true true, eq_of n 7 l)
sorted_by n false false false false false false g h i j k l = inr (all_false (n == 0) (n == 5) (n == 1) (n == 4) (n == 6) (n == 7) g h i j k l, no_sort n g h i j k l)

sorted : (n : ℕ) → Sorted n
sorted n = sorted_by n (n == 0) (n == 5) (n == 1) (n == 4) (n == 6) (n == 7) refl refl refl refl refl refl

-- what the tests say of each
wide_is : (n : ℕ) (sort : Sort) → IsSort n sort → is_as4 n ≡ is_wide sort
wide_is n (Change false) h = ap is_as4 h
wide_is n (Change true) h = ap is_as4 h
wide_is n (Message false false) h = ap is_as4 h
wide_is n (Message true false) h = ap is_as4 h
wide_is n (Message false true) h = ap is_as4 h
wide_is n (Message true true) h = ap is_as4 h

abbrev at_sort : ℕ → ℕ → ℕ → Sort → Spot → Result Item ℕ
at_sort subtype time asn (Change wide) s = state_at time asn s
at_sort subtype time asn (Message wide own) s = heard_at subtype time asn s

by_sort : (n : ℕ) (sort : Sort) → IsSort n sort → (time asn : ℕ) (s : Spot) → (if is_state n then state_at time asn s else heard_at n time asn s) ≡ at_sort n time asn sort s
by_sort n (Change false) h time asn s = ap (λ b. if b then state_at time asn s else heard_at n time asn s) (ap is_state h)
by_sort n (Change true) h time asn s = ap (λ b. if b then state_at time asn s else heard_at n time asn s) (ap is_state h)
by_sort n (Message false false) h time asn s = ap (λ b. if b then state_at time asn s else heard_at n time asn s) (ap is_state h)
by_sort n (Message true false) h time asn s = ap (λ b. if b then state_at time asn s else heard_at n time asn s) (ap is_state h)
by_sort n (Message false true) h time asn s = ap (λ b. if b then state_at time asn s else heard_at n time asn s) (ap is_state h)
by_sort n (Message true true) h time asn s = ap (λ b. if b then state_at time asn s else heard_at n time asn s) (ap is_state h)

own_is : (n : ℕ) (wide own : Bool) → IsSort n (Message wide own) → is_own n ≡ own
own_is n false false h = ap is_own h
own_is n true false h = ap is_own h
own_is n false true h = ap is_own h
own_is n true true h = ap is_own h

read_sort : (n : ℕ) (sort : Sort) → IsSort n sort → is_state n || is_message n ≡ true
read_sort n (Change false) h = ap (λ n. is_state n || is_message n) h
read_sort n (Change true) h = ap (λ n. is_state n || is_message n) h
read_sort n (Message false false) h = ap (λ n. is_state n || is_message n) h
read_sort n (Message true false) h = ap (λ n. is_state n || is_message n) h
read_sort n (Message false true) h = ap (λ n. is_state n || is_message n) h
read_sort n (Message true true) h = ap (λ n. is_state n || is_message n) h

inside_found : (subtype time asn : ℕ) (sort : Sort) (s : Spot) (item : Item) → IsSort subtype sort → at_sort subtype time asn sort s ≡ Ok item → IsOverIpv4 time asn sort s.rest item
inside_found subtype time asn (Change wide) s item h e = state_found time asn s item e
inside_found subtype time asn (Message wide own) s item h e =
    subst (λ w. IsMessage time asn w own s.rest item) (wide_is subtype (Message wide own) h) (subst (λ o. IsMessage time asn (is_as4 subtype) o s.rest item) (own_is subtype wide own h) (heard_found subtype time asn s item e))

micros_found : (kind : ℕ) (s : Spot) (x : ℕ × Spot) → (kind ≡ 16) ⊎ (kind ≡ 17) → microseconds_at kind s ≡ Ok x → (field : List ℕ) × AreMicros kind field x.0 × (s.rest ≡ field ++ x.1.rest)
micros_found kind s x (inl k) e =
    let made : (field : List ℕ) × AreMicros kind field 0 × (s.rest ≡ field ++ s.rest) = ([], inl (k, refl, refl), refl) in
    subst (λ (x : ℕ × Spot). (field : List ℕ) × AreMicros kind field x.0 × (s.rest ≡ field ++ x.1.rest)) (ok_is (0, s) x (sym (ap (λ k. microseconds_at k s) k) ∙ e)) made
micros_found kind s x (inr k) e =
    let p = number_found 4 s x (sym (ap (λ k. microseconds_at k s) k) ∙ e) in
    (p.field, inr (k, p.holds), p.spelled)

-- the fields before the family, of that size
pub record AreEnds (size : ℕ) (bytes : List ℕ) (p : Peer) (more : List ℕ) : Type 0 where
  pub peer : List ℕ
  pub local : List ℕ
  pub interface : List ℕ
  pub family : List ℕ
  pub spelled : bytes ≡ peer ++ (local ++ (interface ++ (family ++ more)))
  pub peer_is : Holds size p.asn peer
  pub local_is : length local ≡ size
  pub interface_is : length interface ≡ 2
  pub family_is : Holds 2 p.family family

peer_found : (as4 : Bool) (s : Spot) (x : Peer × Spot) → peer_at as4 s ≡ Ok x → AreEnds (as_size as4) s.rest x.0 x.1.rest
unfolding peer_at
peer_found as4 s x e =
    let made : ℕ → ℕ × Spot → Peer × Spot = λ asn family. (record { asn = asn; family = family.0 }, family.1) in
    let a = bind_ok (number_at (as_size as4) s) (λ peer. number_at (as_size as4) peer.1 >>= (λ local. number_at 2 local.1 >>= (λ interface. number_at 2 interface.1 >>= (λ family. Ok (made peer.0 family))))) x e in
    let b = bind_ok (number_at (as_size as4) a.0.1) (λ local. number_at 2 local.1 >>= (λ interface. number_at 2 interface.1 >>= (λ family. Ok (made a.0.0 family)))) x a.2 in
    let c = bind_ok (number_at 2 b.0.1) (λ interface. number_at 2 interface.1 >>= (λ family. Ok (made a.0.0 family))) x b.2 in
    let d = bind_ok (number_at 2 c.0.1) (λ family. Ok (made a.0.0 family)) x c.2 in
    let p = number_found (as_size as4) s a.0 a.1 in
    let q = number_found (as_size as4) a.0.1 b.0 b.1 in
    let r = number_found 2 b.0.1 c.0 c.1 in
    let t = number_found 2 c.0.1 d.0 d.1 in
    let ends : AreEnds (as_size as4) s.rest (made a.0.0 d.0).0 (made a.0.0 d.0).1.rest = record {
      peer = p.field;
      local = q.field;
      interface = r.field;
      family = t.field;
      spelled = p.spelled ∙ ap (λ l. p.field ++ l) (q.spelled ∙ ap (λ l. q.field ++ l) (r.spelled ∙ ap (λ l. r.field ++ l) t.spelled));
      peer_is = p.holds;
      local_is = q.holds.len;
      interface_is = r.holds.len;
      family_is = t.holds;
    } in
    subst (λ (x : Peer × Spot). AreEnds (as_size as4) s.rest x.0 x.1.rest) (ok_is (made a.0.0 d.0) x d.2) ends

-- what the family tells
family_found : (subtype time : ℕ) (sort : Sort) (peer : Peer) (s : Spot) (item : Item) (over : Bool) → IsSort subtype sort → (peer.family == 1) ≡ over
    → (if over then (if is_state subtype then state_at time peer.asn s else heard_at subtype time peer.asn s) else Ok Skips) ≡ Ok item
    → ((peer.family ≡ 1) × IsOverIpv4 time peer.asn sort s.rest item) ⊎ ((peer.family ≢ 1) × (item ≡ Skips))
family_found subtype time sort peer s item true h f e = inl (eq_of peer.family 1 f, inside_found subtype time peer.asn sort s item h (sym (by_sort subtype sort h time peer.asn s) ∙ e))
family_found subtype time sort peer s item false h f e = inr (not_eq peer.family 1 f, sym (ok_is Skips item e))

session_found : (seconds kind subtype : ℕ) (sort : Sort) (s : Spot) (item : Item) → IsSort subtype sort → (kind ≡ 16) ⊎ (kind ≡ 17) → session_at seconds kind subtype s ≡ Ok item
    → IsSession seconds kind sort s.rest item
unfolding session_at
session_found seconds kind subtype sort s item h k e =
    let told : ℕ × Spot → Peer × Spot → Result Item ℕ = λ micros peer.
    if peer.0.family == 1 then (if is_state subtype then state_at (seconds * 1000000 + micros.0) peer.0.asn peer.1 else heard_at subtype (seconds * 1000000 + micros.0) peer.0.asn peer.1) else Ok Skips in
    let a = bind_ok (microseconds_at kind s) (λ micros. peer_at (is_as4 subtype) micros.1 >>= (λ peer. told micros peer)) item e in
    let b = bind_ok (peer_at (is_as4 subtype) a.0.1) (λ peer. told a.0 peer) item a.2 in
    let p = micros_found kind s a.0 k a.1 in
    let q = subst (λ w. AreEnds (as_size w) a.0.1.rest b.0.0 b.0.1.rest) (wide_is subtype sort h) (peer_found (is_as4 subtype) a.0.1 b.0 b.1) in
    record {
      micros = a.0.0;
      asn = b.0.0.asn;
      family = b.0.0.family;
      micros_field = p.0;
      peer = q.peer;
      local = q.local;
      interface = q.interface;
      family_field = q.family;
      rest = b.0.1.rest;
      spelled = p.2 ∙ ap (λ l. p.0 ++ l) q.spelled;
      micros_are = p.1;
      peer_is = q.peer_is;
      local_is = q.local_is;
      interface_is = q.interface_is;
      family_is = q.family_is;
      inside = family_found subtype (seconds * 1000000 + a.0.0) sort b.0.0 b.0.1 item (b.0.0.family == 1) h refl b.2;
    }

kind_cases : (kind : ℕ) (a b : Bool) → (kind == 16) ≡ a → (kind == 17) ≡ b → ((kind ≡ 16) ⊎ (kind ≡ 17)) ⊎ ((kind ≢ 16) × (kind ≢ 17))
kind_cases kind true b e f = inl (inl (eq_of kind 16 e))
kind_cases kind false true e f = inl (inr (eq_of kind 17 f))
kind_cases kind false false e f = inr (not_eq kind 16 e, not_eq kind 17 f)

is_kind : (kind : ℕ) → (kind ≡ 16) ⊎ (kind ≡ 17) → is_session kind ≡ true
is_kind kind (inl k) = ap is_session k
is_kind kind (inr k) = ap is_session k

no_kind : (kind : ℕ) → kind ≢ 16 → kind ≢ 17 → is_session kind ≡ false
no_kind kind a b = no_kind_by kind (kind == 16) (kind == 17) refl refl a b
  where
    no_kind_by : (kind : ℕ) (x y : Bool) → (kind == 16) ≡ x → (kind == 17) ≡ y → kind ≢ 16 → kind ≢ 17 → x || y ≡ false
    no_kind_by kind true y e f a b = absurd (a (eq_of kind 16 e))
    no_kind_by kind false true e f a b = absurd (b (eq_of kind 17 f))
    no_kind_by kind false false e f a b = refl

-- which way a body goes
abbrev way : ℕ → ℕ → ℕ → Spot → Bool → Bool → Result Item ℕ
way seconds kind subtype s a b = if a && b then session_at seconds kind subtype s else Ok Skips

and_none : (a : Bool) → a && false ≡ false
and_none true = refl
and_none false = refl

body_found : (seconds kind subtype : ℕ) (s : Spot) (item : Item) → item_at seconds kind subtype s ≡ Ok item → IsBody seconds kind subtype s.rest item
body_found seconds kind subtype s item e = elim (kind_cases kind (kind == 16) (kind == 17) refl refl) [
  | inr k ↦ of_other_type k.0 k.1 (sym (ok_is Skips item (sym (ap (λ a. way seconds kind subtype s a (is_state subtype || is_message subtype)) (no_kind kind k.0 k.1)) ∙ e)))
  | inl k ↦ elim (sorted subtype) [
    | inl h ↦ session h.0 h.1 k (session_found seconds kind subtype h.0 s item h.1 k
        (sym (ap (λ a. way seconds kind subtype s a (is_state subtype || is_message subtype)) (is_kind kind k) ∙ ap (λ b. way seconds kind subtype s true b) (read_sort subtype h.0 h.1)) ∙ e))
    | inr h ↦ of_other_subtype h.1 (sym (ok_is Skips item (sym (ap (λ b. way seconds kind subtype s (is_session kind) b) h.0 ∙ ap (λ b. if b then session_at seconds kind subtype s else Ok Skips) (and_none (is_session kind))) ∙ e)))
  ]
]

pub record_found : (s : Spot) (item : Item) (behind : Spot) → record_at s ≡ Ok (item, behind) → IsRecordIn s.rest item behind.rest
unfolding record_at
record_found s item behind e =
    let last : ℕ → ℕ → ℕ → Spot × Spot → Result (Item × Spot) ℕ = λ seconds kind subtype body. item_at seconds kind subtype body.0 >>= (λ item. Ok (item, body.1)) in
    let a = bind_ok (number_at 4 s) (λ seconds. number_at 2 seconds.1 >>= (λ kind. number_at 2 kind.1 >>= (λ subtype. number_at 4 subtype.1 >>= (λ size. part_at size.0 size.1 >>= (λ body. last seconds.0 kind.0 subtype.0 body))))) (item, behind) e in
    let b = bind_ok (number_at 2 a.0.1) (λ kind. number_at 2 kind.1 >>= (λ subtype. number_at 4 subtype.1 >>= (λ size. part_at size.0 size.1 >>= (λ body. last a.0.0 kind.0 subtype.0 body)))) (item, behind) a.2 in
    let c = bind_ok (number_at 2 b.0.1) (λ subtype. number_at 4 subtype.1 >>= (λ size. part_at size.0 size.1 >>= (λ body. last a.0.0 b.0.0 subtype.0 body))) (item, behind) b.2 in
    let d = bind_ok (number_at 4 c.0.1) (λ size. part_at size.0 size.1 >>= (λ body. last a.0.0 b.0.0 c.0.0 body)) (item, behind) c.2 in
    let f = bind_ok (part_at d.0.0 d.0.1) (λ body. last a.0.0 b.0.0 c.0.0 body) (item, behind) d.2 in
    let g = bind_ok (item_at a.0.0 b.0.0 c.0.0 f.0.0) (λ item. Ok (item, f.0.1)) (item, behind) f.2 in
    let ends : (g.0, f.0.1) ≡ (item, behind) = ok_is (g.0, f.0.1) (item, behind) g.2 in
    let p = number_found 4 s a.0 a.1 in
    let q = number_found 2 a.0.1 b.0 b.1 in
    let r = number_found 2 b.0.1 c.0 c.1 in
    let t = number_found 4 c.0.1 d.0 d.1 in
    let u = part_found d.0.0 d.0.1 f.0 f.1 in
    let made : IsRecordIn s.rest g.0 f.0.1.rest = record {
      seconds = a.0.0;
      kind = b.0.0;
      subtype = c.0.0;
      seconds_field = p.field;
      kind_field = q.field;
      subtype_field = r.field;
      size_field = t.field;
      body = f.0.0.rest;
      spelled = p.spelled ∙ ap (λ l. p.field ++ l) (q.spelled ∙ ap (λ l. q.field ++ l) (r.spelled ∙ ap (λ l. r.field ++ l) (t.spelled ∙ ap (λ l. t.field ++ l) u.1)));
      seconds_are = p.holds;
      kind_is = q.holds;
      subtype_is = r.holds;
      sized = subst (λ n. Holds 4 n t.field) (sym u.0) t.holds;
      tells = body_found a.0.0 b.0.0 c.0.0 f.0.0 g.0 g.1;
    } in
    subst (λ (x : Item × Spot). IsRecordIn s.rest x.0 x.1.rest) ends made

-- ---- from the grammar

any_holds : (size : ℕ) (field : List ℕ) → length field ≡ size → Holds size (big_number size field) field
any_holds size field e = record { len = e; value = refl }

addresses_again : (peer at : ℕ) (field local more : List ℕ) → Holds 4 peer field → length local ≡ 4 → addresses_at (spot at (field ++ (local ++ more))) ≡ Ok (peer, spot (at + 4 + 4) more)
addresses_again peer at field local more h e =
    then_back (number_at 4 (spot at (field ++ (local ++ more)))) (λ peer. number_at 4 peer.1 >>= (λ local. Ok (peer.0, local.1))) (peer, spot (at + 4) (local ++ more)) (Ok (peer, spot (at + 4 + 4) more)) (number_again 4 peer at field (local ++ more) h)
    (then_back (number_at 4 (spot (at + 4) (local ++ more))) (λ local. Ok (peer, local.1)) (big_number 4 local, spot (at + 4 + 4) more) (Ok (peer, spot (at + 4 + 4) more)) (number_again 4 (big_number 4 local) (at + 4) local more (any_holds 4 local e)) refl)

state_again : (time asn at : ℕ) (rest : List ℕ) (item : Item) → IsChange time asn rest item → state_at time asn (spot at rest) ≡ Ok item
unfolding state_at
state_again time asn at rest item c =
    let made : ℕ → ℕ → ℕ → Item = λ peer old new. Turns (record { time = time; peer_as = asn; peer = peer; old = old; new = new }) in
    let b = c.old_field ++ (c.new_field ++ c.ignored) in
    ap (λ l. state_at time asn (spot at l)) c.spelled
    ∙ then_back (addresses_at (spot at (c.peer_field ++ (c.local ++ b)))) (λ peer. number_at 2 peer.1 >>= (λ old. number_at 2 old.1 >>= (λ new. Ok (made peer.0 old.0 new.0)))) (c.peer, spot (at + 4 + 4) b) (Ok item)
    (addresses_again c.peer at c.peer_field c.local b c.peer_is c.local_is)
    (then_back (number_at 2 (spot (at + 4 + 4) b)) (λ old. number_at 2 old.1 >>= (λ new. Ok (made c.peer old.0 new.0))) (c.old, spot (at + 4 + 4 + 2) (c.new_field ++ c.ignored)) (Ok item)
    (number_again 2 c.old (at + 4 + 4) c.old_field (c.new_field ++ c.ignored) c.old_is)
    (then_back (number_at 2 (spot (at + 4 + 4 + 2) (c.new_field ++ c.ignored))) (λ new. Ok (made c.peer c.old new.0)) (c.new, spot (at + 4 + 4 + 2 + 2) c.ignored) (Ok item)
    (number_again 2 c.new (at + 4 + 4 + 2) c.new_field c.ignored c.new_is)
    (ap (λ i. let r : Result Item ℕ = Ok i in r) (sym c.tells))))

heard_again : (subtype time asn at : ℕ) (rest : List ℕ) (item : Item) → IsMessage time asn (is_as4 subtype) (is_own subtype) rest item → heard_at subtype time asn (spot at rest) ≡ Ok item
unfolding heard_at
heard_again subtype time asn at rest item c =
    let made : ℕ × Spot → Item = λ peer. Carries (record { time = time; peer_as = asn; peer = peer.0; own = is_own subtype; as4 = is_as4 subtype; raw = peer.1.rest }) in
    ap (λ l. heard_at subtype time asn (spot at l)) c.spelled
    ∙ then_back (addresses_at (spot at (c.peer_field ++ (c.local ++ c.raw)))) (λ peer. Ok (made peer)) (c.peer, spot (at + 4 + 4) c.raw) (Ok item) (addresses_again c.peer at c.peer_field c.local c.raw c.peer_is c.local_is)
    (ap (λ i. let r : Result Item ℕ = Ok i in r) (sym c.tells))

inside_again : (subtype time asn at : ℕ) (sort : Sort) (rest : List ℕ) (item : Item) → IsSort subtype sort → IsOverIpv4 time asn sort rest item → at_sort subtype time asn sort (spot at rest) ≡ Ok item
inside_again subtype time asn at (Change wide) rest item h c = state_again time asn at rest item c
inside_again subtype time asn at (Message wide own) rest item h c =
    heard_again subtype time asn at rest item
    (subst (λ w. IsMessage time asn w (is_own subtype) rest item) (sym (wide_is subtype (Message wide own) h)) (subst (λ o. IsMessage time asn wide o rest item) (sym (own_is subtype wide own h)) c))

micros_again : (kind micros at : ℕ) (field more : List ℕ) → AreMicros kind field micros → (there : ℕ) × (microseconds_at kind (spot at (field ++ more)) ≡ Ok (micros, spot there more))
micros_again kind micros at field more (inl h) = (at, ap (λ l. microseconds_at kind (spot at (l ++ more))) h.1 ∙ ap (λ k. microseconds_at k (spot at more)) h.0 ∙ ap (λ m. let r : Read ℕ = Ok (m, spot at more) in r) (sym h.2))
micros_again kind micros at field more (inr h) = (at + 4, ap (λ k. microseconds_at k (spot at (field ++ more))) h.0 ∙ number_again 4 micros at field more h.1)

peer_again : (as4 : Bool) (asn family at : ℕ) (peer local interface field more : List ℕ) → Holds (as_size as4) asn peer → length local ≡ as_size as4 → length interface ≡ 2 → Holds 2 family field
    → (there : ℕ) × (peer_at as4 (spot at (peer ++ (local ++ (interface ++ (field ++ more))))) ≡ Ok (record { asn = asn; family = family }, spot there more))
unfolding peer_at
peer_again as4 asn family at peer local interface field more h i j k =
    let n = as_size as4 in
    let made : ℕ → ℕ × Spot → Peer × Spot = λ asn family. (record { asn = asn; family = family.0 }, family.1) in
    let last = spot (at + n + n + 2 + 2) more in
    let out : Read Peer = Ok (made asn (family, last)) in (
      at + n + n + 2 + 2,
      then_back (number_at n (spot at (peer ++ (local ++ (interface ++ (field ++ more)))))) (λ peer. number_at n peer.1 >>= (λ local. number_at 2 local.1 >>= (λ interface. number_at 2 interface.1 >>= (λ family. Ok (made peer.0 family)))))
          (asn, spot (at + n) (local ++ (interface ++ (field ++ more)))) out (number_again n asn at peer (local ++ (interface ++ (field ++ more))) h)
          (then_back (number_at n (spot (at + n) (local ++ (interface ++ (field ++ more))))) (λ local. number_at 2 local.1 >>= (λ interface. number_at 2 interface.1 >>= (λ family. Ok (made asn family))))
          (big_number n local, spot (at + n + n) (interface ++ (field ++ more))) out (number_again n (big_number n local) (at + n) local (interface ++ (field ++ more)) (any_holds n local i))
          (then_back (number_at 2 (spot (at + n + n) (interface ++ (field ++ more)))) (λ interface. number_at 2 interface.1 >>= (λ family. Ok (made asn family)))
          (big_number 2 interface, spot (at + n + n + 2) (field ++ more)) out (number_again 2 (big_number 2 interface) (at + n + n) interface (field ++ more) (any_holds 2 interface j))
          (then_back (number_at 2 (spot (at + n + n + 2) (field ++ more))) (λ family. Ok (made asn family)) (family, last) out (number_again 2 family (at + n + n + 2) field more k) refl))),
    )

not_same : (n m : ℕ) → n ≢ m → (n == m) ≡ false
not_same n m h = not_same_by n m (n == m) refl h
  where
    not_same_by : (n m : ℕ) (b : Bool) → (n == m) ≡ b → n ≢ m → b ≡ false
    not_same_by n m true e h = absurd (h (eq_of n m e))
    not_same_by n m false e h = refl

family_again : (subtype time : ℕ) (sort : Sort) (peer : Peer) (at : ℕ) (rest : List ℕ) (item : Item) → IsSort subtype sort
    → ((peer.family ≡ 1) × IsOverIpv4 time peer.asn sort rest item) ⊎ ((peer.family ≢ 1) × (item ≡ Skips))
    → (if peer.family == 1 then (if is_state subtype then state_at time peer.asn (spot at rest) else heard_at subtype time peer.asn (spot at rest)) else Ok Skips) ≡ Ok item
family_again subtype time sort peer at rest item h (inl c) =
    let inner = if is_state subtype then state_at time peer.asn (spot at rest) else heard_at subtype time peer.asn (spot at rest) in
    ap (λ b. if b then inner else Ok Skips) ((Decides-eqb peer.family 1).1 c.0) ∙ by_sort subtype sort h time peer.asn (spot at rest) ∙ inside_again subtype time peer.asn at sort rest item h c.1
family_again subtype time sort peer at rest item h (inr c) =
    let inner = if is_state subtype then state_at time peer.asn (spot at rest) else heard_at subtype time peer.asn (spot at rest) in
    ap (λ b. if b then inner else Ok Skips) (not_same peer.family 1 c.0) ∙ ap (λ i. let r : Result Item ℕ = Ok i in r) (sym c.1)

session_again : (seconds kind subtype at : ℕ) (sort : Sort) (body : List ℕ) (item : Item) → IsSort subtype sort → IsSession seconds kind sort body item → session_at seconds kind subtype (spot at body) ≡ Ok item
unfolding session_at
session_again seconds kind subtype at sort body item h c =
    let told : ℕ × Spot → Peer × Spot → Result Item ℕ = λ micros peer.
    if peer.0.family == 1 then (if is_state subtype then state_at (seconds * 1000000 + micros.0) peer.0.asn peer.1 else heard_at subtype (seconds * 1000000 + micros.0) peer.0.asn peer.1) else Ok Skips in
    let more = c.peer ++ (c.local ++ (c.interface ++ (c.family_field ++ c.rest))) in
    let a = micros_again kind c.micros at c.micros_field more c.micros_are in
    let w = sym (wide_is subtype sort h) in
    let b = peer_again (is_as4 subtype) c.asn c.family a.0 c.peer c.local c.interface c.family_field c.rest
    (subst (λ w. Holds (as_size w) c.asn c.peer) w c.peer_is) (subst (λ w. length c.local ≡ as_size w) w c.local_is) c.interface_is c.family_is in
    ap (λ l. session_at seconds kind subtype (spot at l)) c.spelled
    ∙ then_back (microseconds_at kind (spot at (c.micros_field ++ more))) (λ micros. peer_at (is_as4 subtype) micros.1 >>= (λ peer. told micros peer)) (c.micros, spot a.0 more) (Ok item) a.1
    (then_back (peer_at (is_as4 subtype) (spot a.0 more)) (λ peer. told (c.micros, spot a.0 more) peer) (record { asn = c.asn; family = c.family }, spot b.0 c.rest) (Ok item) b.1
    (family_again subtype (seconds * 1000000 + c.micros) sort (record { asn = c.asn; family = c.family }) b.0 c.rest item h c.inside))

no_subtype : (n : ℕ) → ((sort : Sort) → IsSort n sort → ⊥) → is_state n || is_message n ≡ false
no_subtype n h = elim (sorted n) [ inl s ↦ absurd (h s.0 s.1) | inr s ↦ s.0 ]

body_again : (seconds kind subtype at : ℕ) (body : List ℕ) (item : Item) → IsBody seconds kind subtype body item → item_at seconds kind subtype (spot at body) ≡ Ok item
body_again seconds kind subtype at body item (session sort h k c) =
    ap (λ a. way seconds kind subtype (spot at body) a (is_state subtype || is_message subtype)) (is_kind kind k) ∙ ap (λ b. way seconds kind subtype (spot at body) true b) (read_sort subtype sort h)
    ∙ session_again seconds kind subtype at sort body item h c
body_again seconds kind subtype at body item (of_other_type a b e) =
    ap (λ a. way seconds kind subtype (spot at body) a (is_state subtype || is_message subtype)) (no_kind kind a b) ∙ ap (λ i. let r : Result Item ℕ = Ok i in r) (sym e)
body_again seconds kind subtype at body item (of_other_subtype h e) =
    ap (λ b. way seconds kind subtype (spot at body) (is_session kind) b) (no_subtype subtype h) ∙ ap (λ b. if b then session_at seconds kind subtype (spot at body) else Ok Skips) (and_none (is_session kind))
    ∙ ap (λ i. let r : Result Item ℕ = Ok i in r) (sym e)

pub record_again : (s : Spot) (item : Item) (more : List ℕ) → IsRecordIn s.rest item more → (behind : Spot) × (record_at s ≡ Ok (item, behind)) × (behind.rest ≡ more)
unfolding record_at
record_again s item more c =
    let last : ℕ → ℕ → ℕ → Spot × Spot → Result (Item × Spot) ℕ = λ seconds kind subtype body. item_at seconds kind subtype body.0 >>= (λ item. Ok (item, body.1)) in
    let n = length c.body in
    let e = c.body ++ more in
    let d = c.size_field ++ e in
    let b = c.subtype_field ++ d in
    let a = c.kind_field ++ b in
    let behind = spot (s.at + 4 + 2 + 2 + 4 + n) more in
    let out : Read Item = Ok (item, behind) in (
      behind,
      ap (λ l. record_at (spot s.at l)) c.spelled
          ∙ then_back (number_at 4 (spot s.at (c.seconds_field ++ a))) (λ seconds. number_at 2 seconds.1 >>= (λ kind. number_at 2 kind.1 >>= (λ subtype. number_at 4 subtype.1 >>= (λ size. part_at size.0 size.1 >>= (λ body. last seconds.0 kind.0 subtype.0 body)))))
          (c.seconds, spot (s.at + 4) a) out (number_again 4 c.seconds s.at c.seconds_field a c.seconds_are)
          (then_back (number_at 2 (spot (s.at + 4) a)) (λ kind. number_at 2 kind.1 >>= (λ subtype. number_at 4 subtype.1 >>= (λ size. part_at size.0 size.1 >>= (λ body. last c.seconds kind.0 subtype.0 body))))
          (c.kind, spot (s.at + 4 + 2) b) out (number_again 2 c.kind (s.at + 4) c.kind_field b c.kind_is)
          (then_back (number_at 2 (spot (s.at + 4 + 2) b)) (λ subtype. number_at 4 subtype.1 >>= (λ size. part_at size.0 size.1 >>= (λ body. last c.seconds c.kind subtype.0 body)))
          (c.subtype, spot (s.at + 4 + 2 + 2) d) out (number_again 2 c.subtype (s.at + 4 + 2) c.subtype_field d c.subtype_is)
          (then_back (number_at 4 (spot (s.at + 4 + 2 + 2) d)) (λ size. part_at size.0 size.1 >>= (λ body. last c.seconds c.kind c.subtype body))
          (n, spot (s.at + 4 + 2 + 2 + 4) e) out (number_again 4 n (s.at + 4 + 2 + 2) c.size_field e c.sized)
          (then_back (part_at n (spot (s.at + 4 + 2 + 2 + 4) e)) (λ body. last c.seconds c.kind c.subtype body) (spot (s.at + 4 + 2 + 2 + 4) c.body, behind) out (part_back n (s.at + 4 + 2 + 2 + 4) c.body more refl)
          (then_back (item_at c.seconds c.kind c.subtype (spot (s.at + 4 + 2 + 2 + 4) c.body)) (λ item. Ok (item, behind)) item out (body_again c.seconds c.kind c.subtype (s.at + 4 + 2 + 2 + 4) c.body item c.tells) refl))))),
      refl,
    )
