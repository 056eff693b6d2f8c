-- What is read as a content is of its kind, is in its ranges, and is spelled as it was read.
use Rattle.std.proofs.Common.{◌≡◌, ℕ, zero, suc, ◌+◌, ◌^◌, ◌<◌, ◌≤◌, ◌⊎◌, inl, inr, Bool, true, false, cond, eqb, ltb, leb, ◌||◌, List, [], ◌∷◌, ◌++◌, length, Option, Some, None, Result, Ok, Err, refl, sym, ap, subst, ◌∙◌, append-nil, arith}
use Rattle.std.specs.Result.{result_ok}
use Rattle.std.proofs.lemmas.Bool.{ltb-true, leb-true, eqb-true}
use Rattle.std.proofs.lemmas.List.{nil_from_length}
use Rattle.byteorder.specs.Endian.{big_bytes}
use Rattle.nr_spec_wire.specs.Reading.{Spot, Read, ◌>>=◌, start_of, wants, ends_at, IsBytes}
use Rattle.nr_spec_wire.proofs.Steps.{ok_is, bind_ok}
use Rattle.nr_spec_log.specs.Authenticator.{digest_size}
use Rattle.nr_laws_log.specs.Laws.{Takes}
use Rattle.nr_laws_log.proofs.Fields.{number_text, text_step, bytes_step, wants_step}
use Rattle.nr_spec_entry.specs.Contents.{Ack, Checkpoint, Commit, Content, IsContent, Promise, Recv, Send, State, auditor, content_bytes, exchange_bytes, flag, kind_of, most_delay, most_neighbours}
use Rattle.nr_spec_entry.specs.ContentReading.{Exchange, ack_at, checkpoint_at, commit_at, content_at, content_in, exchange_at, neighbour_at, promise_at, state_at}
use Rattle.nr_laws_entry.specs.Fits.{HasBytes}

-- ---- texts one after another

goes : (r t a b : List ℕ) → r ≡ t ++ a → a ≡ b → r ≡ t ++ b
goes r t a b e f = e ∙ ap (λ (x : List ℕ). t ++ x) f

stops : (r t a : List ℕ) → r ≡ t ++ a → length a ≡ 0 → r ≡ t
stops r t a e none =
    let nothing : a ≡ [] = nil_from_length a none in
    e ∙ (ap (λ (x : List ℕ). t ++ x) nothing ∙ append-nil t)

bytes_tail : (b : ℕ) (xs : List ℕ) → IsBytes (b ∷ xs) → IsBytes xs
bytes_tail b xs h i = h (suc i)

bytes_left : (xs ys : List ℕ) → IsBytes (xs ++ ys) → IsBytes xs
bytes_left [] ys h i = omega arith
bytes_left (x ∷ xs) ys h zero = h 0
bytes_left (x ∷ xs) ys h (suc i) = bytes_left xs ys (bytes_tail x (xs ++ ys) h) i

taken : (s : Spot) (text : List ℕ) (new : Spot) → IsBytes s.rest → Takes s text new → IsBytes text
taken s text new fits t = bytes_left text new.rest (subst IsBytes t.parts fits)

-- ---- the end

abbrev ended : {A : Type 0} → Bool → A → ℕ → Result A ℕ
ended t x place = cond t (Ok x) (Err place)

ended_ok : {A : Type 0} (rest : List ℕ) (t : Bool) (x y : A) (place : ℕ) → eqb (length rest) 0 ≡ t → ended t x place ≡ Ok y → (length rest ≡ 0) × (x ≡ y)
ended_ok rest true x y place is e = (eqb-true _ _ is, ok_is x y e)
ended_ok rest false x y place is e = absurd cc

ends_ok : {A : Type 0} (s : Spot) (x y : A) → ends_at s x ≡ Ok y → (length s.rest ≡ 0) × (x ≡ y)
ends_ok s x y e = ended_ok s.rest (eqb (length s.rest) 0) x y s.at refl e

-- ---- a content that was found in a text

record IsFound (kind : ℕ) (text : List ℕ) (c : Content) : Type 0 where
  pub kind_is : kind ≡ kind_of c
  pub spelled : text ≡ content_bytes c
  pub ranges : IsContent c
  pub bytes : HasBytes c

-- ---- the neighbour

record IsNeighbour {B : Type 0} (s : Spot) (f : ℕ × Spot → Result B ℕ) (y : B) : Type 0 where
  pub value : ℕ
  pub next : Spot
  pub low : value < most_neighbours
  pub takes : Takes s (number_text 2 value) next
  pub goes_on : f (value, next) ≡ Ok y

neighbour_step : {B : Type 0} (s : Spot) (f : ℕ × Spot → Result B ℕ) (y : B) → IsBytes s.rest → (neighbour_at s >>= f) ≡ Ok y → IsNeighbour s f y
neighbour_step s f y fits e =
    let n = bind_ok (neighbour_at s) f y e in
    let a = text_step 2 s _ n.0 fits n.1 in
    let is = wants_step (ltb a.value most_neighbours) s.at (a.value, a.next) (λ x. Ok x) n.0 (again (wants (ltb a.value most_neighbours) s.at (a.value, a.next)) n.0 a.goes_on) in
    let made : IsNeighbour s f y = record { value = a.value; next = a.next; low = ltb-true _ _ is.0; takes = a.takes; goes_on = subst (λ (x : ℕ × Spot). f x ≡ Ok y) (sym (ok_is (a.value, a.next) n.0 is.1)) n.2 } in
    made
  where
    again : (r : Read ℕ) (x : ℕ × Spot) → r ≡ Ok x → (r >>= (λ x. Ok x)) ≡ Ok x
    again r x e = ap (λ (t : Read ℕ). t >>= (λ x. Ok x)) e

-- ---- messages

flag_of_one : (n : ℕ) → n ≤ 1 → flag (eqb n 1) ≡ n
flag_of_one zero h = refl
flag_of_one (suc zero) h = refl
flag_of_one (suc (suc n)) h = absurd (omega arith)

record IsExchange (text : List ℕ) (x : Exchange) : Type 0 where
  pub neighbour : x.neighbour < most_neighbours
  pub spelled : text ≡ exchange_bytes x.neighbour x.as4 x.raw
  pub bytes : IsBytes x.raw

exchange_text : (r r1 r2 : List ℕ) (n any : ℕ) → any ≤ 1 → r ≡ number_text 2 n ++ r1 → r1 ≡ number_text 1 any ++ r2 → r ≡ exchange_bytes n (eqb any 1) r2
unfolding number_text
exchange_text r r1 r2 n any most e f =
    goes r (big_bytes 2 n) r1 _ e (f ∙ ap (λ (m : ℕ). big_bytes 1 m ++ r2) (sym (flag_of_one any most)))

exchange_found : (s : Spot) (x : Exchange) → IsBytes s.rest → exchange_at s ≡ Ok x → IsExchange s.rest x
unfolding exchange_at
exchange_found s x fits e =
    let n = neighbour_step s _ x fits e in
    let a = text_step 1 n.next _ x n.takes.rest_fits n.goes_on in
    let is = wants_step (leb a.value 1) n.next.at (a.value, a.next) _ x a.goes_on in
    let read : Exchange = record { neighbour = n.value; as4 = eqb a.value 1; raw = a.next.rest } in
    let found : IsExchange s.rest read = record {
      neighbour = n.low;
      spelled = exchange_text s.rest n.next.rest a.next.rest n.value a.value (leb-true _ _ is.0) n.takes.parts a.takes.parts;
      bytes = a.takes.rest_fits;
    } in
    subst (λ (y : Exchange). IsExchange s.rest y) (ok_is read x is.1) found

-- ---- the other kinds

state_text : (r r1 r2 r3 : List ℕ) (n old new : ℕ) → r ≡ number_text 2 n ++ r1 → r1 ≡ number_text 2 old ++ r2 → r2 ≡ number_text 2 new ++ r3 → length r3 ≡ 0
    → r ≡ content_bytes (State n old new)
unfolding number_text
state_text r r1 r2 r3 n old new e f g none =
    goes r (big_bytes 2 n) r1 _ e (goes r1 (big_bytes 2 old) r2 _ f (stops r2 (big_bytes 2 new) r3 g none))

state_found : (s : Spot) (c : Content) → IsBytes s.rest → state_at s ≡ Ok c → IsFound 3 s.rest c
unfolding state_at
state_found s c fits e =
    let n = neighbour_step s _ c fits e in
    let a = text_step 2 n.next _ c n.takes.rest_fits n.goes_on in
    let b = text_step 2 a.next _ c a.takes.rest_fits a.goes_on in
    let end = ends_ok b.next (State n.value a.value b.value) c b.goes_on in
    let a_low : a.value < 2 ^ 16 = omega (arith, a.value_fits) in
    let b_low : b.value < 2 ^ 16 = omega (arith, b.value_fits) in
    let found : IsFound 3 s.rest (State n.value a.value b.value) = record {
      kind_is = refl;
      spelled = state_text s.rest n.next.rest a.next.rest b.next.rest n.value a.value b.value n.takes.parts a.takes.parts b.takes.parts end.0;
      ranges = (n.low, a_low, b_low);
      bytes = tt;
    } in
    subst (IsFound 3 s.rest) end.1 found

ack_text : (r r1 r2 r3 r4 r5 r6 : List ℕ) (n upto seq time : ℕ) (hash sig : List ℕ) → r ≡ number_text 2 n ++ r1 → r1 ≡ number_text 8 upto ++ r2 → r2 ≡ number_text 8 seq ++ r3
    → r3 ≡ number_text 8 time ++ r4 → r4 ≡ hash ++ r5 → r5 ≡ sig ++ r6 → length r6 ≡ 0 → r ≡ content_bytes (Ack n upto seq time hash sig)
unfolding number_text
ack_text r r1 r2 r3 r4 r5 r6 n upto seq time hash sig e f g h k l none =
    goes r (big_bytes 2 n) r1 _ e (goes r1 (big_bytes 8 upto) r2 _ f (goes r2 (big_bytes 8 seq) r3 _ g
    (goes r3 (big_bytes 8 time) r4 _ h (goes r4 hash r5 _ k (stops r5 sig r6 l none)))))

ack_found : (s : Spot) (c : Content) → IsBytes s.rest → ack_at s ≡ Ok c → IsFound 4 s.rest c
unfolding ack_at
ack_found s c fits e =
    let n = neighbour_step s _ c fits e in
    let a = text_step 8 n.next _ c n.takes.rest_fits n.goes_on in
    let b = text_step 8 a.next _ c a.takes.rest_fits a.goes_on in
    let d = text_step 8 b.next _ c b.takes.rest_fits b.goes_on in
    let h = bytes_step digest_size d.next _ c d.takes.rest_fits d.goes_on in
    let g = bytes_step digest_size h.next _ c h.takes.rest_fits h.goes_on in
    let end = ends_ok g.next (Ack n.value a.value b.value d.value h.value g.value) c g.goes_on in
    let a_low : a.value < 2 ^ 64 = omega (arith, a.value_fits) in
    let b_low : b.value < 2 ^ 64 = omega (arith, b.value_fits) in
    let d_low : d.value < 2 ^ 64 = omega (arith, d.value_fits) in
    let found : IsFound 4 s.rest (Ack n.value a.value b.value d.value h.value g.value) = record {
      kind_is = refl;
      spelled = ack_text s.rest n.next.rest a.next.rest b.next.rest d.next.rest h.next.rest g.next.rest n.value a.value b.value d.value h.value g.value
          n.takes.parts a.takes.parts b.takes.parts d.takes.parts h.takes.parts g.takes.parts end.0;
      ranges = (n.low, a_low, b_low, d_low, h.value_fits, g.value_fits);
      bytes = (taken d.next h.value h.next d.takes.rest_fits h.takes, taken h.next g.value g.next h.takes.rest_fits g.takes);
    } in
    subst (IsFound 4 s.rest) {x = Ack n.value a.value b.value d.value h.value g.value} end.1 found

commit_text : (r r1 r2 : List ℕ) (n leaf : ℕ) → r ≡ number_text 2 n ++ r1 → r1 ≡ number_text 4 leaf ++ r2 → length r2 ≡ 0 → r ≡ content_bytes (Commit n leaf)
unfolding number_text
commit_text r r1 r2 n leaf e f none = goes r (big_bytes 2 n) r1 _ e (stops r1 (big_bytes 4 leaf) r2 f none)

either : (n : ℕ) (b d : Bool) → ltb n most_neighbours ≡ b → eqb n auditor ≡ d → (b || d) ≡ true → (n < most_neighbours) ⊎ (n ≡ auditor)
either n true d e f h = inl (ltb-true _ _ e)
either n false true e f h = inr (eqb-true _ _ f)
either n false false e f h = absurd cc

commit_found : (s : Spot) (c : Content) → IsBytes s.rest → commit_at s ≡ Ok c → IsFound 5 s.rest c
unfolding commit_at
commit_found s c fits e =
    let a = text_step 2 s _ c fits e in
    let is = wants_step (ltb a.value most_neighbours || eqb a.value auditor) s.at (a.value, a.next) _ c a.goes_on in
    let b = text_step 4 a.next _ c a.takes.rest_fits is.1 in
    let end = ends_ok b.next (Commit a.value b.value) c b.goes_on in
    let b_low : b.value < 2 ^ 32 = omega (arith, b.value_fits) in
    let found : IsFound 5 s.rest (Commit a.value b.value) = record {
      kind_is = refl;
      spelled = commit_text s.rest a.next.rest b.next.rest a.value b.value a.takes.parts b.takes.parts end.0;
      ranges = (either a.value (ltb a.value most_neighbours) (eqb a.value auditor) refl refl is.0, b_low);
      bytes = tt;
    } in
    subst (IsFound 5 s.rest) end.1 found

checkpoint_found : (s : Spot) (c : Content) → IsBytes s.rest → checkpoint_at s ≡ Ok c → IsFound 6 s.rest c
unfolding checkpoint_at
checkpoint_found s c fits e =
    let a = bytes_step digest_size s _ c fits e in
    let end = ends_ok a.next (Checkpoint a.value) c a.goes_on in
    let found : IsFound 6 s.rest (Checkpoint a.value) = record {
      kind_is = refl;
      spelled = stops s.rest a.value a.next.rest a.takes.parts end.0;
      ranges = a.value_fits;
      bytes = taken s a.value a.next fits a.takes;
    } in
    subst (IsFound 6 s.rest) end.1 found

promise_text : (r r1 r2 r3 file : List ℕ) (count delay : ℕ) → r ≡ file ++ r1 → r1 ≡ number_text 2 count ++ r2 → r2 ≡ number_text 4 delay ++ r3 → length r3 ≡ 0
    → r ≡ content_bytes (Promise file count delay)
unfolding number_text
promise_text r r1 r2 r3 file count delay e f g none =
    goes r file r1 _ e (goes r1 (big_bytes 2 count) r2 _ f (stops r2 (big_bytes 4 delay) r3 g none))

promise_found : (s : Spot) (c : Content) → IsBytes s.rest → promise_at s ≡ Ok c → IsFound 7 s.rest c
unfolding promise_at
promise_found s c fits e =
    let a = bytes_step digest_size s _ c fits e in
    let b = text_step 2 a.next _ c a.takes.rest_fits a.goes_on in
    let b_is = wants_step (leb b.value most_neighbours) a.next.at (b.value, b.next) _ c b.goes_on in
    let d = text_step 4 b.next _ c b.takes.rest_fits b_is.1 in
    let d_is = wants_step (leb d.value most_delay) b.next.at (d.value, d.next) _ c d.goes_on in
    let end = ends_ok d.next (Promise a.value b.value d.value) c d_is.1 in
    let found : IsFound 7 s.rest (Promise a.value b.value d.value) = record {
      kind_is = refl;
      spelled = promise_text s.rest a.next.rest b.next.rest d.next.rest a.value b.value d.value a.takes.parts b.takes.parts d.takes.parts end.0;
      ranges = (a.value_fits, leb-true _ _ b_is.0, leb-true _ _ d_is.0);
      bytes = taken s a.value a.next fits a.takes;
    } in
    subst (IsFound 7 s.rest) end.1 found

-- ---- any kind

pick : {P : Type 0} (kind k : ℕ) (b : Bool) (x y : Result Content ℕ) (c : Content) → eqb kind k ≡ b → (kind ≡ k → x ≡ Ok c → P) → (y ≡ Ok c → P) → cond b x y ≡ Ok c → P
pick kind k true x y c is f g e = f (eqb-true kind k is) e
pick kind k false x y c is f g e = g e

message_found : (kind : ℕ) (s : Spot) (c : Content) (make : Exchange → Content)
    → ((x : Exchange) → IsExchange s.rest x → IsFound kind s.rest (make x)) → IsBytes s.rest → (exchange_at s >>= (λ x. Ok (make x))) ≡ Ok c → IsFound kind s.rest c
message_found kind s c make found fits e =
    let x = bind_ok (exchange_at s) (λ x. Ok (make x)) c e in
    subst (IsFound kind s.rest) (ok_is (make x.0) c x.2) (found x.0 (exchange_found s x.0 fits x.1))

sent_is : (text : List ℕ) (x : Exchange) → IsExchange text x → IsFound 1 text (Send x.neighbour x.as4 x.raw)
sent_is text x h = record { kind_is = refl; spelled = h.spelled; ranges = h.neighbour; bytes = h.bytes }

received_is : (text : List ℕ) (x : Exchange) → IsExchange text x → IsFound 2 text (Recv x.neighbour x.as4 x.raw)
received_is text x h = record { kind_is = refl; spelled = h.spelled; ranges = h.neighbour; bytes = h.bytes }

of_kind : (kind k : ℕ) (text : List ℕ) (c : Content) → kind ≡ k → IsFound k text c → IsFound kind text c
of_kind kind k text c is h = record { kind_is = is ∙ h.kind_is; spelled = h.spelled; ranges = h.ranges; bytes = h.bytes }

at_found : (kind : ℕ) (s : Spot) (c : Content) → IsBytes s.rest → content_at kind s ≡ Ok c → IsFound kind s.rest c
unfolding content_at
at_found kind s c fits e =
    pick kind 1 (eqb kind 1) _ _ c refl (λ is h. of_kind kind 1 s.rest c is (message_found 1 s c (λ x. Send x.neighbour x.as4 x.raw) (sent_is s.rest) fits h))
    (pick kind 2 (eqb kind 2) _ _ c refl (λ is h. of_kind kind 2 s.rest c is (message_found 2 s c (λ x. Recv x.neighbour x.as4 x.raw) (received_is s.rest) fits h))
    (pick kind 3 (eqb kind 3) _ _ c refl (λ is h. of_kind kind 3 s.rest c is (state_found s c fits h))
    (pick kind 4 (eqb kind 4) _ _ c refl (λ is h. of_kind kind 4 s.rest c is (ack_found s c fits h))
    (pick kind 5 (eqb kind 5) _ _ c refl (λ is h. of_kind kind 5 s.rest c is (commit_found s c fits h))
    (pick kind 6 (eqb kind 6) _ _ c refl (λ is h. of_kind kind 6 s.rest c is (checkpoint_found s c fits h))
    (pick kind 7 (eqb kind 7) _ _ c refl (λ is h. of_kind kind 7 s.rest c is (promise_found s c fits h)) (λ h. absurd cc))))))) e

from_ok : (r : Result Content ℕ) (c : Content) → result_ok r ≡ Some c → r ≡ Ok c
from_ok (Ok x) c e = let h : x ≡ c = some_is x c e in ap (λ (y : Content). Ok y) h
  where
    some_is : (x y : Content) → (let a : Option Content = Some x in a) ≡ Some y → x ≡ y
    some_is x y e = cc
from_ok (Err p) c e = absurd cc

pub content_found : (kind : ℕ) (bytes : List ℕ) (c : Content) → IsBytes bytes → content_in kind bytes ≡ Some c
    → (kind ≡ kind_of c) × (bytes ≡ content_bytes c) × IsContent c × HasBytes c
content_found kind bytes c fits e =
    let h = at_found kind (start_of bytes) c fits (from_ok (content_at kind (start_of bytes)) c e) in
    (h.kind_is, h.spelled, h.ranges, h.bytes)
