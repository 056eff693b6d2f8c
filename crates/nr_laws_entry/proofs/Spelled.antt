-- What is spelled as a content is read as that content.
use Rattle.std.proofs.Common.{◌≡◌, ℕ, ◌+◌, ◌^◌, ◌<◌, ◌≤◌, ◌⊎◌, inl, inr, Bool, true, false, eqb, ltb, leb, ◌||◌, List, [], ◌++◌, length, Option, Some, Result, Ok, refl, sym, ap, ◌∙◌, append_assoc, append-nil, arith}
use Rattle.std.proofs.lemmas.Bool.{lt-ltb, le-leb, eq-eqb}
use Rattle.std.specs.Result.{result_ok}
use Rattle.byteorder.specs.Endian.{big_bytes}
use Rattle.nr_spec_wire.specs.Reading.{Spot, ◌>>=◌, start_of, wants, ends_at}
use Rattle.nr_spec_log.specs.Authenticator.{digest_size}
use Rattle.nr_laws_log.proofs.Fields.{number_again, bytes_again, reads_then, wants_then}
use Rattle.nr_spec_entry.specs.Contents.{Ack, Checkpoint, Commit, Content, IsContent, Promise, Recv, Send, State, auditor, content_bytes, exchange_bytes, flag, kind_of, most_delay, most_neighbours}
use Rattle.nr_spec_entry.specs.ContentReading.{Exchange, ack_at, checkpoint_at, commit_at, content_at, content_in, exchange_at, neighbour_at, promise_at, state_at}

wants_is : {A : Type 0} (test : Bool) (place : ℕ) (x : A) → test ≡ true → wants test place x ≡ Ok x
wants_is true place x e = refl
wants_is false place x e = absurd cc

abbrev spot : ℕ → List ℕ → Spot
spot at rest = record { at = at; rest = rest }

neighbour_again : (n at : ℕ) (rest : List ℕ) → n < most_neighbours → neighbour_at (spot at (big_bytes 2 n ++ rest)) ≡ Ok (n, spot (at + length (big_bytes 2 n)) rest)
neighbour_again n at rest lt = reads_then _ _ _ _ (number_again 2 n at rest (omega arith)) (wants_is (ltb n most_neighbours) at _ (lt-ltb _ _ lt))

flag_least : (as4 : Bool) → flag as4 < 256 ^ 1
flag_least true = omega arith
flag_least false = omega arith

flag_most : (as4 : Bool) → leb (flag as4) 1 ≡ true
flag_most true = refl
flag_most false = refl

flag_is : (as4 : Bool) → eqb (flag as4) 1 ≡ as4
flag_is true = refl
flag_is false = refl

ends_again : {A : Type 0} (at : ℕ) (rest : List ℕ) (x : A) → length rest ≡ 0 → ends_at (spot at rest) x ≡ Ok x
ends_again at rest x e = rw (eq-eqb (length rest) 0 e) refl

-- The places and what stands after it are variables, so that nothing computes.
exchange_again : (n : ℕ) (as4 : Bool) (raw : List ℕ) (at : ℕ) → n < most_neighbours → exchange_at (spot at (big_bytes 2 n ++ (big_bytes 1 (flag as4) ++ raw))) ≡ Ok (record { neighbour = n; as4 = as4; raw = raw })
unfolding exchange_at
exchange_again n as4 raw at lt =
    let a1 = at + length (big_bytes 2 n) in
    let r1 = big_bytes 1 (flag as4) ++ raw in
    let neighbour = neighbour_again n at r1 lt in
    let bit = number_again 1 (flag as4) a1 raw (flag_least as4) in
    let is = flag_most as4 in
    let last = ap (λ (b : Bool). let x : Exchange = record { neighbour = n; as4 = b; raw = raw } in let y : Result Exchange ℕ = Ok x in y) (flag_is as4) in
    reads_then _ _ _ _ neighbour (reads_then _ _ _ _ bit (wants_then (leb (flag as4) 1) a1 _ _ _ is last))

commit_again : (n leaf at : ℕ) (rest : List ℕ) → (n < most_neighbours) ⊎ (n ≡ auditor) → leaf < 2 ^ 32 → length rest ≡ 0 → commit_at (spot at (big_bytes 2 n ++ (big_bytes 4 leaf ++ rest))) ≡ Ok (Commit n leaf)
unfolding commit_at
commit_again n leaf at rest who lt end =
    let small : n < 256 ^ 2 = elim who [ inl h ↦ omega arith | inr h ↦ omega arith ] in
    let is : (ltb n most_neighbours || eqb n auditor) ≡ true = elim who as (λ _. (ltb n most_neighbours || eqb n auditor) ≡ true) [ inl h ↦ rw (lt-ltb n most_neighbours h) refl | inr h ↦ rw h refl ] in
    let low : leaf < 256 ^ 4 = omega arith in
    let a1 = at + length (big_bytes 2 n) in
    let to = number_again 2 n at (big_bytes 4 leaf ++ rest) small in
    let of = number_again 4 leaf a1 rest low in
    let last = ends_again (a1 + length (big_bytes 4 leaf)) rest (Commit n leaf) end in
    reads_then _ _ _ _ to (wants_then (ltb n most_neighbours || eqb n auditor) at _ _ _ is (reads_then _ _ _ _ of last))

state_again : (n old new at : ℕ) (rest : List ℕ) → n < most_neighbours → old < 2 ^ 16 → new < 2 ^ 16 → length rest ≡ 0 → state_at (spot at (big_bytes 2 n ++ (big_bytes 2 old ++ (big_bytes 2 new ++ rest)))) ≡ Ok (State n old new)
unfolding state_at
state_again n old new at rest lt o w end =
    let a1 = at + length (big_bytes 2 n) in
    let a2 = a1 + length (big_bytes 2 old) in
    let neighbour = neighbour_again n at (big_bytes 2 old ++ (big_bytes 2 new ++ rest)) lt in
    let low : old < 256 ^ 2 = omega arith in
    let low_too : new < 256 ^ 2 = omega arith in
    let from = number_again 2 old a1 (big_bytes 2 new ++ rest) low in
    let to = number_again 2 new a2 rest low_too in
    let last = ends_again (a2 + length (big_bytes 2 new)) rest (State n old new) end in
    reads_then _ _ _ _ neighbour (reads_then _ _ _ _ from (reads_then _ _ _ _ to last))

ack_again : (n upto seq time : ℕ) (hash sig : List ℕ) (at : ℕ) (rest : List ℕ) → n < most_neighbours → upto < 2 ^ 64 → seq < 2 ^ 64 → time < 2 ^ 64 → length hash ≡ digest_size → length sig ≡ digest_size → length rest ≡ 0
    → ack_at (spot at (big_bytes 2 n ++ (big_bytes 8 upto ++ (big_bytes 8 seq ++ (big_bytes 8 time ++ (hash ++ (sig ++ rest))))))) ≡ Ok (Ack n upto seq time hash sig)
unfolding ack_at
ack_again n upto seq time hash sig at rest lt u s t h g end =
    let r5 = sig ++ rest in
    let r4 = hash ++ r5 in
    let r3 = big_bytes 8 time ++ r4 in
    let r2 = big_bytes 8 seq ++ r3 in
    let a1 = at + length (big_bytes 2 n) in
    let a2 = a1 + length (big_bytes 8 upto) in
    let a3 = a2 + length (big_bytes 8 seq) in
    let a4 = a3 + length (big_bytes 8 time) in
    let a5 = a4 + length hash in
    let low1 : upto < 256 ^ 8 = omega arith in
    let low2 : seq < 256 ^ 8 = omega arith in
    let low3 : time < 256 ^ 8 = omega arith in
    let neighbour = neighbour_again n at (big_bytes 8 upto ++ r2) lt in
    let f1 = number_again 8 upto a1 r2 low1 in
    let f2 = number_again 8 seq a2 r3 low2 in
    let f3 = number_again 8 time a3 r4 low3 in
    let f4 = bytes_again digest_size hash a4 r5 h in
    let f5 = bytes_again digest_size sig a5 rest g in
    let last = ends_again (a5 + length sig) rest (Ack n upto seq time hash sig) end in
    reads_then _ _ _ _ neighbour (reads_then _ _ _ _ f1 (reads_then _ _ _ _ f2 (reads_then _ _ _ _ f3 (reads_then _ _ _ _ f4 (reads_then _ _ _ _ f5 last)))))

checkpoint_again : (body : List ℕ) (at : ℕ) (rest : List ℕ) → length body ≡ digest_size → length rest ≡ 0 → checkpoint_at (spot at (body ++ rest)) ≡ Ok (Checkpoint body)
unfolding checkpoint_at
checkpoint_again body at rest h end =
    let f1 = bytes_again digest_size body at rest h in
    let last = ends_again (at + length body) rest (Checkpoint body) end in
    reads_then _ _ _ _ f1 last

promise_again : (file : List ℕ) (count delay at : ℕ) (rest : List ℕ) → length file ≡ digest_size → count ≤ most_neighbours → delay ≤ most_delay → length rest ≡ 0
    → promise_at (spot at (file ++ (big_bytes 2 count ++ (big_bytes 4 delay ++ rest)))) ≡ Ok (Promise file count delay)
unfolding promise_at
promise_again file count delay at rest f c d end =
    let r1 = big_bytes 2 count ++ (big_bytes 4 delay ++ rest) in
    let a1 = at + length file in
    let a2 = a1 + length (big_bytes 2 count) in
    let low1 : count < 256 ^ 2 = omega arith in
    let low2 : delay < 256 ^ 4 = omega arith in
    let is1 : leb count most_neighbours ≡ true = le-leb _ _ c in
    let is2 : leb delay most_delay ≡ true = le-leb _ _ d in
    let f1 = bytes_again digest_size file at r1 f in
    let f2 = number_again 2 count a1 (big_bytes 4 delay ++ rest) low1 in
    let f3 = number_again 4 delay a2 rest low2 in
    let last = ends_again (a2 + length (big_bytes 4 delay)) rest (Promise file count delay) end in
    reads_then _ _ _ _ f1 (reads_then _ _ _ _ f2 (wants_then (leb count most_neighbours) a1 _ _ _ is1 (reads_then _ _ _ _ f3 (wants_then (leb delay most_delay) a2 _ _ _ is2 last))))

-- after the last byte there is nothing
whole : (kind : ℕ) (bytes : List ℕ) (c : Content) → content_at kind (start_of (bytes ++ [])) ≡ Ok c → content_in kind bytes ≡ Some c
whole kind bytes c e = ap (λ (t : List ℕ). result_ok (content_at kind (start_of t))) (sym (append-nil bytes)) ∙ ap result_ok e

exchange_then : (n : ℕ) (as4 : Bool) (raw : List ℕ) (f : Exchange → Result Content ℕ) (c : Content) → n < most_neighbours → f (record { neighbour = n; as4 = as4; raw = raw }) ≡ Ok c → result_ok (exchange_at (start_of (exchange_bytes n as4 raw)) >>= f) ≡ Some c
exchange_then n as4 raw f c lt e = ap result_ok (reads_then _ _ _ _ (exchange_again n as4 raw 0 lt) e)

pub content_again : (content : Content) → IsContent content → content_in (kind_of content) (content_bytes content) ≡ Some content
unfolding content_at
content_again (Send n as4 raw) h = exchange_then n as4 raw _ _ h refl
content_again (Recv n as4 raw) h = exchange_then n as4 raw _ _ h refl
content_again (State n old new) h =
    whole 3 (content_bytes (State n old new)) (State n old new) (ap (λ (t : List ℕ). state_at (start_of t)) (simp append_assoc) ∙ state_again n old new 0 [] h.0 h.1 h.2 refl)
content_again (Ack n upto seq t hash sig) h =
    whole 4 (content_bytes (Ack n upto seq t hash sig)) (Ack n upto seq t hash sig) (ap (λ (t : List ℕ). ack_at (start_of t)) (simp append_assoc) ∙ ack_again n upto seq t hash sig 0 [] h.0 h.1 h.2 h.3 h.4 h.5 refl)
content_again (Commit n leaf) h =
    whole 5 (content_bytes (Commit n leaf)) (Commit n leaf) (ap (λ (t : List ℕ). commit_at (start_of t)) (simp append_assoc) ∙ commit_again n leaf 0 [] h.0 h.1 refl)
content_again (Checkpoint body) h = whole 6 body (Checkpoint body) (checkpoint_again body 0 [] h refl)
content_again (Promise file count delay) h =
    whole 7 (content_bytes (Promise file count delay)) (Promise file count delay) (ap (λ (t : List ℕ). promise_at (start_of t)) (simp append_assoc) ∙ promise_again file count delay 0 [] h.0 h.1 h.2 refl)

some_is : (x y : Content) → (let a : Option Content = Some x in a) ≡ Some y → x ≡ y
some_is x y e = cc

pub one_content : (c d : Content) → IsContent c → IsContent d → kind_of c ≡ kind_of d → content_bytes c ≡ content_bytes d → c ≡ d
one_content c d hc hd kinds bytes =
    some_is c d (sym (content_again c hc) ∙ ((λ i. content_in (kinds i) (bytes i)) ∙ content_again d hd))
