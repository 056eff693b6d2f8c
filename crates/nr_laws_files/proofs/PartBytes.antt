-- Parts that are bytes.
use Rattle.std.proofs.Common.{◌≡◌, ℕ, zero, suc, ◌*◌, ◌<◌, Bool, true, false, cond, eqb, leb, ltb, List, [], ◌∷◌, ◌++◌, length, take, drop, Option, Some, None, Result, Ok, Err, ◌⊎◌, inl, inr, sym, subst, arith}
use Rattle.std.specs.List.{flat_map, AllByRecursion}
use Rattle.std.specs.Int.{byte_at, bytes_high_first}
use Rattle.std.specs.Str.{bytes_eq}
use Rattle.std.proofs.lemmas.List.{take-append-drop}
use Rattle.std.proofs.lemmas.List.Concat.{flat_map-cons}
use Rattle.byteorder.specs.Endian.{big_bytes, big_number}
use Rattle.nr_spec_wire.specs.Reading.{Spot, Read, ◌>>=◌, start_of, past, number_at, bytes_at, wants, rows_at, all_rows_at, IsBytes}
use Rattle.nr_spec_wire.proofs.Steps.{ok_is, bind_ok, wants_ok}
use Rattle.nr_spec_log.specs.Chain.{LogEntry}
use Rattle.nr_spec_log.specs.Authenticator.{Signature, Authenticator, Head, signature, signature_at, signed_body, authenticator, authenticator_at, wanted_at, magic_at, auths_magic, auths_of, auths_file, is_leaf, is_asn_of, is_seq_of, is_time_of, pairs_size, digest_size}
use Rattle.nr_spec_log.specs.Answer.{AnswerFile, Opening, answer_magic, opening_at, body_at, entry, entry_at, entries_at, answer_of, answer_file, answer_from, body_field, head_of, is_first, is_prev, is_body_flag, is_later, is_wanted, most_body, checkpoint_kind}
use Rattle.nr_laws_files.specs.Parts.{HasBytes, HasContent, HasBody, HasParts}

-- ---- bytes

none_are : IsBytes []
none_are i = omega arith

bytes_cons : (x : ℕ) (xs : List ℕ) → x < 256 → IsBytes xs → IsBytes (x ∷ xs)
bytes_cons x xs h t zero = h
bytes_cons x xs h t (suc i) = t i

bytes_tail : (x : ℕ) (xs : List ℕ) → IsBytes (x ∷ xs) → IsBytes xs
bytes_tail x xs h i = h (suc i)

joined : (xs ys : List ℕ) → IsBytes xs → IsBytes ys → IsBytes (xs ++ ys)
joined [] ys h k = k
joined (x ∷ xs) ys h k = bytes_cons x (xs ++ ys) (h 0) (joined xs ys (bytes_tail x xs h) k)

left : (xs ys : List ℕ) → IsBytes (xs ++ ys) → IsBytes xs
left [] ys h = none_are
left (x ∷ xs) ys h = bytes_cons x xs (h 0) (left xs ys (bytes_tail x (xs ++ ys) h))

right : (xs ys : List ℕ) → IsBytes (xs ++ ys) → IsBytes ys
right [] ys h = h
right (x ∷ xs) ys h = right xs ys (bytes_tail x (xs ++ ys) h)

byte_small : (k x : ℕ) → byte_at k x < 256
byte_small zero x = omega arith
byte_small (suc k) x = omega arith

number_bytes : (n x : ℕ) → IsBytes (big_bytes n x)
number_bytes zero x = none_are
number_bytes (suc n) x = bytes_cons (byte_at n x) (bytes_high_first n x) (byte_small n x) (number_bytes n x)

-- ---- what is taken from bytes is bytes, and what is left too

guard_ok : {A : Type 0} (b : Bool) (d : ℕ) (x y : A) → (let r : Result A ℕ = cond b (Err d) (Ok x) in r) ≡ Ok y → x ≡ y
guard_ok true d x y e = absurd cc
guard_ok false d x y e = ok_is x y e

front : (n : ℕ) (bytes : List ℕ) → IsBytes bytes → IsBytes (take n bytes)
front n bytes h = left (take n bytes) (drop n bytes) (subst IsBytes (sym (take-append-drop n bytes)) h)

back : (n : ℕ) (bytes : List ℕ) → IsBytes bytes → IsBytes (drop n bytes)
back n bytes h = right (take n bytes) (drop n bytes) (subst IsBytes (sym (take-append-drop n bytes)) h)

number_leaves : (n : ℕ) (s : Spot) (x : ℕ × Spot) → IsBytes s.rest → number_at n s ≡ Ok x → IsBytes x.1.rest
number_leaves n s x h e = subst (λ (y : ℕ × Spot). IsBytes y.1.rest) (guard_ok (ltb (length s.rest) n) s.at (big_number n s.rest, past n s) x e) (back n s.rest h)

bytes_taken : (n : ℕ) (s : Spot) (x : List ℕ × Spot) → IsBytes s.rest → bytes_at n s ≡ Ok x → IsBytes x.0 × IsBytes x.1.rest
bytes_taken n s x h e =
    subst (λ (y : List ℕ × Spot). IsBytes y.0 × IsBytes y.1.rest) (guard_ok (ltb (length s.rest) n) s.at (take n s.rest, past n s) x e) (front n s.rest h, back n s.rest h)

-- a number that passed a test
tested : (test : Bool) (place : ℕ) (x y : ℕ × Spot) → IsBytes x.1.rest → wants test place x ≡ Ok y → IsBytes y.1.rest
tested test place x y h e = subst (λ (z : ℕ × Spot). IsBytes z.1.rest) (wants_ok test place x y e).1 h

signature_parts : (s : Spot) (x : Signature × Spot) → IsBytes s.rest → signature_at s ≡ Ok x → IsBytes x.0.pairs × IsBytes x.0.path × IsBytes x.1.rest
unfolding signature_at
signature_parts s x h e =
    let a = bind_ok (number_at 4 s) _ x e in
    let b = bind_ok (number_at 1 a.0.1) _ x a.2 in
    let w = bind_ok (wants (is_leaf a.0.0 b.0.0) a.0.1.at b.0) _ x b.2 in
    let p = bind_ok (bytes_at pairs_size w.0.1) _ x w.2 in
    let q = bind_ok (bytes_at (digest_size * w.0.0) p.0.1) _ x p.2 in
    let ha = number_leaves 4 s a.0 h a.1 in
    let hb = number_leaves 1 a.0.1 b.0 ha b.1 in
    let hw = tested (is_leaf a.0.0 b.0.0) a.0.1.at b.0 w.0 hb w.1 in
    let hp = bytes_taken pairs_size w.0.1 p.0 hw p.1 in
    let hq = bytes_taken (digest_size * w.0.0) p.0.1 q.0 hp.1 q.1 in
    let made : Signature = record { leaf = a.0.0; height = w.0.0; pairs = p.0.0; path = q.0.0 } in
    subst (λ (y : Signature × Spot). IsBytes y.0.pairs × IsBytes y.0.path × IsBytes y.1.rest) (ok_is (made, q.0.1) x q.2) (hp.0, hq.0, hq.1)

wanted_parts : (head : Option Head) (s : Spot) (x : Authenticator × Spot) → IsBytes s.rest → wanted_at head s ≡ Ok x → HasBytes x.0 × IsBytes x.1.rest
unfolding wanted_at
wanted_parts head s x h e =
    let a = bind_ok (number_at 4 s) _ x e in
    let aw = bind_ok (wants (is_asn_of head a.0.0) s.at a.0) _ x a.2 in
    let b = bind_ok (number_at 8 aw.0.1) _ x aw.2 in
    let bw = bind_ok (wants (is_seq_of head b.0.0) aw.0.1.at b.0) _ x b.2 in
    let c = bind_ok (number_at 8 bw.0.1) _ x bw.2 in
    let cw = bind_ok (wants (is_time_of head c.0.0) bw.0.1.at c.0) _ x c.2 in
    let d = bind_ok (bytes_at digest_size cw.0.1) _ x cw.2 in
    let g = bind_ok (signature_at d.0.1) _ x d.2 in
    let ha = tested (is_asn_of head a.0.0) s.at a.0 aw.0 (number_leaves 4 s a.0 h a.1) aw.1 in
    let hb = tested (is_seq_of head b.0.0) aw.0.1.at b.0 bw.0 (number_leaves 8 aw.0.1 b.0 ha b.1) bw.1 in
    let hc = tested (is_time_of head c.0.0) bw.0.1.at c.0 cw.0 (number_leaves 8 bw.0.1 c.0 hb c.1) cw.1 in
    let hd = bytes_taken digest_size cw.0.1 d.0 hc d.1 in
    let hg = signature_parts d.0.1 g.0 hd.1 g.1 in
    let made : Authenticator = record { asn = aw.0.0; seq = bw.0.0; time = cw.0.0; hash = d.0.0; sig = g.0.0 } in
    subst (λ (y : Authenticator × Spot). HasBytes y.0 × IsBytes y.1.rest) (ok_is (made, g.0.1) x g.2) (record { hash = hd.0; pairs = hg.0; path = hg.1 }, hg.2)

magic_leaves : (magic : List ℕ) (s : Spot) (x : List ℕ × Spot) → IsBytes s.rest → magic_at magic s ≡ Ok x → IsBytes x.1.rest
magic_leaves magic s x h e =
    let a = bind_ok (bytes_at 4 s) (λ found. wants (bytes_eq found.0 magic) s.at found) x e in
    subst (λ (y : List ℕ × Spot). IsBytes y.1.rest) (wants_ok (bytes_eq a.0.0 magic) s.at a.0 x a.2).1 (bytes_taken 4 s a.0 h a.1).1

if_ok : {A : Type 0} (b : Bool) (x y : Result A ℕ) (z : A) → cond b x y ≡ Ok z → (x ≡ Ok z) ⊎ (y ≡ Ok z)
if_ok true x y z e = inl e
if_ok false x y z e = inr e

rows_parts : (fuel : ℕ) (s : Spot) (x : List Authenticator × Spot) → IsBytes s.rest → rows_at authenticator_at fuel s ≡ Ok x → AllByRecursion HasBytes x.0
unfolding rows_at
rows_parts zero s x h e = subst (λ (y : List Authenticator × Spot). AllByRecursion HasBytes y.0) (ok_is ([], s) x e) tt
rows_parts (suc fuel) s x h e = elim (if_ok (eqb (length s.rest) 0) _ _ x e) [
  | inl none ↦ subst (λ (y : List Authenticator × Spot). AllByRecursion HasBytes y.0) (ok_is ([], s) x none) tt
  | inr more ↦
      let a = bind_ok (authenticator_at s) _ x more in
      let o = bind_ok (rows_at authenticator_at fuel a.0.1) _ x a.2 in
      let one = wanted_parts None s a.0 h a.1 in
      let others = rows_parts fuel a.0.1 o.0 one.1 o.1 in
      subst (λ (y : List Authenticator × Spot). AllByRecursion HasBytes y.0) (ok_is (a.0.0 ∷ o.0.0, o.0.1) x o.2) (one.0, others)
]

pub auths_parts : (bytes : List ℕ) (auths : List Authenticator) → IsBytes bytes → auths_of bytes ≡ Ok auths → AllByRecursion HasBytes auths
unfolding auths_of
auths_parts bytes auths h e =
    let m = bind_ok (magic_at auths_magic (start_of bytes)) _ auths e in
    let r = bind_ok (all_rows_at authenticator_at m.0.1) _ auths m.2 in
    let rest = magic_leaves auths_magic (start_of bytes) m.0 h m.1 in
    subst (AllByRecursion HasBytes) (ok_is r.0.0 auths r.2) (rows_parts (length m.0.1.rest) m.0.1 r.0 rest r.1)

-- ---- answers

entry_parts : (checkpoint : Bool) (last : ℕ) (s : Spot) (x : LogEntry × Spot) → IsBytes s.rest → entry_at checkpoint last s ≡ Ok x → HasContent x.0 × IsBytes x.1.rest
unfolding entry_at
entry_parts checkpoint last s x h e =
    let a = bind_ok (number_at 8 s) _ x e in
    let aw = bind_ok (wants (leb last a.0.0) s.at a.0) _ x a.2 in
    let b = bind_ok (number_at 1 aw.0.1) _ x aw.2 in
    let bw = bind_ok (wants (is_wanted checkpoint b.0.0 checkpoint_kind) aw.0.1.at b.0) _ x b.2 in
    let c = bind_ok (number_at 2 bw.0.1) _ x bw.2 in
    let cw = bind_ok (wants (is_wanted checkpoint c.0.0 digest_size) bw.0.1.at c.0) _ x c.2 in
    let d = bind_ok (bytes_at cw.0.0 cw.0.1) _ x cw.2 in
    let ha = tested (leb last a.0.0) s.at a.0 aw.0 (number_leaves 8 s a.0 h a.1) aw.1 in
    let hb = tested (is_wanted checkpoint b.0.0 checkpoint_kind) aw.0.1.at b.0 bw.0 (number_leaves 1 aw.0.1 b.0 ha b.1) bw.1 in
    let hc = tested (is_wanted checkpoint c.0.0 digest_size) bw.0.1.at c.0 cw.0 (number_leaves 2 bw.0.1 c.0 hb c.1) cw.1 in
    let hd = bytes_taken cw.0.0 cw.0.1 d.0 hc d.1 in
    let made : LogEntry = record { time = aw.0.0; kind = bw.0.0; content = d.0.0 } in
    subst (λ (y : LogEntry × Spot). HasContent y.0 × IsBytes y.1.rest) (ok_is (made, d.0.1) x d.2) hd

entries_parts : (checkpoint : Bool) (last n : ℕ) (s : Spot) (x : List LogEntry × Spot) → IsBytes s.rest → entries_at checkpoint last n s ≡ Ok x → AllByRecursion HasContent x.0 × IsBytes x.1.rest
unfolding entries_at
entries_parts checkpoint last zero s x h e = subst (λ (y : List LogEntry × Spot). AllByRecursion HasContent y.0 × IsBytes y.1.rest) (ok_is ([], s) x e) (tt, h)
entries_parts checkpoint last (suc n) s x h e =
    let a = bind_ok (entry_at checkpoint last s) _ x e in
    let o = bind_ok (entries_at false a.0.0.time n a.0.1) _ x a.2 in
    let one = entry_parts checkpoint last s a.0 h a.1 in
    let others = entries_parts false a.0.0.time n a.0.1 o.0 one.1 o.1 in
    subst (λ (y : List LogEntry × Spot). AllByRecursion HasContent y.0 × IsBytes y.1.rest) (ok_is (a.0.0 ∷ o.0.0, o.0.1) x o.2) ((one.0, others.0), others.1)

body_parts : (later : Bool) (s : Spot) (x : Option (List ℕ) × Spot) → IsBytes s.rest → body_at later s ≡ Ok x → HasBody x.0 × IsBytes x.1.rest
unfolding body_at
body_parts false s x h e = subst (λ (y : Option (List ℕ) × Spot). HasBody y.0 × IsBytes y.1.rest) (ok_is (None, s) x e) (tt, h)
body_parts true s x h e =
    let a = bind_ok (number_at 4 s) _ x e in
    let w = bind_ok (wants (leb a.0.0 most_body) s.at a.0) _ x a.2 in
    let b = bind_ok (bytes_at w.0.0 w.0.1) _ x w.2 in
    let hw = tested (leb a.0.0 most_body) s.at a.0 w.0 (number_leaves 4 s a.0 h a.1) w.1 in
    subst (λ (y : Option (List ℕ) × Spot). HasBody y.0 × IsBytes y.1.rest) (ok_is (Some b.0.0, b.0.1) x b.2) (bytes_taken w.0.0 w.0.1 b.0 hw b.1)

-- the body and the number of entries
abbrev tail_at : ℕ → ℕ → List ℕ → Spot → Read Opening
tail_at asn first prev s = body_at (is_later first) s >>= λ body. number_at 4 body.1 >>= λ any. wants (leb 1 any.0) body.1.at any >>= λ count.
    let read : Opening × Spot = (record { asn = asn; first = first; prev = prev; body = body.0; count = count.0 }, count.1) in Ok read

-- the value before the first entry and the flag, and these
abbrev middle_at : ℕ → ℕ → Spot → Read Opening
middle_at asn first s = bytes_at digest_size s >>= λ any_prev. wants (is_prev asn first any_prev.0) s.at any_prev >>= λ prev.
    number_at 1 prev.1 >>= λ any_flag. wants (is_body_flag first any_flag.0) prev.1.at any_flag >>= λ flag. tail_at asn first prev.0 flag.1

record OpeningParts (x : Opening × Spot) : Type 0 where
  prev : IsBytes x.0.prev
  body : HasBody x.0.body
  rest : IsBytes x.1.rest

tail_parts : (asn first : ℕ) (prev : List ℕ) (s : Spot) (x : Opening × Spot) → IsBytes prev → IsBytes s.rest → tail_at asn first prev s ≡ Ok x → OpeningParts x
tail_parts asn first prev s x p h e =
    let g = bind_ok (body_at (is_later first) s) _ x e in
    let n = bind_ok (number_at 4 g.0.1) _ x g.2 in
    let nw = bind_ok (wants (leb 1 n.0.0) g.0.1.at n.0) _ x n.2 in
    let hg = body_parts (is_later first) s g.0 h g.1 in
    let hn = tested (leb 1 n.0.0) g.0.1.at n.0 nw.0 (number_leaves 4 g.0.1 n.0 hg.1 n.1) nw.1 in
    let made : Opening = record { asn = asn; first = first; prev = prev; body = g.0.0; count = nw.0.0 } in
    subst OpeningParts (ok_is (made, nw.0.1) x nw.2) (record { prev = p; body = hg.0; rest = hn })

middle_parts : (asn first : ℕ) (s : Spot) (x : Opening × Spot) → IsBytes s.rest → middle_at asn first s ≡ Ok x → OpeningParts x
middle_parts asn first s x h e =
    let c = bind_ok (bytes_at digest_size s) _ x e in
    let cw = bind_ok (wants (is_prev asn first c.0.0) s.at c.0) _ x c.2 in
    let d = bind_ok (number_at 1 cw.0.1) _ x cw.2 in
    let dw = bind_ok (wants (is_body_flag first d.0.0) cw.0.1.at d.0) _ x d.2 in
    let hc = bytes_taken digest_size s c.0 h c.1 in
    let hcw = subst (λ (y : List ℕ × Spot). IsBytes y.0 × IsBytes y.1.rest) (wants_ok (is_prev asn first c.0.0) s.at c.0 cw.0 cw.1).1 hc in
    let hd = tested (is_body_flag first d.0.0) cw.0.1.at d.0 dw.0 (number_leaves 1 cw.0.1 d.0 hcw.1 d.1) dw.1 in
    tail_parts asn first cw.0.0 dw.0.1 x hcw.0 hd dw.2

opening_parts : (s : Spot) (x : Opening × Spot) → IsBytes s.rest → opening_at s ≡ Ok x → OpeningParts x
unfolding opening_at
opening_parts s x h e =
    let m = bind_ok (magic_at answer_magic s) (λ magic. number_at 4 magic.1 >>= λ asn. number_at 8 asn.1 >>= λ any_first. wants (is_first any_first.0) asn.1.at any_first >>= λ first. middle_at asn.0 first.0 first.1) x e in
    let a = bind_ok (number_at 4 m.0.1) (λ asn. number_at 8 asn.1 >>= λ any_first. wants (is_first any_first.0) asn.1.at any_first >>= λ first. middle_at asn.0 first.0 first.1) x m.2 in
    let b = bind_ok (number_at 8 a.0.1) (λ any_first. wants (is_first any_first.0) a.0.1.at any_first >>= λ first. middle_at a.0.0 first.0 first.1) x a.2 in
    let bw = bind_ok (wants (is_first b.0.0) a.0.1.at b.0) (λ first. middle_at a.0.0 first.0 first.1) x b.2 in
    let hm = magic_leaves answer_magic s m.0 h m.1 in
    let ha = number_leaves 4 m.0.1 a.0 hm a.1 in
    let hb = tested (is_first b.0.0) a.0.1.at b.0 bw.0 (number_leaves 8 a.0.1 b.0 ha b.1) bw.1 in
    middle_parts a.0.0 bw.0.0 bw.0.1 x hb bw.2

end_ok : {A : Type 0} (b : Bool) (x y : A) (place : ℕ) → (let r : Result A ℕ = cond b (Ok x) (Err place) in r) ≡ Ok y → x ≡ y
end_ok true x y place e = ok_is x y e
end_ok false x y place e = absurd cc

pub answer_parts : (bytes : List ℕ) (a : AnswerFile) → IsBytes bytes → answer_of bytes ≡ Ok a → HasParts a
unfolding answer_of
answer_parts bytes a h e =
    let o = bind_ok (opening_at (start_of bytes)) _ a e in
    let es = bind_ok (entries_at (is_later o.0.0.first) 0 o.0.0.count o.0.1) _ a o.2 in
    let hd = bind_ok (wanted_at (Some (head_of o.0.0 es.0.0)) es.0.1) _ a es.2 in
    let ho = opening_parts (start_of bytes) o.0 h o.1 in
    let he = entries_parts (is_later o.0.0.first) 0 o.0.0.count o.0.1 es.0 ho.rest es.1 in
    let hh = wanted_parts (Some (head_of o.0.0 es.0.0)) es.0.1 hd.0 he.1 hd.1 in
    subst HasParts (end_ok (eqb (length hd.0.1.rest) 0) (answer_from o.0.0 es.0.0 hd.0.0) a hd.0.1.at hd.2) (record { prev = ho.prev; body = ho.body; entries = he.0; head = hh.0 })

-- ---- what is spelled of bytes is bytes

-- a number in front of the bytes
numbered : (n x : ℕ) (ys : List ℕ) → IsBytes ys → IsBytes (big_bytes n x ++ ys)
numbered n x ys h = joined (big_bytes n x) ys (number_bytes n x) h

body_bytes : (a : Authenticator) → HasBytes a → IsBytes (signed_body a)
body_bytes a h =
    let time = big_bytes 8 a.time ++ a.hash in
    let seq = big_bytes 8 a.seq ++ time in
    numbered 4 a.asn seq (numbered 8 a.seq time (numbered 8 a.time a.hash h.hash))

signature_bytes : (a : Authenticator) → HasBytes a → IsBytes (signature a.sig)
signature_bytes a h =
    let pairs = a.sig.pairs ++ a.sig.path in
    let height = big_bytes 1 a.sig.height ++ pairs in
    numbered 4 a.sig.leaf height (numbered 1 a.sig.height pairs (joined a.sig.pairs a.sig.path h.pairs h.path))

auth_spelled : (a : Authenticator) → HasBytes a → IsBytes (authenticator a)
auth_spelled a h = joined (signed_body a) (signature a.sig) (body_bytes a h) (signature_bytes a h)

entry_spelled : (e : LogEntry) → HasContent e → IsBytes (entry e)
entry_spelled e h =
    let size = big_bytes 2 (length e.content) ++ e.content in
    let kind = big_bytes 1 e.kind ++ size in
    numbered 8 e.time kind (numbered 1 e.kind size (numbered 2 (length e.content) e.content h))

all_spelled : {A : Type 0} (spell : A → List ℕ) (Has : A → Type 0) → ((x : A) → Has x → IsBytes (spell x)) → (xs : List A) → AllByRecursion Has xs → IsBytes (flat_map spell xs)
all_spelled spell Has each [] h = none_are
all_spelled spell Has each (x ∷ xs) h = subst IsBytes (sym (flat_map-cons spell x xs)) (joined (spell x) (flat_map spell xs) (each x h.0) (all_spelled spell Has each xs h.1))

four : (a b c d : ℕ) → a < 256 → b < 256 → c < 256 → d < 256 → IsBytes (a ∷ b ∷ c ∷ d ∷ [])
four a b c d p q r s = bytes_cons a (b ∷ c ∷ d ∷ []) p (bytes_cons b (c ∷ d ∷ []) q (bytes_cons c (d ∷ []) r (bytes_cons d [] s none_are)))

pub auths_spelled : (auths : List Authenticator) → AllByRecursion HasBytes auths → IsBytes (auths_file auths)
auths_spelled auths h = joined auths_magic (flat_map authenticator auths) (four 78 82 84 49 (omega arith) (omega arith) (omega arith) (omega arith)) (all_spelled authenticator HasBytes auth_spelled auths h)

body_spelled : (body : Option (List ℕ)) → HasBody body → IsBytes (body_field body)
body_spelled None h = bytes_cons 0 [] (omega arith) none_are
body_spelled (Some body) h = bytes_cons 1 (big_bytes 4 (length body) ++ body) (omega arith) (numbered 4 (length body) body h)

pub answer_spelled : (a : AnswerFile) → HasParts a → IsBytes (answer_file a)
answer_spelled a h =
    let last = flat_map entry a.entries ++ authenticator a.head in
    let count = big_bytes 4 (length a.entries) ++ last in
    let body = body_field a.body ++ count in
    let prev = a.prev ++ body in
    let first = big_bytes 8 a.first ++ prev in
    let asn = big_bytes 4 a.asn ++ first in
    joined answer_magic asn (four 78 82 65 49 (omega arith) (omega arith) (omega arith) (omega arith))
    (numbered 4 a.asn first (numbered 8 a.first prev (joined a.prev body h.prev (joined (body_field a.body) count (body_spelled a.body h.body)
    (numbered 4 (length a.entries) last (joined (flat_map entry a.entries) (authenticator a.head) (all_spelled entry HasContent entry_spelled a.entries h.entries) (auth_spelled a.head h.head)))))))
