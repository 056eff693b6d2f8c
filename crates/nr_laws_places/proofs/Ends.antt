-- Answer files are refused within them.
use Rattle.std.proofs.Common.{◌≡◌, ℕ, zero, suc, ◌+◌, ◌≤◌, Bool, true, false, cond, ltb, leb, List, [], ◌∷◌, length, Option, Some, None, Result, Ok, Err, refl, subst, arith, length-drop}
use Rattle.std.proofs.lemmas.Bool.{ltb-false}
use Rattle.std.specs.Str.{bytes_eq}
use Rattle.nr_spec_wire.specs.Reading.{Spot, Read, ◌>>=◌, start_of, past, number_at, bytes_at, wants, ends_at}
use Rattle.nr_spec_log.specs.Authenticator.{Head, magic_at, signature_at, wanted_at, pairs_size, digest_size, is_leaf, is_asn_of, is_seq_of, is_time_of}
use Rattle.nr_spec_log.specs.Answer.{answer_magic, answer_of, answer_from, opening_at, body_at, entry_at, entries_at, head_of, is_later, is_first, is_prev, is_body_flag, is_wanted, most_body}

-- Reading stands within bytes that end at this place.
abbrev IsBefore : ℕ → Spot → Type 0
IsBefore end s = s.at + length s.rest ≤ end

-- A reading stands there still, or is refused there.
abbrev Goes : {A : Type 0} → ℕ → Read A → Type 0
Goes end (Ok x) = IsBefore end x.1
Goes end (Err place) = place ≤ end

-- The same of a reading of all, which stands nowhere.
abbrev Ends : {A : Type 0} → ℕ → Result A ℕ → Type 0
Ends end (Ok x) = Unit {0}
Ends end (Err place) = place ≤ end

here : (end : ℕ) (s : Spot) → IsBefore end s → s.at ≤ end
here end s h = omega (arith, h)

then_goes : {A B : Type 0} (end : ℕ) (r : Read A) (f : A × Spot → Read B) → Goes end r → ((x : A × Spot) → IsBefore end x.1 → Goes end (f x)) → Goes end (r >>= f)
then_goes end (Ok x) f h g = g x h
then_goes end (Err place) f h g = h

wants_goes : {A B : Type 0} (end : ℕ) (test : Bool) (place : ℕ) (x : A) (f : A → Read B) → place ≤ end → Goes end (f x) → Goes end (wants test place x >>= f)
wants_goes end true place x f p h = h
wants_goes end false place x f p h = p

then_ends : {A B : Type 0} (end : ℕ) (r : Read A) (f : A × Spot → Result B ℕ) → Goes end r → ((x : A × Spot) → IsBefore end x.1 → Ends end (f x)) → Ends end (r >>= f)
then_ends end (Ok x) f h g = g x h
then_ends end (Err place) f h g = h

field_goes : {A : Type 0} (end n : ℕ) (s : Spot) (x : A) → IsBefore end s → Goes end (let r : Read A = cond (ltb (length s.rest) n) (Err s.at) (Ok (x, past n s)) in r)
field_goes {A} end n s x h = by (ltb (length s.rest) n) refl
  where
    by : (b : Bool) → ltb (length s.rest) n ≡ b → Goes end (let r : Read A = cond b (Err s.at) (Ok (x, past n s)) in r)
    by true e = here end s h
    by false e = let long = ltb-false (length s.rest) n e in omega (arith, h, length-drop n s.rest, long)

number_goes : (end n : ℕ) (s : Spot) → IsBefore end s → Goes end (number_at n s)
number_goes end n s h = field_goes end n s _ h

bytes_goes : (end n : ℕ) (s : Spot) → IsBefore end s → Goes end (bytes_at n s)
bytes_goes end n s h = field_goes end n s _ h

wants_last : {A : Type 0} (end : ℕ) (test : Bool) (s : Spot) (x : A × Spot) → IsBefore end s → IsBefore end x.1 → Goes end (wants test s.at x)
wants_last end true s x h k = k
wants_last end false s x h k = here end s h

magic_goes : (end : ℕ) (magic : List ℕ) (s : Spot) → IsBefore end s → Goes end (magic_at magic s)
magic_goes end magic s h = then_goes end (bytes_at 4 s) (λ found. wants (bytes_eq found.0 magic) s.at found) (bytes_goes end 4 s h) (λ found k. wants_last end (bytes_eq found.0 magic) s found h k)

-- a number, and what is asked of it
wanted_number : {B : Type 0} (end n : ℕ) (test : ℕ → Bool) (s : Spot) (f : ℕ × Spot → Read B) → IsBefore end s → ((x : ℕ × Spot) → IsBefore end x.1 → Goes end (f x))
    → Goes end (number_at n s >>= (λ any. wants (test any.0) s.at any >>= f))
wanted_number end n test s f h g =
    then_goes end (number_at n s) (λ any. wants (test any.0) s.at any >>= f) (number_goes end n s h) (λ any k. wants_goes end (test any.0) s.at any f (here end s h) (g any k))

-- ---- authenticators

signature_goes : (end : ℕ) (s : Spot) → IsBefore end s → Goes end (signature_at s)
unfolding signature_at
signature_goes end s h =
    then_goes end (number_at 4 s) _ (number_goes end 4 s h) (λ leaf i.
    wanted_number end 1 (λ n. is_leaf leaf.0 n) leaf.1 _ i (λ height j.
    then_goes end (bytes_at pairs_size height.1) _ (bytes_goes end pairs_size height.1 j) (λ pairs k.
    then_goes end (bytes_at _ pairs.1) _ (bytes_goes end _ pairs.1 k) (λ path l. l))))

wanted_goes : (end : ℕ) (head : Option Head) (s : Spot) → IsBefore end s → Goes end (wanted_at head s)
unfolding wanted_at
wanted_goes end head s h =
    wanted_number end 4 (is_asn_of head) s _ h (λ asn i.
    wanted_number end 8 (is_seq_of head) asn.1 _ i (λ seq j.
    wanted_number end 8 (is_time_of head) seq.1 _ j (λ time k.
    then_goes end (bytes_at digest_size time.1) _ (bytes_goes end digest_size time.1 k) (λ hash l.
    then_goes end (signature_at hash.1) _ (signature_goes end hash.1 l) (λ sig m. m)))))

-- ---- entries

entry_goes : (end : ℕ) (checkpoint : Bool) (last : ℕ) (s : Spot) → IsBefore end s → Goes end (entry_at checkpoint last s)
unfolding entry_at
entry_goes end checkpoint last s h =
    wanted_number end 8 (λ n. leb last n) s _ h (λ time i.
    wanted_number end 1 (λ n. is_wanted checkpoint n 6) time.1 _ i (λ kind j.
    wanted_number end 2 (λ n. is_wanted checkpoint n digest_size) kind.1 _ j (λ size k.
    then_goes end (bytes_at size.0 size.1) _ (bytes_goes end size.0 size.1 k) (λ content l. l))))

entries_go : (end : ℕ) (checkpoint : Bool) (last n : ℕ) (s : Spot) → IsBefore end s → Goes end (entries_at checkpoint last n s)
unfolding entries_at
entries_go end checkpoint last zero s h = h
entries_go end checkpoint last (suc n) s h =
    then_goes end (entry_at checkpoint last s) _ (entry_goes end checkpoint last s h) (λ first i.
    then_goes end (entries_at false first.0.time n first.1) _ (entries_go end false first.0.time n first.1 i) (λ others j. j))

-- ---- answers

body_goes : (end : ℕ) (later : Bool) (s : Spot) → IsBefore end s → Goes end (body_at later s)
unfolding body_at
body_goes end false s h = h
body_goes end true s h =
    wanted_number end 4 (λ n. leb n most_body) s _ h (λ size i. then_goes end (bytes_at size.0 size.1) _ (bytes_goes end size.0 size.1 i) (λ body j. j))

opening_goes : (end : ℕ) (s : Spot) → IsBefore end s → Goes end (opening_at s)
unfolding opening_at
opening_goes end s h =
    then_goes end (magic_at answer_magic s) _ (magic_goes end answer_magic s h) (λ magic i.
    then_goes end (number_at 4 magic.1) _ (number_goes end 4 magic.1 i) (λ asn j.
    wanted_number end 8 is_first asn.1 _ j (λ first k.
    then_goes end (bytes_at digest_size first.1) _ (bytes_goes end digest_size first.1 k) (λ prev l.
    wants_goes end (is_prev asn.0 first.0 prev.0) first.1.at prev _ (here end first.1 k)
    (wanted_number end 1 (λ n. is_body_flag first.0 n) prev.1 _ l (λ flag m.
    then_goes end (body_at (is_later first.0) flag.1) _ (body_goes end (is_later first.0) flag.1 m) (λ body n.
    wanted_number end 4 (λ c. leb 1 c) body.1 _ n (λ count o. o))))))))

ends_there : {A : Type 0} (end : ℕ) (test : Bool) (s : Spot) (x : A) → IsBefore end s → Ends end (let r : Result A ℕ = cond test (Ok x) (Err s.at) in r)
ends_there end true s x h = tt
ends_there end false s x h = here end s h

answer_ends : (bytes : List ℕ) → Ends (length bytes) (answer_of bytes)
unfolding answer_of
answer_ends bytes =
    let end = length bytes in
    let start : IsBefore end (start_of bytes) = omega arith in
    then_ends end (opening_at (start_of bytes)) _ (opening_goes end (start_of bytes) start) (λ opening i.
    then_ends end (entries_at (is_later opening.0.first) 0 opening.0.count opening.1) _ (entries_go end (is_later opening.0.first) 0 opening.0.count opening.1 i) (λ entries j.
    then_ends end (wanted_at (Some (head_of opening.0 entries.0)) entries.1) _ (wanted_goes end (Some (head_of opening.0 entries.0)) entries.1 j) (λ head k.
    ends_there end _ head.1 _ k)))

refused_at : {A : Type 0} (end : ℕ) (r : Result A ℕ) (place : ℕ) → Ends end r → r ≡ Err place → place ≤ end
refused_at end (Ok x) place h e = absurd cc
refused_at end (Err q) place h e = let is : q ≡ place = cc in subst (λ (n : ℕ). n ≤ end) is h

pub answer_refused : (bytes : List ℕ) (place : ℕ) → answer_of bytes ≡ Err place → place ≤ length bytes
answer_refused bytes place e = refused_at (length bytes) (answer_of bytes) place (answer_ends bytes) e
